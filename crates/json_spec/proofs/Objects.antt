-- A specification, row by row: it is read as one value at most, back from its own tree, and as the reading of the code has it; and its
-- text reads as its tree.
use Rattle.std.proofs.Common.{◌≡◌, ℕ, true, false, List, [], ◌∷◌, ◌++◌, Option, Some, None, refl, ap, arith}
use Rattle.std.specs.Prelude.{codes, is_none}
use Rattle.std.specs.Int.{w32, w64, to_le_bytes}
use Rattle.chain_defs.specs.Shape as shape
use Rattle.chain_defs.specs.Specification.{Specification}
use Rattle.chain_defs.proofs.ShapeLaws.{AllFit-from}
use Rattle.serde_json.specs.Data.{Data}
use Rattle.serde_json.specs.Read.{read}
use Rattle.serde_json.specs.Written.{compact_text}
use Rattle.json_defs.specs.Form.{row, members_read, is_object, hex_number, byte_string}
use Rattle.json_defs.specs.Laws.{IsReadBack, IsReadOnce, HasTexts}
use Rattle.json_blocks.specs.Reading.{◌>>=◌, number_at, array_at}
use Rattle.json_blocks.proofs.ReadOnce.{opened, agree, array-once, u32-once, u64-once}
use Rattle.json_blocks.proofs.ReadBack.{both, number-back, byte_string-back}
use Rattle.json_blocks.proofs.Exact.{Exact, array-exact}
use Rattle.json_blocks.proofs.ExactObjects.{Rest, row-rest, end-rest, struct-rest, object-rest, exact-from, u32-exact, u64-exact}
use Rattle.json_blocks.proofs.TextBack.{Sound, deeper, number-sound, bytes-sound, no_member-sound, member-sound, object-sound, text-back}
use Rattle.json_blocks.proofs.TextUtf8.{IsText, number-utf8, bytes-utf8, no_member-utf8, member-utf8, object-utf8, is_utf8}
use Rattle.json_blocks.proofs.FromText.{has_texts}
use Rattle.json_spec.specs.Form as form
use Rattle.json_spec.specs.Form.{epochs, specification_rows}
use Rattle.json_spec.specs.Bytes.{fields_of, fields, specification}
use Rattle.json_spec.specs.Reading.{epochs_at, fields_at, specification_at}
use Rattle.json_spec.proofs.Epochs.{epochs-back, epochs-once, epochs-exact}

-- ---- read back, and once

pub specification-back : IsReadBack form.specification
unfolding form.specification
specification-back s =
    both _ _ (number-back s.compact_target)
    (both _ _ (byte_string-back s.dao_code_hash)
    (both _ _ (number-back s.epoch_length)
    (both _ _ (number-back s.halving_interval)
    (both _ _ (epochs-back s.maturity)
    (both _ _ (number-back s.max_block_bytes)
    (both _ _ (number-back s.max_cycles)
    (both _ _ (number-back s.max_proposals)
    (both _ _ (number-back s.primary_reward)
    (both _ _ (number-back s.secondary_reward)
    (both _ _ (number-back s.w_close)
    (both _ _ (number-back s.w_far) refl)))))))))))

no_edition-once : (a b : Option ℕ) → is_none a ≡ true → is_none b ≡ true → a ≡ b
no_edition-once None None first second = refl
no_edition-once None (Some n) first second = absurd (cc)
no_edition-once (Some n) b first second = absurd (cc)

fields-once : IsReadOnce form.specification fields
unfolding form.specification fields
fields-once v w t fits fits' read read' =
    let o = opened (members_read (specification_rows v)) (members_read (specification_rows w)) t read read' in
    let a = agree (specification_rows v) (specification_rows w) o.ms o.first o.second in
    let f = AllFit-from (fields_of v) fits in
    let f' = AllFit-from (fields_of w) fits' in
    let e_compact_target = u32-once v.compact_target w.compact_target a.0.tree f.0 f'.0 a.0.first a.0.second in
    let e_dao_code_hash = array-once 32 v.dao_code_hash w.dao_code_hash a.1.0.tree f.1.1.1.1.1.1.1.1.1.1.1.0 f'.1.1.1.1.1.1.1.1.1.1.1.0 a.1.0.first a.1.0.second in
    let e_epoch_length = u32-once v.epoch_length w.epoch_length a.1.1.0.tree f.1.0 f'.1.0 a.1.1.0.first a.1.1.0.second in
    let e_halving_interval = u64-once v.halving_interval w.halving_interval a.1.1.1.0.tree f.1.1.1.1.1.1.1.1.1.1.0 f'.1.1.1.1.1.1.1.1.1.1.0 a.1.1.1.0.first a.1.1.1.0.second in
    let e_maturity = epochs-once v.maturity w.maturity a.1.1.1.1.0.tree f.1.1.1.1.1.1.1.0 f'.1.1.1.1.1.1.1.0 a.1.1.1.1.0.first a.1.1.1.1.0.second in
    let e_max_block_bytes = u32-once v.max_block_bytes w.max_block_bytes a.1.1.1.1.1.0.tree f.1.1.1.1.0 f'.1.1.1.1.0 a.1.1.1.1.1.0.first a.1.1.1.1.1.0.second in
    let e_max_cycles = u64-once v.max_cycles w.max_cycles a.1.1.1.1.1.1.0.tree f.1.1.1.1.1.1.0 f'.1.1.1.1.1.1.0 a.1.1.1.1.1.1.0.first a.1.1.1.1.1.1.0.second in
    let e_max_proposals = u32-once v.max_proposals w.max_proposals a.1.1.1.1.1.1.1.0.tree f.1.1.1.1.1.0 f'.1.1.1.1.1.0 a.1.1.1.1.1.1.1.0.first a.1.1.1.1.1.1.1.0.second in
    let e_primary_reward = u64-once v.primary_reward w.primary_reward a.1.1.1.1.1.1.1.1.0.tree f.1.1.1.1.1.1.1.1.0 f'.1.1.1.1.1.1.1.1.0 a.1.1.1.1.1.1.1.1.0.first a.1.1.1.1.1.1.1.1.0.second in
    let e_secondary_reward = u64-once v.secondary_reward w.secondary_reward a.1.1.1.1.1.1.1.1.1.0.tree f.1.1.1.1.1.1.1.1.1.0 f'.1.1.1.1.1.1.1.1.1.0 a.1.1.1.1.1.1.1.1.1.0.first a.1.1.1.1.1.1.1.1.1.0.second in
    let e_w_close = u32-once v.w_close w.w_close a.1.1.1.1.1.1.1.1.1.1.0.tree f.1.1.0 f'.1.1.0 a.1.1.1.1.1.1.1.1.1.1.0.first a.1.1.1.1.1.1.1.1.1.1.0.second in
    let e_w_far = u32-once v.w_far w.w_far a.1.1.1.1.1.1.1.1.1.1.1.0.tree f.1.1.1.0 f'.1.1.1.0 a.1.1.1.1.1.1.1.1.1.1.1.0.first a.1.1.1.1.1.1.1.1.1.1.1.0.second in
    let e_second_from = no_edition-once v.second_from w.second_from f.1.1.1.1.1.1.1.1.1.1.1.1.0 f'.1.1.1.1.1.1.1.1.1.1.1.1.0 in
    λ i. record { compact_target = e_compact_target i; epoch_length = e_epoch_length i; w_close = e_w_close i; w_far = e_w_far i; max_block_bytes = e_max_block_bytes i; max_proposals = e_max_proposals i; max_cycles = e_max_cycles i; maturity = e_maturity i; primary_reward = e_primary_reward i; secondary_reward = e_secondary_reward i; halving_interval = e_halving_interval i; dao_code_hash = e_dao_code_hash i; second_from = e_second_from i }

pub specification-once : IsReadOnce form.specification specification
unfolding specification
specification-once v w t fits fits' read read' = fields-once v w t fits fits' read read'

-- ---- what the reading gives

fields-rest : (t : Data) → Rest fields (λ v. Unit {0}) (λ v. is_object (λ ms. members_read (specification_rows v) ms) t) (fields_at t)
unfolding fields_at fields
fields-rest t = object-rest false fields (λ v ms. members_read (specification_rows v) ms) _ (λ ms.
    (row-rest fields (λ v. Unit {0}) (codes "compact_target") hex_number shape.u32 (λ v. v.compact_target) (λ v. row (codes "dao_code_hash") byte_string v.dao_code_hash ∷ row (codes "epoch_length") hex_number v.epoch_length ∷ row (codes "halving_interval") hex_number v.halving_interval ∷ row (codes "maturity") epochs v.maturity ∷ row (codes "max_block_bytes") hex_number v.max_block_bytes ∷ row (codes "max_cycles") hex_number v.max_cycles ∷ row (codes "max_proposals") hex_number v.max_proposals ∷ row (codes "primary_reward") hex_number v.primary_reward ∷ row (codes "secondary_reward") hex_number v.secondary_reward ∷ row (codes "w_close") hex_number v.w_close ∷ row (codes "w_far") hex_number v.w_far ∷ []) (λ v f. (AllFit-from (fields_of v) f).0) (number_at w32) u32-exact ms _ (λ x_compact_target d_0 ms_0 f_compact_target.
    (row-rest fields (λ v. Unit {0} × (v.compact_target ≡ x_compact_target)) (codes "dao_code_hash") byte_string (shape.byte_array 32) (λ v. v.dao_code_hash) (λ v. row (codes "epoch_length") hex_number v.epoch_length ∷ row (codes "halving_interval") hex_number v.halving_interval ∷ row (codes "maturity") epochs v.maturity ∷ row (codes "max_block_bytes") hex_number v.max_block_bytes ∷ row (codes "max_cycles") hex_number v.max_cycles ∷ row (codes "max_proposals") hex_number v.max_proposals ∷ row (codes "primary_reward") hex_number v.primary_reward ∷ row (codes "secondary_reward") hex_number v.secondary_reward ∷ row (codes "w_close") hex_number v.w_close ∷ row (codes "w_far") hex_number v.w_far ∷ []) (λ v f. (AllFit-from (fields_of v) f).1.1.1.1.1.1.1.1.1.1.1.0) (array_at 32) (array-exact 32) ms_0 _ (λ x_dao_code_hash d_1 ms_1 f_dao_code_hash.
    (row-rest fields (λ v. (Unit {0} × (v.compact_target ≡ x_compact_target)) × (v.dao_code_hash ≡ x_dao_code_hash)) (codes "epoch_length") hex_number shape.u32 (λ v. v.epoch_length) (λ v. row (codes "halving_interval") hex_number v.halving_interval ∷ row (codes "maturity") epochs v.maturity ∷ row (codes "max_block_bytes") hex_number v.max_block_bytes ∷ row (codes "max_cycles") hex_number v.max_cycles ∷ row (codes "max_proposals") hex_number v.max_proposals ∷ row (codes "primary_reward") hex_number v.primary_reward ∷ row (codes "secondary_reward") hex_number v.secondary_reward ∷ row (codes "w_close") hex_number v.w_close ∷ row (codes "w_far") hex_number v.w_far ∷ []) (λ v f. (AllFit-from (fields_of v) f).1.0) (number_at w32) u32-exact ms_1 _ (λ x_epoch_length d_2 ms_2 f_epoch_length.
    (row-rest fields (λ v. ((Unit {0} × (v.compact_target ≡ x_compact_target)) × (v.dao_code_hash ≡ x_dao_code_hash)) × (v.epoch_length ≡ x_epoch_length)) (codes "halving_interval") hex_number shape.u64 (λ v. v.halving_interval) (λ v. row (codes "maturity") epochs v.maturity ∷ row (codes "max_block_bytes") hex_number v.max_block_bytes ∷ row (codes "max_cycles") hex_number v.max_cycles ∷ row (codes "max_proposals") hex_number v.max_proposals ∷ row (codes "primary_reward") hex_number v.primary_reward ∷ row (codes "secondary_reward") hex_number v.secondary_reward ∷ row (codes "w_close") hex_number v.w_close ∷ row (codes "w_far") hex_number v.w_far ∷ []) (λ v f. (AllFit-from (fields_of v) f).1.1.1.1.1.1.1.1.1.1.0) (number_at w64) u64-exact ms_2 _ (λ x_halving_interval d_3 ms_3 f_halving_interval.
    (row-rest fields (λ v. (((Unit {0} × (v.compact_target ≡ x_compact_target)) × (v.dao_code_hash ≡ x_dao_code_hash)) × (v.epoch_length ≡ x_epoch_length)) × (v.halving_interval ≡ x_halving_interval)) (codes "maturity") epochs shape.u64 (λ v. v.maturity) (λ v. row (codes "max_block_bytes") hex_number v.max_block_bytes ∷ row (codes "max_cycles") hex_number v.max_cycles ∷ row (codes "max_proposals") hex_number v.max_proposals ∷ row (codes "primary_reward") hex_number v.primary_reward ∷ row (codes "secondary_reward") hex_number v.secondary_reward ∷ row (codes "w_close") hex_number v.w_close ∷ row (codes "w_far") hex_number v.w_far ∷ []) (λ v f. (AllFit-from (fields_of v) f).1.1.1.1.1.1.1.0) epochs_at epochs-exact ms_3 _ (λ x_maturity d_4 ms_4 f_maturity.
    (row-rest fields (λ v. ((((Unit {0} × (v.compact_target ≡ x_compact_target)) × (v.dao_code_hash ≡ x_dao_code_hash)) × (v.epoch_length ≡ x_epoch_length)) × (v.halving_interval ≡ x_halving_interval)) × (v.maturity ≡ x_maturity)) (codes "max_block_bytes") hex_number shape.u32 (λ v. v.max_block_bytes) (λ v. row (codes "max_cycles") hex_number v.max_cycles ∷ row (codes "max_proposals") hex_number v.max_proposals ∷ row (codes "primary_reward") hex_number v.primary_reward ∷ row (codes "secondary_reward") hex_number v.secondary_reward ∷ row (codes "w_close") hex_number v.w_close ∷ row (codes "w_far") hex_number v.w_far ∷ []) (λ v f. (AllFit-from (fields_of v) f).1.1.1.1.0) (number_at w32) u32-exact ms_4 _ (λ x_max_block_bytes d_5 ms_5 f_max_block_bytes.
    (row-rest fields (λ v. (((((Unit {0} × (v.compact_target ≡ x_compact_target)) × (v.dao_code_hash ≡ x_dao_code_hash)) × (v.epoch_length ≡ x_epoch_length)) × (v.halving_interval ≡ x_halving_interval)) × (v.maturity ≡ x_maturity)) × (v.max_block_bytes ≡ x_max_block_bytes)) (codes "max_cycles") hex_number shape.u64 (λ v. v.max_cycles) (λ v. row (codes "max_proposals") hex_number v.max_proposals ∷ row (codes "primary_reward") hex_number v.primary_reward ∷ row (codes "secondary_reward") hex_number v.secondary_reward ∷ row (codes "w_close") hex_number v.w_close ∷ row (codes "w_far") hex_number v.w_far ∷ []) (λ v f. (AllFit-from (fields_of v) f).1.1.1.1.1.1.0) (number_at w64) u64-exact ms_5 _ (λ x_max_cycles d_6 ms_6 f_max_cycles.
    (row-rest fields (λ v. ((((((Unit {0} × (v.compact_target ≡ x_compact_target)) × (v.dao_code_hash ≡ x_dao_code_hash)) × (v.epoch_length ≡ x_epoch_length)) × (v.halving_interval ≡ x_halving_interval)) × (v.maturity ≡ x_maturity)) × (v.max_block_bytes ≡ x_max_block_bytes)) × (v.max_cycles ≡ x_max_cycles)) (codes "max_proposals") hex_number shape.u32 (λ v. v.max_proposals) (λ v. row (codes "primary_reward") hex_number v.primary_reward ∷ row (codes "secondary_reward") hex_number v.secondary_reward ∷ row (codes "w_close") hex_number v.w_close ∷ row (codes "w_far") hex_number v.w_far ∷ []) (λ v f. (AllFit-from (fields_of v) f).1.1.1.1.1.0) (number_at w32) u32-exact ms_6 _ (λ x_max_proposals d_7 ms_7 f_max_proposals.
    (row-rest fields (λ v. (((((((Unit {0} × (v.compact_target ≡ x_compact_target)) × (v.dao_code_hash ≡ x_dao_code_hash)) × (v.epoch_length ≡ x_epoch_length)) × (v.halving_interval ≡ x_halving_interval)) × (v.maturity ≡ x_maturity)) × (v.max_block_bytes ≡ x_max_block_bytes)) × (v.max_cycles ≡ x_max_cycles)) × (v.max_proposals ≡ x_max_proposals)) (codes "primary_reward") hex_number shape.u64 (λ v. v.primary_reward) (λ v. row (codes "secondary_reward") hex_number v.secondary_reward ∷ row (codes "w_close") hex_number v.w_close ∷ row (codes "w_far") hex_number v.w_far ∷ []) (λ v f. (AllFit-from (fields_of v) f).1.1.1.1.1.1.1.1.0) (number_at w64) u64-exact ms_7 _ (λ x_primary_reward d_8 ms_8 f_primary_reward.
    (row-rest fields (λ v. ((((((((Unit {0} × (v.compact_target ≡ x_compact_target)) × (v.dao_code_hash ≡ x_dao_code_hash)) × (v.epoch_length ≡ x_epoch_length)) × (v.halving_interval ≡ x_halving_interval)) × (v.maturity ≡ x_maturity)) × (v.max_block_bytes ≡ x_max_block_bytes)) × (v.max_cycles ≡ x_max_cycles)) × (v.max_proposals ≡ x_max_proposals)) × (v.primary_reward ≡ x_primary_reward)) (codes "secondary_reward") hex_number shape.u64 (λ v. v.secondary_reward) (λ v. row (codes "w_close") hex_number v.w_close ∷ row (codes "w_far") hex_number v.w_far ∷ []) (λ v f. (AllFit-from (fields_of v) f).1.1.1.1.1.1.1.1.1.0) (number_at w64) u64-exact ms_8 _ (λ x_secondary_reward d_9 ms_9 f_secondary_reward.
    (row-rest fields (λ v. (((((((((Unit {0} × (v.compact_target ≡ x_compact_target)) × (v.dao_code_hash ≡ x_dao_code_hash)) × (v.epoch_length ≡ x_epoch_length)) × (v.halving_interval ≡ x_halving_interval)) × (v.maturity ≡ x_maturity)) × (v.max_block_bytes ≡ x_max_block_bytes)) × (v.max_cycles ≡ x_max_cycles)) × (v.max_proposals ≡ x_max_proposals)) × (v.primary_reward ≡ x_primary_reward)) × (v.secondary_reward ≡ x_secondary_reward)) (codes "w_close") hex_number shape.u32 (λ v. v.w_close) (λ v. row (codes "w_far") hex_number v.w_far ∷ []) (λ v f. (AllFit-from (fields_of v) f).1.1.0) (number_at w32) u32-exact ms_9 _ (λ x_w_close d_10 ms_10 f_w_close.
    (row-rest fields (λ v. ((((((((((Unit {0} × (v.compact_target ≡ x_compact_target)) × (v.dao_code_hash ≡ x_dao_code_hash)) × (v.epoch_length ≡ x_epoch_length)) × (v.halving_interval ≡ x_halving_interval)) × (v.maturity ≡ x_maturity)) × (v.max_block_bytes ≡ x_max_block_bytes)) × (v.max_cycles ≡ x_max_cycles)) × (v.max_proposals ≡ x_max_proposals)) × (v.primary_reward ≡ x_primary_reward)) × (v.secondary_reward ≡ x_secondary_reward)) × (v.w_close ≡ x_w_close)) (codes "w_far") hex_number shape.u32 (λ v. v.w_far) (λ v. []) (λ v f. (AllFit-from (fields_of v) f).1.1.1.0) (number_at w32) u32-exact ms_10 _ (λ x_w_far d_11 ms_11 f_w_far.
    end-rest fields (λ v. (((((((((((Unit {0} × (v.compact_target ≡ x_compact_target)) × (v.dao_code_hash ≡ x_dao_code_hash)) × (v.epoch_length ≡ x_epoch_length)) × (v.halving_interval ≡ x_halving_interval)) × (v.maturity ≡ x_maturity)) × (v.max_block_bytes ≡ x_max_block_bytes)) × (v.max_cycles ≡ x_max_cycles)) × (v.max_proposals ≡ x_max_proposals)) × (v.primary_reward ≡ x_primary_reward)) × (v.secondary_reward ≡ x_secondary_reward)) × (v.w_close ≡ x_w_close)) × (v.w_far ≡ x_w_far)) ms_11 _
    (struct-rest fields (λ v. (((((((((((Unit {0} × (v.compact_target ≡ x_compact_target)) × (v.dao_code_hash ≡ x_dao_code_hash)) × (v.epoch_length ≡ x_epoch_length)) × (v.halving_interval ≡ x_halving_interval)) × (v.maturity ≡ x_maturity)) × (v.max_block_bytes ≡ x_max_block_bytes)) × (v.max_cycles ≡ x_max_cycles)) × (v.max_proposals ≡ x_max_proposals)) × (v.primary_reward ≡ x_primary_reward)) × (v.secondary_reward ≡ x_secondary_reward)) × (v.w_close ≡ x_w_close)) × (v.w_far ≡ x_w_far)) fields_of (λ v. refl) (record { compact_target = x_compact_target; epoch_length = x_epoch_length; w_close = x_w_close; w_far = x_w_far; max_block_bytes = x_max_block_bytes; max_proposals = x_max_proposals; max_cycles = x_max_cycles; maturity = x_maturity; primary_reward = x_primary_reward; secondary_reward = x_secondary_reward; halving_interval = x_halving_interval; dao_code_hash = x_dao_code_hash; second_from = None }) ((((((((((((tt, refl), refl), refl), refl), refl), refl), refl), refl), refl), refl), refl), refl) (f_compact_target, (f_epoch_length, (f_w_close, (f_w_far, (f_max_block_bytes, (f_max_proposals, (f_max_cycles, (f_maturity, (f_primary_reward, (f_secondary_reward, (f_halving_interval, (f_dao_code_hash, (refl, tt))))))))))))) _ refl)))))))))))))))))))))))))) t

fields-exact : (t : Data) → Exact form.specification fields t (fields_at t)
unfolding form.specification
fields-exact t = exact-from form.specification fields fields-once t (fields_at t) (fields-rest t)

pub specification-exact : (t : Data) → Exact form.specification specification t (specification_at t)
unfolding specification_at specification
specification-exact t = by (fields_at t) (fields-exact t)
  where
    by : (o : Option (List ℕ)) → Exact form.specification fields t o → Exact form.specification specification t (o >>= (λ b. Some (to_le_bytes w32 100 ++ b)))
    by None none = λ w f r. none w f r
    by (Some b) found = record {
      value = found.value;
      fits = found.fits;
      read = found.read;
      bytes_are = ap (λ (l : List ℕ). to_le_bytes w32 100 ++ l) found.bytes_are;
      alone = λ w f r. found.alone w f r;
    }

-- ---- its text

epochs-sound : (n v : ℕ) → Sound n (epochs.tree v)
unfolding epochs
epochs-sound n v = number-sound n v

epochs-utf8 : (v : ℕ) → IsText (epochs.tree v)
unfolding epochs
epochs-utf8 v = number-utf8 v

specification-sound : (s : Specification) → Sound 1 (form.specification.tree s)
unfolding form.specification
specification-sound s =
    object-sound _
    (member-sound _ (codes "compact_target") _ (number-sound 0 s.compact_target)
    (member-sound _ (codes "dao_code_hash") _ (bytes-sound 0 s.dao_code_hash)
    (member-sound _ (codes "epoch_length") _ (number-sound 0 s.epoch_length)
    (member-sound _ (codes "halving_interval") _ (number-sound 0 s.halving_interval)
    (member-sound _ (codes "maturity") _ (epochs-sound 0 s.maturity)
    (member-sound _ (codes "max_block_bytes") _ (number-sound 0 s.max_block_bytes)
    (member-sound _ (codes "max_cycles") _ (number-sound 0 s.max_cycles)
    (member-sound _ (codes "max_proposals") _ (number-sound 0 s.max_proposals)
    (member-sound _ (codes "primary_reward") _ (number-sound 0 s.primary_reward)
    (member-sound _ (codes "secondary_reward") _ (number-sound 0 s.secondary_reward)
    (member-sound _ (codes "w_close") _ (number-sound 0 s.w_close)
    (member-sound _ (codes "w_far") _ (number-sound 0 s.w_far)
    (no_member-sound 0 _)))))))))))))

pub specification-text-back : (s : Specification) → read (compact_text (form.specification.tree s)) ≡ Some (form.specification.tree s)
specification-text-back s = text-back (form.specification.tree s) (deeper 1 127 (omega arith) (specification-sound s))

specification-utf8 : (s : Specification) → IsText (form.specification.tree s)
unfolding form.specification
specification-utf8 s =
    object-utf8
    (member-utf8 (codes "compact_target") _ refl (number-utf8 s.compact_target)
    (member-utf8 (codes "dao_code_hash") _ refl (bytes-utf8 s.dao_code_hash)
    (member-utf8 (codes "epoch_length") _ refl (number-utf8 s.epoch_length)
    (member-utf8 (codes "halving_interval") _ refl (number-utf8 s.halving_interval)
    (member-utf8 (codes "maturity") _ refl (epochs-utf8 s.maturity)
    (member-utf8 (codes "max_block_bytes") _ refl (number-utf8 s.max_block_bytes)
    (member-utf8 (codes "max_cycles") _ refl (number-utf8 s.max_cycles)
    (member-utf8 (codes "max_proposals") _ refl (number-utf8 s.max_proposals)
    (member-utf8 (codes "primary_reward") _ refl (number-utf8 s.primary_reward)
    (member-utf8 (codes "secondary_reward") _ refl (number-utf8 s.secondary_reward)
    (member-utf8 (codes "w_close") _ refl (number-utf8 s.w_close)
    (member-utf8 (codes "w_far") _ refl (number-utf8 s.w_far)
    no_member-utf8))))))))))))

pub specification-texts : HasTexts form.specification specification
specification-texts =
    has_texts form.specification specification specification-text-back (λ s. is_utf8 (form.specification.tree s) (specification-utf8 s)) specification-back specification-once
