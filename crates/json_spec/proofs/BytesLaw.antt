-- The bytes of a specification hold its fields, each in its place.
use Rattle.std.proofs.Common.{◌≡◌, ℕ, true, length, Option, Some, None, refl, ap, arith, eq-eqb}
use Rattle.std.specs.Prelude.{is_none}
use Rattle.std.proofs.lemmas.Bool.{and_from}
use Rattle.chain_defs.specs.Specification.{specification_of, u32_field}
use Rattle.chain_defs.proofs.ShapeLaws.{AllFit-from}
use Rattle.chain_defs.proofs.Checks.{u32-check, u64-check, byte_array-check, place, end}
use Rattle.json_spec.specs.Bytes.{fields_of, fields, specification, HoldsItsFields}

no_edition-is : (edition : Option ℕ) → is_none edition ≡ true → None ≡ edition
no_edition-is None fits = refl
no_edition-is (Some n) fits = absurd (cc)

pub holds-its-fields : HoldsItsFields
unfolding specification fields specification_of
holds-its-fields bytes s a =
    let places =
    place 0 4 u32-check (place 4 4 u32-check (place 8 4 u32-check (place 12 4 u32-check (place 16 4 u32-check
    (place 20 4 u32-check (place 24 4 u32-check (place 28 8 u64-check (place 36 8 u64-check (place 44 8 u64-check
    (place 52 8 u64-check (place 60 8 u64-check (place 68 32 (byte_array-check 32) (end 100))))))))))))) in
    let f = AllFit-from (fields_of s) a.fits in
    let read = places.value bytes (100, (s.compact_target, (s.epoch_length, (s.w_close, (s.w_far, (s.max_block_bytes, (s.max_proposals, (s.max_cycles, (s.maturity, (s.primary_reward, (s.secondary_reward, (s.halving_interval, (s.dao_code_hash, tt))))))))))))) a.encoding (refl, (f.0, (f.1.0, (f.1.1.0, (f.1.1.1.0, (f.1.1.1.1.0, (f.1.1.1.1.1.0, (f.1.1.1.1.1.1.0, (f.1.1.1.1.1.1.1.0, (f.1.1.1.1.1.1.1.1.0, (f.1.1.1.1.1.1.1.1.1.0, (f.1.1.1.1.1.1.1.1.1.1.0, (f.1.1.1.1.1.1.1.1.1.1.1.0, tt))))))))))))) in
    let whole = places.complete (100, (s.compact_target, (s.epoch_length, (s.w_close, (s.w_far, (s.max_block_bytes, (s.max_proposals, (s.max_cycles, (s.maturity, (s.primary_reward, (s.secondary_reward, (s.halving_interval, (s.dao_code_hash, tt))))))))))))) (refl, (f.0, (f.1.0, (f.1.1.0, (f.1.1.1.0, (f.1.1.1.1.0, (f.1.1.1.1.1.0, (f.1.1.1.1.1.1.0, (f.1.1.1.1.1.1.1.0, (f.1.1.1.1.1.1.1.1.0, (f.1.1.1.1.1.1.1.1.1.0, (f.1.1.1.1.1.1.1.1.1.1.0, (f.1.1.1.1.1.1.1.1.1.1.1.0, tt))))))))))))) in
    let long : length bytes ≡ 100 = omega (arith, whole, ap length a.encoding) in
    let size : u32_field bytes 0 ≡ 100 = (λ i. (read i).0) in
    let edition = no_edition-is s.second_from f.1.1.1.1.1.1.1.1.1.1.1.1.0 in (
      and_from _ _ (eq-eqb (length bytes) 100 long) (eq-eqb (u32_field bytes 0) 100 size),
      λ i. record {
        compact_target = (read i).1.0;
        epoch_length = (read i).1.1.0;
        w_close = (read i).1.1.1.0;
        w_far = (read i).1.1.1.1.0;
        max_block_bytes = (read i).1.1.1.1.1.0;
        max_proposals = (read i).1.1.1.1.1.1.0;
        max_cycles = (read i).1.1.1.1.1.1.1.0;
        maturity = (read i).1.1.1.1.1.1.1.1.0;
        primary_reward = (read i).1.1.1.1.1.1.1.1.1.0;
        secondary_reward = (read i).1.1.1.1.1.1.1.1.1.1.0;
        halving_interval = (read i).1.1.1.1.1.1.1.1.1.1.1.0;
        dao_code_hash = (read i).1.1.1.1.1.1.1.1.1.1.1.1.0;
        second_from = edition i;
      },
    )
