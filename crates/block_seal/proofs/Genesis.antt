-- What sealing leaves of the rules on a genesis.
use Rattle.std.proofs.Common.{◌≡◌, ℕ, ◌^◌, ◌<◌, zero, suc, Bool, true, false, List, [], ◌∷◌, Some, None, refl, ap, subst, arith}
use Rattle.std.specs.Prelude.{◌==◌, ◌&&◌, nat_lt, IsTrue, length, if◌then◌else◌}
use Rattle.std.specs.Int.{w64, from_le_bytes}
use Rattle.std.specs.List.{slice_range}
use Rattle.std.specs.Option.{option_map}
use Rattle.std.proofs.lemmas.Bool.{and_parts, ltb-true}
use Rattle.std.proofs.lemmas.Nat.{from_le_bytes-to_le_bytes_8}
use Rattle.std.proofs.lemmas.Option.{same_Some}
use Rattle.chain_defs.specs.Checked.{AreBytes}
use Rattle.chain_defs.specs.Shape.{are_bytes}
use Rattle.chain_defs.specs.Schema as schema
use Rattle.chain_defs.specs.Schema.{Block}
use Rattle.chain_defs.specs.Dao.{DaoField, field_bytes, field_of_bytes, is_rated}
use Rattle.chain_defs.proofs.ShapeLaws.{AllFit-from, AreBytes-range}
use Rattle.rule_defs.specs.Genesis.{is_first, has_no_uncles_or_proposals, has_transactions, all_pair_data, all_hold_capacity, genesis_rules}
use Rattle.block_seal.specs.Sealed.{held_by, occupied_in, genesis_field, committed, with_header, sealed, is_rated_sealed, KeepsTheGenesisRules}
use Rattle.block_seal.proofs.Rows.{header-fields, header-of-fits}

-- ---- the numbers of a field

each-byte : (bs : List ℕ) → IsTrue (are_bytes bs) → AreBytes bs
each-byte [] all i = omega arith
each-byte (b ∷ bs) all zero = ltb-true b 256 (and_parts (nat_lt b 256) (are_bytes bs) all).0
each-byte (b ∷ bs) all (suc i) = each-byte bs (and_parts (nat_lt b 256) (are_bytes bs) all).1 i

eight-bytes : (bs : List ℕ) → AreBytes bs → from_le_bytes w64 bs < 2 ^ 64
eight-bytes bs are =
    let a = are 0 in
    let b = are 1 in
    let c = are 2 in
    let d = are 3 in
    let e = are 4 in
    let f = are 5 in
    let g = are 6 in
    let h = are 7 in
    omega arith

-- the AR of a block's field is a u64
rate-fits : (b : Block) → IsTrue (schema.block.encoding b).fits → (field_of_bytes b.header.dao).rate < 2 ^ 64
unfolding schema.header field_of_bytes
rate-fits b fits =
    let f = AllFit-from (header-fields b.header) (header-of-fits b fits) in
    let dao = and_parts (length b.header.dao == 32) (are_bytes b.header.dao) f.1.1.1.1.1.1.1.1.1.0 in
    eight-bytes (slice_range b.header.dao 8 16) (AreBytes-range b.header.dao 8 16 (each-byte b.header.dao dao.1))

-- the bytes of a field are rated where its C and AR are above 0
rated-is : (field : DaoField) → field.issued < 2 ^ 64 → field.rate < 2 ^ 64 → is_rated (field_bytes field) ≡ (nat_lt 0 field.issued && nat_lt 0 field.rate)
unfolding field_bytes field_of_bytes
rated-is field issued rate =
    let c : (field_of_bytes (field_bytes field)).issued ≡ field.issued = from_le_bytes-to_le_bytes_8 field.issued issued in
    let ar : (field_of_bytes (field_bytes field)).rate ≡ field.rate = from_le_bytes-to_le_bytes_8 field.rate rate in
    cc

-- ---- the rules

pub genesis-rules : KeepsTheGenesisRules
unfolding sealed
genesis-rules b s fits first is = by_number (b.header.number == 0) (ap (λ (n : ℕ). n == 0) first) is
  where
    field : DaoField
    field = record (field_of_bytes b.header.dao) { issued = held_by b; occupied = occupied_in b }

    with_row : Bool → List (ℕ × Bool)
    with_row rated =
        (2, is_first b) ∷ (3, has_no_uncles_or_proposals b) ∷ (4, rated) ∷ (5, has_transactions b) ∷ (6, all_pair_data b) ∷ (7, all_hold_capacity b) ∷ []

    by_room : (room : Bool) → nat_lt (held_by b) (2 ^ 64) && nat_lt (occupied_in b) (2 ^ 64) ≡ room
        → option_map (λ dao. with_header b (committed b dao)) (option_map field_bytes (if room then Some field else None)) ≡ Some s
        → genesis_rules s ≡ with_row (is_rated_sealed b)
    by_room false full h = absurd (cc)
    by_room true fit h =
        let same : with_header b (committed b (field_bytes field)) ≡ s = same_Some _ _ h in
        let rated = rated-is field (ltb-true _ _ (and_parts _ _ fit).0) (rate-fits b fits) in
        subst (λ (x : Block). genesis_rules x ≡ with_row (is_rated_sealed b)) same (ap with_row rated)

    by_number : (is_zero : Bool) → is_zero ≡ true
        → option_map (λ dao. with_header b (committed b dao)) (if is_zero then option_map field_bytes (genesis_field b) else Some b.header.dao) ≡ Some s
        → genesis_rules s ≡ with_row (is_rated_sealed b)
    by_number false later h = absurd (cc)
    by_number true zeroth h = by_room (nat_lt (held_by b) (2 ^ 64) && nat_lt (occupied_in b) (2 ^ 64)) refl h
