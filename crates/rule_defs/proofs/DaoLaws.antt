-- C and AR never fall, so that a field stays rated.
use Rattle.std.proofs.Common.{◌≡◌, ℕ, ◌+◌, ◌-◌, ◌*◌, ◌/◌, ◌^◌, ◌<◌, ◌≤◌, ℤ, pos, negsuc, Bool, true, false, List, length, Option, Some, None, refl, sym, ap, subst, ◌∙◌, arith}
use Rattle.std.specs.Prelude.{IsTrue, nat_lt, nat_abs, ◌&&◌, if◌then◌else◌}
use Rattle.std.specs.Str.{bytes_eq}
use Rattle.std.proofs.lemmas.Bool.{and_parts}
use Rattle.std.proofs.lemmas.Bool.Decides.{Decides-ltb}
use Rattle.std.proofs.lemmas.Option.{same_Some}
use Rattle.std.proofs.lemmas.Slice.Eq.{bytes_eq-Decides}
use Rattle.chain_defs.specs.Schema.{Block}
use Rattle.chain_defs.specs.Specification.{Specification}
use Rattle.chain_defs.specs.Dao.{DaoField, Movement, next_field, next_issued, next_rate, next_savings, next_occupied, fits_u64, field_bytes, field_of_bytes, is_rated}
use Rattle.chain_defs.proofs.FieldBytes.{field_of_bytes-field_bytes}
use Rattle.chain_defs.proofs.RatedLemmas.{rated-parts, rated-from}
use Rattle.chain_defs.specs.Kept.{block_at}
use Rattle.rule_defs.specs.Reward.{dao_of, field_at}
use Rattle.rule_defs.specs.Field.{movement, next_dao}
use Rattle.rule_defs.specs.RewardRules.{are_bytes_of, has_next_dao}
use Rattle.rule_defs.specs.RewardLaws.{RatesNeverFall, StaysRated}

-- the numbers of a next field: what they are, and that each is a u64
pub record IsNext (old : DaoField) (move : Movement) (new : DaoField) : Type 0 where
  pub issued : new.issued ≡ next_issued old move
  pub rate : new.rate ≡ next_rate old move
  pub issued_fits : new.issued < 2 ^ 64
  pub rate_fits : new.rate < 2 ^ 64
  pub savings_fits : new.savings < 2 ^ 64
  pub occupied_fits : new.occupied < 2 ^ 64

fits-abs : (z : ℤ) → fits_u64 z ≡ true → nat_abs z < 2 ^ 64
fits-abs (pos n) fits = (Decides-ltb n (2 ^ 64)).0 fits
fits-abs (negsuc n) fits = absurd (cc)

pub is-next : (old : DaoField) (move : Movement) (new : DaoField) → next_field old move ≡ Some new → IsNext old move new
unfolding next_field
is-next old move new is = by_test _ refl is
  where
    next : DaoField
    next = record {
      issued = next_issued old move;
      rate = next_rate old move;
      savings = nat_abs (next_savings old move);
      occupied = nat_abs (next_occupied old move);
    }

    by_test : (fits : Bool) → fits_u64 (pos (next_issued old move)) && fits_u64 (pos (next_rate old move))
        && fits_u64 (next_savings old move) && fits_u64 (next_occupied old move) ≡ fits
        → (if fits then Some next else None) ≡ Some new → IsNext old move new
    by_test false fits none = absurd (cc)
    by_test true fits some =
        let same : next ≡ new = same_Some next new some in
        let all = and_parts _ _ fits in
        let three = and_parts _ _ all.0 in
        let two = and_parts _ _ three.0 in
        record {
          issued = ap (λ (f : DaoField). f.issued) (sym same);
          rate = ap (λ (f : DaoField). f.rate) (sym same);
          issued_fits = subst (λ (f : DaoField). f.issued < 2 ^ 64) same (fits-abs (pos (next_issued old move)) two.0);
          rate_fits = subst (λ (f : DaoField). f.rate < 2 ^ 64) same (fits-abs (pos (next_rate old move)) two.1);
          savings_fits = subst (λ (f : DaoField). f.savings < 2 ^ 64) same (fits-abs (next_savings old move) three.1);
          occupied_fits = subst (λ (f : DaoField). f.occupied < 2 ^ 64) same (fits-abs (next_occupied old move) all.1);
        }

pub rates-never-fall : RatesNeverFall
rates-never-fall old move new is =
    let next = is-next old move new is in
    (omega (arith, next.issued), omega (arith, next.rate))

-- the bytes of a next field are rated where the field before it is
pub rated-next : (old : DaoField) (move : Movement) (found : Option DaoField) (bytes : List ℕ) → next_field old move ≡ found → 0 < old.issued → 0 < old.rate
    → IsTrue (are_bytes_of found bytes) → IsTrue (is_rated bytes)
rated-next old move None bytes is issued rate same = absurd (cc)
rated-next old move (Some new) bytes is issued rate same =
    let next = is-next old move new is in
    let never = rates-never-fall old move new is in
    let whole : field_of_bytes bytes ≡ new =
    ap field_of_bytes ((bytes_eq-Decides bytes (field_bytes new)).0 same)
    ∙ field_of_bytes-field_bytes new next.issued_fits next.rate_fits next.savings_fits next.occupied_fits in
    rated-from bytes (omega (arith, issued, never.0, ap (λ (f : DaoField). f.issued) whole)) (omega (arith, rate, never.1, ap (λ (f : DaoField). f.rate) whole))

pub stays-rated : StaysRated
unfolding has_next_dao next_dao
stays-rated spec branch b rated keeps =
    let parts = rated-parts (dao_of (block_at branch (length branch - 1))) rated in
    rated-next (field_at branch (length branch - 1)) (movement spec branch b) _ b.header.dao refl parts.0 parts.1 keeps
