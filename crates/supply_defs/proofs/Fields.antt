-- What J32 says of the two fields.
use Rattle.std.proofs.Common.{◌≡◌, ℕ, ℤ, pos, negsuc, Bool, true, false, List, Option, Some, None, refl, sym, ap, ◌∙◌, subst}
use Rattle.std.specs.Prelude.{IsTrue, nat_abs, ◌&&◌, if◌then◌else◌}
use Rattle.std.proofs.lemmas.Bool.{and_parts}
use Rattle.std.proofs.lemmas.Option.{same_Some}
use Rattle.std.proofs.lemmas.Slice.Eq.{bytes_eq-Decides}
use Rattle.chain_defs.specs.Schema.{Block}
use Rattle.chain_defs.specs.Specification.{Specification}
use Rattle.chain_defs.specs.Dao.{DaoField, Movement, next_field, next_issued, next_rate, next_savings, next_occupied, fits_u64, field_bytes, field_of_bytes}
use Rattle.chain_defs.proofs.FieldBytes.{field_of_bytes-field_bytes}
use Rattle.rule_defs.specs.Field.{movement, next_dao}
use Rattle.rule_defs.specs.RewardRules.{are_bytes_of, has_next_dao}
use Rattle.rule_defs.proofs.DaoLaws.{is-next}
use Rattle.supply_defs.specs.Step.{last_field}

-- The numbers of a field by those of the one before it: each is what the block moves.
pub record Follows (old : DaoField) (move : Movement) (new : DaoField) : Type 0 where
  pub issued : new.issued ≡ next_issued old move
  pub savings : pos new.savings ≡ next_savings old move
  pub occupied : pos new.occupied ≡ next_occupied old move

above-zero : (z : ℤ) → fits_u64 z ≡ true → pos (nat_abs z) ≡ z
above-zero (pos n) fits = refl
above-zero (negsuc n) fits = absurd (cc)

follows : (old : DaoField) (move : Movement) (new : DaoField) → next_field old move ≡ Some new → Follows old move new
unfolding next_field
follows old move new is = by_test _ refl is
  where
    next : DaoField
    next = record {
      issued = next_issued old move;
      rate = next_rate old move;
      savings = nat_abs (next_savings old move);
      occupied = nat_abs (next_occupied old move);
    }

    by_test : (fits : Bool) → fits_u64 (pos (next_issued old move)) && fits_u64 (pos (next_rate old move))
        && fits_u64 (next_savings old move) && fits_u64 (next_occupied old move) ≡ fits
        → (if fits then Some next else None) ≡ Some new → Follows old move new
    by_test false fits none = absurd (cc)
    by_test true fits some =
        let same : next ≡ new = same_Some next new some in
        let all = and_parts _ _ fits in
        let three = and_parts _ _ all.0 in
        record {
          issued = ap (λ (f : DaoField). f.issued) (sym same);
          savings = ap (λ (f : DaoField). pos f.savings) (sym same) ∙ above-zero (next_savings old move) three.1;
          occupied = ap (λ (f : DaoField). pos f.occupied) (sym same) ∙ above-zero (next_occupied old move) all.1;
        }

follows-bytes : (old : DaoField) (move : Movement) (found : Option DaoField) (bytes : List ℕ) → next_field old move ≡ found
    → IsTrue (are_bytes_of found bytes) → Follows old move (field_of_bytes bytes)
follows-bytes old move None bytes is same = absurd (cc)
follows-bytes old move (Some new) bytes is same =
    let next = is-next old move new is in
    let whole : field_of_bytes bytes ≡ new =
    ap field_of_bytes ((bytes_eq-Decides bytes (field_bytes new)).0 same)
    ∙ field_of_bytes-field_bytes new next.issued_fits next.rate_fits next.savings_fits next.occupied_fits in
    subst (Follows old move) (sym whole) (follows old move new is)

pub field-follows : (spec : Specification) (on : List Block) (b : Block) → IsTrue (has_next_dao spec on b)
    → Follows (last_field on) (movement spec on b) (field_of_bytes b.header.dao)
unfolding has_next_dao next_dao
field-follows spec on b keeps = follows-bytes (last_field on) (movement spec on b) _ b.header.dao refl keeps
