-- Sums of what is left of a list.
use Rattle.std.proofs.Common.{◌≡◌, ℕ, ◌+◌, ◌<◌, Bool, true, List, [], ◌∷◌, length, Option, Some, None, nat_le, sym, ap, ◌∙◌, arith}
use Rattle.std.specs.Prelude.{slice_get, if◌then◌else◌}
use Rattle.std.specs.List.{sum_by}
use Rattle.std.proofs.lemmas.List.Sums.{sum_by-cons}
use Rattle.std.proofs.lemmas.Bool.{le-leb}
use Rattle.std.proofs.lemmas.Option.{same_Some}
use Rattle.chain_defs.specs.Schema.{CellOutput, Transaction, Block}
use Rattle.chain_defs.proofs.KeptLaws.{slice_get-below}
use Rattle.chain_defs.specs.Ext.{count_at, fee_of}
use Rattle.rule_defs.specs.Capacity.{held_out}
use Rattle.supply_defs.specs.Step.{paid_by}
use Rattle.supply.specs.Moving.{HasFees}

-- one more is taken of it
pub sum-more : {X : Type 0} (f : X → ℕ) (rest later : List X) (x : X) (sum more whole : ℕ) → rest ≡ x ∷ later → sum + sum_by f rest ≡ whole
    → more ≡ sum + f x → more + sum_by f later ≡ whole
sum-more f rest later x sum more whole is so_far next =
    let cons : sum_by f rest ≡ f x + sum_by f later = ap (sum_by f) is ∙ sum_by-cons f x later in
    omega (arith, cons, so_far, next)

-- nothing is left
pub sum-end : {X : Type 0} (f : X → ℕ) (rest : List X) (sum whole : ℕ) → rest ≡ [] → sum + sum_by f rest ≡ whole → sum ≡ whole
sum-end f rest sum whole none so_far =
    let zero : sum_by f rest ≡ 0 = ap (sum_by f) none in omega (arith, zero, so_far)

-- ---- The cellbase

pub paid-first : (b : Block) (t : Transaction) → slice_get b.transactions 0 ≡ Some t → held_out t ≡ paid_by b
unfolding held_out
paid-first b t there = by_list b.transactions there
  where
    by_list : (txs : List Transaction) → slice_get txs 0 ≡ Some t
        → sum_by (λ (output : CellOutput). output.capacity) t.raw.outputs
        ≡ sum_by (λ (output : CellOutput). output.capacity) (elim txs [
          | [] ↦ []
          | first ∷ later ↦ first.raw.outputs
        ])
    by_list [] there = absurd (cc)
    by_list (first ∷ later) there = ap (λ (x : Transaction). sum_by (λ (output : CellOutput). output.capacity) x.raw.outputs) (sym (same_Some first t there))

-- ---- Fees

-- An ext answers the fee at a place, where it has so many.
pub record FeeAt (fees : List ℕ) (place : ℕ) (found : Option ℕ) : Type 0 where
  pub fee : ℕ
  pub there : slice_get fees place ≡ Some fee
  pub is : found ≡ Some fee

pub fee-at : (ext fees : List ℕ) (place tx : ℕ) (found : Option ℕ) → HasFees ext fees → place < length fees → tx ≡ place + 1
    → found ≡ (if nat_le tx (count_at ext 0) then Some (fee_of ext tx) else None) → FeeAt fees place found
fee-at ext fees place tx found has within next is =
    let here = slice_get-below fees place within in
    let count = has.count in
    let low : nat_le tx (count_at ext 0) ≡ true = le-leb tx (count_at ext 0) (omega (arith, count, within, next)) in
    record {
      fee = here.0;
      there = here.1;
      is = is ∙ ap (λ (b : Bool). if b then Some (fee_of ext tx) else None) low ∙ ap (λ (n : ℕ). Some (fee_of ext n)) next ∙ ap Some (has.each place here.0 here.1);
    }
