-- Damage of the block that is in hand, where one is.
use Rattle.std.proofs.Common.{◌≡◌, ℕ, List, Option, Some, None, sym, subst}
use Rattle.std.specs.Prelude.{IfSome}
use Rattle.outside.specs.declared.disk.Damage.{Damage}
use Rattle.chain_tree.specs.declared.entry.Entry.{Entry}
use Rattle.cell_state.specs.Moves.{IsOfHand}

-- none is: a source that failed has dropped it
pub hand-none : (hand : Option ℕ) (P : ℕ → Type 0) → hand ≡ None → IfSome hand P
hand-none None P same = tt
hand-none (Some place) P same = absurd (cc)

pub hand-is : (hand : Option ℕ) (P : ℕ → Type 0) (place : ℕ) → hand ≡ Some place → P place → IfSome hand P
hand-is hand P place same it = subst (λ (found : Option ℕ). IfSome found P) (sym same) it

-- one of these is one of those
pub hand-as : (hand : Option ℕ) (entries : List Entry) (P Q : ℕ → Type 0) (damage : Damage) → ((place : ℕ) → P place → Q place)
    → IfSome hand (IsOfHand entries P damage) → IfSome hand (IsOfHand entries Q damage)
hand-as None entries P Q damage so it = tt
hand-as (Some place) entries P Q damage so it = (so place it.0, it.1)

-- this place is
pub hand-at : (hand : Option ℕ) (entries : List Entry) (place : ℕ) (Q : ℕ → Type 0) (damage : Damage) → Q place
    → IfSome hand (IsOfHand entries (λ e. e ≡ place) damage) → IfSome hand (IsOfHand entries Q damage)
hand-at hand entries place Q damage it = hand-as hand entries (λ e. e ≡ place) Q damage (λ e same. subst Q (sym same) it)
