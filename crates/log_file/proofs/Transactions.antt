-- The rules on the transactions of a genesis, one transaction after another.
use Rattle.std.proofs.Common.{◌≡◌, ℕ, ◌+◌, Bool, true, false, ◌&&◌, List, drop, Some, ap, ◌∙◌}
use Rattle.std.specs.Prelude.{slice_get}
use Rattle.std.specs.List.{list_all}
use Rattle.chain_defs.proofs.DistinctLemmas.{drop_at_get}

-- all of a list, from one element on
pub all_goes : {X : Type 0} (p : X → Bool) (xs : List X) (i : ℕ) (x : X) → slice_get xs i ≡ Some x → p x ≡ true
    → list_all p (drop i xs) ≡ list_all p (drop (i + 1) xs)
all_goes p xs i x there holds = ap (list_all p) (drop_at_get xs i x there) ∙ ap (λ (b : Bool). b && list_all p (drop (i + 1) xs)) holds

pub all_stops : {X : Type 0} (p : X → Bool) (xs : List X) (i : ℕ) (x : X) → slice_get xs i ≡ Some x → p x ≡ false → list_all p (drop i xs) ≡ false
all_stops p xs i x there broken = ap (list_all p) (drop_at_get xs i x there) ∙ ap (λ (b : Bool). b && list_all p (drop (i + 1) xs)) broken
