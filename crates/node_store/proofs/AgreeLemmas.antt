-- What a cache holds, beside what is known.
use Rattle.std.proofs.Common.{◌≡◌, ℕ, zero, suc, ◌<◌, List, [], ◌∷◌, ◌++◌, length, Some, sym, ap, ◌∙◌, arith, inl, inr}
use Rattle.std.specs.Prelude.{slice_get}
use Rattle.chain_defs.proofs.KeptLaws.{slice_get-push, slice_get-before}
use Rattle.chain_tree.specs.Told.{Stored}
use Rattle.node_store.specs.StoredLaws.{AgreesAlways, KeepsAfterAppend}
use Rattle.node_store.proofs.StoredLemmas.{stored-at}

pub agrees_always : AgreesAlways
agrees_always image entries stored held told =
    (λ kept e it there. sym (stored-at image entries stored e told) ∙ kept e it there, λ agrees e it there. stored-at image entries stored e told ∙ agrees e it there)

below : (stored : List Stored) (e : ℕ) (it : Stored) → slice_get stored e ≡ Some it → e < length stored
below [] e it there = absurd cc
below (first ∷ stored) zero it there = omega arith
below (first ∷ stored) (suc e) it there = omega (arith, below stored e it there)

pub keeps_after_append : KeepsAfterAppend
keeps_after_append stored it old new agrees adds = λ e found there. elim (adds e found there) [
  | inl before ↦ slice_get-before stored (it ∷ []) e (below stored e found (agrees e found before)) ∙ agrees e found before
  | inr put ↦ ap (slice_get (stored ++ it ∷ [])) put.0 ∙ slice_get-push stored it ∙ ap (λ (x : Stored). Some x) (sym put.1)
]
