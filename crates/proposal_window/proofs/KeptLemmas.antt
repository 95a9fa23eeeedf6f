-- The current block, where something is known.
use Rattle.std.proofs.Common.{◌≡◌, ℕ, ◌<◌, List, length, Option, Some, sym, ap, ◌∙◌, subst, arith}
use Rattle.std.specs.Prelude.{slice_get, IfSome}
use Rattle.std.specs.Option.{option_map}
use Rattle.std.proofs.lemmas.Option.{slice_get-map}
use Rattle.chain_defs.specs.Schema.{Block}
use Rattle.chain_defs.specs.Kept.{block_at}
use Rattle.chain_defs.proofs.KeptLaws.{slice_get-below}
use Rattle.chain_tree.specs.Told.{Stored, blocks_of}

-- the current block is the one at its place
pub kept-block : (stored : List Stored) (view : Block) (place count : ℕ) (told now : Option (List Stored)) (hand : Option ℕ) → told ≡ Some stored → now ≡ told
    → hand ≡ Some place → IfSome told (λ all. length all ≡ count) → place < count
    → IfSome now (λ all. IfSome hand (λ e. IfSome (slice_get all e) (λ it. view ≡ it.block)))
    → block_at (blocks_of stored) place ≡ Some view
kept-block stored view place count told now hand tells same in_hand all within of_hand =
    let long : length stored ≡ count = subst (λ (t : Option (List Stored)). IfSome t (λ them. length them ≡ count)) tells all in
    let there = slice_get-below stored place (omega (arith, within, long)) in
    let is : view ≡ there.0.block =
    subst (λ (it : Option Stored). IfSome it (λ found. view ≡ found.block)) there.1
    (subst (λ (h : Option ℕ). IfSome h (λ e. IfSome (slice_get stored e) (λ it. view ≡ it.block))) in_hand
    (subst (λ (t : Option (List Stored)). IfSome t (λ them. IfSome hand (λ e. IfSome (slice_get them e) (λ it. view ≡ it.block)))) (same ∙ tells) of_hand)) in
    slice_get-map (λ (it : Stored). it.block) stored place ∙ ap (option_map (λ (it : Stored). it.block)) there.1 ∙ ap Some (sym is)
