-- A kept block as it is known, and events of which none is odd.
use Rattle.std.proofs.Common.{◌≡◌, ℕ, Bool, List, Option, Some, None, Result, Err, sym, ◌∙◌, subst}
use Rattle.std.specs.Prelude.{slice_get, IfSome}
use Rattle.std.specs.Option.{option_map}
use Rattle.std.proofs.lemmas.Bool.{false≢true}
use Rattle.std.proofs.lemmas.Option.{same_Some, slice_get-map}
use Rattle.chain_defs.specs.Schema.{OutPoint, Block}
use Rattle.chain_defs.specs.Kept.{block_at}
use Rattle.chain_tree.specs.Told.{Stored, blocks_of}
use Rattle.chain_defs.specs.Events.{Event}
use Rattle.chain_defs.specs.Fit.{AllFit}
use Rattle.chain_defs.proofs.FitLemmas.{fits-between}
use Rattle.cell_state.specs.Fit.{IsFirstOdd}
use Rattle.cell_state.specs.declared.odd.Odd.{Odd}
use Rattle.outside.specs.declared.disk.ReadStop.{ReadStop}
use Rattle.outside.specs.declared.disk.ReadStop.TheVariants.{Damaged}
use Rattle.outside.specs.declared.disk.Damage.{Damage}
use Rattle.chain_tree.specs.declared.entry.Entry.{Entry}
use Rattle.chain_tree.specs.Damages.{IsAtRecord}

-- the current block is the one at its place
pub told-block : (stored : List Stored) (view : Block) (place : ℕ) (b : Block) (told : Option (List Stored)) (hand : Option ℕ) → told ≡ Some stored
    → hand ≡ Some place → IfSome told (λ s. IfSome hand (λ e. IfSome (slice_get s e) (λ it. view ≡ it.block)))
    → block_at (blocks_of stored) place ≡ Some b → view ≡ b
told-block stored view place b told hand tells taken of_hand there =
    by_it (slice_get stored place) (sym (slice_get-map (λ (it : Stored). it.block) stored place) ∙ there)
    (subst (λ (h : Option ℕ). IfSome h (λ e. IfSome (slice_get stored e) (λ it. view ≡ it.block))) taken
    (subst (λ (t : Option (List Stored)). IfSome t (λ s. IfSome hand (λ e. IfSome (slice_get s e) (λ it. view ≡ it.block)))) tells of_hand))
  where
    by_it : (found : Option Stored) → option_map (λ (it : Stored). it.block) found ≡ Some b → IfSome found (λ it. view ≡ it.block) → view ≡ b
    by_it None is same = absurd (cc)
    by_it (Some it) is same = same ∙ same_Some it.block b is

-- Where all fit, none is odd.
pub none-odd : (all : List Event) (live : OutPoint → Bool) (odd : Odd) → AllFit all live → IsFirstOdd all live odd → ⊥
none-odd all live odd fit so = false≢true (sym so.unfit ∙ fits-between all so.earlier so.event so.later live fit so.parts)
