-- What a source tells of the current entry, and that its block can be taken back with the ext that is read from it.
use Rattle.std.proofs.Common.{◌≡◌, ℕ, List, Option, Some, sym, subst}
use Rattle.std.specs.Prelude.{slice_get, IfSome}
use Rattle.chain_defs.specs.Schema.{OutPoint, Block}
use Rattle.chain_tree.specs.Told.{Stored}
use Rattle.chain_defs.specs.Events.{events_of_block}
use Rattle.chain_defs.specs.Row.{Row}
use Rattle.chain_defs.specs.Ext.{Ext}
use Rattle.chain_defs.specs.UndoLaws.{ComesBefore}
use Rattle.cell_state.specs.Moves.{CanBeTakenBack}

pub told-it : (P : Stored → Type 0) (stored : List Stored) (place : ℕ) (it : Stored) (told : Option (List Stored)) (hand : Option ℕ) → told ≡ Some stored
    → hand ≡ Some place → slice_get stored place ≡ Some it → IfSome told (λ s. IfSome hand (λ e. IfSome (slice_get s e) P)) → P it
told-it P stored place it told hand tells taken there of_hand =
    subst (λ (found : Option Stored). IfSome found P) there
    (subst (λ (h : Option ℕ). IfSome h (λ e. IfSome (slice_get stored e) P)) taken
    (subst (λ (t : Option (List Stored)). IfSome t (λ s. IfSome hand (λ e. IfSome (slice_get s e) P))) tells of_hand))

pub same-ext : (one other : Ext) → Some one ≡ Some other → one ≡ other
same-ext one other same = cc

-- the rows before come before those after, by the block and the ext that were read
pub comes-back : (b view : Block) (bytes : List ℕ) (after now before : OutPoint → Option Row) (can : CanBeTakenBack b bytes after before) (read : Ext)
    → view ≡ b → Some read ≡ Some can.ext → ((o : OutPoint) → now o ≡ after o)
    → ComesBefore (events_of_block can.height view) read.spent now before
comes-back b view bytes after now before can read is own same =
    let ext : read ≡ can.ext = same-ext read can.ext own in
    subst (λ (x : Block). ComesBefore (events_of_block can.height x) read.spent now before) (sym is)
    (subst (λ (e : Ext). ComesBefore (events_of_block can.height b) e.spent now before) (sym ext)
    (subst (λ (rows : OutPoint → Option Row). ComesBefore (events_of_block can.height b) can.ext.spent rows before) (λ t o. sym (same o) t) can.comes_before))
