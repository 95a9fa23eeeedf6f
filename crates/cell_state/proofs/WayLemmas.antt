-- Steps of a way down and up.
use Rattle.std.proofs.Common.{◌≡◌, ℕ, zero, suc, ◌<◌, Bool, true, false, List, [], ◌∷◌, ◌++◌, length, drop, Option, Some, None, refl, sym, ap, ◌∙◌, subst, inl, inr, ◌⊎◌, arith}
use Rattle.std.specs.Prelude.{slice_get, not}
use Rattle.std.specs.Option.{option_map}
use Rattle.std.proofs.lemmas.Option.{slice_get-map}
use Rattle.chain_defs.proofs.KeptLaws.{slice_get-below, slice_get-pushed}
use Rattle.chain_defs.specs.Schema.{OutPoint, Block}
use Rattle.chain_defs.specs.Kept.{parent_place}
use Rattle.chain_tree.specs.declared.entry.Entry.{Entry}
use Rattle.chain_tree.specs.Entries.{entry_at, IsTree}
use Rattle.chain_tree.specs.Blocks.{IndexesBlocks}
use Rattle.chain_tree.specs.Told.{Stored, blocks_of}
use Rattle.chain_tree.proofs.BlockLemmas.{len-same}
use Rattle.chain_defs.specs.Row.{Row, live_row}
use Rattle.chain_defs.specs.Events.{events_of_block}
use Rattle.chain_defs.specs.UndoLaws.{ComesBefore}
use Rattle.cell_state.specs.Moves.{CanBeTakenBack, CanGoDown, AreRowsOfBranch, is_on_branch, IsOnTheWay}

pub parent-earlier : (entries : List Entry) (place : ℕ) (entry : Entry) → IsTree entries → 0 < place → entry_at entries place ≡ Some entry
    → entry.parent < place
parent-earlier entries zero entry tree above there = absurd (omega (arith, above))
parent-earlier entries (suc place) entry tree above there = tree.earlier place entry there

-- what holds of each place, with one more
pub each-more : (P : ℕ → Type 0) (places more : List ℕ) (next : ℕ) → more ≡ places ++ next ∷ [] → P next
    → ((i place : ℕ) → slice_get places i ≡ Some place → P place) → (i place : ℕ) → slice_get more i ≡ Some place → P place
each-more P places more next grown holds each i place there =
    by_end (slice_get-pushed places next i place (ap (λ (l : List ℕ). slice_get l i) (sym grown) ∙ there))
  where
    by_end : ((i < length places) × (slice_get places i ≡ Some place)) ⊎ ((i ≡ length places) × (next ≡ place)) → P place
    by_end (inl before) = each i place before.1
    by_end (inr last) = subst P last.1 holds

-- what is kept at a place of the tree
pub stored-there : (stored : List Stored) (entries : List Entry) (place : ℕ) → IndexesBlocks (blocks_of stored) entries → place < length entries
    → (it : Stored) × (slice_get stored place ≡ Some it)
stored-there stored entries place indexes within =
    let same = len-same (blocks_of stored) entries indexes in
    let block = slice_get-below (blocks_of stored) place (omega (arith, same, within)) in
    of_block (slice_get stored place) refl block.0 (sym (slice_get-map (λ (it : Stored). it.block) stored place) ∙ block.1)
  where
    of_block : (found : Option Stored) → slice_get stored place ≡ found → (b : Block) → option_map (λ (it : Stored). it.block) (slice_get stored place) ≡ Some b
        → (it : Stored) × (slice_get stored place ≡ Some it)
    of_block None is b there = absurd (none (ap (option_map (λ (it : Stored). it.block)) (sym is) ∙ there))
      where
        none : ◌≡◌ {A = Option Block} None (Some b) → ⊥
        none same = cc
    of_block (Some it) is b there = (it, is)

-- a block that can be taken back from rows can be so from the same rows
pub taken-same : (b : Block) (bytes : List ℕ) (one other before : OutPoint → Option Row) → ((o : OutPoint) → one o ≡ other o)
    → CanBeTakenBack b bytes one before → CanBeTakenBack b bytes other before
taken-same b bytes one other before same can = record {
  height = can.height;
  above = can.above;
  ext = can.ext;
  fits = can.fits;
  bytes_are = can.bytes_are;
  comes_before = subst (λ (rows : OutPoint → Option Row). ComesBefore (events_of_block can.height b) can.ext.spent rows before) (λ t o. same o t) can.comes_before;
}

-- the block at a place can be taken back from the rows of its branch, as they stand
pub taken-here : (stored : List Stored) (from to place parent : ℕ) (it : Stored) (rows : OutPoint → Option Row) → CanGoDown stored from to
    → is_on_branch (blocks_of stored) from place ≡ true → IsOnTheWay (blocks_of stored) from to place
    → slice_get stored place ≡ Some it → parent_place (blocks_of stored) place ≡ Some parent → AreRowsOfBranch (blocks_of stored) place rows
    → CanBeTakenBack it.block it.ext rows (live_row (blocks_of stored) parent)
taken-here stored from to place parent it rows can on way there is are =
    taken-same it.block it.ext (live_row (blocks_of stored) place) rows (live_row (blocks_of stored) parent) (λ o. sym (are o))
    (can place parent it on (off (is_on_branch (blocks_of stored) to place) (sym on ∙ way)) there is)
  where
    off : (b : Bool) → true ≡ not b → b ≡ false
    off true e = e
    off false e = refl

-- A kept block that is not the genesis has a parent.
pub parent-there : (kept : List Block) (entries : List Entry) (place : ℕ) → IndexesBlocks kept entries → place < length entries → 0 < place
    → (parent : ℕ) × (parent_place kept place ≡ Some parent)
parent-there kept entries place indexes within above =
    let entry = slice_get-below entries place within in
    (entry.0.parent, indexes.parents place entry.0 above entry.1)

pub each-none : (P : ℕ → Type 0) (places : List ℕ) → places ≡ [] → (i place : ℕ) → slice_get places i ≡ Some place → P place
each-none P places none i place there = absurd (never i (ap (λ (l : List ℕ). slice_get l i) (sym none) ∙ there))
  where
    never : (i : ℕ) → slice_get (drop 1 (0 ∷ [])) i ≡ Some place → ⊥
    never i there = cc
