-- What queries ask of a node: the block at a height of the best branch, and the live cell with an out-point there.
use Rattle.std.proofs.Common.{◌≡◌, ℕ, ◌+◌, ◌<◌, List, [], length, Option, Some, None, refl, sym, ap, ◌∙◌, subst, arith}
use Rattle.std.specs.Prelude.{slice_get, slice_index, IfSome, IsSomeAnd}
use Rattle.std.proofs.lemmas.List.{length-map}
use Rattle.std.specs.Option.{option_map, option_and_then}
use Rattle.std.proofs.lemmas.Option.{slice_get_within, slice_get_past, slice_get-map, same_Some}
use Rattle.outside.specs.declared.disk.Area.TheVariants.{Log}
use Rattle.outside.specs.declared.disk.Damage.{Damage}
use Rattle.chain_defs.specs.Schema.{OutPoint, Block}
use Rattle.chain_defs.specs.Kept.{block_at}
use Rattle.chain_defs.specs.Branch.{branch, branch_places}
use Rattle.chain_defs.specs.Tip.{tip_place, best_branch}
use Rattle.chain_tree.specs.declared.entry.Entry.{Entry}
use Rattle.chain_defs.proofs.KeptLaws.{slice_get-below}
use Rattle.chain_defs.proofs.TipLaws.{tip_place-there, tip_place-below}
use Rattle.chain_tree.specs.Entries.{entry_at}
use Rattle.chain_tree.specs.Damages.{IsOfBlock}
use Rattle.chain_tree.specs.Blocks.{IndexesBlocks}
use Rattle.chain_tree.specs.Told.{Stored, blocks_of}
use Rattle.chain_tree.proofs.BlockLemmas.{len-same}
use Rattle.chain_defs.specs.Cell.{Cell}
use Rattle.chain_defs.specs.Events.{live_cell, cell_after, events, last_naming}
use Rattle.chain_defs.specs.Row.{Row, row_of, row_on, live_row, IsOutputOf}
use Rattle.chain_defs.proofs.OutputLaws.{cells-are-outputs}
use Rattle.cell_state.specs.Copies.{NamesOutput}
use Rattle.cell_state.proofs.CopyLemmas.{in-hand}
use Rattle.node_store.proofs.BranchLemmas.{PlaceOfHeight, place-of-height, branch-long, branch-block, number-on-branch}
use Rattle.node_store.specs.Kept.{AreRowsOfTip, AreRowsOfKept}
use Rattle.node_store.specs.Queries.{LiveValue, IsLiveRow, IsLiveCell}

abbrev branch_at : List Block → Option ℕ → List Block
branch_at kept None = []
branch_at kept (Some place) = branch kept place

-- the best branch is that of the tip
pub best-is : (kept : List Block) (tip : ℕ) → tip_place kept ≡ Some tip → best_branch kept ≡ branch kept tip
best-is kept tip is = ap (branch_at kept) is

-- ---- Heights

module _ (kept : List Block) (entries : List Entry) (tip : ℕ) (indexed : IndexesBlocks kept entries) (is : tip_place kept ≡ Some tip) where
  -- how long it is
  pub best-long : (entry : Entry) → entry_at entries tip ≡ Some entry → entry.number + 1 ≡ length (best_branch kept)
  best-long entry there = branch-long kept entries tip entry indexed there ∙ ap length (sym (best-is kept tip is))

  -- above the tip it has no block
  pub none-above : (entry : Entry) (height : ℕ) → entry_at entries tip ≡ Some entry → entry.number < height → None ≡ block_at (best_branch kept) height
  none-above entry height there above = sym (slice_get_past (best_branch kept) height (omega (arith, best-long entry there, above)))

  -- and up to it the block of the place there
  pub block-at : (height place : ℕ) → tip < length entries → slice_get (branch_places kept tip) height ≡ Some place
      → block_at kept place ≡ block_at (best_branch kept) height
  block-at height place below on_branch =
      sym (branch-block kept tip height (omega (arith, below, len-same kept entries indexed)) ∙ ap (option_and_then (block_at kept)) on_branch)
      ∙ ap (λ (blocks : List Block). block_at blocks height) (sym (best-is kept tip is))

-- where it has one there is one
pub no-block : (blocks : List Block) (height : ℕ) → height < length blocks → block_at blocks height ≡ None → ⊥
no-block blocks height below none = let there = slice_get-below blocks height below in absurd (cc (sym none ∙ there.1))

-- so a place that was found has one
pub has-none : (kept : List Block) (place height : ℕ) → place < length kept → block_at kept place ≡ block_at (best_branch kept) height
    → block_at (best_branch kept) height ≡ None → ⊥
has-none kept place height within same none = no-block kept place within (same ∙ none)

-- the current block of a source that tells the stored blocks, once that of a place was taken
pub block-told : (stored : List Stored) (kept : List Block) (place : ℕ) (b : Block) (told : Option (List Stored)) (hand : Option ℕ) → blocks_of stored ≡ kept
    → place < length kept → told ≡ Some stored → hand ≡ Some place
    → IfSome told (λ all. IfSome hand (λ e. IfSome (slice_get all e) (λ it. b ≡ it.block))) → block_at kept place ≡ Some b
block-told stored kept place b told hand seen below tells taken of_hand =
    let here = slice_get-below stored place (omega (arith, below, ap length seen, length-map stored (λ (it : Stored). it.block))) in
    let same : b ≡ here.0.block = in-hand b told hand stored place here.0 tells taken here.1 of_hand in
    ap (λ (blocks : List Block). block_at blocks place) (sym seen) ∙ slice_get-map (λ (it : Stored). it.block) stored place
    ∙ ap (option_map (λ (it : Stored). it.block)) here.1 ∙ ap (λ (x : Block). Some x) (sym same)

-- ---- Cells

-- Where the block of a live cell is kept, and what its row names.
pub record IsMadeAt (stored : List Stored) (entries : List Entry) (o : OutPoint) (cell : Cell) (row : Row) : Type 0 where
  pub below : row.block < length entries
  pub number : (entry : Entry) → entry_at entries row.block ≡ Some entry → entry.number ≡ cell.height
  pub names : NamesOutput stored o row cell

stored-at : (stored : List Stored) (place : ℕ) (b : Block) → block_at (blocks_of stored) place ≡ Some b
    → (made : Stored) × (slice_get stored place ≡ Some made) × (made.block ≡ b)
stored-at stored place b there = by_stored (slice_get stored place) refl (sym (slice_get-map (λ (it : Stored). it.block) stored place) ∙ there)
  where
    by_stored : (found : Option Stored) → slice_get stored place ≡ found → option_map (λ (it : Stored). it.block) found ≡ Some b
        → (made : Stored) × (slice_get stored place ≡ Some made) × (made.block ≡ b)
    by_stored None is at = absurd (cc)
    by_stored (Some made) is at = (made, is, cc)

pub made-at : (stored : List Stored) (entries : List Entry) (tip : ℕ) (o : OutPoint) (cell : Cell) (row : Row) → IndexesBlocks (blocks_of stored) entries
    → tip < length entries → live_cell (branch (blocks_of stored) tip) o ≡ Some cell → row ≡ row_on (blocks_of stored) tip cell
    → IsMadeAt stored entries o cell row
made-at stored entries tip o cell row indexed below live its_row =
    record {
      below = omega (arith, long, slice_get_within (blocks_of stored) row.block made.0 there);
      number = λ entry at. number-on-branch (blocks_of stored) entries tip cell.height row.block entry indexed within
          (place.place ∙ ap Some (sym same)) at;
      names = record {
        made = kept.0;
        there = kept.1;
        output = subst (λ (b : Block). IsOutputOf b o cell) (sym kept.2) made.2;
        its_row = its_row ∙ ap (λ (block : ℕ). row_of block cell) (sym same);
      };
    }
  where
    long : length entries ≡ length (blocks_of stored)
    long = len-same (blocks_of stored) entries indexed

    within : tip < length (blocks_of stored)
    within = omega (arith, below, long)

    made : (b : Block) × (block_at (branch (blocks_of stored) tip) cell.height ≡ Some b) × IsOutputOf b o cell
    made = cells-are-outputs (branch (blocks_of stored) tip) o cell live

    place : PlaceOfHeight (blocks_of stored) tip cell.height made.0
    place = place-of-height (blocks_of stored) tip cell.height made.0 within made.1

    same : row.block ≡ slice_index (branch_places (blocks_of stored) tip) cell.height
    same = ap (λ (r : Row). r.block) its_row

    there : block_at (blocks_of stored) row.block ≡ Some made.0
    there = ap (block_at (blocks_of stored)) same ∙ place.there

    kept : (it : Stored) × (slice_get stored row.block ≡ Some it) × (it.block ≡ made.0)
    kept = stored-at stored row.block made.0 there

module _ (kept : List Block) (found : OutPoint → Option Row) (tip : ℕ)
    (live : AreRowsOfTip kept found) (is : tip_place kept ≡ Some tip) (o : OutPoint) where
  by-cell : (cell : Option Cell) → live_cell (branch kept tip) o ≡ cell → found o ≡ option_map (row_on kept tip) cell
  unfolding live_row
  by-cell cell at = live tip is o ∙ ap (option_map (row_on kept tip)) at

  -- where there is no row, no cell is live
  no-cell : found o ≡ None → live_cell (best_branch kept) o ≡ None
  no-cell none = ap (λ (blocks : List Block). live_cell blocks o) (best-is kept tip is)
      ∙ by_live (live_cell (branch kept tip) o) refl
    where
      by_live : (live : Option Cell) → live_cell (branch kept tip) o ≡ live → live_cell (branch kept tip) o ≡ None
      by_live None at = at
      by_live (Some cell) at = let row = by-cell (Some cell) at in absurd (cc)

  -- and where there is one, it is the row of a cell that is live
  row-cell : (row : Row) → found o ≡ Some row → (cell : Cell) × IsLiveRow kept o cell row
  row-cell row some = by_live (live_cell (branch kept tip) o) refl
    where
      by_live : (live : Option Cell) → live_cell (branch kept tip) o ≡ live → (cell : Cell) × IsLiveRow kept o cell row
      by_live None at = let row = by-cell None at in absurd (cc)
      by_live (Some cell) at = (
        cell,
        record {
          tip = tip;
          is_tip = is;
          live = ap (λ (blocks : List Block). live_cell blocks o) (best-is kept tip is) ∙ at;
          its_row = same_Some row (row_on kept tip cell) (sym some ∙ by-cell (Some cell) at);
        },
      )

none-made : (o : OutPoint) → live_cell [] o ≡ None
unfolding cell_after events last_naming
none-made o = refl

-- Where the rows are those of the tip's branch, no cell is live with an out-point that has no row,
pub no-live : (kept : List Block) (found : OutPoint → Option Row) → AreRowsOfTip kept found → (o : OutPoint) → found o ≡ None
    → live_cell (best_branch kept) o ≡ None
no-live kept found live o none = by_tip (tip_place kept) refl
  where
    by_tip : (tip : Option ℕ) → tip_place kept ≡ tip → live_cell (best_branch kept) o ≡ None
    by_tip None is = ap (λ (at : Option ℕ). live_cell (branch_at kept at) o) is ∙ none-made o
    by_tip (Some tip) is = no-cell kept found tip live is o none

-- and a row of a kept block is that of a cell that is live.
pub some-live : (kept : List Block) (found : OutPoint → Option Row) → AreRowsOfTip kept found → AreRowsOfKept kept found
    → (o : OutPoint) (row : Row) → found o ≡ Some row → (cell : Cell) × IsLiveRow kept o cell row
some-live kept found live of_kept o row some =
    let below = of_kept o row some in
    let tip = tip_place-there kept (omega (arith, below)) in
    row-cell kept found tip.0 live tip.1 o row some

-- a cell that is found is live
pub not-live : (kept : List Block) (o : OutPoint) (told : LiveValue) → IsLiveCell kept o (Some told) → IsLiveCell kept o None → ⊥
not-live kept o told found none = let live = found.1.live in absurd (cc (sym none ∙ live))

-- the block of a live row
pub made-of : (stored : List Stored) (entries : List Entry) (o : OutPoint) (cell : Cell) (row : Row) → IndexesBlocks (blocks_of stored) entries
    → IsLiveRow (blocks_of stored) o cell row → IsMadeAt stored entries o cell row
made-of stored entries o cell row indexed of_row =
    made-at stored entries of_row.tip o cell row indexed
    (omega (arith, len-same (blocks_of stored) entries indexed, tip_place-below (blocks_of stored) of_row.tip of_row.is_tip))
    (ap (λ (blocks : List Block). live_cell blocks o) (sym (best-is (blocks_of stored) of_row.tip of_row.is_tip)) ∙ of_row.live) of_row.its_row

-- and what its row names
pub names-of : (stored : List Stored) (o : OutPoint) (cell : Cell) (row : Row) → IsLiveRow (blocks_of stored) o cell row → NamesOutput stored o row cell
names-of stored o cell row of_row = record {
  made = kept.0;
  there = kept.1;
  output = subst (λ (b : Block). IsOutputOf b o cell) (sym kept.2) made.2;
  its_row = of_row.its_row ∙ ap (λ (block : ℕ). row_of block cell) (sym same);
}
  where
    made : (b : Block) × (block_at (branch (blocks_of stored) of_row.tip) cell.height ≡ Some b) × IsOutputOf b o cell
    made = cells-are-outputs (branch (blocks_of stored) of_row.tip) o cell
        (ap (λ (blocks : List Block). live_cell blocks o) (sym (best-is (blocks_of stored) of_row.tip of_row.is_tip)) ∙ of_row.live)

    place : PlaceOfHeight (blocks_of stored) of_row.tip cell.height made.0
    place = place-of-height (blocks_of stored) of_row.tip cell.height made.0 (tip_place-below (blocks_of stored) of_row.tip of_row.is_tip) made.1

    same : row.block ≡ slice_index (branch_places (blocks_of stored) of_row.tip) cell.height
    same = ap (λ (r : Row). r.block) of_row.its_row

    kept : (it : Stored) × (slice_get stored row.block ≡ Some it) × (it.block ≡ made.0)
    kept = stored-at stored row.block made.0 (ap (block_at (blocks_of stored)) same ∙ place.there)

-- ---- Where a cell is damaged

-- damage where an entry has its body is that of a kept block
pub of-entry : (entries : List Entry) (place : ℕ) (entry : Entry) (damage : Damage) → entry_at entries place ≡ Some entry
    → damage ≡ record { area = Log; at = entry.at } → IsOfBlock entries damage
of-entry entries place entry damage there is = (
  ap (λ (d : Damage). d.area) is,
  (place, subst (λ (found : Option Entry). IsSomeAnd found (λ e. damage.at ≡ e.at)) (sym there) (ap (λ (d : Damage). d.at) is)),
)
