-- Each row of the live cells is of a kept block: where they are made, and where one more block is kept.
use Rattle.std.proofs.Common.{◌≡◌, ℕ, ◌+◌, ◌<◌, ◌≤◌, List, [], ◌∷◌, ◌++◌, length, Option, ap, ◌∙◌, arith}
use Rattle.std.proofs.lemmas.List.{length_push}
use Rattle.chain_defs.specs.Schema.{OutPoint, Block}
use Rattle.chain_defs.specs.Row.{Row, live_row}
use Rattle.chain_tree.specs.declared.entry.Entry.{Entry}
use Rattle.chain_tree.specs.Blocks.{IndexesBlocks}
use Rattle.chain_tree.proofs.BlockLemmas.{len-same}
use Rattle.cell_state.specs.Moves.{AreRowsOfBranch, AreRowsBelow}
use Rattle.cell_state.proofs.BelowLemmas.{below-same, live-below}
use Rattle.node_store.specs.Kept.{AreRowsOfKept}

-- those of the genesis
pub below-genesis : (kept : List Block) (entries : List Entry) (cells : OutPoint → Option Row) → IndexesBlocks kept entries → 0 < length entries
    → AreRowsOfBranch kept 0 cells → AreRowsOfKept kept cells
below-genesis kept entries cells indexed some are =
    below-same cells (live_row kept 0) (length kept) are (live-below kept 0 (length kept) (omega (arith, some, len-same kept entries indexed)))

below-more : (cells : OutPoint → Option Row) (place end : ℕ) → place ≤ end → AreRowsBelow place cells → AreRowsBelow end cells
below-more cells place end less below o row is = let under = below o row is in omega (arith, less, under)

-- those of the tip once one more block is kept
pub below-joined : (kept seen after : List Block) (b : Block) (entries : List Entry) (before next : OutPoint → Option Row) → kept ≡ seen → after ≡ kept ++ b ∷ []
    → IndexesBlocks kept entries → ((end : ℕ) → length entries < end → AreRowsBelow end before → AreRowsBelow end next) → AreRowsOfKept seen before → AreRowsOfKept after next
below-joined kept seen after b entries before next same grown indexed moves are =
    let long : length after ≡ length kept + 1 = ap length grown ∙ length_push kept b in
    moves (length after) (omega (arith, long, len-same kept entries indexed))
    (below-more before (length seen) (length after) (omega (arith, long, ap length same)) are)
