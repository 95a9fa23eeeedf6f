use Rattle.std.proofs.Common.{◌≡◌, ℕ, ◌<◌, ◌≤◌, false, List, Some, None}
use Rattle.chain_defs.specs.Branch.{branch}
use Rattle.chain_tree.specs.Blocks.{IndexesBlocks}
use Rattle.chain_tree.specs.Told.{Stored, blocks_of}
use Rattle.chain_tree.specs.Reading.{HasRead}
use Rattle.rule_defs.specs.Window.{proposes_at}
use Rattle.proposal_window.proofs.proposers.earliest.Given as goal

-- the branch proposes the id at no height of the window so far; the source of blocks was read to a good end
abbrev pub invariant-window : goal.invariant-window
invariant-window g l = record {
  read : HasRead g.B.Blocks.told g.B.Blocks.count g.B.Blocks.loans_of g.B.Blocks.faults g.B.Blocks.damages l.fn.blocks l.blocks None;
  from : l.low ≤ l.proposer;
  none : (stored : List Stored) → g.B.Blocks.told l.fn.blocks ≡ Some stored → IndexesBlocks (blocks_of stored) l.tree.entries
      → (height : ℕ) → l.low ≤ height → height < l.proposer → proposes_at (branch (blocks_of stored) l.parent) l.id height ≡ false;
}
