use Rattle.std.proofs.Common.{◌≡◌, ◌-◌, ℕ, ◌<◌, ◌≤◌, List, Some, None}
use Rattle.std.specs.List.{list_any, range_with_len}
use Rattle.std.specs.Str.{bytes_eq}
use Rattle.chain_defs.specs.Branch.{branch}
use Rattle.chain_tree.specs.Blocks.{IndexesBlocks}
use Rattle.chain_tree.specs.Told.{Stored, blocks_of}
use Rattle.chain_tree.specs.Reading.{HasRead}
use Rattle.rule_defs.specs.Window.{proposes_at}
use Rattle.proposal_window.proofs.proposed.Proposed.of.Given as goal

-- the ids are those that the branch proposes at the heights of the window so far; the source of blocks was read to a good end
abbrev pub invariant-window : goal.invariant-window
invariant-window g l = record {
  read : HasRead g.B.Blocks.told g.B.Blocks.count g.B.Blocks.loans_of g.B.Blocks.faults g.B.Blocks.damages l.fn.blocks l.blocks None;
  from : l.low ≤ l.proposer;
  within : l.low < l.proposer → l.proposer ≤ l.end;
  added : (stored : List Stored) → g.B.Blocks.told l.fn.blocks ≡ Some stored → IndexesBlocks (blocks_of stored) l.tree.entries → (id : List ℕ)
      → list_any (bytes_eq id) l.ids.items ≡ list_any (proposes_at (branch (blocks_of stored) l.parent) id) (range_with_len l.low (l.proposer - l.low));
}
