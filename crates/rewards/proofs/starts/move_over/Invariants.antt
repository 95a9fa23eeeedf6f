use Rattle.std.proofs.Common.{◌≡◌, ℕ, Bool, ◌&&◌, cond, List, Some, None}
use Rattle.std.specs.Str.{bytes_eq}
use Rattle.std.specs.HashMap.{get}
use Rattle.chain_defs.specs.Branch.{branch}
use Rattle.chain_tree.specs.Blocks.{IndexesBlocks}
use Rattle.chain_tree.specs.Told.{Stored, blocks_of}
use Rattle.chain_tree.specs.Reading.{HasRead}
use Rattle.rule_defs.specs.Window.{proposes_at}
use Rattle.rewards.proofs.StartLemmas.{AreMoved}
use Rattle.rewards.proofs.starts.move_over.Given as goal

-- the starts were moved over the heights so far; the source of blocks was read to a good end
abbrev pub invariant-lower : goal.invariant-lower
invariant-lower g l = record {
  read : HasRead g.B.Blocks.told g.B.Blocks.count g.B.Blocks.loans_of g.B.Blocks.faults g.B.Blocks.damages l.fn.blocks l.blocks None;
  moved : (stored : List Stored) (asked : List ℕ → Bool) → g.B.Blocks.told l.fn.blocks ≡ Some stored → IndexesBlocks (blocks_of stored) l.tree.entries
      → ((id : List ℕ) → get bytes_eq l.fn.starts id ≡ cond (proposes_at (branch (blocks_of stored) l.parent) id l.proposer && asked id) (Some 0) None)
      → AreMoved l.spec.w_far (branch (blocks_of stored) l.parent) asked l.proposer l.low l.height (get bytes_eq l.starts);
}
