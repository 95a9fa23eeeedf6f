use Rattle.std.proofs.Common.{◌≡◌, ℕ, ◌<◌, ◌≤◌, true, List, None}
use Rattle.std.specs.List.{Contains}
use Rattle.std.specs.Str.{bytes_eq}
use Rattle.std.specs.HashSet.{contains}
use Rattle.chain_defs.specs.Branch.{branch}
use Rattle.chain_tree.specs.Told.{Stored, blocks_of}
use Rattle.chain_tree.specs.Reading.{HasRead}
use Rattle.rule_defs.specs.Fees.{Paid, paid_at}
use Rattle.rewards.specs.Reading.{AreKnownBlocks}
use Rattle.rewards.proofs.committed.committed_after.Given as goal

-- what the heights so far commit is among them; the source of blocks was read to a good end
abbrev pub invariant-commits : goal.invariant-commits
invariant-commits g l = record {
  read : HasRead g.B.Blocks.told g.B.Blocks.count g.B.Blocks.loans_of g.B.Blocks.faults g.B.Blocks.damages l.fn.blocks l.blocks None;
  among : (stored : List Stored) → AreKnownBlocks l.spec (g.B.Blocks.told l.fn.blocks) l.tree.entries stored → (commit : ℕ) (paid : Paid) → l.low ≤ commit
      → commit < l.height → Contains (paid_at l.spec (branch (blocks_of stored) l.parent) commit) paid → contains bytes_eq l.committed paid.id ≡ true;
}
