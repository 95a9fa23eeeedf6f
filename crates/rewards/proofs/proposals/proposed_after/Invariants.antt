use Rattle.std.proofs.Common.{◌≡◌, ◌-◌, ℕ, Bool, pos, List, None}
use Rattle.std.specs.List.{sum_by, range_with_len}
use Rattle.std.specs.Str.{bytes_eq}
use Rattle.std.specs.HashMap.{get}
use Rattle.chain_defs.specs.Dao.{as_u64}
use Rattle.chain_defs.specs.Branch.{branch}
use Rattle.chain_tree.specs.Told.{Stored, blocks_of}
use Rattle.chain_tree.specs.Reading.{HasRead}
use Rattle.rule_defs.specs.Reward.{proposer_part}
use Rattle.rewards.specs.Starts.{AreStarts, AsksForCommits}
use Rattle.rewards.specs.Reading.{AreKnownBlocks}
use Rattle.rewards.proofs.proposals.proposed_after.Given as goal

-- the sum over the heights so far; the source of blocks was read to a good end
abbrev pub invariant-commits : goal.invariant-commits
invariant-commits g l = record {
  read : HasRead g.B.Blocks.told g.B.Blocks.count g.B.Blocks.loans_of g.B.Blocks.faults g.B.Blocks.damages l.fn.blocks l.blocks None;
  sum : (stored : List Stored) (asked : List ℕ → Bool) → AreKnownBlocks l.spec (g.B.Blocks.told l.fn.blocks) l.tree.entries stored
      → AsksForCommits l.spec (branch (blocks_of stored) l.parent) l.proposer asked
      → AreStarts l.spec (branch (blocks_of stored) l.parent) l.proposer asked (get bytes_eq l.starts)
      → l.sum ≡ as_u64 (pos (sum_by (proposer_part l.spec (branch (blocks_of stored) l.parent) l.proposer) (range_with_len l.low (l.height - l.low))));
}
