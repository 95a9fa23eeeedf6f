use Rattle.std.proofs.Common.{List, None, take}
use Rattle.chain_defs.specs.Branch.{branch}
use Rattle.chain_tree.specs.Told.{Stored, blocks_of}
use Rattle.chain_tree.specs.Reading.{HasRead}
use Rattle.supply.specs.Standing.{AreTotalsOf, AreBounded, HaveJoined}
use Rattle.supply.proofs.totals.Totals.of_branch.Given as goal

-- the totals are those of the blocks below the height; the source of blocks was read to a good end
abbrev pub invariant-heights : goal.invariant-heights
invariant-heights g l = record {
  read : HasRead g.B.Blocks.told g.B.Blocks.count g.B.Blocks.loans_of g.B.Blocks.faults g.B.Blocks.damages l.fn.blocks l.blocks None;
  bounded : AreBounded l.totals;
  totals : (stored : List Stored) → HaveJoined l.spec (g.B.Blocks.told l.fn.blocks) l.tree.entries stored
      → AreTotalsOf l.spec (take l.height (branch (blocks_of stored) l.e)) l.totals;
}
