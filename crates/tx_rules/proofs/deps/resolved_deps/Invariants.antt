use Rattle.std.proofs.Common.{◌≡◌, Some, List, map, take, None}
use Rattle.std.specs.Option.{option_map}
use Rattle.chain_tree.specs.Told.{Stored, blocks_of}
use Rattle.rule_defs.specs.Site.{Site}
use Rattle.tx_rules.specs.At.{IsSiteOf, found_row}
use Rattle.chain_tree.specs.Reading.{HasRead}
use Rattle.tx_rules.proofs.DepLemmas.{cells_of_deps}
use Rattle.tx_rules.proofs.deps.resolved_deps.Given as goal

-- the rows of the deps before the i-th; the source of blocks was read to a good end
abbrev pub invariant-deps : goal.invariant-deps
invariant-deps g l = record {
  read : HasRead g.B.Blocks.told g.B.Blocks.count g.B.Blocks.loans_of g.B.Blocks.faults g.B.Blocks.damages l.fn.blocks l.blocks None;
  rows : (stored : List Stored) (site : Site) → g.B.Blocks.told l.fn.blocks ≡ Some stored → IsSiteOf stored l.at (g.C.Cells.rows l.cells) site
      → Some l.found.items ≡ option_map (map (found_row (blocks_of stored) l.at.parent)) (cells_of_deps site (take l.i l.raw.cell_deps));
}
