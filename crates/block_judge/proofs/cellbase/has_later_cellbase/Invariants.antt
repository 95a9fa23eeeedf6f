use Rattle.std.proofs.Common.{◌≡◌, drop}
use Rattle.std.specs.List.{list_any}
use Rattle.rule_defs.specs.Cellbase.{is_cellbase}
use Rattle.block_judge.proofs.cellbase.has_later_cellbase.Given as goal

abbrev pub invariant-later : goal.invariant-later
invariant-later l = list_any is_cellbase (drop 1 l.block.transactions) ≡ list_any is_cellbase (drop l.i l.block.transactions)
