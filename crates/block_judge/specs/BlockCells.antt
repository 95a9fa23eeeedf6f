-- The cells that the next transaction of a block sees.
use Rattle.std.specs.Prelude.{Option}
use Rattle.chain_defs.specs.Schema.{OutPoint}
use Rattle.chain_defs.specs.Row.{Row}
use Rattle.block_judge.specs.declared.block_cells.BlockCells.{BlockCells}
use Rattle.block_judge.specs.Changes.{with_changes}

-- Their rows: those of the branch's cells, whatever these have as rows, with what the transactions so far changed.
abbrev pub rows_in : {C : Type 0} → (C → OutPoint → Option Row) → BlockCells C → OutPoint → Option Row
rows_in rows cells = with_changes cells.changed (rows cells.base.now)
