use Rattle.std.proofs.Common.{Option, drop}
use Rattle.chain_defs.specs.Schema.{OutPoint}
use Rattle.chain_defs.specs.Row.{Row}
use Rattle.cell_index.specs.Index.{Holds, AreThere}
use Rattle.cell_index.proofs.LoopLemmas.{Going}
use Rattle.cell_index.proofs.index.Index.without_all.Given as goal

abbrev pub invariant-go : goal.invariant-go
invariant-go l = (rows : OutPoint → Option Row) → Holds rows l.fn.self → AreThere l.list rows → Going rows l.list (drop l.o-index l.list) l.index
