use Rattle.std.proofs.Common.{◌≡◌, Option, None, drop}
use Rattle.chain_defs.specs.Schema.{OutPoint}
use Rattle.chain_defs.specs.Row.{Row}
use Rattle.chain_defs.specs.Undo.{first_live}
use Rattle.cell_index.specs.Index.{Holds}
use Rattle.cell_index.proofs.LoopLemmas.{Coming}
use Rattle.cell_index.proofs.index.Index.with_all.Given as goal

abbrev pub invariant-come : goal.invariant-come
invariant-come l = (rows : OutPoint → Option Row) → Holds rows l.fn.self → first_live l.list rows ≡ None → Coming rows l.list (drop l.o-index l.list) l.index
