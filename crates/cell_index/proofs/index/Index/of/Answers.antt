use Rattle.std.proofs.Common.{List, sym, subst}
use Rattle.std.proofs.lemmas.Result.{IfOk-weaker}
use Rattle.chain_defs.specs.Schema.{OutPoint}
use Rattle.chain_defs.specs.Row.{Row, live_row, ListsRows}
use Rattle.cell_state.specs.State.{rows}
use Rattle.cell_index.specs.Index.{Holds, IndexesBranch}
use Rattle.cell_index.proofs.FollowLemmas.{holds-same}
use Rattle.cell_index.proofs.index.Index.of.Goals as goal

pub returns-in-Ok : goal.returns-in-Ok
returns-in-Ok c kept place are =
    let lists = subst (λ (l : List (OutPoint × Row)). ListsRows (rows c.args.state.now) l) (sym c.deref.ensures.value) c.in-Ok.ensures in
    IfOk-weaker c.of_rows.result (Holds (rows c.args.state.now)) (IndexesBranch kept place) (λ index has. holds-same (rows c.args.state.now) (live_row kept place) index are has)
    (c.of_rows.ensures (rows c.args.state.now) lists)
