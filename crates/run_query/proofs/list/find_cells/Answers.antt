use Rattle.std.proofs.Common.{List, sym, ap, ◌∙◌, subst}
use Rattle.std.specs.List.{filter}
use Rattle.chain_defs.specs.Schema.{OutPoint}
use Rattle.cell_state.specs.State.{StateValue, rows}
use Rattle.chain_defs.specs.Row.{Row, ListsRows}
use Rattle.run_query.specs.Queries.{is_of}
use Rattle.run_query.proofs.ListLemmas.{kept-by-lock, listed-at-tip}
use Rattle.run_query.proofs.list.find_cells.Goals as goal

pub returns : goal.returns
returns c live =
    let kept = c.args.node.now.chain.blocks in
    let lock = c.args.lock.now in
    let all : List (OutPoint × Row) = c.deref.result.now in
    let is_tip = c.tip-tip.ensures.of_blocks kept c.tree.ensures.indexed in
    let lists = subst (λ (l : List (OutPoint × Row)). ListsRows (rows c.state.result.now) l) (sym c.deref.ensures.value) c.in_ok-rows.ensures in
    c.in_ok-cells.ensures ∙ listed-at-tip kept c.tip-tip.result lock (filter (is_of lock) all) is_tip
    (kept-by-lock (rows c.state.result.now) kept c.tip-tip.result lock all
    (λ o. ap (λ (s : StateValue). rows s o) c.state.ensures.cells ∙ live c.tip-tip.result is_tip o) lists)
