use Rattle.std.proofs.Common.{List, refl, sym, ap, ◌∙◌, subst}
use Rattle.std.specs.List.{filter}
use Rattle.chain_defs.specs.Schema.{OutPoint}
use Rattle.chain_defs.specs.Row.{Row, ListsRows}
use Rattle.chain_defs.proofs.ByLockLaws.{lists-by-lock}
use Rattle.cell_state.specs.State.{rows}
use Rattle.cell_index.specs.Balance.{is_of, sum_of}
use Rattle.cell_index.proofs.OfLockLemmas.{kept-by-lock}
use Rattle.cell_index.proofs.balance.Balance.of.Goals as goal

pub returns : goal.returns
returns c kept place are =
    let lock = c.args.lock.now in
    let list : List (OutPoint × Row) = c.deref.result.now in
    let lists = subst (λ (l : List (OutPoint × Row)). ListsRows (rows c.args.state.now) l) (sym c.deref.ensures.value) c.in-Ok.ensures in
    record {
      lock_is = refl;
      sum_is = c.sum_in-sum.ensures ∙ ap (λ (l : List (OutPoint × Row)). sum_of l)
          ((lists-by-lock kept place lock (filter (is_of lock) list)).0 (kept-by-lock (rows c.args.state.now) kept place lock list are lists));
    }
