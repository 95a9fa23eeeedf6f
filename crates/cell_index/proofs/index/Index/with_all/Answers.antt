use Rattle.std.proofs.Common.{◌+◌, List, drop, refl, sym, subst}
use Rattle.chain_defs.specs.Schema.{OutPoint}
use Rattle.chain_defs.specs.Row.{Row}
use Rattle.outside.proofs.Endings.{handed}
use Rattle.cell_index.proofs.LoopLemmas.{rows-from, rows-over, Coming, next-free, come-one, come-all}
use Rattle.cell_index.proofs.index.Index.with_all.Goals as goal

pub come-init : goal.come-init
come-init c rows has free = record { now = rows; has = has; free = free; same = refl }

pub come-preserved : goal.come-preserved
come-preserved c rows has free =
    let all : List (OutPoint × Row) = c.args.list.now in
    let one : OutPoint × Row = c.come-item.result in
    let it = subst (λ (left : List (OutPoint × Row)). Coming rows all left c.come.index) (rows-from all c.come.o-index one c.come-test.true (sym c.come-item.is)) (c.come.invariant rows has free) in
    come-one one (drop (c.come.o-index + 1) all) c.in-Ok.index it (c.in-Ok.ensures.rows it.now it.has (next-free one (drop (c.come.o-index + 1) all) it))

pub returns-in-Err-clause-odd : goal.returns-in-Err-clause-odd
returns-in-Err-clause-odd c rows has free same =
    let all : List (OutPoint × Row) = c.args.list.now in
    let one : OutPoint × Row = c.come-item.result in
    let it = subst (λ (left : List (OutPoint × Row)). Coming rows all left c.come.index) (rows-from all c.come.o-index one c.come-test.true (sym c.come-item.is)) (c.come.invariant rows has free) in
    c.in-Err.ensures.odd it.now it.has (next-free one (drop (c.come.o-index + 1) all) it) (handed c.in-Err.stop _ same)

pub returns-clause-rows : goal.returns-clause-rows
returns-clause-rows c rows has free =
    let all : List (OutPoint × Row) = c.args.list.now in
    come-all (subst (λ (left : List (OutPoint × Row)). Coming rows all left c.come.index) (rows-over all c.come.o-index c.come-test.false) (c.come.invariant rows has free))
