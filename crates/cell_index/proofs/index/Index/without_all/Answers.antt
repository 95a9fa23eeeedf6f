use Rattle.std.proofs.Common.{◌+◌, ℕ, List, IsSome, drop, refl, sym, ap, subst}
use Rattle.chain_defs.specs.Schema.{OutPoint}
use Rattle.chain_defs.specs.Row.{Row}
use Rattle.chain_defs.specs.ByLock.{of_lock}
use Rattle.outside.proofs.Endings.{handed}
use Rattle.cell_index.proofs.LoopLemmas.{rows-from, rows-over, Going, go-one, go-all}
use Rattle.cell_index.proofs.index.Index.without_all.Goals as goal

pub go-init : goal.go-init
go-init c rows has there = record { now = rows; has = has; there = there; same = refl }

pub go-preserved : goal.go-preserved
go-preserved c rows has there =
    let all : List (OutPoint × Row) = c.args.list.now in
    let one : OutPoint × Row = c.go-item.result in
    let it = subst (λ (left : List (OutPoint × Row)). Going rows all left c.go.index) (rows-from all c.go.o-index one c.go-test.true (sym c.go-item.is)) (c.go.invariant rows has there) in
    go-one one (drop (c.go.o-index + 1) all) c.in-Ok.index it (c.in-Ok.ensures.rows it.now it.has (subst (λ (l : List ℕ). IsSome (of_lock l (it.now one.0))) (sym (ap (λ (r : Row). r.lock_hash) c.row.view_is)) it.there.0))

pub returns-in-Err-clause-odd : goal.returns-in-Err-clause-odd
returns-in-Err-clause-odd c rows has there same =
    let all : List (OutPoint × Row) = c.args.list.now in
    let one : OutPoint × Row = c.go-item.result in
    let it = subst (λ (left : List (OutPoint × Row)). Going rows all left c.go.index) (rows-from all c.go.o-index one c.go-test.true (sym c.go-item.is)) (c.go.invariant rows has there) in
    c.in-Err.ensures.odd it.now it.has (subst (λ (l : List ℕ). IsSome (of_lock l (it.now one.0))) (sym (ap (λ (r : Row). r.lock_hash) c.row.view_is)) it.there.0) (handed c.in-Err.stop _ same)

pub returns-clause-rows : goal.returns-clause-rows
returns-clause-rows c rows has there =
    let all : List (OutPoint × Row) = c.args.list.now in
    go-all (subst (λ (left : List (OutPoint × Row)). Going rows all left c.go.index) (rows-over all c.go.o-index c.go-test.false) (c.go.invariant rows has there))
