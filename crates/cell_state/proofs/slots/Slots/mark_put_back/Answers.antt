use Rattle.std.proofs.Common.{◌≡◌, ◌+◌, List, [], ◌∷◌, drop, refl, sym, ap, ◌∙◌, subst}
use Rattle.std.proofs.lemmas.Result.{err_from_is_err_and}
use Rattle.chain_defs.specs.Schema.{OutPoint}
use Rattle.chain_defs.specs.Row.{Row}
use Rattle.cell_state.specs.Passes.{made_mark}
use Rattle.cell_state.proofs.UndoPasses.{PuttingBack, putting-push, put-free, put-odd, put-unnamed, row-changes, rows-from, rows-over}
use Rattle.cell_state.proofs.slots.Slots.mark_put_back.Goals as goal

pub put-preserved : goal.put-preserved
put-preserved c =
    let all : List (OutPoint × Row) = c.args.spent.now in
    let i = c.put.o-index in
    let one : OutPoint × Row = c.put-item.result in
    putting-push all one (drop (i + 1) all) c.args.self.now c.put.self c.mark_made.new.self
    (subst (λ (left : List (OutPoint × Row)). PuttingBack all left c.args.self.now c.put.self) (rows-from all i one c.put-test.true (sym c.put-item.is)) c.put.invariant)
    c.in_ok-mark_made.ensures.ok
    (row-changes made_mark one one.0 c.put.self c.mark_made.new.self refl c.in_ok-mark_made.ensures.at) c.mark_made.ensures.spare

pub returns-in_err-mark_made-clause-odd : goal.returns-in_err-mark_made-clause-odd
returns-in_err-mark_made-clause-odd c =
    let all : List (OutPoint × Row) = c.args.spent.now in
    let i = c.put.o-index in
    let one : OutPoint × Row = c.put-item.result in
    let p = err_from_is_err_and c.from_residual.result c.from_residual.ensures.1 in
    rw (p.1, p.2, c.in_err-mark_made.ensures.odd)
    (put-odd all one (drop (i + 1) all) c.args.self.now c.put.self
    (subst (λ (left : List (OutPoint × Row)). PuttingBack all left c.args.self.now c.put.self) (rows-from all i one c.put-test.true (sym c.put-item.is)) c.put.invariant)
    c.in_err-mark_made.ensures.err)

pub returns-in_err-mark_made-clause-unnamed : goal.returns-in_err-mark_made-clause-unnamed
returns-in_err-mark_made-clause-unnamed c o none =
    c.in_err-mark_made.ensures.same o ∙ put-unnamed c.args.spent.now (drop c.put.o-index c.args.spent.now) c.args.self.now c.put.self c.put.invariant o none

pub returns-clause-free : goal.returns-clause-free
returns-clause-free c found there =
    let all : List (OutPoint × Row) = c.args.spent.now in
    put-free all c.args.self.now c.put.self
    (subst (λ (left : List (OutPoint × Row)). PuttingBack all left c.args.self.now c.put.self) (rows-over all c.put.o-index c.put-test.false) c.put.invariant)
    found there

pub returns-clause-unnamed : goal.returns-clause-unnamed
returns-clause-unnamed c o none =
    put-unnamed c.args.spent.now (drop c.put.o-index c.args.spent.now) c.args.self.now c.put.self c.put.invariant o none
