use Rattle.std.proofs.Common.{Some, ap, rules}
use Rattle.snapshots.proofs.LoadLemmas.{no-form, only-this, not-kept, not-within, not-after}
use Rattle.snapshots.proofs.loading.next_row.Goals as goal

pub returns-in_default-clause-exact : goal.returns-in_default-clause-exact
returns-in_default-clause-exact c = λ it next. absurd (no-form c.args.kept c.args.last.now c.args.row.now it c.in_default.ensures.found next)

pub returns-then-meta-kept-clause-exact : goal.returns-then-meta-kept-clause-exact
returns-then-meta-kept-clause-exact c = λ it next.
    absurd (not-kept c.args.kept c.args.last.now c.args.row.now _ it c.in-Some.ensures.fits c.in-Some.ensures.bytes (search rules) next)

pub returns-then-meta-clause-exact : goal.returns-then-meta-clause-exact
returns-then-meta-clause-exact c = λ it next.
    absurd (not-within c.args.kept c.args.last.now c.args.row.now _ it c.in-Some.ensures.fits c.in-Some.ensures.bytes (search rules) next)

pub returns-then-is_after-clause-exact : goal.returns-then-is_after-clause-exact
returns-then-is_after-clause-exact c = λ it next.
    ap Some (only-this c.args.kept c.args.last.now c.args.row.now _ it c.in-Some.ensures.fits c.in-Some.ensures.bytes next)

pub returns-else-is_after-clause-exact : goal.returns-else-is_after-clause-exact
returns-else-is_after-clause-exact c = λ it next.
    absurd (not-after c.args.kept c.args.last.now c.args.row.now _ it c.in-Some.ensures.fits c.in-Some.ensures.bytes (search rules) next)
