use Rattle.std.proofs.Common.{true, false, sym, ◌∙◌}
use Rattle.tx_rules.proofs.AgeLemmas.{start-by}
use Rattle.tx_rules.proofs.age.start_at.Goals as goal

pub returns-then-is_second-clause-start : goal.returns-then-is_second-clause-start
returns-then-is_second-clause-start c stored rows site found is median its =
    start-by site found.cell.height c.block_start.result true (sym (c.is_second.ensures stored rows site is) ∙ c.if-is_second.true)
    (c.block_start.ensures.start stored rows site found is its)

pub returns-then-is_second-clause-undamaged : goal.returns-then-is_second-clause-undamaged
returns-then-is_second-clause-undamaged c stored rows site found is median its damage broken =
    c.block_start.ensures.undamaged stored rows site found is its damage broken

pub returns-else-is_second-clause-start : goal.returns-else-is_second-clause-start
returns-else-is_second-clause-start c stored rows site found is median its =
    start-by site found.cell.height c.median_start.result false (sym (c.is_second.ensures stored rows site is) ∙ c.if-is_second.false)
    (c.median_start.ensures.start stored rows site found is median its)
