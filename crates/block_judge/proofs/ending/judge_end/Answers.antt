use Rattle.std.proofs.Common.{Some, sym, ap, ◌∙◌}
use Rattle.chain_defs.specs.Branch.{branch}
use Rattle.chain_tree.specs.Told.{blocks_of}
use Rattle.block_judge.proofs.Exits.{same_rule}
use Rattle.block_judge.proofs.EndingLemmas.{breaks-31, breaks-32, keeps-end}
use Rattle.block_judge.proofs.ending.judge_end.Goals as goal

pub returns-in-Ok-false-clause-broken : goal.returns-in-Ok-false-clause-broken
returns-in-Ok-false-clause-broken g c stored tells indexes own moved rule same =
    breaks-31 c.args.context.now.spec.now (branch (blocks_of stored) c.args.context.now.parent) c.args.block.now
    (sym (c.in-Ok-false.ensures.pays stored tells indexes own) ∙ c.in-Ok-false.field-0-test) ∙ ap Some (same_rule same)

pub returns-then-not-has_next_dao-clause-broken : goal.returns-then-not-has_next_dao-clause-broken
returns-then-not-has_next_dao-clause-broken g c stored tells indexes own moved rule same =
    breaks-32 c.args.context.now.spec.now (branch (blocks_of stored) c.args.context.now.parent) c.args.block.now
    (sym (c.in-Ok-true.ensures.pays stored tells indexes own) ∙ c.in-Ok-true.field-0-test)
    (sym (c.has_next_dao.ensures.next (blocks_of stored) indexes moved) ∙ c.if-not-has_next_dao.true) ∙ ap Some (same_rule same)

pub returns-clause-unbroken : goal.returns-clause-unbroken
returns-clause-unbroken g c stored tells indexes own moved =
    keeps-end c.args.context.now.spec.now (branch (blocks_of stored) c.args.context.now.parent) c.args.block.now
    (sym (c.in-Ok-true.ensures.pays stored tells indexes own) ∙ c.in-Ok-true.field-0-test)
    (sym (c.has_next_dao.ensures.next (blocks_of stored) indexes moved) ∙ c.if-not-has_next_dao.false)
