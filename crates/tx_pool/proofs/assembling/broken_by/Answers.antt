use Rattle.std.proofs.Common.{true, false, Some, sym, ap, ◌∙◌, subst}
use Rattle.std.specs.Prelude.{Err}
use Rattle.chain_defs.specs.Branch.{branch}
use Rattle.chain_tree.specs.Told.{blocks_of}
use Rattle.rule_defs.specs.RuleNumber.{rule_number}
use Rattle.verdict_defs.specs.Judged.{judged_block}
use Rattle.verdict_defs.proofs.JudgedLemmas.{block-breaks-first, block-passes-by}
use Rattle.block_judge.specs.Answers.{StopsAs}
use Rattle.block_judge.specs.Standing.{judged_left}
use Rattle.block_judge.specs.declared.stop.JudgeStop.TheVariants.{Read}
use Rattle.block_judge.proofs.Exits.{same_stop}
use Rattle.block_judge.proofs.SightLemmas.{first-at-sight}
use Rattle.tx_pool.proofs.AssemblingLemmas.{known-as, breaks-2, after-2}
use Rattle.tx_pool.proofs.assembling.broken_by.Goals as goal

pub returns-then-is_some-clause-broken : goal.returns-then-is_some-clause-broken
returns-then-is_some-clause-broken g c stored tells stands =
    breaks-2 _ _ (known-as (blocks_of stored) c.args.block.now c.block_hash.result c.find.result true
    (c.find.ensures.of_blocks (blocks_of stored) stands.stands.indexed) c.block_hash.ensures (sym c.is_some.ensures ∙ c.if-is_some.true))

pub returns-in-Err-Broken-clause-broken : goal.returns-in-Err-Broken-clause-broken
returns-in-Err-Broken-clause-broken g c stored tells stands =
    after-2 _ _ _ (known-as (blocks_of stored) c.args.block.now c.block_hash.result c.find.result false
    (c.find.ensures.of_blocks (blocks_of stored) stands.stands.indexed) c.block_hash.ensures (sym c.is_some.ensures ∙ c.if-is_some.false))
    (ap Some (c.number.ensures ∙ ap rule_number c.in-Err-Broken.rule-is)
    ∙ sym (first-at-sight c.args.context.now.spec.now (branch (blocks_of stored) c.args.context.now.parent) c.args.block.now (rule_number c.in-Err-Broken.rule)
    (c.in-Err-Broken.ensures.broken (blocks_of stored) stands.stands.indexed stands.uncles c.in-Err-Broken.rule (ap Err c.in-Err-Broken.field-0-is))))

pub returns-in-Ok-judge-clause-broken : goal.returns-in-Ok-judge-clause-broken
returns-in-Ok-judge-clause-broken g c stored tells stands =
    after-2 _ _ _ (known-as (blocks_of stored) c.args.block.now c.block_hash.result c.find.result false
    (c.find.ensures.of_blocks (blocks_of stored) stands.stands.indexed) c.block_hash.ensures (sym c.is_some.ensures ∙ c.if-is_some.false))
    (sym (block-passes-by c.args.context.now.spec.now (blocks_of stored) c.args.context.now.parent c.args.block.now _
    ((c.in-Ok-judge.ensures.exact stored tells stands).all (c.in-Ok.ensures.unbroken (blocks_of stored) stands.stands.indexed stands.uncles))).0)

pub returns-in-Err-Broken-judge-clause-broken : goal.returns-in-Err-Broken-judge-clause-broken
returns-in-Err-Broken-judge-clause-broken g c stored tells stands =
    after-2 _ _ _ (known-as (blocks_of stored) c.args.block.now c.block_hash.result c.find.result false
    (c.find.ensures.of_blocks (blocks_of stored) stands.stands.indexed) c.block_hash.ensures (sym c.is_some.ensures ∙ c.if-is_some.false))
    (ap Some (c.number-in-Err-Broken-judge.ensures ∙ ap rule_number c.in-Err-Broken-judge.rule-is)
    ∙ sym (block-breaks-first c.args.context.now.spec.now (blocks_of stored) c.args.context.now.parent c.args.block.now (rule_number c.in-Err-Broken-judge.rule)
    (subst (StopsAs (judged_block c.args.context.now.spec.now (blocks_of stored) c.args.context.now.parent c.args.block.now))
    c.in-Err-Broken-judge.field-0-is
    ((c.in-Err-Broken-judge.ensures.exact stored tells stands).all (c.in-Ok.ensures.unbroken (blocks_of stored) stands.stands.indexed stands.uncles)))))

pub returns-clause-undamaged : goal.returns-clause-undamaged
returns-clause-undamaged g c stored tells stands damage same =
    subst (StopsAs (judged_left c.args.context.now.spec.now (blocks_of stored) c.args.context.now.parent c.args.block.now))
    (c.in-Err-Read-judge.field-0-is ∙ ap Read (sym c.in-Err-Read-judge.stop-is ∙ same_stop same)) (c.in-Err-Read-judge.ensures.exact stored tells stands).left
