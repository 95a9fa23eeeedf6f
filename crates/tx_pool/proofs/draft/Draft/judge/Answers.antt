use Rattle.std.proofs.Common.{sym, ap, ◌∙◌, subst}
use Rattle.chain_defs.specs.Branch.{branch}
use Rattle.chain_tree.specs.Told.{blocks_of}
use Rattle.rule_defs.specs.RuleNumber.{rule_number}
use Rattle.verdict_defs.specs.Judged.{judged_alone}
use Rattle.block_judge.specs.Answers.{StopsAs}
use Rattle.block_judge.specs.Appending.{next_site}
use Rattle.block_judge.specs.Standing.{seen}
use Rattle.block_judge.specs.declared.stop.JudgeStop.TheVariants.{Read}
use Rattle.block_judge.proofs.Exits.{same_stop}
use Rattle.tx_pool.specs.Draft.{draft_of}
use Rattle.tx_pool.proofs.DraftLemmas.{judged-commits, refused-so-far, sees-as, so-far-as}
use Rattle.tx_pool.proofs.draft.Draft.judge.Goals as goal

pub returns-in-Err-Broken-clause-judged : goal.returns-in-Err-Broken-clause-judged
returns-in-Err-Broken-clause-judged g c stored so_far tells is begins proposed =
    let sees = sees-as stored (seen g.C.Cells.rows c.args.context.now) so_far (draft_of g.C.Cells.rows c.args.self.now) is c.args.tx.now c.deref.result.now c.deref.ensures.value in
    refused-so-far stored (seen g.C.Cells.rows c.args.context.now) so_far (draft_of g.C.Cells.rows c.args.self.now) is c.args.tx.now c.deref.result.now c.deref.ensures.value
    _ c.in-Err-Broken.rule c.number.result c.in-Err-Broken.field-0-is (c.number.ensures ∙ ap rule_number c.in-Err-Broken.rule-is) proposed
    (c.in-Err-Broken.ensures.exact stored tells sees)

pub returns-in-Ok-commit-clause-judged : goal.returns-in-Ok-commit-clause-judged
returns-in-Ok-commit-clause-judged g c stored so_far tells is begins proposed =
    let sees = sees-as stored (seen g.C.Cells.rows c.args.context.now) so_far (draft_of g.C.Cells.rows c.args.self.now) is c.args.tx.now c.deref.result.now c.deref.ensures.value in
    let commits = judged-commits stored (seen g.C.Cells.rows c.args.context.now) so_far (draft_of g.C.Cells.rows c.args.self.now) is c.args.tx.now c.deref.result.now c.deref.ensures.value
    c.in-Ok.passed proposed (c.in-Ok.ensures.exact stored tells sees) in
    so-far-as stored (seen g.C.Cells.rows c.args.context.now) _ _ _ commits.0 (c.in-Ok-commit.ensures.committed stored so_far is begins commits.1)

pub returns-in-Err-Read-clause-undamaged : goal.returns-in-Err-Read-clause-undamaged
returns-in-Err-Read-clause-undamaged g c stored so_far tells is damage same =
    subst (StopsAs (judged_alone (next_site c.args.context.now.spec.now (branch (blocks_of stored) c.args.context.now.parent) c.args.self.now.timestamp c.deref.result.now) c.args.self.now.left c.args.tx.now))
    (c.in-Err-Read.field-0-is ∙ ap Read (sym c.in-Err-Read.stop-is ∙ same_stop same))
    (c.in-Err-Read.ensures.exact stored tells (sees-as stored (seen g.C.Cells.rows c.args.context.now) so_far (draft_of g.C.Cells.rows c.args.self.now) is c.args.tx.now
    c.deref.result.now c.deref.ensures.value))
