use Rattle.std.proofs.Common.{◌+◌, ◌<◌, sym, ap, ◌∙◌, subst}
use Rattle.std.specs.Int.{w128}
use Rattle.std.proofs.lemmas.Int.{to_z-of_z}
use Rattle.chain_defs.specs.Specification.{Specification}
use Rattle.chain_defs.specs.Dao.{DaoField}
use Rattle.chain_defs.proofs.RatedLemmas.{rated-parts}
use Rattle.chain_defs.specs.Branch.{branch}
use Rattle.rule_defs.specs.Shares.{primary_at, secondary_at}
use Rattle.tx_rules.proofs.BranchLemmas.{branch-long}
use Rattle.block_judge.proofs.EndingLemmas.{movement-same, field-before}
use Rattle.tx_pool.proofs.SealingLemmas.{next-same}
use Rattle.tx_pool.proofs.sealing.dao_after.Goals as goal

pub next_field-requires : goal.next_field-requires
next_field-requires c =
    subst (λ (field : DaoField). 0 < field.issued) (sym c.read.ensures.field)
    (rated-parts c.entry-before.result.now.dao (c.requires.placed.rated c.args.parent c.entry-before.result.now c.entry-before.ensures.entry)).0

pub returns : goal.returns
returns c kept indexes moved =
    let high = branch-long kept c.args.tree.now.entries c.args.parent c.entry-before.result.now indexes c.entry-before.ensures.entry in
    next-same c.args.spec.now (branch kept c.args.parent) c.args.block.now _ _ _ c.next_field.ensures
    (c.read.ensures.field ∙ sym (field-before kept c.args.tree.now.entries c.args.parent c.entry-before.result.now indexes c.entry-before.ensures.entry))
    (movement-same c.args.spec.now (branch kept c.args.parent) c.args.block.now c.primary.result c.share.result _ c.made_in.result c.args.freed
    (c.primary.ensures ∙ ap (primary_at c.args.spec.now) high)
    (c.share.ensures.share ∙ ap (λ (spec : Specification). secondary_at spec (c.entry-before.result.now.number + 1)) c.spec.view_is ∙ ap (secondary_at c.args.spec.now) high)
    c.made_in.ensures (record { interest_is = to_z-of_z w128 c.args.interest c.ranges.interest ∙ moved.interest_is; freed_is = moved.freed_is }))
