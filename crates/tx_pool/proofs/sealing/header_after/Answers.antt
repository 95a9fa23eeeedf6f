use Rattle.std.proofs.Common.{◌+◌, ap, ◌∙◌, subst}
use Rattle.chain_defs.specs.Shape.{IsEncoding}
use Rattle.chain_defs.specs.Schema.{Header, header}
use Rattle.chain_defs.specs.Specification.{Specification}
use Rattle.chain_defs.specs.Branch.{branch}
use Rattle.tx_rules.proofs.BranchLemmas.{branch-long}
use Rattle.pool_rows.proofs.Fits.{of-value}
use Rattle.tx_pool.proofs.SealingLemmas.{header-same, epoch-same}
use Rattle.tx_pool.proofs.sealing.header_after.Goals as goal

pub returns-clause-canonical : goal.returns-clause-canonical
returns-clause-canonical c = of-value c.header_row.result (λ row is. (_, is)) c.header_row.ensures.header

pub returns-clause-header : goal.returns-clause-header
returns-clause-header c kept indexes =
    let there = c.entry-before.ensures.entry in
    let high = branch-long kept c.args.tree.now.entries c.args.parent c.entry-before.result.now indexes there in
    let epoch =
    epoch-same c.field-epoch.result c.epoch_of.result.number c.epoch_of.result.index c.epoch_of.result.length c.spec.inside.epoch_length (c.entry-before.result.now.number + 1) c.args.spec.now
    (branch kept c.args.parent) c.field-epoch.ensures.value c.epoch_of.ensures.number c.epoch_of.ensures.index c.epoch_of.ensures.length
    (ap (λ (spec : Specification). spec.epoch_length) c.spec.view_is) high in
    of-value c.header_row.result
    (λ row is. subst (λ (h : Header). IsEncoding header row.items h)
    (header-same c.args.spec.now kept c.args.tree.now.entries c.args.parent c.entry-before.result.now c.args.commitments.now c.spec.inside.compact_target
    c.timestamp_on-timestamp.result (c.entry-before.result.now.number + 1) c.field-epoch.result indexes there (ap (λ (spec : Specification). spec.compact_target) c.spec.view_is)
    (c.timestamp_on-timestamp.ensures kept indexes) high epoch) is)
    c.header_row.ensures.header
