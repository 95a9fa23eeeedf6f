use Rattle.std.proofs.Common.{refl, ap, ◌∙◌}
use Rattle.std.specs.Int.{w128}
use Rattle.std.proofs.lemmas.Int.{to_z-of_z}
use Rattle.chain_defs.specs.Branch.{branch}
use Rattle.tx_pool.proofs.SealingLemmas.{moved-as}
use Rattle.pool_defs.specs.Start.{dao_bytes}
use Rattle.tx_pool.proofs.sealing.commitments_of.Goals as goal

pub returns : goal.returns
returns g c kept indexes moved =
    let root = c.in_ok-root.ensures in
    let proposals = c.proposals_hash.ensures in
    let uncles = c.uncles_hash.ensures in
    let dao = c.dao_bytes.ensures ∙ ap dao_bytes (c.dao_after-field.ensures kept indexes
    (moved-as c.args.context.now.spec.now (branch kept c.args.context.now.parent) c.args.block.now c.args.block.now c.args.interest _ c.args.freed (to_z-of_z w128 c.args.interest c.ranges.interest) refl moved)) in
    λ i. record { transactions_root = root i; proposals_hash = proposals i; uncles_hash = uncles i; dao = dao i }
