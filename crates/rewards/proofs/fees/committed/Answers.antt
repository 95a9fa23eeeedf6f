use Rattle.std.proofs.Common.{pos, ◌∙◌, ap, arith, List}
use Rattle.std.specs.List.{sum_by}
use Rattle.chain_defs.specs.Dao.{as_u64}
use Rattle.rule_defs.specs.Fees.{Paid, committer_share}
use Rattle.rewards.proofs.SumLemmas.{committed-more, all-paid}
use Rattle.rewards.proofs.fees.committed.Goals as goal

pub fees-preserved : goal.fees-preserved
fees-preserved c paids are =
    committed-more c.args.ext.now c.args.ids.now paids c.fees.i c.fee_at.result c.committer_share.result _ _ are (omega (arith, c.fees-test.true))
    c.fee_at.ensures c.committer_share.ensures c.committer_share.type_inv (c.fees.invariant paids are) c.plus-sum.ensures

pub returns : goal.returns
returns c paids are =
    c.fees.invariant paids are ∙ ap (λ (l : List Paid). as_u64 (pos (sum_by (λ (paid : Paid). committer_share paid.fee) l)))
    (all-paid c.args.ext.now c.args.ids.now paids c.fees.i are (omega (arith, c.fees-test.false)))
