use Rattle.std.proofs.Common.{◌∙◌, arith}
use Rattle.proposal_window.proofs.IdLemmas.{put-none, put-one, put-all}
use Rattle.proposal_window.proofs.ids.put_own.Goals as goal

pub ids-init : goal.ids-init
ids-init c = put-none _

pub ids-preserved : goal.ids-preserved
ids-preserved c = c.in_ok-push.ensures.items ∙ put-one c.args.block.now.proposals _ _ c.ids.i c.own_id.result c.own_id.ensures c.ids.invariant

pub returns : goal.returns
returns c = put-all c.args.block.now.proposals _ _ c.ids.i (omega (arith, c.ids-test.false, c.proposals_count-i-end.ensures.value)) c.ids.invariant
