use Rattle.std.proofs.Common.{arith}
use Rattle.proposal_window.proofs.IdLemmas.{put-none, put-more, put-every}
use Rattle.proposal_window.proofs.ids.put_of_uncles.Goals as goal

pub uncles-init : goal.uncles-init
uncles-init c = put-none _

pub uncles-preserved : goal.uncles-preserved
uncles-preserved c = put-more (λ uncle. uncle.proposals) c.args.block.now.uncles _ _ _ c.uncles.i c.uncles_item.result c.uncles_item.ensures c.uncles.invariant c.in_ok-put_of_uncle.ensures

pub returns : goal.returns
returns c = put-every (λ uncle. uncle.proposals) c.args.block.now.uncles _ _ c.uncles.i (omega (arith, c.uncles-test.false, c.uncles_count-i-end.ensures.value)) c.uncles.invariant
