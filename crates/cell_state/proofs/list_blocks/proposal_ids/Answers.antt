use Rattle.std.proofs.Common.{take, ap, ◌∙◌, arith}
use Rattle.std.proofs.lemmas.Option.{slice_get_within, get_or_from_slice_get}
use Rattle.chain_defs.specs.Hashes.{proposal_id}
use Rattle.cell_state.proofs.ListBlockLemmas.{one_image_more, all_images}
use Rattle.cell_state.proofs.list_blocks.proposal_ids.Goals as goal

pub later-preserved : goal.later-preserved
later-preserved c =
    let txs = c.args.block.now.transactions in
    let tx = c.transactions_item.result in
    let there = c.transactions_item.ensures in
    one_image_more proposal_id txs c.later.i tx c.later.ids.items _ _ c.proposal_id.result (slice_get_within txs c.later.i tx there)
    (get_or_from_slice_get txs c.later.i tx tx there) (c.proposal_id.ensures ∙ ap (take 10) c.transaction_hash.ensures) c.later.invariant c.in_ok-push.ensures.items

pub returns : goal.returns
returns c =
    all_images proposal_id c.args.block.now.transactions c.later.i c.later.ids.items _ (omega (arith, c.later-test.false, c.transactions_count-count.ensures.value)) c.later.invariant
