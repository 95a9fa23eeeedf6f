use Rattle.std.proofs.Common.{◌≡◌, length, ap, ◌∙◌, arith}
use Rattle.std.proofs.lemmas.List.Sums.{sum_by_more}
use Rattle.std.proofs.lemmas.Option.{slice_get_within, get_or_from_slice_get}
use Rattle.chain_defs.specs.Schema.{RawTransaction, Transaction}
use Rattle.cell_state.proofs.state.outputs_in.Goals as goal

pub loop-place-preserved : goal.loop-place-preserved
loop-place-preserved c =
    let transactions = c.args.block.now.transactions in
    let t = c.transactions_item.result in
    let within = slice_get_within transactions c.loop-place.place t c.transactions_item.ensures in
    let more = sum_by_more (λ (x : Transaction). length x.raw.outputs) transactions c.loop-place.place t within in
    let each = ap (λ (x : Transaction). length x.raw.outputs) (get_or_from_slice_get transactions c.loop-place.place t t c.transactions_item.ensures) in
    let outputs : c.outputs_count.result ≡ length t.raw.outputs = c.outputs_count.ensures.value ∙ ap (λ (r : RawTransaction). length r.outputs) c.raw.ensures in
    (omega (arith, more, each, outputs, c.loop-place.invariant.0), omega (arith, c.loop-place.invariant.1, c.outputs_count.ensures.fits))
