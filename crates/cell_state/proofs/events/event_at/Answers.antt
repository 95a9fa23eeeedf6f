use Rattle.std.proofs.Common.{◌≡◌, ℕ, List, ◌<◌, ◌≤◌, ◌-◌, length, Some, slice_get, sym, ap, ◌∙◌, arith}
use Rattle.std.specs.Option.{option_map}
use Rattle.std.proofs.lemmas.Option.{slice_get_past}
use Rattle.chain_defs.specs.Events.{Makes, Spends}
use Rattle.chain_defs.specs.Hashes.{transaction_hash}
use Rattle.chain_defs.specs.Schema.{OutPoint, RawTransaction}
use Rattle.cell_state.specs.Walk.{height_of, spends_at}
use Rattle.cell_state.proofs.EventLemmas.{make, event-spent, spend-at, event-made}
use Rattle.cell_state.proofs.events.event_at.Goals as goal

pub returns-then-index-spends : goal.returns-then-index-spends
returns-then-index-spends c =
    let height = height_of c.args.genesis in
    let there : slice_get c.args.tx.now.raw.inputs c.args.index ≡ Some c.inputs_item-input.result =
    ap (λ (r : RawTransaction). slice_get r.inputs c.args.index) (sym c.raw-raw.ensures) ∙ c.inputs_item-input.ensures in
    let within : c.args.index < length (spends_at c.args.tx.now height c.args.place) = omega (arith, c.spends_count-spends.ensures.count, c.if-index-spends.true) in
    let spent = event-spent c.args.tx.now height c.args.place c.args.index (Spends c.inputs_item-input.result.previous_output)
    (spend-at c.args.tx.now height c.args.place c.args.index c.inputs_item-input.result within there) in
    record {
      event = ap (λ (o : OutPoint). Some (Spends o)) (c.out_point_of.ensures ∙ c.previous_output.ensures) ∙ sym spent;
      few = omega (arith, c.spends_count-spends.ensures.fits, c.if-index-spends.true);
    }

pub returns-then-output-outputs_count : goal.returns-then-output-outputs_count
returns-then-output-outputs_count c =
    let height = height_of c.args.genesis in
    let front = length (spends_at c.args.tx.now height c.args.place) in
    let raw : length c.raw-raw.result.outputs ≡ length c.args.tx.now.raw.outputs = ap (λ (r : RawTransaction). length r.outputs) c.raw-raw.ensures in
    let past : length c.args.tx.now.raw.outputs ≤ c.args.index - front =
    omega (arith, raw, c.spends_count-spends.ensures.count, c.if-output-outputs_count.true, c.outputs_count.ensures.value) in
    let made = event-made c.args.tx.now height c.args.place c.args.index (omega (arith, c.spends_count-spends.ensures.count, c.if-index-spends.false)) in
    record {
      event = sym (made ∙ ap (option_map (make c.args.tx.now height c.args.place (c.args.index - front))) (slice_get_past c.args.tx.now.raw.outputs (c.args.index - front) past));
      few = tt;
    }

pub returns : goal.returns
returns c =
    let t = c.args.tx.now in
    let height = height_of c.args.genesis in
    let place = c.args.place in
    let index = c.args.index - c.spends_count-spends.result in
    let output = c.outputs_item.result in
    let behind : index ≡ c.args.index - length (spends_at t height place) = omega (arith, c.spends_count-spends.ensures.count) in
    let there : slice_get t.raw.outputs index ≡ Some output =
    ap (λ (r : RawTransaction). slice_get r.outputs index) (sym c.raw-raw.ensures) ∙ c.outputs_item.ensures in
    let made = event-made t height place c.args.index (omega (arith, c.spends_count-spends.ensures.count, c.if-index-spends.false)) in
    record {
      event = ap (λ (h : List ℕ). Some (Makes (record { tx_hash = h; index = index }) (record { output = output; content = c.data_at.result.now; height = height; transaction = place })))
          c.requires
          ∙ ap (λ (content : List ℕ). Some (Makes (record { tx_hash = transaction_hash t; index = index }) (record { output = output; content = content; height = height; transaction = place })))
          c.data_at.ensures.«data»
          ∙ sym (ap (option_map (make t height place index)) there)
          ∙ ap (λ (n : ℕ). option_map (make t height place n) (slice_get t.raw.outputs n)) behind
          ∙ sym made;
      few = omega (arith, c.spends_count-spends.ensures.fits, c.if-output-outputs_count.false, c.outputs_count.ensures.fits);
    }
