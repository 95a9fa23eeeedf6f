use Rattle.std.proofs.Common.{sym, ap, ◌∙◌}
use Rattle.std.specs.Prelude.{[], slice_get, unwrap_or}
use Rattle.chain_defs.specs.Schema.{RawTransaction}
use Rattle.chain_defs.specs.Cell.{holds_its_own, output_holds_its_own}
use Rattle.chain_defs.proofs.WalkLemmas.{all-fails, all-goes-on}
use Rattle.log_file.proofs.genesis.outputs_hold_their_own.Goals as goal

pub returns-then-not-holds_its_own : goal.returns-then-not-holds_its_own
returns-then-not-holds_its_own c = all-fails (output_holds_its_own c.args.transaction.now) c.args.transaction.now.raw.outputs c.outputs.i c.outputs_item.result _
    c.outputs.invariant
    (ap (λ (raw : RawTransaction). slice_get raw.outputs c.outputs.i) (sym c.raw-raw.ensures) ∙ c.outputs_item.ensures)
    (ap (λ (raw : RawTransaction). holds_its_own c.outputs_item.result (unwrap_or (slice_get raw.outputs_data c.outputs.i) [])) (sym c.raw-raw.ensures)
    ∙ ap (holds_its_own c.outputs_item.result) (sym c.content.ensures.value) ∙ sym c.holds_its_own.ensures ∙ c.if-not-holds_its_own.true)

pub outputs-preserved : goal.outputs-preserved
outputs-preserved c = all-goes-on (output_holds_its_own c.args.transaction.now) c.args.transaction.now.raw.outputs c.outputs.i c.outputs_item.result _
    c.outputs.invariant
    (ap (λ (raw : RawTransaction). slice_get raw.outputs c.outputs.i) (sym c.raw-raw.ensures) ∙ c.outputs_item.ensures)
    (ap (λ (raw : RawTransaction). holds_its_own c.outputs_item.result (unwrap_or (slice_get raw.outputs_data c.outputs.i) [])) (sym c.raw-raw.ensures)
    ∙ ap (holds_its_own c.outputs_item.result) (sym c.content.ensures.value) ∙ sym c.holds_its_own.ensures ∙ c.if-not-holds_its_own.false)
