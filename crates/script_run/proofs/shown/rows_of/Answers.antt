use Rattle.std.proofs.Common.{◌≡◌, ℕ, List, length, ap, ◌∙◌, arith}
use Rattle.chain_defs.specs.Schema.{RawTransaction}
use Rattle.chain_defs.specs.Row.{row_of}
use Rattle.script_run.proofs.WalkLemmas.{row-more, rows-all}
use Rattle.script_run.proofs.shown.rows_of.Goals as goal

pub outputs-preserved : goal.outputs-preserved
outputs-preserved c =
    row-more c.args.tx.now c.outputs.i c.meta_of.result c.output_at.result c.outputs.rows.items c.push.new.self.items
    c.output_at.ensures
    c.outputs.invariant
    (c.meta_of.ensures 0
    ∙ ap (λ (content : List ℕ). row_of 0 (record { output = c.output_at.result; content = content; height = 0; transaction = 0 })) c.data_at.ensures.data)
    c.in_ok-push.ensures.items

pub returns : goal.returns
returns c =
    let count : c.outputs_count-i-end.result ≡ length c.args.tx.now.raw.outputs =
    c.outputs_count-i-end.ensures.value ∙ ap (λ (raw : RawTransaction). length raw.outputs) c.raw.ensures in
    rows-all c.args.tx.now c.outputs.i c.outputs.rows.items (omega (arith, count, c.outputs-test.false)) c.outputs.invariant
