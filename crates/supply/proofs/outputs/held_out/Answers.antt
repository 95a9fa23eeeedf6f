use Rattle.std.proofs.Common.{◌≡◌, ◌+◌, drop, length, sym, ap, ◌∙◌, arith}
use Rattle.std.specs.Prelude.{slice_get}
use Rattle.std.proofs.lemmas.List.{drop_all}
use Rattle.chain_defs.specs.Schema.{RawTransaction, CellOutput}
use Rattle.chain_defs.proofs.WalkLemmas.{drop-there}
use Rattle.rule_defs.specs.Capacity.{held_out}
use Rattle.supply.proofs.SumLemmas.{sum-more, sum-end}
use Rattle.supply.proofs.outputs.held_out.Goals as goal

pub outputs-init : goal.outputs-init
unfolding held_out
outputs-init c = (omega arith, omega arith)

pub outputs-preserved : goal.outputs-preserved
outputs-preserved c =
    let there = drop-there c.args.tx.now.raw.outputs c.outputs.i c.outputs_item.result
    (ap (λ (raw : RawTransaction). slice_get raw.outputs c.outputs.i) (sym c.raw-raw.ensures) ∙ c.outputs_item.ensures) in (
      sum-more (λ (output : CellOutput). output.capacity) (drop c.outputs.i c.args.tx.now.raw.outputs)
          (drop (c.outputs.i + 1) c.args.tx.now.raw.outputs) c.outputs_item.result c.outputs.held (c.outputs.held + c.from-held.result) (held_out c.args.tx.now) there
          c.outputs.invariant.0 (ap (λ n. c.outputs.held + n) (c.from-held.ensures ∙ c.capacity.ensures)),
      omega (arith, c.outputs.invariant.1),
    )

pub returns-clause-held : goal.returns-clause-held
returns-clause-held c =
    let raw : length c.raw-raw.result.outputs ≡ length c.args.tx.now.raw.outputs = ap (λ (raw : RawTransaction). length raw.outputs) c.raw-raw.ensures in
    let past = c.outputs-test.false in
    let count = c.outputs_count-i-end.ensures.value in
    sum-end (λ (output : CellOutput). output.capacity) (drop c.outputs.i c.args.tx.now.raw.outputs) c.outputs.held (held_out c.args.tx.now)
    (drop_all c.outputs.i c.args.tx.now.raw.outputs (omega (arith, raw, past, count))) c.outputs.invariant.0
