use Rattle.std.proofs.Common.{◌≡◌, ◌+◌, ◌^◌, drop, length, Some, sym, ap, ◌∙◌, arith}
use Rattle.std.specs.Prelude.{slice_get}
use Rattle.std.proofs.lemmas.List.{drop_all}
use Rattle.chain_defs.specs.Schema.{RawTransaction, CellOutput}
use Rattle.rule_defs.specs.Capacity.{held_out}
use Rattle.chain_defs.proofs.WalkLemmas.{drop-there}
use Rattle.tx_rules.proofs.MoneyLemmas.{fits-u64, past-u64, not-below, sum-more, sum-past, sum-end}
use Rattle.tx_rules.proofs.capacity.held_out.Goals as goal

pub outputs-init : goal.outputs-init
unfolding held_out
outputs-init c = (omega arith, omega arith)

pub returns-in-None : goal.returns-in-None
returns-in-None c =
    let there = drop-there c.args.tx.now.raw.outputs c.outputs.i c.outputs_item.result
    (ap (λ (raw : RawTransaction). slice_get raw.outputs c.outputs.i) (sym c.raw-raw.ensures) ∙ c.outputs_item.ensures) in
    past-u64 (held_out c.args.tx.now) (2 ^ 64) (sum-past (λ (output : CellOutput). output.capacity) (drop c.outputs.i c.args.tx.now.raw.outputs)
    (drop (c.outputs.i + 1) c.args.tx.now.raw.outputs) c.outputs_item.result c.outputs.sum (2 ^ 64) (held_out c.args.tx.now) there c.outputs.invariant.0
    (not-below (c.outputs.sum + c.outputs_item.result.capacity) (2 ^ 64) (λ below. c.in-None.ensures (omega (arith, below, c.capacity.ensures)))))

pub outputs-preserved : goal.outputs-preserved
outputs-preserved c =
    let there = drop-there c.args.tx.now.raw.outputs c.outputs.i c.outputs_item.result
    (ap (λ (raw : RawTransaction). slice_get raw.outputs c.outputs.i) (sym c.raw-raw.ensures) ∙ c.outputs_item.ensures) in (
      sum-more (λ (output : CellOutput). output.capacity) (drop c.outputs.i c.args.tx.now.raw.outputs)
          (drop (c.outputs.i + 1) c.args.tx.now.raw.outputs) c.outputs_item.result c.outputs.sum c.in-Some.total (held_out c.args.tx.now) there c.outputs.invariant.0
          (let next = c.in-Some.ensures in omega (arith, next, c.capacity.ensures)),
      let next = c.in-Some.ensures in omega (arith, next),
    )

pub returns : goal.returns
returns c =
    let raw : length c.raw-raw.result.outputs ≡ length c.args.tx.now.raw.outputs = ap (λ (raw : RawTransaction). length raw.outputs) c.raw-raw.ensures in
    let whole : c.outputs.sum ≡ held_out c.args.tx.now = sum-end (λ (output : CellOutput). output.capacity) (drop c.outputs.i c.args.tx.now.raw.outputs)
    c.outputs.sum (held_out c.args.tx.now) (drop_all c.outputs.i c.args.tx.now.raw.outputs (omega (arith, raw))) c.outputs.invariant.0 in
    ap Some whole ∙ fits-u64 (held_out c.args.tx.now) (2 ^ 64) (omega (arith, whole, c.outputs.invariant.1))
