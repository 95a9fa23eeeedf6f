use Rattle.std.proofs.Common.{◌≡◌, ◌+◌, drop, length, sym, ap, ◌∙◌, arith}
use Rattle.std.specs.Prelude.{slice_get}
use Rattle.std.specs.List.{enumerate_from}
use Rattle.std.proofs.lemmas.List.{drop_all}
use Rattle.chain_defs.specs.Schema.{RawTransaction}
use Rattle.chain_defs.specs.Cell.{occupied_by}
use Rattle.chain_defs.proofs.WalkLemmas.{enumerated-there}
use Rattle.tx_rules.proofs.MoneyLemmas.{sum-more, sum-end}
use Rattle.rule_defs.specs.Field.{occupied_output, made_by}
use Rattle.block_judge.proofs.ending.made_by.Goals as goal

pub outputs-init : goal.outputs-init
unfolding made_by
outputs-init c = (omega arith, omega arith)

pub outputs-preserved : goal.outputs-preserved
outputs-preserved c =
    let there = enumerated-there c.args.tx.now.raw.outputs c.outputs.i c.outputs_item.result
    (ap (λ (raw : RawTransaction). slice_get raw.outputs c.outputs.i) (sym c.raw-raw.ensures) ∙ c.outputs_item.ensures) in (
      sum-more (occupied_output c.args.tx.now) (enumerate_from c.outputs.i (drop c.outputs.i c.args.tx.now.raw.outputs))
          (enumerate_from (c.outputs.i + 1) (drop (c.outputs.i + 1) c.args.tx.now.raw.outputs)) (c.outputs.i, c.outputs_item.result) c.outputs.made
          (c.outputs.made + c.from-made.result) (made_by c.args.tx.now) there c.outputs.invariant.0
          (ap (λ n. c.outputs.made + n) (c.from-made.ensures ∙ c.occupied_output.ensures ∙ ap (occupied_by c.outputs_item.result) c.data_at.ensures.data)),
      omega (arith, c.outputs.invariant.1),
    )

pub returns-clause-made : goal.returns-clause-made
returns-clause-made c =
    let raw : length c.raw-raw.result.outputs ≡ length c.args.tx.now.raw.outputs = ap (λ (raw : RawTransaction). length raw.outputs) c.raw-raw.ensures in
    let past = c.outputs-test.false in
    let count = c.outputs_count-i-end.ensures.value in
    sum-end (occupied_output c.args.tx.now) (enumerate_from c.outputs.i (drop c.outputs.i c.args.tx.now.raw.outputs)) c.outputs.made (made_by c.args.tx.now)
    (ap (enumerate_from c.outputs.i) (drop_all c.outputs.i c.args.tx.now.raw.outputs (omega (arith, raw, past, count)))) c.outputs.invariant.0
