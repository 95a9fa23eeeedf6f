use Rattle.std.proofs.Common.{◌≡◌, List, Option, length, map, take, ap, ◌∙◌, arith}
use Rattle.std.proofs.lemmas.List.{take_all}
use Rattle.chain_defs.specs.Schema.{RawTransaction, CellOutput, Script}
use Rattle.script_run.specs.Grouping.{grouped}
use Rattle.script_run.proofs.WalkLemmas.{rows-long, row-typed, map-more, map-taken}
use Rattle.script_run.proofs.groups.Grouping.join_outputs.Goals as goal

abbrev typed : CellOutput → Option Script
typed output = output.type_script

pub bounds-rows-i : goal.bounds-rows-i
bounds-rows-i c =
    let count : c.outputs_count-i-end.result ≡ length c.args.tx.now.raw.outputs =
    c.outputs_count-i-end.ensures.value ∙ ap (λ (raw : RawTransaction). length raw.outputs) c.raw.ensures in
    let long : length c.args.rows.now ≡ length c.args.tx.now.raw.outputs = ap length c.requires.rows ∙ rows-long c.args.tx.now in
    omega (arith, count, long, c.outputs-test.true)

pub join_output-requires-clause-hash : goal.join_output-requires-clause-hash
join_output-requires-clause-hash c =
    row-typed c.args.tx.now c.args.rows.now c.outputs.i c.index-rows-i.result c.output_at.result c.requires.rows
    c.output_at.ensures c.index-rows-i.is

pub outputs-preserved : goal.outputs-preserved
outputs-preserved c =
    let outputs = c.args.tx.now.raw.outputs in
    let count : c.outputs_count-i-end.result ≡ length outputs =
    c.outputs_count-i-end.ensures.value ∙ ap (λ (raw : RawTransaction). length raw.outputs) c.raw.ensures in
    record {
      known = c.in_ok-join_output.ensures.known;
      groups = λ inputs start.
          c.in_ok-join_output.ensures.groups inputs (map typed (take c.outputs.i outputs)) (c.outputs.invariant.groups inputs start)
          (map-taken typed outputs c.outputs.i (omega (arith, count, c.outputs-test.true)))
          ∙ ap (grouped inputs) (map-more typed outputs c.outputs.i c.output_at.result c.output_at.ensures);
    }

pub returns : goal.returns
returns c =
    let outputs = c.args.tx.now.raw.outputs in
    let count : c.outputs_count-i-end.result ≡ length outputs =
    c.outputs_count-i-end.ensures.value ∙ ap (λ (raw : RawTransaction). length raw.outputs) c.raw.ensures in
    record {
      groups = λ inputs start.
          c.outputs.invariant.groups inputs start
          ∙ ap (λ (l : List CellOutput). grouped inputs (map typed l)) (take_all c.outputs.i outputs (omega (arith, count, c.outputs-test.false)));
    }
