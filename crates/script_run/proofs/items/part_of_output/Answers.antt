use Rattle.std.proofs.Common.{◌≡◌, ◌≤◌, List, length, get_or, refl, ap, ◌∙◌, arith}
use Rattle.std.specs.Option.{option_map}
use Rattle.std.proofs.lemmas.Option.{slice_get_past}
use Rattle.chain_defs.specs.Cell.{data_of}
use Rattle.chain_defs.specs.Row.{Row}
use Rattle.verdict_defs.specs.Items.{answer}
use Rattle.script_run.specs.Lookups.{cell_part}
use Rattle.script_run.specs.Shown.{output_rows}
use Rattle.script_run.proofs.LookLemmas.{as-many-rows, its-row, own-row-tells, one-there}
use Rattle.script_run.proofs.items.part_of_output.Goals as goal

pub returns-then-i-rows : goal.returns-then-i-rows
returns-then-i-rows c =
    let many : length c.args.tx.now.raw.outputs ≤ c.args.i = omega (arith, as-many-rows c.args.tx.now, ap length c.requires) in
    ap (λ o. answer (option_map (λ output. cell_part c.args.part (record { output = output; content = data_of c.args.tx.now c.args.i })) o)) (slice_get_past c.args.tx.now.raw.outputs c.args.i many)

pub output_at-output-requires : goal.output_at-output-requires
output_at-output-requires c = omega (arith, as-many-rows c.args.tx.now, ap length c.requires)

pub returns : goal.returns
returns c =
    let tx = c.args.tx.now in
    let output = c.output_at-output.result in
    let row = c.index-rows-i.result in
    let its : c.index-rows-i.result ≡ get_or (output_rows c.args.tx.now) c.args.i c.index-rows-i.result =
    c.index-rows-i.is ∙ ap (λ (rows : List Row). get_or rows c.args.i c.index-rows-i.result) c.requires in
    one-there (λ it. cell_part c.args.part (record { output = it; content = data_of tx c.args.i })) tx.raw.outputs c.args.i output c.output_at-output.ensures
    ∙ c.part_of.ensures (record { output = output; content = data_of tx c.args.i }) refl c.data_at.ensures.«data» (own-row-tells tx c.args.i output row (its-row tx c.args.i output row c.output_at-output.ensures its))
