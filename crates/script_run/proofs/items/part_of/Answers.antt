use Rattle.std.proofs.Common.{◌≡◌, Some, ap, sym, ◌∙◌, rules}
use Rattle.std.specs.Option.{option_map}
use Rattle.chain_defs.specs.Shape.{encoded}
use Rattle.chain_defs.specs.Schema.{CellOutput, cell_output, script}
use Rattle.chain_defs.specs.Cell.{occupied_by}
use Rattle.chain_defs.specs.Row.{Row}
use Rattle.verdict_defs.specs.Items.{u64_bytes}
use Rattle.script_run.specs.declared.bytes.CellPart.TheVariants.{Output, Data, Capacity, Lock, TypeScript, Occupied}
use Rattle.script_run.proofs.LookLemmas.{part-here}
use Rattle.script_run.proofs.items.part_of.Goals as goal

pub returns-in-Output : goal.returns-in-Output
returns-in-Output c cell output content row =
    let bytes : c.bytes.result.now ≡ encoded cell_output cell.output = c.bytes.ensures.encoding ∙ ap (encoded cell_output) output in
    part-here cell c.args.part Output c.bytes.result.now c.in-Output.is (ap Some (sym bytes))
    ∙ c.slice.ensures

pub returns-in-Data : goal.returns-in-Data
returns-in-Data c cell output content row =
    part-here cell c.args.part Data c.args.content.now c.in-Data.is (ap Some (sym content))
    ∙ c.slice-in-Data.ensures

pub returns-in-Capacity : goal.returns-in-Capacity
returns-in-Capacity c cell output content row =
    let capacity : c.capacity.result ≡ cell.output.capacity = c.capacity.ensures ∙ ap (λ (o : CellOutput). o.capacity) output in
    part-here cell c.args.part Capacity (u64_bytes c.capacity.result) c.in-Capacity.is (ap (λ n. Some (u64_bytes n)) (sym capacity))
    ∙ c.number.ensures

pub returns-in-Lock : goal.returns-in-Lock
returns-in-Lock c cell output content row =
    let bytes : c.bytes-in-Lock.result.now ≡ encoded script cell.output.lock =
    c.bytes-in-Lock.ensures.encoding ∙ ap (encoded script) (c.lock.ensures ∙ ap (λ (o : CellOutput). o.lock) output) in
    part-here cell c.args.part Lock c.bytes-in-Lock.result.now c.in-Lock.is (ap Some (sym bytes))
    ∙ c.slice-in-Lock.ensures

pub returns-in-Some : goal.returns-in-Some
returns-in-Some c cell output content row =
    let there : cell.output.type_script ≡ Some c.in-Some.script = sym (ap (λ (o : CellOutput). o.type_script) output) ∙ sym c.type_script.ensures ∙ c.in-Some.is in
    let bytes : option_map (encoded script) cell.output.type_script ≡ Some c.bytes-in-Some.result.now =
    ap (option_map (encoded script)) there ∙ ap Some (sym c.bytes-in-Some.ensures.encoding) in
    part-here cell c.args.part TypeScript c.bytes-in-Some.result.now c.in-TypeScript.is bytes
    ∙ c.slice-in-Some.ensures

pub returns-in-Occupied : goal.returns-in-Occupied
returns-in-Occupied c cell output content row =
    let same : c.row.inside.occupied ≡ occupied_by cell.output cell.content = ap (λ (r : Row). r.occupied) c.row.view_is ∙ row.occupied in
    part-here cell c.args.part Occupied (u64_bytes c.row.inside.occupied) c.in-Occupied.is (ap (λ n. Some (u64_bytes n)) (sym same))
    ∙ c.number-in-Occupied.ensures

pub returns-in-None-type_hash : goal.returns-in-None-type_hash
returns-in-None-type_hash c = search rules
