use Rattle.std.proofs.Common.{◌≡◌, Option, Some, None, List, map, ap, sym, ◌∙◌, arith}
use Rattle.chain_defs.specs.Schema.{OutPoint, CellInput, RawTransaction}
use Rattle.chain_defs.specs.Row.{Row}
use Rattle.rule_defs.specs.Site.{all_there}
use Rattle.tx_rules.specs.At.{find_row}
use Rattle.tx_rules.proofs.AllThere.{there-more, there-none, there-all}
use Rattle.tx_rules.proofs.inputs.live_inputs.Goals as goal

pub inputs-init : goal.inputs-init
unfolding all_there
inputs-init g c = ap (λ (rows : List (OutPoint × Row)). Some rows) c.new-found.ensures.items

pub returns-in-None : goal.returns-in-None
returns-in-None g c =
    let f : CellInput → Option (OutPoint × Row) = λ input. find_row (g.C.Cells.rows c.args.cells.now) input.previous_output in
    let none : f c.inputs_item.result ≡ None =
    ap (find_row (g.C.Cells.rows c.args.cells.now)) (sym c.previous_output.ensures) ∙ sym c.find_row.ensures ∙ c.in-None.is in
    sym (there-none f c.raw-raw.result.inputs c.inputs.i c.inputs_item.result c.inputs_item.ensures none)
    ∙ ap (λ (raw : RawTransaction). all_there (map f raw.inputs)) c.raw-raw.ensures

pub inputs-preserved : goal.inputs-preserved
inputs-preserved g c =
    let f : CellInput → Option (OutPoint × Row) = λ input. find_row (g.C.Cells.rows c.args.cells.now) input.previous_output in
    let some : f c.inputs_item.result ≡ Some c.in-Some.row =
    ap (find_row (g.C.Cells.rows c.args.cells.now)) (sym c.previous_output.ensures) ∙ sym c.find_row.ensures ∙ c.in-Some.is in
    ap (λ (rows : List (OutPoint × Row)). Some rows) c.in_ok-push-in-Some.ensures.items
    ∙ there-more f c.raw-raw.result.inputs c.inputs.i c.inputs_item.result c.in-Some.row c.inputs.found.items c.inputs.invariant c.inputs_item.ensures some

pub returns : goal.returns
returns g c =
    let f : CellInput → Option (OutPoint × Row) = λ input. find_row (g.C.Cells.rows c.args.cells.now) input.previous_output in
    there-all f c.raw-raw.result.inputs c.inputs.i c.inputs.found.items (omega (arith, c.inputs-test.false, c.inputs_count-i-end.ensures.value)) c.inputs.invariant
    ∙ ap (λ (raw : RawTransaction). all_there (map f raw.inputs)) c.raw-raw.ensures
