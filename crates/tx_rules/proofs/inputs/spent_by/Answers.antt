use Rattle.std.proofs.Common.{◌≡◌, length, ◌++◌, ◌∷◌, [], map, List, ℕ, sym, ap, ◌∙◌, arith}
use Rattle.std.proofs.lemmas.List.{take_all, length-map}
use Rattle.chain_defs.specs.Shape.{encoded}
use Rattle.chain_defs.specs.Schema.{out_point, RawTransaction, CellInput}
use Rattle.tx_rules.proofs.AllThere.{take-push}
use Rattle.tx_rules.proofs.inputs.spent_by.Goals as goal

pub inputs-preserved : goal.inputs-preserved
inputs-preserved c =
    c.in_ok-push.ensures.items ∙ ap (λ (so_far : List (List ℕ)). so_far ++ c.spent_at.result ∷ []) c.inputs.invariant
    ∙ sym (take-push (map (λ input. encoded out_point input.previous_output) c.args.tx.now.raw.inputs) c.inputs.i c.spent_at.result c.spent_at.ensures)

pub returns : goal.returns
returns c =
    let count : c.inputs_count-i-end.result ≡ length c.args.tx.now.raw.inputs = c.inputs_count-i-end.ensures.value ∙ ap (λ (raw : RawTransaction). length raw.inputs) c.raw-2.ensures in
    c.inputs.invariant ∙ take_all c.inputs.i (map (λ input. encoded out_point input.previous_output) c.args.tx.now.raw.inputs) (omega (arith, c.inputs-test.false, count, length-map c.args.tx.now.raw.inputs (λ (input : CellInput). encoded out_point input.previous_output)))
