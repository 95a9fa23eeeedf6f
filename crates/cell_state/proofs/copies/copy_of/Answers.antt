use Rattle.std.proofs.Common.{◌≡◌, Option, Some, refl, sym, ap, subst, ◌∙◌, rules}
use Rattle.std.specs.Prelude.{IsSome}
use Rattle.chain_defs.specs.Shape.{decoded}
use Rattle.chain_defs.specs.Schema.{CellOutput, cell_output}
use Rattle.chain_defs.proofs.ShapeLaws.{decoded-is}
use Rattle.chain_defs.proofs.RowLaws.{cell_output-check}
use Rattle.cell_state.proofs.copies.copy_of.Goals as goal

pub returns-clause-copied : goal.returns-clause-copied
returns-clause-copied c = λ cell output content.
    let encoding : c.in_ok-to_vec.field-0.items ≡ c.bytes.result.now = search rules in
    let copied : c.in_ok-to_vec-2.field-0.items ≡ c.args.content.now = search rules in
    record {
      output = ap (decoded cell_output) encoding ∙ decoded-is cell_output cell_output-check c.bytes.result.now c.args.output.now c.bytes.ensures
          ∙ ap (λ (o : CellOutput). Some o) output;
      content = copied ∙ content;
    }

pub returns-clause-output : goal.returns-clause-output
returns-clause-output c =
    let encoding : c.in_ok-to_vec.field-0.items ≡ c.bytes.result.now = search rules in
    let is : decoded cell_output c.in_ok-to_vec.field-0.items ≡ Some c.args.output.now =
    ap (decoded cell_output) encoding ∙ decoded-is cell_output cell_output-check c.bytes.result.now c.args.output.now c.bytes.ensures in
    subst (λ (found : Option CellOutput). IsSome found) (sym is) refl
