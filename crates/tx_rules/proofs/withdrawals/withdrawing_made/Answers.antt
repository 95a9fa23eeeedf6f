use Rattle.std.proofs.Common.{◌≡◌, true, refl, sym, ap, ◌∙◌, subst}
use Rattle.std.proofs.lemmas.Option.{same_Some}
use Rattle.chain_defs.specs.Shape.{decoded}
use Rattle.chain_defs.specs.Schema.{cell_output, CellOutput}
use Rattle.chain_tree.specs.Told.{blocks_of}
use Rattle.cell_state.specs.Copies.{ResolvedValue}
use Rattle.rule_defs.specs.Withdrawals.{is_dao_script, has_withdrawing_data}
use Rattle.tx_rules.specs.At.{AtValue}
use Rattle.chain_defs.specs.Specification.{Specification}
use Rattle.tx_rules.specs.Seen.{IsRowOf}
use Rattle.outside.proofs.Endings.{handed}
use Rattle.tx_rules.proofs.DepositLemmas.{withdrawing-some}
use Rattle.tx_rules.proofs.withdrawals.withdrawing_made.Goals as goal

pub returns-in-Err : goal.returns-in-Err
returns-in-Err c = record {
  made = λ stored rows site found is height its copied. tt;
  undamaged = λ stored rows site found is height its copied damage same.
      c.in-Err.ensures.undamaged stored rows site found is height
      (subst (λ (it : ResolvedValue). IsRowOf (blocks_of stored) c.args.at.now.parent site found it.row) (sym c.copy.view_is) its) c.in-Err.damage refl;
  damage = λ damage same. c.in-Err.ensures.damage damage (handed c.in-Err.damage _ same);
}

pub returns-in-Ok-clause-made : goal.returns-in-Ok-clause-made
returns-in-Ok-clause-made c stored rows site found is height its copied =
    let made = c.in-Ok.ensures.made stored rows site found is height
    (subst (λ (it : ResolvedValue). IsRowOf (blocks_of stored) c.args.at.now.parent site found it.row) (sym c.copy.view_is) its) in
    let output : c.in-Some.output ≡ found.cell.output = same_Some c.in-Some.output found.cell.output
    (c.in-Some.ensures.value ∙ ap (decoded cell_output) (c.deref.ensures.value ∙ ap (λ (it : ResolvedValue). it.output) c.copy.view_is) ∙ copied.output) in
    let dao : is_dao_script site.spec found.cell.output.type_script ≡ true =
    ap (λ (spec : Specification). is_dao_script spec found.cell.output.type_script) (is.spec ∙ sym (ap (λ (at : AtValue). at.spec) c.at.view_is))
    ∙ ap (λ (o : CellOutput). is_dao_script c.at.inside.spec.now o.type_script) (sym output)
    ∙ ap (is_dao_script c.at.inside.spec.now) (sym c.type_script.ensures) ∙ sym c.is_dao_script.ensures ∙ c.if-not-is_dao_script.false in
    let filled : has_withdrawing_data found.cell.content ≡ true =
    ap has_withdrawing_data (sym copied.content ∙ sym (ap (λ (it : ResolvedValue). it.content) c.copy.view_is) ∙ sym c.deref-else-not-is_dao_script.ensures.value)
    ∙ sym c.has_withdrawing_data.ensures ∙ c.if-not-has_withdrawing_data.false in
    withdrawing-some (is_dao_script site.spec found.cell.output.type_script) (has_withdrawing_data found.cell.content) c.in-Ok.made found.cell.height dao filled made
