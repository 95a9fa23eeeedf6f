use Rattle.std.proofs.Common.{ℕ, refl, sym, ap, ◌∙◌, eqb}
use Rattle.chain_defs.specs.Specification.{Specification}
use Rattle.chain_defs.specs.Epochs.{is_span_over}
use Rattle.chain_defs.specs.Row.{Row}
use Rattle.rule_defs.specs.Site.{height_at}
use Rattle.tx_rules.specs.At.{AtValue}
use Rattle.outside.proofs.Endings.{handed}
use Rattle.tx_rules.proofs.AgeLemmas.{mature-genesis, mature-later}
use Rattle.tx_rules.proofs.age.is_mature.Goals as goal

pub returns-in-Err : goal.returns-in-Err
returns-in-Err c = record {
  mature = λ stored rows site found is height its. tt;
  undamaged = λ stored rows site found is height its damage same.
      c.in-Err.ensures.undamaged stored rows site found is height its c.in-Err.damage refl;
  damage = λ damage same. c.in-Err.ensures.damage damage (handed c.in-Err.damage _ same);
}

pub returns-then-made-eq0-clause-mature : goal.returns-then-made-eq0-clause-mature
returns-then-made-eq0-clause-mature c stored rows site found is height its =
    ap (λ (n : ℕ). eqb n 0) c.if-made-eq0.true
    ∙ mature-genesis found.cell.transaction found.cell.height (is_span_over site.spec.maturity site.spec.epoch_length found.cell.height (height_at site))
    (sym (c.in-Ok.ensures.made stored rows site found is height its) ∙ c.if-made-eq0.true)

pub returns-else-made-eq0-clause-mature : goal.returns-else-made-eq0-clause-mature
returns-else-made-eq0-clause-mature c stored rows site found is height its =
    let made = c.in-Ok.ensures.made stored rows site found is height its in
    c.span_over.ensures
    ∙ ap (λ (spec : Specification). is_span_over spec.maturity spec.epoch_length c.in-Ok.made c.args.height)
    (c.spec.view_is ∙ ap (λ (at : AtValue). at.spec) c.at.view_is ∙ sym is.spec)
    ∙ ap (λ (n : ℕ). is_span_over site.spec.maturity site.spec.epoch_length n c.args.height) made
    ∙ ap (is_span_over site.spec.maturity site.spec.epoch_length found.cell.height) height
    ∙ mature-later found.cell.transaction found.cell.height (is_span_over site.spec.maturity site.spec.epoch_length found.cell.height (height_at site))
    (sym (ap (λ (row : Row). row.transaction) its.is) ∙ sym (ap (λ (row : Row). row.transaction) c.meta.view_is) ∙ c.if-meta-ne0.false)
    (λ none. c.if-made-eq0.false (made ∙ none))
