use Rattle.std.proofs.Common.{refl, sym, ap, ◌∙◌}
use Rattle.chain_defs.specs.Specification.{Specification}
use Rattle.chain_defs.specs.Since.{is_valid}
use Rattle.std.specs.Prelude.{◌&&◌, Bool}
use Rattle.tx_rules.specs.At.{AtValue}
use Rattle.outside.proofs.Endings.{handed}
use Rattle.tx_rules.proofs.AgeLemmas.{met-here, met-same}
use Rattle.tx_rules.proofs.age.meets_since.Goals as goal

pub returns-in-Err : goal.returns-in-Err
returns-in-Err c = record {
  met = λ stored rows site found is height its. tt;
  undamaged = λ stored rows site found is height its damage same.
      c.in-Err.ensures.undamaged stored rows site found is height its c.in-Err.damage refl;
  damage = λ damage same. c.in-Err.ensures.damage damage (handed c.in-Err.damage _ same);
}

pub returns-in-Err-times_of : goal.returns-in-Err-times_of
returns-in-Err-times_of c = record {
  met = λ stored rows site found is height its. tt;
  undamaged = λ stored rows site found is height its damage same.
      c.in-Err-times_of.ensures.undamaged stored rows site found is its c.in-Err-times_of.damage refl;
  damage = λ damage same. c.in-Err-times_of.ensures.damage damage (handed c.in-Err-times_of.damage _ same);
}

pub returns-clause-met : goal.returns-clause-met
returns-clause-met c stored rows site found is height its =
    c.is_ok.ensures.value
    ∙ met-same c.args.since _ c.meets.result c.meets.ensures.met c.meets.ensures.refused
    ∙ ap (λ (b : Bool). is_valid c.args.since && b)
    (met-here c.args.since site found c.args.height c.in-Ok-times_of.times.0 c.in-Ok.made c.in-Ok-times_of.times.1 c.spec.inside.epoch_length height
    (c.in-Ok.ensures.made stored rows site found is height its)
    (ap (λ (spec : Specification). spec.epoch_length) (c.spec.view_is ∙ ap (λ (at : AtValue). at.spec) c.at.view_is ∙ sym is.spec))
    (c.in-Ok-times_of.ensures.times stored rows site found is its))
