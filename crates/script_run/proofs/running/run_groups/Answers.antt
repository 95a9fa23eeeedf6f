use Rattle.std.proofs.Common.{◌≡◌, ℕ, Bool, List, Option, Some, length, refl, ap, sym, subst, ◌∙◌}
use Rattle.std.specs.Prelude.{IfSome, IsSome}
use Rattle.chain_tree.specs.Told.{Stored}
use Rattle.chain_defs.specs.Specification.{Specification}
use Rattle.verdict_defs.specs.Scene.{Scene}
use Rattle.script_run.specs.Showing.{scene_shown}
use Rattle.chain_tree.proofs.ReadLemmas.{unread, read_short}
use Rattle.script_run.proofs.FitLemmas.{shown-fits}
use Rattle.script_run.proofs.ReadLemmas.{fit-no-damage, there-fits, unfit-answered, unfit-in-log, unfit-no-fault, wanted-no-damage}
use Rattle.script_run.proofs.running.run_groups.Goals as goal

pub report-requires : goal.report-requires
report-requires g c = record {
  area = unfit-in-log _ _ _ c.in-Err.ensures.unfit c.in-Err.ensures.fit;
  no_fault = unfit-no-fault _ _ _ c.in-Err.ensures.unfit c.in-Err.ensures.fit;
}

pub returns : goal.returns
returns g c =
    let epoch_length : c.in-Ok.shown.epoch_length ≡ c.args.spec.now.epoch_length = c.in-Ok.ensures.epoch_length ∙ ap (λ (s : Specification). s.epoch_length) c.spec.view_is in
    let there_too : (stored : List Stored) (scene : Scene) → scene_shown c.args.second c.args.spec.now.epoch_length stored c.args.tx.now ≡ Some scene
    → scene_shown c.in-Ok.shown.second c.in-Ok.shown.epoch_length stored c.in-Ok.shown.it ≡ Some scene =
    λ stored scene there. ap (λ (n : ℕ). scene_shown c.in-Ok.shown.second n stored c.in-Ok.shown.it) epoch_length
    ∙ ap (λ (b : Bool). scene_shown b c.args.spec.now.epoch_length stored c.in-Ok.shown.it) c.in-Ok.ensures.second
    ∙ ap (scene_shown c.args.second c.args.spec.now.epoch_length stored) c.in-Ok.ensures.it ∙ there in
    record {
      read = c.run_shown.ensures.read;
      within = c.run_shown.ensures.within;
      unfit = there-fits _ _ _ c.in-Ok.ensures.unfit;
      exact = λ stored scene tells there. c.run_shown.ensures.exact stored scene tells (there_too stored scene there);
      undamaged = λ stored scene tells there. c.run_shown.ensures.undamaged (subst (λ (o : Option (List Stored)). IsSome o) (sym tells) refl);
      fit = λ told fits. c.run_shown.ensures.undamaged told;
    }

pub returns-in-Err : goal.returns-in-Err
returns-in-Err g c = record {
  read = c.report.ensures.read;
  within = tt;
  unfit = unfit-answered _ _ _ _ c.in-Err.ensures.unfit;
  exact = λ stored scene tells there. tt;
  undamaged = λ stored scene tells there.
      let long : length stored ≡ length c.args.tree.now.entries =
      subst (λ (told : Option (List Stored)). IfSome told (λ all. length all ≡ g.B.Blocks.count c.args.blocks.now)) tells (g.met.B.Blocks.told_all c.args.blocks.now) ∙ c.requires.counts in
      fit-no-damage _ (c.in-Err.ensures.fit (shown-fits c.args.tree.now.entries c.args.second c.args.spec.now.epoch_length stored c.args.tx.now scene long there));
  fit = λ told fits. fit-no-damage _ (c.in-Err.ensures.fit fits);
}

pub returns-in-Err-of : goal.returns-in-Err-of
returns-in-Err-of g c = record {
  read = read_short (unread c.args.blocks.now);
  within = tt;
  unfit = there-fits _ _ _ c.in-Ok.ensures.unfit;
  exact = λ stored scene tells there. tt;
  undamaged = λ stored scene tells there. wanted-no-damage;
  fit = λ told fits. wanted-no-damage;
}
