use Rattle.std.proofs.Common.{List, refl, sym, ap, subst, ◌∙◌}
use Rattle.std.specs.List.{All}
use Rattle.verdict_defs.specs.Outcome.{first_without_code, run_from}
use Rattle.script_run.specs.Running.{IsOutcome, read_stop_of}
use Rattle.script_run.specs.Shown.{GroupValue, HasItsHash}
use Rattle.script_run.proofs.ShowingLemmas.{shown-over}
use Rattle.chain_tree.proofs.ReadLemmas.{unread, read_short}
use Rattle.script_run.proofs.ReadLemmas.{not-there, wanted-no-damage}
use Rattle.script_run.proofs.RunningLemmas.{groups_in, codes-in, first-fails, all-run}
use Rattle.script_run.proofs.running.run_shown.Goals as goal

pub returns-in-Err : goal.returns-in-Err
returns-in-Err g c = record {
  read = read_short (unread c.args.blocks.now);
  within = tt;
  exact = λ stored scene tells there. tt;
  undamaged = λ told. wanted-no-damage;
}

pub returns-in-Some : goal.returns-in-Some
returns-in-Some g c = record {
  read = unread c.args.blocks.now;
  within = tt;
  exact = λ stored scene tells there.
      let over = shown-over _ _ stored _ scene there in
      first-fails scene c.args.budget (groups_in c.in-Ok.groups.items) c.in-Some.failure (c.in-Ok.ensures.groups scene over.shows)
      (c.in-Some.ensures scene (codes-in scene c.args.codes.now c.args.tx.now c.requires.codes over.shows.deps over.second_is)
      ∙ ap (λ (values : List GroupValue). first_without_code scene 0 (groups_in values)) c.deref.ensures.value);
  undamaged = λ told damage is. not-there _ _ refl (ap read_stop_of is);
}

pub returns : goal.returns
returns g c = record {
  read = c.run_each.ensures.read;
  within = c.run_each.ensures.within;
  exact = λ stored scene tells there.
      let over = shown-over _ _ stored _ scene there in
      let hashes : All HasItsHash c.deref-2.result.now =
      subst (λ (values : List GroupValue). All HasItsHash values) (sym c.deref-2.ensures.value) (c.in-Ok.ensures.hashes scene over.shows) in
      all-run scene c.args.budget (groups_in c.in-Ok.groups.items) c.run_each.result (c.in-Ok.ensures.groups scene over.shows)
      (sym c.in_default.is ∙ c.first_without_code.ensures scene (codes-in scene c.args.codes.now c.args.tx.now c.requires.codes over.shows.deps over.second_is)
      ∙ ap (λ (values : List GroupValue). first_without_code scene 0 (groups_in values)) c.deref.ensures.value)
      (subst (λ (values : List GroupValue). IsOutcome (run_from scene c.args.budget 0 (groups_in values)) c.run_each.result) c.deref-2.ensures.value
      (c.run_each.ensures.exact stored scene tells there hashes));
  undamaged = c.run_each.ensures.undamaged;
}
