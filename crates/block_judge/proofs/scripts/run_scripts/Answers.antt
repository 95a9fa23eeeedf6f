use Rattle.std.proofs.Common.{Err, ap, subst}
use Rattle.tx_rules.specs.At.{AtValue}
use Rattle.verdict_defs.specs.Scene.{scene_of}
use Rattle.block_judge.specs.Stops.{AnswersRunning}
use Rattle.block_judge.proofs.Exits.{same_stop, no_error, read_as, running-stop}
use Rattle.block_judge.proofs.SceneLemmas.{edition-told, scene-told}
use Rattle.block_judge.proofs.ScriptLemmas.{scripts-keep, scripts-stop, script-rule}
use Rattle.block_judge.proofs.scripts.run_scripts.Goals as goal

pub returns-in-Ok : goal.returns-in-Ok
returns-in-Ok g c = record {
  read = c.in-Ok.ensures.read;
  within = c.in-Ok.ensures.within;
  rule = λ rule same. absurd (no_error same);
  exact = λ stored rows site told is resolves.
      let spec = ap (λ (at : AtValue). at.spec) c.at.view_is in
      let edition = edition-told stored c.args.at.now rows site _ _ _ is spec (c.height.ensures.height stored rows site is) c.is_second_at-second.ensures in
      scripts-keep (scene_of site c.args.resolved.now.tx) c.args.left c.in-Ok.cycles (c.in-Ok.ensures.exact stored (scene_of site c.args.resolved.now.tx) told
      (scene-told stored c.args.at.now rows site c.at.inside.spec.now _ c.args.resolved.now is c.requires.formed resolves spec edition));
}

pub returns-in-Err : goal.returns-in-Err
returns-in-Err g c = record {
  read = read_as (running-stop c.in-Err.stop c.stopped.result c.stopped.ensures) c.in-Err.ensures.read;
  within = tt;
  rule = λ rule same. script-rule c.in-Err.stop rule (subst (AnswersRunning c.in-Err.stop) (same_stop same) c.stopped.ensures);
  exact = λ stored rows site told is resolves.
      let spec = ap (λ (at : AtValue). at.spec) c.at.view_is in
      let edition = edition-told stored c.args.at.now rows site _ _ _ is spec (c.height.ensures.height stored rows site is) c.is_second_at-second.ensures in
      let shows = scene-told stored c.args.at.now rows site c.at.inside.spec.now _ c.args.resolved.now is c.requires.formed resolves spec edition in
      scripts-stop (scene_of site c.args.resolved.now.tx) c.args.left c.in-Err.stop c.stopped.result
      (c.in-Err.ensures.exact stored (scene_of site c.args.resolved.now.tx) told shows)
      (λ damage same. c.in-Err.ensures.undamaged stored (scene_of site c.args.resolved.now.tx) told shows damage (ap Err same)) c.stopped.ensures;
}
