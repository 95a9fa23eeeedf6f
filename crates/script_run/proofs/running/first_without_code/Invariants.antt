use Rattle.std.proofs.Common.{◌≡◌, map, drop}
use Rattle.verdict_defs.specs.Scene.{Scene}
use Rattle.verdict_defs.specs.Outcome.{first_without_code}
use Rattle.script_run.specs.Shown.{AreCodesIn, GroupValue}
use Rattle.script_run.proofs.running.first_without_code.Given as goal

abbrev pub invariant-groups : goal.invariant-groups
invariant-groups l = (scene : Scene) → AreCodesIn l.codes scene
    → first_without_code scene 0 (map (λ (it : GroupValue). it.group) l.groups) ≡ first_without_code scene l.i (drop l.i (map (λ (it : GroupValue). it.group) l.groups))
