use Rattle.std.proofs.Common.{◌≡◌, drop}
use Rattle.std.specs.List.{list_all}
use Rattle.std.specs.Str.{bytes_eq}
use Rattle.verdict_defs.specs.Scene.{Scene}
use Rattle.verdict_defs.specs.TypeId.{is_new, new_type_id}
use Rattle.script_run.proofs.type_id.is_new.Given as goal

abbrev pub invariant-outputs : goal.invariant-outputs
invariant-outputs l = (scene : Scene) → scene.transaction ≡ l.tx
    → is_new scene l.group.group ≡ list_all (λ place. bytes_eq l.group.group.script.args (new_type_id scene place)) (drop l.i l.group.group.outputs)
