use Rattle.std.proofs.Common.{Option, Some, ap, ◌∙◌}
use Rattle.std.specs.Option.{option_map}
use Rattle.machine_defs.specs.World.{Call}
use Rattle.verdict_defs.specs.Items.{header_at, listed}
use Rattle.script_run.specs.declared.bytes.HeaderPart.{HeaderPart}
use Rattle.script_run.specs.Lookups.{header_part}
use Rattle.script_run.proofs.LookLemmas.{found, listed-to}
use Rattle.script_run.proofs.items.header.Goals as goal

pub returns-in-At-clause-found : goal.returns-in-At-clause-found
returns-in-At-clause-found c headers length scene shows among =
    found headers length _ _ c.header_at.result
    (ap (λ (p : Option HeaderPart). listed c.args.group.now.group c.args.call.now (header_at scene) (option_map (λ part h. Some (header_part length part h)) p)) c.in-Some.is
    ∙ listed-to c.args.group.now.group c.args.call.now (header_at scene) (λ h. Some (header_part length c.in-Some.part h)) c.target_of.result c.in-At.place _ _ c.target_of.ensures c.in-At.is
    (ap (λ (call : Call). call.index) c.call.view_is) (ap (λ (call : Call). call.source) c.call.view_is))
    (c.header_at.ensures.found headers length scene among)

pub returns-in-At-clause-kept : goal.returns-in-At-clause-kept
returns-in-At-clause-kept c kept all = c.header_at.ensures.kept kept all
