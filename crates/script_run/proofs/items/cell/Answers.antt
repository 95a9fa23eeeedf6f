use Rattle.std.proofs.Common.{Option, ap, subst, sym, ◌∙◌}
use Rattle.std.specs.Option.{option_map}
use Rattle.cell_state.specs.Copies.{ResolvedTxValue}
use Rattle.machine_defs.specs.World.{Call}
use Rattle.verdict_defs.specs.Items.{cell_at, listed}
use Rattle.script_run.specs.declared.bytes.CellPart.{CellPart}
use Rattle.script_run.specs.Lookups.{cell_part}
use Rattle.script_run.specs.Shown.{Shows, ShownTxValue}
use Rattle.script_run.proofs.LookLemmas.{listed-to}
use Rattle.script_run.proofs.items.cell.Goals as goal

pub returns-in-At : goal.returns-in-At
returns-in-At c scene shows =
    let here : Shows c.tx.inside.it.now scene = subst (λ (t : ResolvedTxValue). Shows t scene) (sym (ap (λ (t : ShownTxValue). t.it) c.tx.view_is)) shows in
    ap (λ (p : Option CellPart). listed c.args.group.now.group c.args.call.now (cell_at scene) (option_map cell_part p)) c.in-Some.is
    ∙ listed-to c.args.group.now.group c.args.call.now (cell_at scene) (cell_part c.in-Some.part) c.target_of.result c.in-At.place _ _ c.target_of.ensures c.in-At.is
    (ap (λ (call : Call). call.index) c.call.view_is) (ap (λ (call : Call). call.source) c.call.view_is)
    ∙ c.cell_at.ensures scene here
