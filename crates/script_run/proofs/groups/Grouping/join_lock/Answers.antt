use Rattle.std.proofs.Common.{◌≡◌, ap, ◌∙◌}
use Rattle.chain_defs.specs.Schema.{CellOutput}
use Rattle.chain_defs.specs.Cell.{script_hash}
use Rattle.chain_defs.specs.Row.{Row}
use Rattle.cell_state.specs.Copies.{ResolvedValue}
use Rattle.script_run.proofs.GroupLemmas.{joined-input}
use Rattle.script_run.proofs.LookLemmas.{same-output}
use Rattle.script_run.proofs.groups.Grouping.join_lock.Goals as goal

pub returns-clause-groups : goal.returns-clause-groups
returns-clause-groups c cell before shown groups place =
    let output : c.output_of.result ≡ cell.output = same-output c.args.copy.now cell c.output_of.result shown c.output_of.ensures in
    let hash : c.meta.inside.lock_hash ≡ script_hash cell.output.lock =
    ap (λ (row : Row). row.lock_hash) c.meta.view_is ∙ ap (λ (copy : ResolvedValue). copy.row.lock_hash) c.copy.view_is ∙ shown.lock in
    joined-input before cell.output.lock c.lock.result c.meta.inside.lock_hash c.args.input c.args.self.now.groups.items c.add_input.new.self.groups.items groups place
    (c.lock.ensures ∙ ap (λ (o : CellOutput). o.lock) output) hash c.in_ok-add_input.ensures.groups
