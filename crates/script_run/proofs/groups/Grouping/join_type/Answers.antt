use Rattle.std.proofs.Common.{◌≡◌, [], ◌∷◌, ◌++◌, Option, None, refl, ap, sym, ◌∙◌}
use Rattle.std.specs.Option.{option_map}
use Rattle.chain_defs.specs.Schema.{CellOutput, Script}
use Rattle.chain_defs.specs.Cell.{script_hash}
use Rattle.chain_defs.specs.Row.{Row}
use Rattle.cell_state.specs.Copies.{ResolvedValue}
use Rattle.script_run.specs.Grouping.{grouped}
use Rattle.script_run.proofs.GroupLemmas.{joined-input, grouped-input-none, hashed, typed-none, typed-some}
use Rattle.script_run.proofs.LookLemmas.{same-output}
use Rattle.script_run.proofs.groups.Grouping.join_type.Goals as goal

pub returns-in-None-clause-groups : goal.returns-in-None-clause-groups
returns-in-None-clause-groups c cell before shown groups place =
    let output : c.output_of.result ≡ cell.output = same-output c.args.copy.now cell c.output_of.result shown c.output_of.ensures in
    let hash : c.meta.inside.type_hash ≡ option_map script_hash c.output_of.result.type_script =
    ap (λ (row : Row). row.type_hash) c.meta.view_is ∙ ap (λ (copy : ResolvedValue). copy.row.type_hash) c.copy.view_is ∙ shown.type_script
    ∙ ap (λ (o : CellOutput). option_map script_hash o.type_script) (sym output) in
    let found : c.typed.result ≡ option_map hashed c.output_of.result.type_script = c.typed.ensures hash in
    let none : cell.output.type_script ≡ None =
    ap (λ (o : CellOutput). o.type_script) (sym output) ∙ typed-none c.output_of.result.type_script (sym c.in-None.is ∙ found) in
    groups ∙ sym (grouped-input-none before) ∙ ap (λ (x : Option Script). grouped (before ++ x ∷ []) []) (sym none)

pub returns-in-Ok-clause-groups : goal.returns-in-Ok-clause-groups
returns-in-Ok-clause-groups c cell before shown groups place =
    let output : c.output_of.result ≡ cell.output = same-output c.args.copy.now cell c.output_of.result shown c.output_of.ensures in
    let hash : c.meta.inside.type_hash ≡ option_map script_hash c.output_of.result.type_script =
    ap (λ (row : Row). row.type_hash) c.meta.view_is ∙ ap (λ (copy : ResolvedValue). copy.row.type_hash) c.copy.view_is ∙ shown.type_script
    ∙ ap (λ (o : CellOutput). option_map script_hash o.type_script) (sym output) in
    let found : c.typed.result ≡ option_map hashed c.output_of.result.type_script = c.typed.ensures hash in
    let parts = typed-some c.output_of.result.type_script c.in-Some.found (sym c.in-Some.is ∙ found) in
    joined-input before c.in-Some.found.0 c.in-Some.found.0 c.in-Some.found.1 c.args.input c.args.self.now.groups.items c.add_input.new.self.groups.items groups place refl
    parts.1 c.in-Ok.ensures.groups
    ∙ ap (λ (x : Option Script). grouped (before ++ x ∷ []) []) (sym parts.0 ∙ ap (λ (o : CellOutput). o.type_script) output)
