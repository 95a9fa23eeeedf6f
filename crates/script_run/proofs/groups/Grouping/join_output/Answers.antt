use Rattle.std.proofs.Common.{◌≡◌, [], ◌∷◌, ◌++◌, Option, None, refl, ap, sym, ◌∙◌}
use Rattle.std.specs.Option.{option_map}
use Rattle.chain_defs.specs.Schema.{Script}
use Rattle.chain_defs.specs.Cell.{script_hash}
use Rattle.chain_defs.specs.Row.{Row}
use Rattle.script_run.specs.Grouping.{grouped}
use Rattle.script_run.proofs.GroupLemmas.{joined-output, grouped-output-none, hashed, typed-none, typed-some}
use Rattle.script_run.proofs.groups.Grouping.join_output.Goals as goal

pub returns-in-None-clause-groups : goal.returns-in-None-clause-groups
returns-in-None-clause-groups c inputs before groups place =
    let hash : c.row.inside.type_hash ≡ option_map script_hash c.args.made.now.type_script = ap (λ (row : Row). row.type_hash) c.row.view_is ∙ c.requires.hash in
    let found : c.typed.result ≡ option_map hashed c.args.made.now.type_script = c.typed.ensures hash in
    let none : c.args.made.now.type_script ≡ None = typed-none c.args.made.now.type_script (sym c.in-None.is ∙ found) in
    groups ∙ sym (grouped-output-none inputs before) ∙ ap (λ (x : Option Script). grouped inputs (before ++ x ∷ [])) (sym none)

pub returns-in-Ok-clause-groups : goal.returns-in-Ok-clause-groups
returns-in-Ok-clause-groups c inputs before groups place =
    let hash : c.row.inside.type_hash ≡ option_map script_hash c.args.made.now.type_script = ap (λ (row : Row). row.type_hash) c.row.view_is ∙ c.requires.hash in
    let found : c.typed.result ≡ option_map hashed c.args.made.now.type_script = c.typed.ensures hash in
    let parts = typed-some c.args.made.now.type_script c.in-Some.found (sym c.in-Some.is ∙ found) in
    joined-output inputs before c.in-Some.found.0 c.in-Some.found.0 c.in-Some.found.1 c.args.output c.args.self.now.groups.items c.add_output.new.self.groups.items groups place refl
    parts.1 c.in-Ok.ensures.groups
    ∙ ap (λ (x : Option Script). grouped inputs (before ++ x ∷ [])) (sym parts.0)
