use Rattle.std.proofs.Common.{◌≡◌, rules, ap, sym, ◌∙◌}
use Rattle.machine_defs.specs.World.{Call}
use Rattle.verdict_defs.specs.Items.{cell_at, cell_fields, field, header_at, header_fields, input_at, input_fields, listed}
use Rattle.script_run.proofs.SyscallLemmas.{at-2051, at-2052, at-2061, at-2062, at-2071, at-2072, at-2073, at-2074, at-2081, at-2082, at-2083, at-2091, at-2092, no-load}
use Rattle.script_run.proofs.items.load_of.Goals as goal

pub returns-in-2051 : goal.returns-in-2051
returns-in-2051 c scene it =
    let number : c.args.call.now.number ≡ 2051 = sym (ap (λ (call : Call). call.number) c.call.view_is) ∙ c.in-2051.is in
    at-2051 scene it c.args.call.now number

pub returns-in-2052 : goal.returns-in-2052
returns-in-2052 c scene it =
    let number : c.args.call.now.number ≡ 2052 = sym (ap (λ (call : Call). call.number) c.call.view_is) ∙ c.in-2052.is in
    at-2052 scene it c.args.call.now number

pub returns-in-2061 : goal.returns-in-2061
returns-in-2061 c scene it =
    let number : c.args.call.now.number ≡ 2061 = sym (ap (λ (call : Call). call.number) c.call.view_is) ∙ c.in-2061.is in
    at-2061 scene it c.args.call.now number

pub returns-in-2062 : goal.returns-in-2062
returns-in-2062 c scene it =
    let number : c.args.call.now.number ≡ 2062 = sym (ap (λ (call : Call). call.number) c.call.view_is) ∙ c.in-2062.is in
    at-2062 scene it c.args.call.now number

pub returns-in-2071 : goal.returns-in-2071
returns-in-2071 c scene it =
    let number : c.args.call.now.number ≡ 2071 = sym (ap (λ (call : Call). call.number) c.call.view_is) ∙ c.in-2071.is in
    at-2071 scene it c.args.call.now number

pub returns-in-2072 : goal.returns-in-2072
returns-in-2072 c scene it =
    let number : c.args.call.now.number ≡ 2072 = sym (ap (λ (call : Call). call.number) c.call.view_is) ∙ c.in-2072.is in
    at-2072 scene it c.args.call.now number

pub returns-in-2073 : goal.returns-in-2073
returns-in-2073 c scene it =
    let number : c.args.call.now.number ≡ 2073 = sym (ap (λ (call : Call). call.number) c.call.view_is) ∙ c.in-2073.is in
    at-2073 scene it c.args.call.now number

pub returns-in-2074 : goal.returns-in-2074
returns-in-2074 c scene it =
    let number : c.args.call.now.number ≡ 2074 = sym (ap (λ (call : Call). call.number) c.call.view_is) ∙ c.in-2074.is in
    at-2074 scene it c.args.call.now number

pub returns-in-2081 : goal.returns-in-2081
returns-in-2081 c scene it =
    let number : c.args.call.now.number ≡ 2081 = sym (ap (λ (call : Call). call.number) c.call.view_is) ∙ c.in-2081.is in
    let asked = c.cell_field.ensures ∙ ap (λ (call : Call). field cell_fields call.field) c.call.view_is in
    at-2081 scene it c.args.call.now number ∙ ap (listed it.group c.args.call.now (cell_at scene)) (sym asked)

pub returns-in-2082 : goal.returns-in-2082
returns-in-2082 c scene it =
    let number : c.args.call.now.number ≡ 2082 = sym (ap (λ (call : Call). call.number) c.call.view_is) ∙ c.in-2082.is in
    let asked = c.header_field.ensures scene.epoch_length ∙ ap (λ (call : Call). field (header_fields scene.epoch_length) call.field) c.call.view_is in
    at-2082 scene it c.args.call.now number ∙ ap (listed it.group c.args.call.now (header_at scene)) (sym asked)

pub returns-in-2083 : goal.returns-in-2083
returns-in-2083 c scene it =
    let number : c.args.call.now.number ≡ 2083 = sym (ap (λ (call : Call). call.number) c.call.view_is) ∙ c.in-2083.is in
    let asked = c.input_field.ensures ∙ ap (λ (call : Call). field input_fields call.field) c.call.view_is in
    at-2083 scene it c.args.call.now number ∙ ap (listed it.group c.args.call.now (input_at scene)) (sym asked)

pub returns-in-2091 : goal.returns-in-2091
returns-in-2091 c scene it =
    let number : c.args.call.now.number ≡ 2091 = sym (ap (λ (call : Call). call.number) c.call.view_is) ∙ c.in-2091.is in
    at-2091 scene it c.args.call.now number

pub returns-in-2092 : goal.returns-in-2092
returns-in-2092 c scene it =
    let number : c.args.call.now.number ≡ 2092 = sym (ap (λ (call : Call). call.number) c.call.view_is) ∙ c.in-2092.is in
    at-2092 scene it c.args.call.now number

pub returns-in_default : goal.returns-in_default
returns-in_default c scene it =
    let number : c.call.inside.number ≡ c.args.call.now.number = ap (λ (call : Call). call.number) c.call.view_is in
    let not2051 : c.call.inside.number ≡ 2051 → ⊥ = search rules in
    let not2052 : c.call.inside.number ≡ 2052 → ⊥ = search rules in
    let not2061 : c.call.inside.number ≡ 2061 → ⊥ = search rules in
    let not2062 : c.call.inside.number ≡ 2062 → ⊥ = search rules in
    let not2071 : c.call.inside.number ≡ 2071 → ⊥ = search rules in
    let not2072 : c.call.inside.number ≡ 2072 → ⊥ = search rules in
    let not2073 : c.call.inside.number ≡ 2073 → ⊥ = search rules in
    let not2074 : c.call.inside.number ≡ 2074 → ⊥ = search rules in
    let not2081 : c.call.inside.number ≡ 2081 → ⊥ = search rules in
    let not2082 : c.call.inside.number ≡ 2082 → ⊥ = search rules in
    let not2083 : c.call.inside.number ≡ 2083 → ⊥ = search rules in
    let not2091 : c.call.inside.number ≡ 2091 → ⊥ = search rules in
    let not2092 : c.call.inside.number ≡ 2092 → ⊥ = search rules in
    no-load scene it c.args.call.now (λ e. not2051 (number ∙ e)) (λ e. not2052 (number ∙ e)) (λ e. not2061 (number ∙ e)) (λ e. not2062 (number ∙ e)) (λ e. not2071 (number ∙ e)) (λ e. not2072 (number ∙ e)) (λ e. not2073 (number ∙ e)) (λ e. not2074 (number ∙ e)) (λ e. not2081 (number ∙ e)) (λ e. not2082 (number ∙ e)) (λ e. not2083 (number ∙ e)) (λ e. not2091 (number ∙ e)) (λ e. not2092 (number ∙ e))
