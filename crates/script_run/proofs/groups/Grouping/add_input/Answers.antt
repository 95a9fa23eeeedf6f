use Rattle.std.proofs.Common.{◌≡◌, ◌<◌, ◌++◌, ◌∷◌, [], ℕ, List, length, get_or, Some, arith, refl, ap, sym, ◌∙◌, subst}
use Rattle.std.proofs.Math.ListN.{set}
use Rattle.chain_defs.specs.Schema.{Script}
use Rattle.script_run.specs.Shown.{GroupValue}
use Rattle.script_run.specs.Grouping.{FindsEachGroup, with_input, changed, place_with}
use Rattle.script_run.proofs.GroupLemmas.{place-within, changed-at, finds-changed}
use Rattle.script_run.proofs.groups.Grouping.add_input.Goals as goal

abbrev made : List ℕ → List ℕ → List ℕ → Script → GroupValue
made inputs outputs hash s = record { group = record { script = s; inputs = inputs; outputs = outputs }; hash = hash }

-- one more is pushed to the inputs of the group at a place
pushed : (groups : List GroupValue) (wanted : List ℕ) (place input : ℕ) (g : GroupValue) (inputs outputs more hash : List ℕ) (s : Script)
    → place_with wanted 0 groups ≡ Some place → g ≡ get_or groups place g → made inputs outputs hash s ≡ g → more ≡ inputs ++ input ∷ []
    → set groups place (made more outputs hash s) ≡ changed (with_input input) wanted groups
pushed groups wanted place input g inputs outputs more hash s is there same pushes =
    ap (set groups place) (ap (λ (l : List ℕ). made l outputs hash s) pushes ∙ ap (with_input input) same)
    ∙ changed-at (with_input input) wanted groups place g is there

pub index_mut-group-requires : goal.index_mut-group-requires
index_mut-group-requires c =
    let within : c.in_ok-place.place < length c.place_of.new.self.groups.items =
    place-within c.args.hash c.place_of.new.self.groups.items c.in_ok-place.place c.in_ok-place.ensures.place in
    omega (arith, within, c.place_of.new.self.groups.ok.0)

pub returns-clause-known : goal.returns-clause-known
returns-clause-known c =
    subst (λ (l : List GroupValue). FindsEachGroup c.place_of.new.self.places.entries l)
    (sym (pushed c.place_of.new.self.groups.items c.args.hash c.in_ok-place.place c.args.input c.index_mut-group.result.now c.group.inside.inputs.items c.group.inside.outputs.items
    c.push.new.self.items c.group.inside.hash c.group.inside.script c.in_ok-place.ensures.place c.index_mut-group.ensures.value c.group.view_is c.in_ok-push.ensures.items))
    (finds-changed c.place_of.new.self.places.entries c.place_of.new.self.groups.items (with_input c.args.input) c.args.hash (λ g. refl) c.in_ok-place.ensures.known)

pub returns-clause-groups : goal.returns-clause-groups
returns-clause-groups c =
    pushed c.place_of.new.self.groups.items c.args.hash c.in_ok-place.place c.args.input c.index_mut-group.result.now c.group.inside.inputs.items c.group.inside.outputs.items
    c.push.new.self.items c.group.inside.hash c.group.inside.script c.in_ok-place.ensures.place c.index_mut-group.ensures.value c.group.view_is c.in_ok-push.ensures.items
    ∙ ap (changed (with_input c.args.input) c.args.hash) c.in_ok-place.ensures.groups
