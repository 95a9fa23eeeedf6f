use Rattle.std.proofs.Common.{◌≡◌, ℕ, ◌++◌, ◌∷◌, [], Some, None, List, if◌then◌else◌, length, arith, ap, sym, ◌∙◌, subst}
use Rattle.std.specs.Map.{lookup}
use Rattle.std.specs.Option.{option_copied}
use Rattle.std.specs.Str.{bytes_eq}
use Rattle.chain_defs.specs.Schema.{Script}
use Rattle.script_run.specs.Shown.{GroupValue}
use Rattle.script_run.specs.Grouping.{FindsEachGroup, new_group, place_with}
use Rattle.script_run.proofs.GroupLemmas.{with-found, with-new, finds-new, new-place}
use Rattle.script_run.proofs.groups.Grouping.place_of.Goals as goal

-- what is pushed is a group with no members
pushed : (before after : List GroupValue) (s : Script) (hash inputs outputs : List ℕ)
    → after ≡ before ++ record { group = record { script = s; inputs = inputs; outputs = outputs }; hash = hash } ∷ [] → inputs ≡ [] → outputs ≡ []
    → after ≡ before ++ new_group hash s ∷ []
pushed before after s hash inputs outputs is no_inputs no_outputs =
    is
    ∙ ap (λ (l : List ℕ). before ++ record { group = record { script = s; inputs = l; outputs = outputs }; hash = hash } ∷ []) no_inputs
    ∙ ap (λ (l : List ℕ). before ++ record { group = record { script = s; inputs = []; outputs = l }; hash = hash } ∷ []) no_outputs

pub returns-in-Some-clause-groups : goal.returns-in-Some-clause-groups
returns-in-Some-clause-groups c =
    let found : place_with c.args.hash 0 c.args.self.now.groups.items ≡ Some c.in-Some.place.now =
    sym (c.requires.known.at c.args.hash) ∙ sym c.get.ensures.value ∙ ap option_copied c.in-Some.is in
    sym (with-found c.args.hash c.args.script c.args.self.now.groups.items 0 c.in-Some.place.now found)

pub returns-clause-known : goal.returns-clause-known
returns-clause-known c =
    let none : place_with c.args.hash 0 c.args.self.now.groups.items ≡ None =
    sym (c.requires.known.at c.args.hash) ∙ sym c.get.ensures.value ∙ ap option_copied c.in_default.is in
    let len : c.len-place.result ≡ length c.args.self.now.groups.items = omega (arith, c.len-place.ensures, c.args.self.now.groups.ok.0) in
    let items : c.push.new.self.items ≡ c.args.self.now.groups.items ++ new_group c.args.hash c.args.script ∷ [] =
    pushed c.args.self.now.groups.items c.push.new.self.items c.args.script c.args.hash c.new.result.items c.new-2.result.items
    c.in_ok-push.ensures.items c.new.ensures.items c.new-2.ensures.items in
    subst (λ (l : List GroupValue). FindsEachGroup c.insert.new.self.entries l) (sym items)
    (finds-new c.args.self.now.places.entries c.insert.new.self.entries c.args.self.now.groups.items c.args.hash c.args.script c.requires.known none
    (λ q. c.in_ok-insert.ensures.updates.0 q
    ∙ ap (λ (n : ℕ). if bytes_eq c.args.hash q then Some n else lookup (bytes_eq q) c.args.self.now.places.entries) len))

pub returns-clause-groups : goal.returns-clause-groups
returns-clause-groups c =
    let none : place_with c.args.hash 0 c.args.self.now.groups.items ≡ None =
    sym (c.requires.known.at c.args.hash) ∙ sym c.get.ensures.value ∙ ap option_copied c.in_default.is in
    pushed c.args.self.now.groups.items c.push.new.self.items c.args.script c.args.hash c.new.result.items c.new-2.result.items
    c.in_ok-push.ensures.items c.new.ensures.items c.new-2.ensures.items
    ∙ sym (with-new c.args.hash c.args.script c.args.self.now.groups.items 0 none)

pub returns-clause-place : goal.returns-clause-place
returns-clause-place c =
    let none : place_with c.args.hash 0 c.args.self.now.groups.items ≡ None =
    sym (c.requires.known.at c.args.hash) ∙ sym c.get.ensures.value ∙ ap option_copied c.in_default.is in
    let len : c.len-place.result ≡ length c.args.self.now.groups.items = omega (arith, c.len-place.ensures, c.args.self.now.groups.ok.0) in
    ap (place_with c.args.hash 0) (pushed c.args.self.now.groups.items c.push.new.self.items c.args.script c.args.hash c.new.result.items c.new-2.result.items
    c.in_ok-push.ensures.items c.new.ensures.items c.new-2.ensures.items)
    ∙ new-place c.args.hash c.args.script c.args.self.now.groups.items none
    ∙ ap (λ (n : ℕ). Some n) (sym len)
