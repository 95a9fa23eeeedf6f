use Rattle.std.proofs.Common.{◌≡◌, ℕ, false, List, [], length, take, Some, None, sym, ap, ◌∙◌, refl, arith, rules}
use Rattle.std.specs.Prelude.{slice_get}
use Rattle.std.specs.List.{list_any}
use Rattle.std.proofs.lemmas.List.{take_all}
use Rattle.std.proofs.lemmas.Bool.{and_from, and_left, and_right}
use Rattle.std.proofs.lemmas.Option.{slice_get_read}
use Rattle.chain_defs.specs.Branch.{branch_places}
use Rattle.uncle_rules.specs.declared.index.Entry.{Entry}
use Rattle.uncle_rules.specs.Embedded.{UnclesValue}
use Rattle.uncle_rules.specs.Known.{has_number, is_on, is_named_on}
use Rattle.uncle_rules.specs.Linked.{last_of}
use Rattle.uncle_rules.proofs.LinkLemmas.{any-unlinked}
use Rattle.uncle_rules.proofs.WalkLemmas.{is_at, is_one, any-seen, step, passing, failing, before, fewer}
use Rattle.uncle_rules.proofs.index.Uncles.embeds.Goals as goal
use Rattle.uncle_rules.proofs.index.Uncles.embeds.Goals.{else-has_number-via-then-has_number+else-is_on_branch, else-has_number-via-else-has_number}

pub walk-init : goal.walk-init
walk-init c =
    let entries : List Entry = c.self.inside.entries.items in
    let all : take (length entries) entries ≡ entries = take_all (length entries) entries (omega arith) in (
      length entries,
      c.copied-next.ensures ∙ c.get.ensures.value ∙ c.self.invariant.0.last c.args.hash.now ∙ ap (λ (l : List Entry). last_of l c.args.hash.now) (sym all),
      λ kept indexes. ap (list_any (is_one (branch_places kept c.args.parent) c.args.hash.now c.args.number)) (sym all),
    )

pub index-entry-requires : goal.index-entry-requires
index-entry-requires c =
    let within = (step [] c.args.hash.now c.args.number c.self.inside.entries.items c.walk.invariant.0 c.in-Some.at (sym c.walk.invariant.1 ∙ c.in-Some.is)).within in
    omega (arith, within, c.self.inside.entries.ok)

pub returns-then-is_on_branch : goal.returns-then-is_on_branch
returns-then-is_on_branch c kept indexes =
    let entries : List Entry = c.self.inside.entries.items in
    let places : List ℕ = branch_places kept c.args.parent in
    let found : last_of (take c.walk.invariant.0 entries) c.args.hash.now ≡ Some c.in-Some.at = sym c.walk.invariant.1 ∙ c.in-Some.is in
    let within = (step places c.args.hash.now c.args.number entries c.walk.invariant.0 c.in-Some.at found).within in
    let there : slice_get entries c.in-Some.at ≡ Some c.index-entry.result.now =
    slice_get_read entries (length entries) c.in-Some.at c.index-entry.result.now refl within c.index-entry.ensures in
    sym (
    ap (λ (v : UnclesValue). list_any (is_named_on places c.args.hash.now c.args.number) v.embedded) (sym c.self.view_is)
    ∙ any-seen places c.args.hash.now c.args.number entries
    ∙ c.walk.invariant.2 kept indexes
    ∙ passing places c.args.hash.now c.args.number entries c.walk.invariant.0 c.in-Some.at c.index-entry.result.now found there
    (and_from _ _ (sym c.has_number.ensures ∙ c.if-has_number.true) (sym (c.is_on_branch.ensures kept indexes) ∙ c.if-is_on_branch.true))
    )

pub walk-smaller : goal.walk-smaller
walk-smaller c =
    let entries : List Entry = c.self.inside.entries.items in
    let found : last_of (take c.walk.invariant.0 entries) c.args.hash.now ≡ Some c.in-Some.at = sym c.walk.invariant.1 ∙ c.in-Some.is in
    let within = (step [] c.args.hash.now c.args.number entries c.walk.invariant.0 c.in-Some.at found).within in
    let there : slice_get entries c.in-Some.at ≡ Some c.index-entry.result.now =
    slice_get_read entries (length entries) c.in-Some.at c.index-entry.result.now refl within c.index-entry.ensures in
    fewer c.args.hash.now entries c.in-Some.at c.walk.next c.index-entry.result.now.earlier c.in-Some.is
    (before c.args.hash.now entries _ c.walk.invariant.0 c.in-Some.at c.index-entry.result.now c.self.invariant.0 found there)

pub walk-preserved : goal.walk-preserved
walk-preserved c =
    let entries : List Entry = c.self.inside.entries.items in
    let found : last_of (take c.walk.invariant.0 entries) c.args.hash.now ≡ Some c.in-Some.at = sym c.walk.invariant.1 ∙ c.in-Some.is in
    let within = (step [] c.args.hash.now c.args.number entries c.walk.invariant.0 c.in-Some.at found).within in
    let there : slice_get entries c.in-Some.at ≡ Some c.index-entry.result.now =
    slice_get_read entries (length entries) c.in-Some.at c.index-entry.result.now refl within c.index-entry.ensures in (
      c.in-Some.at,
      before c.args.hash.now entries _ c.walk.invariant.0 c.in-Some.at c.index-entry.result.now c.self.invariant.0 found there,
      λ kept indexes.
          let places : List ℕ = branch_places kept c.args.parent in
          let fails : is_at places c.args.number c.index-entry.result.now ≡ false =
          elim c.else-has_number.branch [
            | else-has_number-via-then-has_number+else-is_on_branch w ↦
                and_right (has_number c.args.number c.index-entry.result.now.number) (is_on places c.index-entry.result.now.place)
                (sym (w.is_on_branch.ensures kept indexes) ∙ w.if-is_on_branch.false)
            | else-has_number-via-else-has_number w ↦
                and_left (has_number c.args.number c.index-entry.result.now.number) (is_on places c.index-entry.result.now.place)
                (sym c.has_number.ensures ∙ w.if-has_number.false)
          ] in
          c.walk.invariant.2 kept indexes
          ∙ failing places c.args.hash.now c.args.number entries c.walk.invariant.0 c.in-Some.at c.index-entry.result.now found there fails,
    )

pub returns : goal.returns
returns c kept indexes =
    let entries : List Entry = c.self.inside.entries.items in
    let places : List ℕ = branch_places kept c.args.parent in
    let none : c.walk.next ≡ None = search rules in
    sym (
    ap (λ (v : UnclesValue). list_any (is_named_on places c.args.hash.now c.args.number) v.embedded) (sym c.self.view_is)
    ∙ any-seen places c.args.hash.now c.args.number entries
    ∙ c.walk.invariant.2 kept indexes
    ∙ any-unlinked c.args.hash.now (is_at places c.args.number) (take c.walk.invariant.0 entries) (sym c.walk.invariant.1 ∙ none)
    )
