use Rattle.std.proofs.Common.{◌≡◌, ◌<◌, Some, None, List, length, ap, subst, sym, ◌∙◌}
use Rattle.std.specs.Prelude.{slice_get, slice_index}
use Rattle.std.proofs.lemmas.Option.{get_or_from_slice_get}
use Rattle.chain_defs.specs.Schema.{Block}
use Rattle.chain_defs.specs.Kept.{place_of}
use Rattle.chain_defs.specs.Branch.{branch_places}
use Rattle.chain_tree.specs.Told.{blocks_of}
use Rattle.tx_rules.specs.At.{AtValue, IsSiteOf}
use Rattle.tx_rules.proofs.HeaderLemmas.{not-kept, too-high, not-there, is-there}
use Rattle.tx_rules.proofs.headers.ancestor_with.Goals as goal

pub returns-in_default-clause-height : goal.returns-in_default-clause-height
returns-in_default-clause-height c stored rows site is =
    let here = subst (λ (at : AtValue). IsSiteOf stored at rows site) (sym c.at.view_is) is in
    let within = subst (λ (at : AtValue). at.parent < length at.entries) (sym c.at.view_is) c.requires.placed.parent in
    let none : place_of (blocks_of stored) c.args.hash.now ≡ None = sym (c.find.ensures.of_blocks (blocks_of stored) here.indexed) ∙ c.in_default.is in
    sym (ap (λ (blocks : List Block). place_of blocks c.args.hash.now) here.on_branch
    ∙ not-kept (blocks_of stored) c.at.inside.tree.now.entries c.at.inside.parent c.args.hash.now here.indexed within none)

pub returns-then-height-clause-height : goal.returns-then-height-clause-height
returns-then-height-clause-height c stored rows site is =
    let here = subst (λ (at : AtValue). IsSiteOf stored at rows site) (sym c.at.view_is) is in
    let within = subst (λ (at : AtValue). at.parent < length at.entries) (sym c.at.view_is) c.requires.placed.parent in
    let found : place_of (blocks_of stored) c.args.hash.now ≡ Some c.in-Some.place =
    sym (c.find.ensures.of_blocks (blocks_of stored) here.indexed) ∙ c.in-Some.is in
    sym (ap (λ (blocks : List Block). place_of blocks c.args.hash.now) here.on_branch
    ∙ too-high (blocks_of stored) c.at.inside.tree.now.entries c.at.inside.parent c.in-Some.place c.height.result c.entry.result.now c.args.hash.now here.indexed within
    found c.entry.ensures.entry (c.height.ensures.height stored rows site is ∙ ap length here.on_branch) c.if-height.true)

pub returns-then-ancestor-place-clause-height : goal.returns-then-ancestor-place-clause-height
returns-then-ancestor-place-clause-height c stored rows site is =
    let here = subst (λ (at : AtValue). IsSiteOf stored at rows site) (sym c.at.view_is) is in
    let within = subst (λ (at : AtValue). at.parent < length at.entries) (sym c.at.view_is) c.requires.placed.parent in
    let found : place_of (blocks_of stored) c.args.hash.now ≡ Some c.in-Some.place =
    sym (c.find.ensures.of_blocks (blocks_of stored) here.indexed) ∙ c.in-Some.is in
    sym (ap (λ (blocks : List Block). place_of blocks c.args.hash.now) here.on_branch
    ∙ not-there (blocks_of stored) c.at.inside.tree.now.entries c.at.inside.parent c.in-Some.place c.ancestor.result c.entry.result.now c.args.hash.now here.indexed within
    found c.entry.ensures.entry (c.ancestor.ensures.of_blocks (blocks_of stored) here.indexed) c.if-ancestor-place.true)

pub returns-clause-height : goal.returns-clause-height
returns-clause-height c stored rows site is =
    let here = subst (λ (at : AtValue). IsSiteOf stored at rows site) (sym c.at.view_is) is in
    let within = subst (λ (at : AtValue). at.parent < length at.entries) (sym c.at.view_is) c.requires.placed.parent in
    let found : place_of (blocks_of stored) c.args.hash.now ≡ Some c.in-Some.place =
    sym (c.find.ensures.of_blocks (blocks_of stored) here.indexed) ∙ c.in-Some.is in
    let on : slice_get (branch_places (blocks_of stored) c.at.inside.parent) c.entry.result.now.number ≡ Some c.in-Some.place =
    c.ancestor.ensures.of_blocks (blocks_of stored) here.indexed ∙ ap Some c.if-ancestor-place.false in
    sym (ap (λ (blocks : List Block). place_of blocks c.args.hash.now) here.on_branch
    ∙ is-there (blocks_of stored) c.at.inside.tree.now.entries c.at.inside.parent c.in-Some.place c.entry.result.now c.args.hash.now here.indexed within
    found c.entry.ensures.entry on)

pub returns-clause-place : goal.returns-clause-place
returns-clause-place c stored rows site is =
    let here = subst (λ (at : AtValue). IsSiteOf stored at rows site) (sym c.at.view_is) is in
    let on : slice_get (branch_places (blocks_of stored) c.at.inside.parent) c.entry.result.now.number ≡ Some c.in-Some.place =
    c.ancestor.ensures.of_blocks (blocks_of stored) here.indexed ∙ ap Some c.if-ancestor-place.false in
    sym (get_or_from_slice_get (branch_places (blocks_of stored) c.at.inside.parent) c.entry.result.now.number c.in-Some.place 0 on)
    ∙ ap (λ (at : AtValue). slice_index (branch_places (blocks_of stored) at.parent) c.entry.result.now.number) c.at.view_is
