use Rattle.std.proofs.Common.{Some, ℕ, true, false, ap, sym, ◌∙◌}
use Rattle.std.specs.Prelude.{slice_index}
use Rattle.std.specs.Option.{option_map}
use Rattle.chain_defs.specs.Branch.{branch_places}
use Rattle.chain_tree.specs.Told.{blocks_of}
use Rattle.tx_rules.proofs.HeaderLemmas.{named-none, named-by}
use Rattle.tx_rules.proofs.headers.header_place.Goals as goal

pub returns-in_default-clause-height : goal.returns-in_default-clause-height
returns-in_default-clause-height c stored rows site is =
    named-none site c.args.hash.now (slice_index (branch_places (blocks_of stored) c.args.at.now.parent))
    (sym (c.ancestor_with.ensures.height stored rows site is) ∙ ap (option_map (λ (it : ℕ × ℕ). it.1)) c.in_default.is)

pub returns-then-may_be_named-clause-height : goal.returns-then-may_be_named-clause-height
returns-then-may_be_named-clause-height c stored rows site is =
    let place : ℕ → ℕ = slice_index (branch_places (blocks_of stored) c.args.at.now.parent) in
    ap Some (c.in-Some.ensures.place stored rows site is)
    ∙ named-by site c.args.hash.now place c.in-Some.height true (sym (c.in-Some.ensures.height stored rows site is))
    (sym (c.may_be_named.ensures stored rows site is) ∙ c.if-may_be_named.true)

pub returns-else-may_be_named-clause-height : goal.returns-else-may_be_named-clause-height
returns-else-may_be_named-clause-height c stored rows site is =
    let place : ℕ → ℕ = slice_index (branch_places (blocks_of stored) c.args.at.now.parent) in
    named-by site c.args.hash.now place c.in-Some.height false (sym (c.in-Some.ensures.height stored rows site is))
    (sym (c.may_be_named.ensures stored rows site is) ∙ c.if-may_be_named.false)
