use Rattle.std.proofs.Common.{◌≡◌, ℕ, suc, ◌+◌, ◌-◌, Bool, length, ap, sym, subst, ◌∙◌, arith}
use Rattle.std.specs.Prelude.{not, ◌&&◌}
use Rattle.chain_defs.specs.Shape.{encoded}
use Rattle.chain_defs.specs.Schema as schema
use Rattle.gen_defs.specs.Chain as chain
use Rattle.gen_defs.proofs.Walks.{parent_holds, holds_after}
use Rattle.chain_gen.specs.Content.{IsContent}
use Rattle.chain_gen.proofs.Contents.{child_parts_are}
use Rattle.chain_gen.proofs.Walking.{block_is, grown_at}
use Rattle.chain_gen.proofs.growth.grow.Goals as goal

pub overflow_add-parent : goal.overflow_add-parent
overflow_add-parent c =
    let before : ℕ = c.args.i - 1 in
    let head = c.parent_of-parent.ensures (chain.standing_after c.args.seed before) c.requires.at.stands in
    omega (arith, head.number_is, (parent_holds c.args.seed before c.args.i).bound, (holds_after c.args.seed before).tip_bound, c.requires.bounded)

pub content_at-requires-clause-within : goal.content_at-requires-clause-within
content_at-requires-clause-within c =
    let before : ℕ = c.args.i - 1 in
    let head = c.parent_of-parent.ensures (chain.standing_after c.args.seed before) c.requires.at.stands in
    omega (arith, head.number_is, (parent_holds c.args.seed before c.args.i).bound, c.requires.at.count_is, ap length c.deref.ensures.value)

pub child_header-fields-requires-clause-number : goal.child_header-fields-requires-clause-number
child_header-fields-requires-clause-number c =
    let before : ℕ = c.args.i - 1 in
    let head = c.parent_of-parent.ensures (chain.standing_after c.args.seed before) c.requires.at.stands in
    omega (arith, head.number_is, (parent_holds c.args.seed before c.args.i).bound, (holds_after c.args.seed before).tip_bound, c.requires.bounded, c.requires.above)

pub child_header-fields-requires-clause-timestamp : goal.child_header-fields-requires-clause-timestamp
child_header-fields-requires-clause-timestamp c =
    let before : ℕ = c.args.i - 1 in
    let head = c.parent_of-parent.ensures (chain.standing_after c.args.seed before) c.requires.at.stands in
    omega (arith, head.number_is, head.timestamp_is, (parent_holds c.args.seed before c.args.i).timed)

pub returns-clause-at : goal.returns-clause-at
returns-clause-at c =
    let seed : ℕ = c.args.seed in
    let i : ℕ = c.args.i in
    let before : ℕ = i - 1 in
    let is : i ≡ suc before = omega (arith, c.requires.above) in
    let standing : chain.Standing = chain.standing_after seed before in
    let parent : schema.Block = chain.parent_of seed i standing in
    let head = c.parent_of-parent.ensures standing c.requires.at.stands in
    let content = subst
    (λ (n : ℕ). IsContent (n + 1) c.in_ok-content.content.transactions.items c.in_ok-content.content.transactions_root c.in_ok-content.content.proposals.items
    c.in_ok-content.content.proposals_hash c.in_ok-content.content.after) head.number_is c.in_ok-content.ensures in
    let beside = c.is_sibling-sibling.ensures ∙ ap (λ (b : Bool). not b && chain.forks seed i) c.requires.at.stands.is_sibling_is in
    let made = c.head_of.ensures (chain.child parent i) (sym (c.child_header-fields.ensures parent head content)) in
    let stands = c.grown-walk.ensures seed i standing c.requires.at.stands beside head made in
    grown_at seed before i c.args.walk.now.standing c.grown-walk.result c.args.walk.now.after.items c.keep.new.after.items c.in_ok-content.content.after
    c.is_sibling-sibling.result is c.requires.at beside c.in_ok-keep.ensures content.after_is stands

pub returns-clause-block : goal.returns-clause-block
returns-clause-block c =
    let seed : ℕ = c.args.seed in
    let i : ℕ = c.args.i in
    let before : ℕ = i - 1 in
    let is : i ≡ suc before = omega (arith, c.requires.above) in
    let standing : chain.Standing = chain.standing_after seed before in
    let parent : schema.Block = chain.parent_of seed i standing in
    let head = c.parent_of-parent.ensures standing c.requires.at.stands in
    let content = subst
    (λ (n : ℕ). IsContent (n + 1) c.in_ok-content.content.transactions.items c.in_ok-content.content.transactions_root c.in_ok-content.content.proposals.items
    c.in_ok-content.content.proposals_hash c.in_ok-content.content.after) head.number_is c.in_ok-content.ensures in
    let header = c.in_ok-header.ensures ∙ ap (encoded schema.header) (c.child_header-fields.ensures parent head content) in
    c.in_ok-bytes.ensures (chain.child parent i) (child_parts_are parent i header content.transactions_are content.proposals_are)
    ∙ ap (encoded schema.block) (sym (block_is seed before i is))
