use Rattle.std.proofs.Common.{◌≡◌, ◌<◌, ℕ, List, Some, Vec, Global, length, ap, sym, ◌∙◌, arith, rules}
use Rattle.std.specs.Prelude.{IfSome, slice_get}
use Rattle.chain_tree.specs.Told.{Stored}
use Rattle.cell_state.specs.ListBlocks.{ListBlocksValue, current_place, ids_of}
use Rattle.cell_state.proofs.ListBlockLemmas.{as_many, entry_at, by_hand, ids_at, if_ok-so}
use Rattle.cell_state.proofs.list_blocks.ListBlocksBlocks.ids.Goals as goal

pub returns-clause-ids : goal.returns-clause-ids
returns-clause-ids c =
    let here = c.self.inside in
    let it = c.args.self.now in
    let e : ℕ = c.in-Some.e in
    let kept = c.self.invariant.0 in
    let stored = ap (λ (v : ListBlocksValue). v.stored) c.self.view_is in
    let hand : it.hand ≡ Some e = ap (λ (v : ListBlocksValue). v.hand) (sym c.self.view_is) ∙ c.in-Some.is in
    let within : e < length here.blocks.items = search rules in
    if_ok-so c.copied_ids.result (λ ids. ids.items ≡ c.deref.result.now) _
    (λ ids is. by_hand
    (λ (it : Stored). ids.items ≡ ids_of it.block)
    it
    e
    _
    hand
    (omega (arith, within, as_many here.blocks.items here.exts.items it.stored kept stored))
    (entry_at here.blocks.items here.exts.items it.stored e kept stored within)
    (is ∙ c.deref.ensures.value ∙ ids_at here.blocks.items here.ids.items e c.index-ids.result.now c.self.invariant.2 within c.index-ids.ensures))
    c.copied_ids.ensures
