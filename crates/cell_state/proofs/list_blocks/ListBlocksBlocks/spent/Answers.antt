use Rattle.std.proofs.Common.{◌≡◌, ◌<◌, ℕ, Some, length, ap, sym, ◌∙◌, arith, rules}
use Rattle.chain_defs.specs.Ext.{is_ext}
use Rattle.chain_tree.specs.Told.{Stored}
use Rattle.cell_state.specs.ListBlocks.{ListBlocksValue}
use Rattle.cell_state.proofs.ListBlockLemmas.{as_many, read_at, entry_at, by_hand, of_hand, ext_at, as_many_exts}
use Rattle.cell_state.proofs.list_blocks.ListBlocksBlocks.spent.Goals as goal

pub returns-clause-ext : goal.returns-clause-ext
returns-clause-ext c =
    let here = c.self.inside in
    let it = c.args.self.now in
    let e : ℕ = c.in-Some.e in
    let kept = c.self.invariant.0 in
    let stored = ap (λ (v : ListBlocksValue). v.stored) c.self.view_is in
    let hand : it.hand ≡ Some e = ap (λ (v : ListBlocksValue). v.hand) (sym c.self.view_is) ∙ c.in-Some.is in
    let within : e < length here.blocks.items = search rules in
    by_hand
    (λ (it : Stored). c.deref.result.now ≡ it.ext)
    it
    e
    _
    hand
    (omega (arith, within, as_many here.blocks.items here.exts.items it.stored kept stored))
    (entry_at here.blocks.items here.exts.items it.stored e kept stored within)
    (c.deref.ensures.value ∙ read_at here.exts.items e c.index.result.now (omega (arith, within, as_many_exts here.blocks.items here.exts.items kept)) c.index.ensures)

pub returns-clause-form : goal.returns-clause-form
returns-clause-form c =
    let here = c.self.inside in
    let it = c.args.self.now in
    let e : ℕ = c.in-Some.e in
    let kept = c.self.invariant.0 in
    let stored = ap (λ (v : ListBlocksValue). v.stored) c.self.view_is in
    let hand : it.hand ≡ Some e = ap (λ (v : ListBlocksValue). v.hand) (sym c.self.view_is) ∙ c.in-Some.is in
    let within : e < length here.blocks.items = search rules in
    let later : 0 < e = of_hand (λ place. 0 < place) it e hand (omega (arith, within, as_many here.blocks.items here.exts.items it.stored kept stored)) c.requires.later in
    ap is_ext (c.deref.ensures.value
    ∙ read_at here.exts.items e c.index.result.now (omega (arith, within, as_many_exts here.blocks.items here.exts.items kept)) c.index.ensures)
    ∙ ext_at here.blocks.items here.exts.items e kept later within
