use Rattle.std.proofs.Common.{◌≡◌, ◌<◌, ℕ, Some, length, ap, sym, ◌∙◌, arith, rules}
use Rattle.chain_defs.specs.Schema.{block}
use Rattle.chain_defs.proofs.ShapeLaws.{IsEncoding-decoded}
use Rattle.chain_tree.specs.Told.{Stored}
use Rattle.cell_state.specs.ListBlocks.{ListBlocksValue}
use Rattle.cell_state.proofs.ListBlockLemmas.{as_many, read_at, entry_at, by_hand, canonical_at}
use Rattle.cell_state.proofs.list_blocks.ListBlocksBlocks.block.Goals as goal

pub from_encoding-requires : goal.from_encoding-requires
from_encoding-requires c =
    let here = c.self.inside in
    let e : ℕ = c.in-Some.e in
    let within : e < length here.blocks.items = search rules in
    let encoded = canonical_at here.blocks.items here.exts.items e c.deref.result.now c.self.invariant.0 within
    (c.deref.ensures.value ∙ read_at here.blocks.items e c.index.result.now within c.index.ensures) in
    (_, IsEncoding-decoded block c.deref.result.now _ encoded)

pub returns : goal.returns
returns c =
    let here = c.self.inside in
    let it = c.args.self.now in
    let e : ℕ = c.in-Some.e in
    let kept = c.self.invariant.0 in
    let stored = ap (λ (v : ListBlocksValue). v.stored) c.self.view_is in
    let hand : it.hand ≡ Some e = ap (λ (v : ListBlocksValue). v.hand) (sym c.self.view_is) ∙ c.in-Some.is in
    let within : e < length here.blocks.items = search rules in
    let encoded = canonical_at here.blocks.items here.exts.items e c.deref.result.now kept within
    (c.deref.ensures.value ∙ read_at here.blocks.items e c.index.result.now within c.index.ensures) in
    by_hand
    (λ (it : Stored). c.from_encoding.result ≡ it.block)
    it
    e
    _
    hand
    (omega (arith, within, as_many here.blocks.items here.exts.items it.stored kept stored))
    (entry_at here.blocks.items here.exts.items it.stored e kept stored within)
    (c.from_encoding.ensures _ (IsEncoding-decoded block c.deref.result.now _ encoded))
