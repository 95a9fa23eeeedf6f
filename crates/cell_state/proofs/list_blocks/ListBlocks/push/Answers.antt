use Rattle.std.proofs.Common.{◌≡◌, ◌++◌, ◌∷◌, [], List, Vec, Global, ℕ, length, ap, ◌∙◌, arith}
use Rattle.std.proofs.lemmas.List.{length_push}
use Rattle.chain_defs.specs.Shape.{decoded}
use Rattle.chain_defs.specs.Schema.{block}
use Rattle.chain_defs.proofs.ShapeLaws.{IsEncoding-decoded}
use Rattle.cell_state.specs.ListBlocks.{ListBlocksValue, contents, stored_from, ids_of}
use Rattle.cell_state.proofs.ListBlockLemmas.{as_many, canonical-decoded, hand-more, seen-push, kept_more, ids_more}
use Rattle.cell_state.proofs.list_blocks.ListBlocks.push.Goals as goal
use Rattle.cell_state.proofs.list_blocks.ListBlocks.push.Goals.{After-push_reserved-2}

pub from_encoding-requires : goal.from_encoding-requires
from_encoding-requires c = (_, IsEncoding-decoded block c.deref.result.now _ (ap (decoded block) c.deref.ensures.value ∙ canonical-decoded c.args.block.items c.requires.canonical))

blocks-more : (c : After-push_reserved-2) → c.push_reserved.new.self.items ≡ c.self.inside.blocks.items ++ c.args.block ∷ []
blocks-more c = c.push_reserved.ensures.items ∙ ap (λ (l : List (Vec ℕ Global)). l ++ c.args.block ∷ []) c.in_ok-reserve-2.ensures.items

exts-more : (c : After-push_reserved-2) → c.push.new.self.items ≡ c.self.inside.exts.items ++ c.args.ext ∷ []
exts-more c = c.in_ok-push.ensures.items

many : (c : After-push_reserved-2) → length c.args.self.now.stored ≡ length c.self.inside.blocks.items
many c = as_many c.self.inside.blocks.items c.self.inside.exts.items c.args.self.now.stored c.self.invariant.0 (ap (λ (v : ListBlocksValue). v.stored) c.self.view_is)

pub invariant_of-self-2 : goal.invariant_of-self-2
invariant_of-self-2 c =
    let here = c.self.inside in
    let view_is : c.from_encoding.result ≡ block.decoding c.args.block.items =
    c.from_encoding.ensures _ (IsEncoding-decoded block c.deref.result.now _ (ap (decoded block) c.deref.ensures.value ∙ canonical-decoded c.args.block.items c.requires.canonical)) in (
      kept_more
          here.blocks.items
          here.exts.items
          _
          _
          c.args.block
          c.args.ext
          c.self.invariant.0
          (blocks-more c)
          (exts-more c)
          (omega (arith, c.requires.few, many c))
          c.requires.canonical
          (λ some. c.requires.later (omega (arith, some, many c))),
      hand-more here.hand (length here.blocks.items) _ (omega (arith, ap length (blocks-more c), length_push here.blocks.items c.args.block)) c.self.invariant.1,
      ids_more here.blocks.items _ here.ids.items _ c.args.block c.in_ok-ids.ids c.self.invariant.2 (blocks-more c)
          (c.push_reserved-2.ensures.items ∙ ap (λ (l : List (Vec (List ℕ) Global)). l ++ c.in_ok-ids.ids ∷ []) c.in_ok-reserve.ensures.items)
          (c.in_ok-ids.ensures ∙ ap ids_of view_is),
    )

pub returns-clause-pushed : goal.returns-clause-pushed
returns-clause-pushed c = λ b is.
    let here = c.self.inside in
    let stored = seen-push here.blocks.items here.exts.items _ _ c.args.block c.args.ext b c.self.invariant.0 (blocks-more c) (exts-more c) is in
    let seen : stored_from (contents here.blocks.items) (contents here.exts.items) ++ record { block = b; ext = c.args.ext.items } ∷ [] ≡ c.args.self.now.stored ++ record { block = b; ext = c.args.ext.items } ∷ [] =
    ap (λ (v : ListBlocksValue). v.stored ++ record { block = b; ext = c.args.ext.items } ∷ []) c.self.view_is in
    (λ i. record { stored = (stored ∙ seen) i; hand = (c.self.view_is i).hand; damages = (c.self.view_is i).damages })
