use Rattle.std.proofs.Common.{◌≡◌, ◌++◌, ◌∷◌, [], List, Vec, ℕ, Global, Some, sym, ap, ◌∙◌}
use Rattle.std.proofs.lemmas.List.{map_push}
use Rattle.chain_defs.specs.Shape.{decoded}
use Rattle.chain_defs.specs.Schema.{block}
use Rattle.chain_defs.proofs.ShapeLaws.{IsEncoding-decoded}
use Rattle.cell_state.specs.ListBlocks.{ids_of, id_lists}
use Rattle.cell_state.proofs.ListBlockLemmas.{decoded_in, one_image_more, all_images}
use Rattle.cell_state.proofs.list_blocks.proposal_ids_of_all.Goals as goal

pub from_encoding-requires : goal.from_encoding-requires
from_encoding-requires c =
    let encoded =
    decoded_in c.args.blocks.now c.encodings.block-index c.block-item.result c.deref.result.now c.requires c.encodings-test.true c.block-item.is c.deref.ensures.value in
    (_, IsEncoding-decoded block c.deref.result.now _ encoded)

pub encodings-preserved : goal.encodings-preserved
encodings-preserved c =
    let blocks : List (Vec ℕ Global) = c.args.blocks.now in
    let vector : Vec ℕ Global = c.block-item.result in
    let encoded : decoded block c.deref.result.now ≡ Some (block.decoding vector.items) =
    decoded_in blocks c.encodings.block-index vector c.deref.result.now c.requires c.encodings-test.true c.block-item.is c.deref.ensures.value in
    let view_is : c.from_encoding.result ≡ block.decoding vector.items = c.from_encoding.ensures _ (IsEncoding-decoded block c.deref.result.now _ encoded) in
    let grown : id_lists c.push.new.self.items ≡ id_lists c.encodings.ids.items ++ c.in_ok-proposal_ids.field-0.items ∷ [] =
    ap id_lists c.in_ok-push.ensures.items ∙ map_push (λ (v : Vec (List ℕ) Global). v.items) c.encodings.ids.items c.in_ok-proposal_ids.field-0 in
    one_image_more (λ (v : Vec ℕ Global). ids_of (block.decoding v.items)) blocks c.encodings.block-index vector (id_lists c.encodings.ids.items) _ _
    c.in_ok-proposal_ids.field-0.items c.encodings-test.true (sym c.block-item.is) (c.in_ok-proposal_ids.ensures ∙ ap ids_of view_is) c.encodings.invariant grown

pub returns : goal.returns
returns c =
    all_images (λ (v : Vec ℕ Global). ids_of (block.decoding v.items)) c.args.blocks.now c.encodings.block-index (id_lists c.encodings.ids.items) _
    c.encodings-test.false c.encodings.invariant
