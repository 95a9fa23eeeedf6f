-- What is remembered of the kept blocks, each block with the ext beside it.
use Rattle.std.proofs.Common.{◌≡◌, ℕ, List, [], ◌∷◌, ◌++◌, length, Option, Some, refl, sym, ap, ◌∙◌, subst, arith}
use Rattle.std.specs.Prelude.{IfSome}
use Rattle.chain_defs.specs.Shape.{IsEncoding}
use Rattle.chain_defs.specs.Schema.{Block, block}
use Rattle.chain_defs.proofs.ShapeLaws.{decoded-is}
use Rattle.chain_defs.proofs.RowLaws.{block-check}
use Rattle.chain_defs.specs.Specification.{Specification}
use Rattle.chain_tree.specs.declared.entry.Entry.{Entry}
use Rattle.chain_tree.specs.Told.{Stored, blocks_of}
use Rattle.cell_state.specs.ListBlocks.{stored_from}
use Rattle.cell_state.proofs.ListBlockLemmas.{stored_from-push, decoding-is}
use Rattle.node_store.specs.Kept.{RecordedValue, KeptValue, kept_of, exts_of, paired, stored_of}

-- blocks and exts of a list are its own, one beside the other
pub paired-kept : (stored : List Stored) → paired (blocks_of stored) (exts_of stored) ≡ stored
paired-kept [] = refl
paired-kept (it ∷ stored) = ap (λ (l : List Stored). it ∷ l) (paired-kept stored)

-- so what is kept has the stored blocks that it was made of
pub stored-here : (spec : Specification) (stored : List Stored) (entries : List Entry) (kept : KeptValue) → kept_of spec stored entries ≡ kept
    → stored_of kept ≡ stored
stored-here spec stored entries kept whole = ap stored_of (sym whole) ∙ paired-kept stored

-- a source that tells what is kept tells them
pub tells-stored : (spec : Specification) (stored : List Stored) (entries : List Entry) (kept : KeptValue) (told : Option (List Stored)) → kept_of spec stored entries ≡ kept
    → told ≡ Some (stored_of kept) → told ≡ Some stored
tells-stored spec stored entries kept told whole tells = tells ∙ ap (λ (l : List Stored). Some l) (stored-here spec stored entries kept whole)

-- as many known entries as there are blocks have these blocks
blocks-paired : (blocks : List Block) (exts : List (List ℕ)) → length (paired blocks exts) ≡ length blocks → blocks_of (paired blocks exts) ≡ blocks
blocks-paired [] exts same = refl
blocks-paired (b ∷ blocks) [] same = absurd (omega (arith, same))
blocks-paired (b ∷ blocks) (ext ∷ exts) same = ap (λ (l : List Block). b ∷ l) (blocks-paired blocks exts (omega (arith, same)))

pub blocks-told : (kept : KeptValue) (told : Option (List Stored)) (count : ℕ) → told ≡ Some (stored_of kept) → IfSome told (λ stored. length stored ≡ count)
    → count ≡ length kept.chain.blocks → blocks_of (stored_of kept) ≡ kept.chain.blocks
blocks-told kept told count tells many counts =
    blocks-paired kept.chain.blocks kept.exts (subst (λ (o : Option (List Stored)). IfSome o (λ stored. length stored ≡ count)) tells many ∙ counts)

-- one more, of the bytes of a block
pub one-remembered : (blocks exts more later : List (List ℕ)) (bytes ext : List ℕ) (b : Block) (before : RecordedValue) → length exts ≡ length blocks
    → record { stored = stored_from blocks exts } ≡ before → more ≡ blocks ++ bytes ∷ [] → later ≡ exts ++ ext ∷ [] → IsEncoding block bytes b
    → stored_from more later ≡ before.stored ++ record { block = b; ext = ext } ∷ []
one-remembered blocks exts more later bytes ext b before same whole grown beside is =
    let of_bytes : block.decoding bytes ≡ b = decoding-is bytes b (decoded-is block block-check bytes b is) in
    (λ i. stored_from (grown i) (beside i)) ∙ stored_from-push blocks exts bytes ext same
    ∙ (λ i. (whole i).stored ++ record { block = of_bytes i; ext = ext } ∷ [])
