-- A block with another header, and a header with other commitments, as rows of their fields.
use Rattle.std.proofs.Common.{◌≡◌, ℕ, ◌+◌, ◌^◌, ◌<◌, List, [], ◌∷◌, ◌++◌, length, refl, sym, ap, ◌∙◌, arith}
use Rattle.std.specs.Prelude.{IsTrue, Some, slice_get}
use Rattle.std.proofs.lemmas.Bool.{and_parts, ltb-true}
use Rattle.std.proofs.lemmas.List.{length-append}
use Rattle.chain_defs.specs.Molecule as molecule
use Rattle.chain_defs.specs.Molecule.{IsTable}
use Rattle.chain_defs.specs.Shape.{Encoding, IsEncoding, encoded, dynvec, fixvec, encode_field, parts, u32, u64, u128}
use Rattle.chain_defs.specs.Schema as schema
use Rattle.chain_defs.proofs.ShapeLaws.{AllFit-from, all_fit-from}
use Rattle.chain_defs.proofs.MoleculeLaws.{length-dynvec}
use Rattle.chain_defs.proofs.RowLaws.{header-check}
use Rattle.pool_rows.specs.declared.header.Commitments.{Commitments}
use Rattle.pool_rows.proofs.Fits.{table-fits}
use Rattle.block_seal.specs.Sealed.{with_header}
use Rattle.block_seal.specs.Rows.{with_commitments}

-- ---- the header

abbrev pub header-fields : schema.Header → List Encoding
header-fields h =
    encode_field u32 h.version ∷ encode_field u32 h.compact_target ∷ encode_field u64 h.timestamp ∷ encode_field u64 h.number ∷ encode_field u64 h.epoch
    ∷ encode_field schema.byte32 h.parent_hash ∷ encode_field schema.byte32 h.transactions_root ∷ encode_field schema.byte32 h.proposals_hash
    ∷ encode_field schema.byte32 h.uncles_hash ∷ encode_field schema.byte32 h.dao ∷ encode_field u128 h.nonce ∷ []

pub header-fits : (h : schema.Header) (c : Commitments) → IsTrue (schema.header.encoding h).fits
    → IsTrue (schema.byte32.encoding c.transactions_root).fits → IsTrue (schema.byte32.encoding c.proposals_hash).fits
    → IsTrue (schema.byte32.encoding c.uncles_hash).fits → IsTrue (schema.byte32.encoding c.dao).fits
    → IsTrue (schema.header.encoding (with_commitments h c)).fits
unfolding schema.header
header-fits h c fits root proposals uncles dao =
    let f = AllFit-from (header-fields h) fits in
    all_fit-from (header-fields (with_commitments h c))
    (f.0, (f.1.0, (f.1.1.0, (f.1.1.1.0, (f.1.1.1.1.0, (f.1.1.1.1.1.0, (root, (proposals, (uncles, (dao, (f.1.1.1.1.1.1.1.1.1.1.0, tt)))))))))))

-- ---- the block

abbrev block-fields : schema.Block → List Encoding
block-fields b =
    encode_field schema.header b.header ∷ encode_field (dynvec schema.uncle_block) b.uncles
    ∷ encode_field (dynvec schema.transaction) b.transactions ∷ encode_field (fixvec 10 schema.proposal_short_id) b.proposals ∷ []

-- the bytes of its fields
abbrev pub rows-of : schema.Block → List (List ℕ)
rows-of b = parts (block-fields b)

pub is-table : (bytes : List ℕ) (b : schema.Block) → IsEncoding schema.block bytes b → IsTable 4 bytes (rows-of b)
unfolding schema.block
is-table bytes b a = record {
  encoding = a.encoding;
  size = (let short : length (encoded schema.block b) < 2 ^ 32 = ltb-true _ _ (and_parts _ _ a.fits).0 in let size : length bytes ≡ length (encoded schema.block b) = ap length a.encoding in omega arith);
  count = refl;
}

-- with a header of 208 bytes its fields have room in a table
pub record HasRoom (b : schema.Block) : Type 0 where
  pub is : 228 + length (encoded (dynvec schema.uncle_block) b.uncles) + length (encoded (dynvec schema.transaction) b.transactions)
      + length (encoded (fixvec 10 schema.proposal_short_id) b.proposals) < 2 ^ 32

pub has-room : (bytes : List ℕ) (b : schema.Block) → IsEncoding schema.block bytes b → HasRoom b
unfolding schema.block molecule.full_size molecule.header_size
has-room bytes b a =
    let f = AllFit-from (block-fields b) (and_parts _ _ a.fits).1 in
    let header : length (encoded schema.header b.header) ≡ 208 = header-check.complete (encoded schema.header b.header) b.header (record { fits = f.0; encoding = refl }) in
    let short : length (encoded schema.block b) < 2 ^ 32 = ltb-true _ _ (and_parts _ _ a.fits).0 in
    let size = length-dynvec (rows-of b) in
    let uncles = encoded (dynvec schema.uncle_block) b.uncles in
    let transactions = encoded (dynvec schema.transaction) b.transactions in
    let proposals = encoded (fixvec 10 schema.proposal_short_id) b.proposals in
    record { is = omega (arith, header, short, size, length-append (encoded schema.header b.header) (uncles ++ (transactions ++ (proposals ++ []))), length-append uncles (transactions ++ (proposals ++ [])), length-append transactions (proposals ++ []), length-append proposals []) }

same-four : (a b c d a' b' c' d' : List ℕ) → a ≡ a' → b ≡ b' → c ≡ c' → d ≡ d' → a ∷ b ∷ c ∷ d ∷ [] ≡ a' ∷ b' ∷ c' ∷ d' ∷ []
same-four a b c d a' b' c' d' a-is b-is c-is d-is = cc

pub block-is : (b : schema.Block) (h : schema.Header) (block bytes header uncles transactions proposals : List ℕ) (n : ℕ) (fields : List (List ℕ))
    → IsEncoding schema.block block b → IsEncoding schema.header header h → uncles ≡ encoded (dynvec schema.uncle_block) b.uncles
    → transactions ≡ encoded (dynvec schema.transaction) b.transactions → proposals ≡ encoded (fixvec 10 schema.proposal_short_id) b.proposals
    → fields ≡ header ∷ uncles ∷ transactions ∷ proposals ∷ [] → IsTable n bytes fields → IsEncoding schema.block bytes (with_header b h)
unfolding schema.block
block-is b h block bytes header uncles transactions proposals n fields a head uncles-are transactions-are proposals-are are made =
    let f = AllFit-from (block-fields b) (and_parts _ _ a.fits).1 in
    let encoding : bytes ≡ encoded schema.block (with_header b h) =
    made.encoding ∙ ap molecule.dynvec (are ∙ same-four _ _ _ _ _ _ _ _ head.encoding uncles-are transactions-are proposals-are) in
    record {
      fits = table-fits (block-fields (with_header b h)) encoding made.size (all_fit-from (block-fields (with_header b h)) (head.fits, (f.1.0, (f.1.1.0, (f.1.1.1.0, tt)))));
      encoding = encoding;
    }

-- a header that fits, of a block that does
pub header-of-fits : (b : schema.Block) → IsTrue (schema.block.encoding b).fits → IsTrue (schema.header.encoding b.header).fits
unfolding schema.block
header-of-fits b fits = (AllFit-from (block-fields b) (and_parts _ _ fits).1).0

-- the field at a place of a view that shows these rows
pub field-of : (view rows : List (List ℕ)) (i : ℕ) (x y : List ℕ) → view ≡ rows → slice_get view i ≡ Some x → slice_get rows i ≡ Some y → x ≡ y
field-of view rows i x y same here there = (let both : Some x ≡ Some y = sym here ∙ ap (λ (l : List (List ℕ)). slice_get l i) same ∙ there in cc)
