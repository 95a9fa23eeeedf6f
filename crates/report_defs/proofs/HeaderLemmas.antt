-- What a block and the block that its bytes are read as have in common, without a word on whether the first fits its shape.
use Rattle.std.proofs.Common.{◌≡◌, ℕ, ◌+◌, ◌^◌, ◌<◌, List, [], ◌∷◌, ◌++◌, length, take, drop, get_or, Some, refl, sym, ap, ◌∙◌, subst, arith}
use Rattle.std.specs.Prelude.{IsTrue, nat_lt, ◌==◌, ◌&&◌}
use Rattle.std.proofs.lemmas.Bool.{and_parts, ltb-true}
use Rattle.std.proofs.lemmas.Bool.Decides.{Decides-eqb}
use Rattle.chain_defs.specs.Molecule as molecule
use Rattle.chain_defs.specs.Shape.{Encoding, IsEncoding, encoded, decoded, encode_field, parts, all_fit, are_bytes, table, u32, u64, u128, fixvec, dynvec}
use Rattle.chain_defs.specs.Schema.{Header, Block, header, block, byte32, uncle_block, transaction, proposal_short_id}
use Rattle.chain_defs.proofs.MoleculeLaws.{length-dynvec, parts_of-dynvec}
use Rattle.chain_defs.proofs.ShapeLaws.{IsEncoding-decoded, AllFit, AllFit-from}
use Rattle.chain_defs.specs.CkbHash.{ckbhash}
use Rattle.chain_defs.specs.Kept.{header_hash, block_hash}

abbrev fields_of : Block → List Encoding
fields_of b =
    encode_field header b.header ∷ encode_field (dynvec uncle_block) b.uncles ∷ encode_field (dynvec transaction) b.transactions
    ∷ encode_field (fixvec 10 proposal_short_id) b.proposals ∷ []

is_table : (b : Block) → encoded block b ≡ molecule.dynvec (parts (fields_of b))
unfolding block
is_table b = refl

short_table : (b : Block) → IsTrue (block.encoding b).fits → length (encoded block b) < 2 ^ 32
unfolding block
short_table b fits = ltb-true (length (molecule.dynvec (parts (fields_of b)))) (2 ^ 32) (and_parts _ _ fits).0

parts_back : (b : Block) → length (encoded block b) < 2 ^ 32 → molecule.parts_of (encoded block b) ≡ parts (fields_of b)
parts_back b short =
    ap molecule.parts_of (is_table b)
    ∙ parts_of-dynvec (parts (fields_of b)) (subst (λ (n : ℕ). n < 2 ^ 32) (ap length (is_table b) ∙ length-dynvec (parts (fields_of b))) short)

-- their headers have the same bytes
pub same_header_bytes : (b read : Block) → decoded block (encoded block b) ≡ Some read → encoded header read.header ≡ encoded header b.header
unfolding header
same_header_bytes b read is =
    let a : IsEncoding block (encoded block b) read = IsEncoding-decoded block (encoded block b) read is in
    let short_read = short_table read a.fits in
    let short : length (encoded block b) < 2 ^ 32 = subst (λ (bytes : List ℕ). length bytes < 2 ^ 32) (sym a.encoding) short_read in
    let same : parts (fields_of read) ≡ parts (fields_of b) =
    sym (parts_back read short_read) ∙ ap molecule.parts_of (sym a.encoding) ∙ parts_back b short in
    ap (λ (ps : List (List ℕ)). get_or ps 0 []) same

-- so they have the same hash
pub same_hash : (b read : Block) → decoded block (encoded block b) ≡ Some read → block_hash read ≡ block_hash b
unfolding header_hash
same_hash b read is = ap ckbhash (same_header_bytes b read is)

take_prefix : (n : ℕ) (front back : List ℕ) → length front ≡ n → take n (front ++ back) ≡ front
take_prefix n [] back is = rw (sym is) refl
take_prefix n (x ∷ front) back is = rw (sym is) (ap (λ (l : List ℕ). x ∷ l) (take_prefix (length front) front back refl))

-- where the parent's hash stands in a header
parent_in : (h : Header) → length h.parent_hash ≡ 32 → take 32 (drop 32 (encoded header h)) ≡ h.parent_hash
unfolding header
parent_in h is = take_prefix 32 h.parent_hash _ is

abbrev header_fields : Header → List Encoding
header_fields h =
    encode_field u32 h.version ∷ encode_field u32 h.compact_target ∷ encode_field u64 h.timestamp ∷ encode_field u64 h.number ∷ encode_field u64 h.epoch
    ∷ encode_field byte32 h.parent_hash ∷ encode_field byte32 h.transactions_root ∷ encode_field byte32 h.proposals_hash ∷ encode_field byte32 h.uncles_hash
    ∷ encode_field byte32 h.dao ∷ encode_field u128 h.nonce ∷ []

parent_size : (b : Block) → IsTrue (block.encoding b).fits → length b.header.parent_hash ≡ 32
unfolding block header
parent_size b fits =
    let bytes : List ℕ = b.header.parent_hash in
    let fields : AllFit (fields_of b) =
    AllFit-from (fields_of b) (and_parts (nat_lt (length (molecule.dynvec (parts (fields_of b)))) (2 ^ 32)) (all_fit (fields_of b)) fits).1 in
    let in_header : AllFit (header_fields b.header) = AllFit-from (header_fields b.header) fields.0 in
    let hash : IsTrue ((length bytes == 32) && are_bytes bytes) = in_header.1.1.1.1.1.0 in
    (Decides-eqb (length bytes) 32).0 (and_parts (length bytes == 32) (are_bytes bytes) hash).0

-- and they name the same parent.
pub same_parent : (b read : Block) → length b.header.parent_hash ≡ 32 → decoded block (encoded block b) ≡ Some read
    → read.header.parent_hash ≡ b.header.parent_hash
same_parent b read size is =
    let a : IsEncoding block (encoded block b) read = IsEncoding-decoded block (encoded block b) read is in
    sym (parent_in read.header (parent_size read a.fits))
    ∙ ap (λ (bytes : List ℕ). take 32 (drop 32 bytes)) (same_header_bytes b read is)
    ∙ parent_in b.header size
