-- A block of its parts.
use Rattle.std.proofs.Common.{◌≡◌, ℕ, ◌+◌, ◌^◌, ◌<◌, List, [], ◌∷◌, length, refl, ap, ◌∙◌}
use Rattle.std.proofs.lemmas.Bool.{and_from}
use Rattle.chain_defs.specs.Molecule as molecule
use Rattle.chain_defs.specs.Molecule.{IsTable}
use Rattle.chain_defs.specs.Shape.{IsEncoding, encoded, dynvec, fixvec}
use Rattle.chain_defs.specs.Schema as schema
use Rattle.pool_rows.specs.Block.{block_with}
use Rattle.pool_rows.proofs.Fits.{table-fits}

no-uncles : 4 ∷ 0 ∷ 0 ∷ 0 ∷ [] ≡ encoded (dynvec schema.uncle_block) []
unfolding molecule.dynvec molecule.full_size molecule.header_size molecule.offsets
no-uncles = refl

pub table-is : (n : ℕ) (fields : List (List ℕ)) (first second third fourth bytes : List ℕ) → fields ≡ first ∷ second ∷ third ∷ fourth ∷ []
    → IsTable n bytes fields → IsTable 4 bytes (first ∷ second ∷ third ∷ fourth ∷ [])
table-is n fields first second third fourth bytes same is = record { encoding = is.encoding ∙ ap molecule.dynvec same; size = is.size; count = refl }

pub block-is : (h : schema.Header) (ts : List schema.Transaction) (ids : List (List ℕ)) (bytes header transactions proposals : List ℕ)
    → IsEncoding schema.header header h → IsEncoding (dynvec schema.transaction) transactions ts → IsEncoding (fixvec 10 schema.proposal_short_id) proposals ids
    → IsTable 4 bytes (header ∷ (4 ∷ 0 ∷ 0 ∷ 0 ∷ []) ∷ transactions ∷ proposals ∷ []) → IsEncoding schema.block bytes (block_with h ts ids)
unfolding schema.block molecule.dynvec molecule.full_size molecule.header_size molecule.offsets
block-is h ts ids bytes header transactions proposals head listed written table =
    let encoding : bytes ≡ encoded schema.block (block_with h ts ids) =
    table.encoding
    ∙ ap (λ (l : List ℕ). molecule.dynvec (l ∷ (4 ∷ 0 ∷ 0 ∷ 0 ∷ []) ∷ transactions ∷ proposals ∷ [])) head.encoding
    ∙ ap (λ (l : List ℕ). molecule.dynvec (encoded schema.header h ∷ l ∷ transactions ∷ proposals ∷ [])) no-uncles
    ∙ ap (λ (l : List ℕ). molecule.dynvec (encoded schema.header h ∷ encoded (dynvec schema.uncle_block) [] ∷ l ∷ proposals ∷ [])) listed.encoding
    ∙ ap (λ (l : List ℕ). molecule.dynvec (encoded schema.header h ∷ encoded (dynvec schema.uncle_block) [] ∷ encoded (dynvec schema.transaction) ts ∷ l ∷ [])) written.encoding in
    record {
      fits = table-fits (schema.header.encoding h ∷ (dynvec schema.uncle_block).encoding [] ∷ (dynvec schema.transaction).encoding ts ∷ (fixvec 10 schema.proposal_short_id).encoding ids ∷ []) encoding table.size (and_from _ _ head.fits (and_from _ _ refl (and_from _ _ listed.fits (and_from _ _ written.fits refl))));
      encoding = encoding;
    }
