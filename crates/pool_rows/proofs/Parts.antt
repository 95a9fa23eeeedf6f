-- The parts that the calls write, as parts of the cellbase.
use Rattle.std.proofs.Common.{◌≡◌, ℕ, List, [], ◌∷◌, replicate, map, refl, ap, ◌∙◌}
use Rattle.chain_defs.specs.Molecule as molecule
use Rattle.chain_defs.specs.Shape.{encoded, bytes, dynvec}
use Rattle.chain_defs.specs.Schema as schema
use Rattle.rule_defs.specs.Cellbase.{null_index}
use Rattle.mol_rows.specs.Rows.{HasLists, HasParts}
use Rattle.pool_defs.specs.Start.{cellbase_input, cellbase_with}

-- vectors of nothing
pub no_items : 0 ∷ 0 ∷ 0 ∷ 0 ∷ [] ≡ molecule.fixvec []
unfolding molecule.fixvec
no_items = refl

pub no_parts : 4 ∷ 0 ∷ 0 ∷ 0 ∷ [] ≡ molecule.dynvec []
unfolding molecule.dynvec molecule.full_size molecule.header_size molecule.offsets
no_parts = refl

-- a vector of one row, by where the row was made
pub one_of : (f : List (List ℕ) → List ℕ) {outer list row inner encoding : List ℕ} → outer ≡ list → list ≡ f (row ∷ []) → row ≡ inner → inner ≡ encoding
    → outer ≡ f (encoding ∷ [])
one_of f outer_is list_is row_is inner_is = outer_is ∙ list_is ∙ ap (λ (l : List ℕ). f (l ∷ [])) (row_is ∙ inner_is)

pub null_row : (since : ℕ) → encoded schema.cell_input (record { since = since; previous_output = record { tx_hash = replicate 32 0; index = 4294967295 } })
    ≡ encoded schema.cell_input (cellbase_input since)
unfolding null_index
null_row since = refl

pub cellbase_lists : (height : ℕ) (list : List schema.CellOutput) (w : schema.CellbaseWitness) (inputs outputs contents : List ℕ)
    → inputs ≡ molecule.fixvec (encoded schema.cell_input (cellbase_input height) ∷ [])
    → outputs ≡ encoded (dynvec schema.cell_output) list → contents ≡ encoded (dynvec bytes) (map (λ output. []) list)
    → HasLists (cellbase_with height list w).raw (0 ∷ 0 ∷ 0 ∷ 0 ∷ []) (0 ∷ 0 ∷ 0 ∷ 0 ∷ []) inputs outputs contents
cellbase_lists height list w inputs outputs contents inputs_are outputs_are contents_are = record {
  cell_deps_are = no_items;
  header_deps_are = no_items;
  inputs_are = inputs_are;
  outputs_are = outputs_are;
  outputs_data_are = contents_are;
}

pub cellbase_parts : (height : ℕ) (list : List schema.CellOutput) (w : schema.CellbaseWitness) (raw witnesses : List ℕ)
    → raw ≡ encoded schema.raw_transaction (cellbase_with height list w).raw
    → witnesses ≡ molecule.dynvec (encoded bytes (encoded schema.cellbase_witness w) ∷ []) → HasParts (cellbase_with height list w) raw witnesses
cellbase_parts height list w raw witnesses raw_is witnesses_are = record { raw_is = raw_is; witnesses_are = witnesses_are }
