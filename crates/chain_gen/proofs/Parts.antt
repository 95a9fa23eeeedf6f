-- The parts that the calls write, as parts of the definitions' transactions.
use Rattle.std.proofs.Common.{◌≡◌, ◌≤◌, ℕ, List, [], ◌∷◌, Option, Some, None, replicate, map, length, refl, ap, sym, ◌∙◌}
use Rattle.chain_defs.specs.Molecule as molecule
use Rattle.chain_defs.specs.Shape.{encoded, bytes, dynvec}
use Rattle.chain_defs.specs.Schema as schema
use Rattle.chain_defs.specs.Hashes.{transaction_hash, witness_hash}
use Rattle.chain_defs.specs.CkbHash.{ckbhash}
use Rattle.rule_defs.specs.Cellbase.{null_index}
use Rattle.mol_rows.specs.Rows.{HasLists, HasParts}
use Rattle.gen_defs.specs.Start as start
use Rattle.gen_defs.specs.Heights as heights
use Rattle.chain_gen.specs.Known.{IsTx, outputs_of}

-- ---- Vectors of nothing

pub no_items : 0 ∷ 0 ∷ 0 ∷ 0 ∷ [] ≡ molecule.fixvec []
unfolding molecule.fixvec
no_items = refl

pub no_parts : 4 ∷ 0 ∷ 0 ∷ 0 ∷ [] ≡ molecule.dynvec []
unfolding molecule.dynvec molecule.full_size molecule.header_size molecule.offsets
no_parts = refl

-- ---- A transaction, by its parts

pub tx_by_parts : (t : schema.Transaction) (raw witnesses bytes hash with_witnesses : List ℕ) → HasParts t raw witnesses
    → bytes ≡ encoded schema.transaction t → length bytes ≤ 1000 → hash ≡ ckbhash raw → with_witnesses ≡ ckbhash bytes
    → IsTx t bytes hash with_witnesses
unfolding transaction_hash witness_hash
tx_by_parts t raw witnesses bytes hash with_witnesses has is size hash_is with_is = record {
  bytes_are = is;
  hash_is = hash_is ∙ ap ckbhash has.raw_is;
  witness_hash_is = with_is ∙ ap ckbhash is;
  size = size;
}

-- a vector of one row, by where the row was made
pub one_of : (f : List (List ℕ) → List ℕ) {outer list row inner encoding : List ℕ} → outer ≡ list → list ≡ f (row ∷ []) → row ≡ inner → inner ≡ encoding
    → outer ≡ f (encoding ∷ [])
one_of f outer_is list_is row_is inner_is = outer_is ∙ list_is ∙ ap (λ (l : List ℕ). f (l ∷ [])) (row_is ∙ inner_is)

-- ---- The transfer

pub transfer_lists : (coin : heights.Coin) (deps inputs outputs contents : List ℕ)
    → deps ≡ molecule.fixvec (encoded schema.cell_dep (record { out_point = record { tx_hash = start.genesis_hash; index = 0 }; dep_type = 0 }) ∷ [])
    → inputs ≡ molecule.fixvec (encoded schema.cell_input (record { since = 0; previous_output = coin.out_point }) ∷ [])
    → outputs ≡ molecule.dynvec (encoded schema.cell_output (start.output_of (heights.left_of coin)) ∷ [])
    → contents ≡ molecule.dynvec ((0 ∷ 0 ∷ 0 ∷ 0 ∷ []) ∷ [])
    → HasLists (heights.transfer coin).raw deps (0 ∷ 0 ∷ 0 ∷ 0 ∷ []) inputs outputs contents
unfolding heights.transfer
transfer_lists coin deps inputs outputs contents deps_are inputs_are outputs_are data_are = record {
  cell_deps_are = deps_are;
  header_deps_are = no_items;
  inputs_are = inputs_are;
  outputs_are = outputs_are;
  outputs_data_are = data_are ∙ ap (λ (l : List ℕ). molecule.dynvec (l ∷ [])) no_items;
}

pub transfer_parts : (coin : heights.Coin) (raw : List ℕ) → raw ≡ encoded schema.raw_transaction (heights.transfer coin).raw
    → HasParts (heights.transfer coin) raw (4 ∷ 0 ∷ 0 ∷ 0 ∷ [])
unfolding heights.transfer
transfer_parts coin raw is = record { raw_is = is; witnesses_are = no_parts }

pub transfer_version : (coin : heights.Coin) → 0 ≡ (heights.transfer coin).raw.version
unfolding heights.transfer
transfer_version coin = refl

-- ---- The cellbase

pub none_outputs : {reward : Option ℕ} → reward ≡ None → 4 ∷ 0 ∷ 0 ∷ 0 ∷ [] ≡ encoded (dynvec schema.cell_output) (outputs_of reward)
none_outputs is = no_parts ∙ ap (λ (reward : Option ℕ). encoded (dynvec schema.cell_output) (outputs_of reward)) (sym is)

abbrev contents_of : Option ℕ → List ℕ
contents_of reward = encoded (dynvec bytes) (map {A = schema.CellOutput} {B = List ℕ} (λ output. []) (outputs_of reward))

pub none_contents : {reward : Option ℕ} → reward ≡ None → 4 ∷ 0 ∷ 0 ∷ 0 ∷ [] ≡ contents_of reward
none_contents is = no_parts ∙ ap contents_of (sym is)

pub some_contents : {reward : Option ℕ} {shannons : ℕ} → reward ≡ Some shannons → molecule.dynvec ((0 ∷ 0 ∷ 0 ∷ 0 ∷ []) ∷ []) ≡ contents_of reward
some_contents is = ap (λ (l : List ℕ). molecule.dynvec (l ∷ [])) no_items ∙ ap contents_of (sym is)

pub null_row : (since : ℕ) → encoded schema.cell_input (record { since = since; previous_output = record { tx_hash = replicate 32 0; index = 4294967295 } })
    ≡ encoded schema.cell_input (start.cellbase_input since)
unfolding null_index
null_row since = refl

pub cellbase_lists : (height : ℕ) (inputs outputs contents : List ℕ)
    → inputs ≡ molecule.fixvec (encoded schema.cell_input (start.cellbase_input height) ∷ [])
    → outputs ≡ encoded (dynvec schema.cell_output) (heights.cellbase_outputs height)
    → contents ≡ encoded (dynvec bytes) (map (λ output. []) (heights.cellbase_outputs height))
    → HasLists (heights.cellbase height).raw (0 ∷ 0 ∷ 0 ∷ 0 ∷ []) (0 ∷ 0 ∷ 0 ∷ 0 ∷ []) inputs outputs contents
unfolding heights.cellbase
cellbase_lists height inputs outputs contents inputs_are outputs_are contents_are = record {
  cell_deps_are = no_items;
  header_deps_are = no_items;
  inputs_are = inputs_are;
  outputs_are = outputs_are;
  outputs_data_are = contents_are;
}

pub cellbase_version : (height : ℕ) → 0 ≡ (heights.cellbase height).raw.version
unfolding heights.cellbase
cellbase_version height = refl

pub cellbase_parts : (height : ℕ) (raw witnesses : List ℕ) → raw ≡ encoded schema.raw_transaction (heights.cellbase height).raw
    → witnesses ≡ molecule.dynvec (encoded bytes (encoded schema.cellbase_witness (record { lock = start.lock; message = [] })) ∷ [])
    → HasParts (heights.cellbase height) raw witnesses
unfolding heights.cellbase
cellbase_parts height raw witnesses raw_is witnesses_are = record { raw_is = raw_is; witnesses_are = witnesses_are }
