-- What the tables of a transaction and of a block are made of: the encodings of their fields (docs/FORMATS.md, "The schema").
use Rattle.std.specs.Prelude.{◌≡◌, ℕ, List}
use Rattle.chain_defs.specs.Shape.{encoded, bytes, fixvec, dynvec}
use Rattle.chain_defs.specs.Schema as schema

-- the lists of a raw transaction
pub record HasLists (t : schema.RawTransaction) (cell_deps header_deps inputs outputs outputs_data : List ℕ) : Type 0 where
  pub cell_deps_are : cell_deps ≡ encoded (fixvec 37 schema.cell_dep) t.cell_deps
  pub header_deps_are : header_deps ≡ encoded (fixvec 32 schema.byte32) t.header_deps
  pub inputs_are : inputs ≡ encoded (fixvec 44 schema.cell_input) t.inputs
  pub outputs_are : outputs ≡ encoded (dynvec schema.cell_output) t.outputs
  pub outputs_data_are : outputs_data ≡ encoded (dynvec bytes) t.outputs_data

-- the two parts of a transaction
pub record HasParts (t : schema.Transaction) (raw witnesses : List ℕ) : Type 0 where
  pub raw_is : raw ≡ encoded schema.raw_transaction t.raw
  pub witnesses_are : witnesses ≡ encoded (dynvec bytes) t.witnesses

-- the header and the lists of a block
pub record BlockHasParts (b : schema.Block) (header uncles transactions proposals : List ℕ) : Type 0 where
  pub header_is : header ≡ encoded schema.header b.header
  pub uncles_are : uncles ≡ encoded (dynvec schema.uncle_block) b.uncles
  pub transactions_are : transactions ≡ encoded (dynvec schema.transaction) b.transactions
  pub proposals_are : proposals ≡ encoded (fixvec 10 schema.proposal_short_id) b.proposals
