-- What the calls keep of the definitions' values: encodings and hashes.
use Rattle.std.specs.Prelude.{◌≡◌, ◌≤◌, ℕ, List, [], ◌∷◌, Option, Some, None, length}
use Rattle.chain_defs.specs.Shape.{encoded}
use Rattle.chain_defs.specs.Schema as schema
use Rattle.chain_defs.specs.Hashes as hashes
use Rattle.gen_defs.specs.Start as start

-- a transaction: its bytes, of at most 1,000, its hash, and its hash with witnesses
pub record IsTx (t : schema.Transaction) (bytes hash witness_hash : List ℕ) : Type 0 where
  pub bytes_are : bytes ≡ encoded schema.transaction t
  pub hash_is : hash ≡ hashes.transaction_hash t
  pub witness_hash_is : witness_hash ≡ hashes.witness_hash t
  pub size : length bytes ≤ 1000

-- what the cells of a chain have in common: the lock's encoding, of 53 bytes, and the hash of the genesis transaction
pub record AreCommonToCells (lock genesis_hash : List ℕ) : Type 0 where
  pub lock_is : lock ≡ encoded schema.script start.lock
  pub lock_size : length lock ≡ 53
  pub genesis_hash_is : genesis_hash ≡ start.genesis_hash

-- the outputs of a cellbase that pays this reward, or none
abbrev pub outputs_of : Option ℕ → List schema.CellOutput
outputs_of None = []
outputs_of (Some reward) = start.output_of reward ∷ []
