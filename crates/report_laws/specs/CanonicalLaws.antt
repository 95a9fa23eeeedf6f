-- When a block that is assembled is canonical, and so joins (docs/RULES.md, "A block that is assembled").
use Rattle.std.specs.Prelude.{◌≡◌, ℕ, ◌<◌, ◌^◌, List, length, Some, None, IsTrue}
use Rattle.chain_defs.specs.Shape.{encoded, decoded}
use Rattle.chain_defs.specs.Schema as shapes
use Rattle.chain_defs.specs.Schema.{Block, CellbaseWitness}
use Rattle.chain_defs.specs.Specification.{keeps_s2}
use Rattle.chain_defs.specs.Kept.{block_at, block_hash, kept_limit}
use Rattle.outside.specs.Image.{Image}
use Rattle.store_defs.specs.Store.{StandsFor}
use Rattle.verdict_defs.specs.Chain.{Chain, verdict_over}
use Rattle.verdict_defs.specs.declared.verdict.Verdict.TheVariants.{Joined}
use Rattle.pool_defs.specs.Assembly.{assembled}
use Rattle.pool_defs.specs.Laws.{IsFounded}

-- The numbers of a chain are as bytes hold them: those of its specification, and the timestamps of its blocks.
pub record IsInRange (chain : Chain) : Type 0 where
  pub compact_target : chain.spec.compact_target < 2 ^ 32
  pub epoch_length : IsTrue (keeps_s2 chain.spec.epoch_length)
  pub max_block_bytes : chain.spec.max_block_bytes < 2 ^ 32
  pub timestamps : (place : ℕ) (b : Block) → block_at chain.blocks place ≡ Some b → b.header.timestamp < 2 ^ 64

-- What is assembled over a chain with room, with a witness that has an encoding, breaks no rule.
pub record IsUnbroken (chain : Chain) (witness : CellbaseWitness) (items : List (List ℕ)) : Type 0 where
  pub founded : IsFounded chain.blocks
  pub in_range : IsInRange chain
  pub room : length chain.blocks < kept_limit
  pub witness_fits : IsTrue (shapes.cellbase_witness.encoding witness).fits
  pub unbroken : (assembled chain witness items).broken ≡ None

-- Law: then its bytes are a canonical `Block`.
abbrev pub UnbrokenIsCanonical : Type 0
UnbrokenIsCanonical = (chain : Chain) (witness : CellbaseWitness) (items : List (List ℕ)) → IsUnbroken chain witness items
    → decoded shapes.block (encoded shapes.block (assembled chain witness items).block) ≡ Some (assembled chain witness items).block

-- Law: and they join.
abbrev pub UnbrokenIsJoined : Type 0
UnbrokenIsJoined = (chain : Chain) (witness : CellbaseWitness) (items : List (List ℕ)) (b : Block) → IsUnbroken chain witness items
    → (assembled chain witness items).block ≡ b → verdict_over chain (encoded shapes.block b) ≡ Joined b.header.number (block_hash b)

-- Law: the numbers of a chain that a store keeps are as bytes hold them, where its compact target has 32 bits.
abbrev pub KeptIsInRange : Type 0
KeptIsInRange = (chain : Chain) (image : Image) → StandsFor chain image → chain.spec.compact_target < 2 ^ 32 → IsInRange chain
