-- What a source of kept blocks tells.
use Rattle.std.specs.Prelude.{ℕ, List, map}
use Rattle.chain_defs.specs.Schema.{Block}

-- A kept block with its ext, as bytes (docs/STORE.md, "The ext"). That of the genesis is never asked for.
pub record Stored : Type 0 where
  pub block : Block
  pub ext : List ℕ

abbrev pub blocks_of : List Stored → List Block
blocks_of stored = map (λ it. it.block) stored
