-- The uncles that kept blocks embed.
use Rattle.std.specs.Prelude.{◌≡◌, ℕ, suc, List, [], ◌∷◌, ◌++◌, map}
use Rattle.chain_defs.specs.Schema.{UncleBlock, Block}
use Rattle.chain_defs.specs.Kept.{header_hash}

-- an embedded uncle: the hash and the number of its header, and the place of the block that embeds it
pub record Embedded : Type 0 where
  pub hash : List ℕ
  pub number : ℕ
  pub place : ℕ

abbrev pub embedded_at : ℕ → UncleBlock → Embedded
embedded_at place uncle = record { hash = header_hash uncle.header; number = uncle.header.number; place = place }

-- those of the block at a place
abbrev pub embedded_in : ℕ → Block → List Embedded
embedded_in place b = map (embedded_at place) b.uncles

-- those of blocks from a place on
unfoldable pub embedded_from : ℕ → List Block → List Embedded
embedded_from place [] = []
embedded_from place (b ∷ later) = embedded_in place b ++ embedded_from (suc place) later

-- what contracts see of an index: the embedded uncles in the order in which they came, and how many more can come without an allocation
pub record UnclesValue : Type 0 where
  pub embedded : List Embedded
  pub spare : ℕ

-- It has just those of the kept blocks.
abbrev pub IndexesUncles : List Block → UnclesValue → Type 0
IndexesUncles kept uncles = uncles.embedded ≡ embedded_from 0 kept
