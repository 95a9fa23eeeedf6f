-- Branches: a block and all its ancestors (docs/RULES.md, "Kept blocks and the tip").
use Rattle.std.specs.Prelude.{◌≡◌, ◌↔◌, ℕ, zero, suc, ◌+◌, ◌-◌, ◌<◌, ◌==◌, not, List, [], ◌∷◌, ◌++◌, length, Some, None, slice_get}
use Rattle.std.specs.List.{filter, filter_map, list_any}
use Rattle.chain_defs.specs.Schema.{Block}
use Rattle.chain_defs.specs.Kept.{block_hash, block_at, parent_place, IsKept}

-- The places from the genesis to a place, by parents. Each parent is an earlier block, so a branch has no more blocks
-- than stand up to its place.
abbrev pub places_within : ℕ → List Block → ℕ → List ℕ
places_within zero kept place = []
places_within (suc most) kept place = elim (parent_place kept place) [
  | None ↦ place ∷ []
  | Some parent ↦ places_within most kept parent ++ place ∷ []
]

unfoldable pub branch_places : List Block → ℕ → List ℕ
branch_places kept place = places_within (suc place) kept place

-- the blocks from the genesis to a place
abbrev pub branch : List Block → ℕ → List Block
branch kept place = filter_map (block_at kept) (branch_places kept place)

-- how many of these places are not among those
abbrev pub count_outside : List ℕ → List ℕ → ℕ
count_outside these those = length (filter (λ place. not (list_any (λ other. other == place) those)) these)

-- How far two places are apart: the count of the blocks that are on just one of their branches.
abbrev pub distance : List Block → ℕ → ℕ → ℕ
distance kept from to =
    count_outside (branch_places kept from) (branch_places kept to) + count_outside (branch_places kept to) (branch_places kept from)

-- What a branch of kept blocks is, in words.
pub record IsBranch (kept : List Block) (place : ℕ) (blocks : List Block) : Type 0 where
  -- each of its blocks is kept
  pub among : (height : ℕ) (block : Block) → block_at blocks height ≡ Some block → (other : ℕ) × (block_at kept other ≡ Some block)
  -- it begins with the genesis and ends with the block at the place
  pub first : block_at blocks 0 ≡ block_at kept 0
  pub last : block_at blocks (length blocks - 1) ≡ block_at kept place
  -- each block is the parent of the next
  pub linked : (height : ℕ) (parent block : Block) → block_at blocks height ≡ Some parent → block_at blocks (height + 1) ≡ Some block
      → block.header.parent_hash ≡ block_hash parent
  -- it has one block a height, counted from the genesis
  pub numbered : (height : ℕ) (genesis block : Block) → block_at kept 0 ≡ Some genesis → block_at blocks height ≡ Some block
      → block.header.number ≡ genesis.header.number + height

-- Law: of kept blocks a list is the branch of a place exactly where that holds of it.
abbrev pub BranchesAreBranches : Type 0
BranchesAreBranches = (kept : List Block) (place : ℕ) (blocks : List Block) → IsKept kept → place < length kept
    → (blocks ≡ branch kept place) ↔ IsBranch kept place blocks

-- Where two places fork: the branches of both go along the same places up to there, and none is on both after it.
pub record IsFork (kept : List Block) (from to : ℕ) (common only_from only_to : List ℕ) : Type 0 where
  pub of_from : branch_places kept from ≡ common ++ only_from
  pub of_to : branch_places kept to ≡ common ++ only_to
  pub apart : (i j place : ℕ) → slice_get only_from i ≡ Some place → slice_get only_to j ≡ Some place → ⊥

-- Law: any two places fork, and their distance is the count of the places after the fork, of both branches.
abbrev pub DistanceIsOffTheFork : Type 0
DistanceIsOffTheFork = (kept : List Block) (from to : ℕ) → (common only_from only_to : List ℕ)
    × (IsFork kept from to common only_from only_to × (distance kept from to ≡ length only_from + length only_to))
