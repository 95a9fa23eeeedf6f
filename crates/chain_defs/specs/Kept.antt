-- The kept blocks of a chain, genesis first, in the order in which they joined. A block is named by its place in this list.
use Rattle.std.specs.Prelude.{◌≡◌, ◌==◌, Bool, false, ℕ, suc, ◌+◌, ◌<◌, List, [], ◌∷◌, take, Option, Some, None, if◌then◌else◌, slice_get}
use Rattle.std.specs.Option.{option_map, option_and_then}
use Rattle.std.specs.Str.{bytes_eq}
use Rattle.chain_defs.specs.CkbHash.{ckbhash}
use Rattle.chain_defs.specs.Shape.{encoded, decoded}
use Rattle.chain_defs.specs.Schema.{Header, header, Block, block}

-- The hash of a header is that of its 208 bytes (RFC 0027).
unfoldable pub header_hash : Header → List ℕ
header_hash h = ckbhash (encoded header h)

-- The hash of a block is that of its header.
abbrev pub block_hash : Block → List ℕ
block_hash block = header_hash block.header

-- the place of the first block with this hash
abbrev pub place_of : List Block → List ℕ → Option ℕ
place_of [] hash = None
place_of (block ∷ later) hash = if bytes_eq (block_hash block) hash then Some 0 else option_map suc (place_of later hash)

-- the block at a place
abbrev pub block_at : List Block → ℕ → Option Block
block_at kept place = slice_get kept place

-- the place of the parent of the block at a place: of the earlier block that it names. A genesis has none.
abbrev pub parent_place : List Block → ℕ → Option ℕ
parent_place kept place = option_and_then (λ block. place_of (take place kept) block.header.parent_hash) (block_at kept place)

-- the most kept blocks, genesis included (docs/COMMANDS.md, "The text")
unfoldable pub kept_limit : ℕ
kept_limit = 1000000

abbrev pub block_list : Option Block → List Block
block_list None = []
block_list (Some b) = b ∷ []

-- the block of an item, alone, if it is one
abbrev pub blocks_of_item : List ℕ → List Block
blocks_of_item item = block_list (decoded block item)

-- The number of a block is its parent's plus 1 (RFC 0027, "number").
abbrev pub follows : Block → Option Block → Bool
follows b None = false
follows b (Some parent) = b.header.number == parent.header.number + 1

-- A block stands on an earlier one: it names its hash, and its number is that one's plus 1.
pub record StandsOn (earlier : List Block) (block : Block) : Type 0 where
  pub place : ℕ
  pub parent : Block
  pub named : place_of earlier block.header.parent_hash ≡ Some place
  pub there : block_at earlier place ≡ Some parent
  pub next : block.header.number ≡ parent.header.number + 1

-- A list of blocks is kept where each after the genesis stands on an earlier one, and has a hash that no earlier one has.
pub record IsKept (kept : List Block) : Type 0 where
  pub stands : (place : ℕ) (block : Block) → 0 < place → block_at kept place ≡ Some block → StandsOn (take place kept) block
  pub new : (place : ℕ) (block : Block) → block_at kept place ≡ Some block → place_of (take place kept) (block_hash block) ≡ None

-- Law: the hashes of kept blocks all differ.
abbrev pub HashesDiffer : Type 0
HashesDiffer = (kept : List Block) (i j : ℕ) (one other : Block) → IsKept kept → i < j → block_at kept i ≡ Some one → block_at kept j ≡ Some other
    → block_hash one ≡ block_hash other → ⊥
