-- Entries that stand for kept blocks, each at its block's place.
use Rattle.std.specs.Prelude.{◌≡◌, ℕ, ◌^◌, ◌<◌, List, length, Some, IfSome, IsTrue}
use Rattle.std.specs.List.{AllZip}
use Rattle.chain_defs.specs.Schema.{Block}
use Rattle.chain_defs.specs.Dao.{is_rated}
use Rattle.chain_defs.specs.Kept.{block_hash, block_at, parent_place, IsKept}
use Rattle.chain_tree.specs.declared.entry.Entry.{Entry}
use Rattle.chain_tree.specs.Entries.{entry_at}

-- An entry has a block's hash, and the number, timestamp and DAO field of its header (RFC 0027).
pub record Describes (block : Block) (entry : Entry) : Type 0 where
  pub hash : entry.hash ≡ block_hash block
  pub number : entry.number ≡ block.header.number
  pub timestamp : entry.timestamp ≡ block.header.timestamp
  pub dao : entry.dao ≡ block.header.dao

-- Entries index kept blocks whose genesis has number 0: each describes the block at its place, and has the place of that block's parent.
pub record IndexesBlocks (kept : List Block) (entries : List Entry) : Type 0 where
  pub is_kept : IsKept kept
  pub genesis : IfSome (block_at kept 0) (λ block. block.header.number ≡ 0)
  pub each : AllZip Describes kept entries
  pub parents : (place : ℕ) (entry : Entry) → 0 < place → entry_at entries place ≡ Some entry → parent_place kept place ≡ Some entry.parent

-- The DAO field of each entry is rated.
abbrev pub AreRated : List Entry → Type 0
AreRated entries = (place : ℕ) (entry : Entry) → entry_at entries place ≡ Some entry → IsTrue (is_rated entry.dao)

-- What a caller sees to, of an entry on which a block or a transaction is judged: it is there, heights are numbers of 24 bits, and the DAO fields
-- are rated.
pub record IsParent (entries : List Entry) (place : ℕ) : Type 0 where
  pub parent : place < length entries
  pub few : length entries < 2 ^ 24
  pub rated : AreRated entries
