-- What is found of kept blocks.
use Rattle.std.specs.Prelude.{◌≡◌, ℕ, List, ◌++◌, Option, Some, None, IfSome}
use Rattle.std.specs.Option.{option_map}
use Rattle.chain_defs.specs.Shape.{IsEncoding}
use Rattle.chain_defs.specs.Schema.{Block, block}
use Rattle.chain_defs.specs.Kept.{block_at, block_hash}
use Rattle.chain_defs.specs.Tip.{best_branch}
use Rattle.verdict_defs.specs.Chain.{Chain}
use Rattle.run_ask.specs.declared.committed.Committed.{Committed}
use Rattle.ask_defs.specs.Answers.{block_named, committed_on}
use Rattle.transaction_index.specs.declared.row.Row.{Row}
use Rattle.transaction_index.specs.Rows.{first_row, rows_at, rows_of, AreInOrder}

-- the encoding of the kept block with a hash, and none where no block has it
abbrev pub IsNamed : Chain → List ℕ → Option (List ℕ) → Type 0
IsNamed chain hash None = block_named chain hash ≡ None
IsNamed chain hash (Some bytes) = (b : Block) × (block_named chain hash ≡ Some b) × IsEncoding block bytes b

-- the rows of the kept block at a place were added, as of one of a number
abbrev pub AreRowsAdded : List Block → ℕ → ℕ → List Row → List Row → Type 0
AreRowsAdded kept place number before after = (b : Block) × (block_at kept place ≡ Some b) × (after ≡ before ++ rows_at number b)

-- Rows are those of the blocks of a branch, and stand as on it.
pub record AreRowsOf (branch : List Block) (rows : List Row) : Type 0 where
  pub all : rows ≡ rows_of branch
  pub in_order : AreInOrder rows

-- where a transaction stands: the number of the block, and the place there
abbrev pub stands_at : Block × ℕ → ℕ × ℕ
stands_at found = (found.0.header.number, found.1)

abbrev pub row_at : Row → ℕ × ℕ
row_at row = (row.number, row.place)

-- Rows say of each hash where a branch committed the transaction, and have none of a hash of which it committed none.
abbrev pub IndexesCommitted : List Block → List Row → Type 0
IndexesCommitted branch rows = (hash : List ℕ) → option_map row_at (first_row rows hash) ≡ option_map stands_at (committed_on branch hash)

-- what is kept of the transactions of the best branch, where anything is
abbrev pub HoldsCommitted : Chain → Option (List Row) → Type 0
HoldsCommitted chain held = IfSome held (IndexesCommitted (best_branch chain.blocks))

-- What is told of a transaction that the best branch committed: the number and the hash of the block, and its place there.
pub record IsFoundIn (kept : List Block) (hash : List ℕ) (found : Committed) : Type 0 where
  pub block : Block
  pub first : committed_on (best_branch kept) hash ≡ Some (block, found.place)
  pub number : found.number ≡ block.header.number
  pub its_hash : found.hash ≡ block_hash block

abbrev pub IsCommitted : List Block → List ℕ → Option Committed → Type 0
IsCommitted kept hash None = committed_on (best_branch kept) hash ≡ None
IsCommitted kept hash (Some found) = IsFoundIn kept hash found
