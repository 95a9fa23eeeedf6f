-- A block by its parts.
use Rattle.std.specs.Prelude.{ℕ, List, []}
use Rattle.chain_defs.specs.Schema.{Header, Transaction, Block}

-- the block of a header with these transactions and proposal ids, and no uncles
abbrev pub block_with : Header → List Transaction → List (List ℕ) → Block
block_with header transactions ids = record { header = header; uncles = []; transactions = transactions; proposals = ids }
