-- How much is assembled, and how many bytes a block without uncles has (docs/FORMATS.md, Molecule).
use Rattle.std.specs.Prelude.{ℕ, ◌+◌, ◌*◌, ◌^◌, List, length, sum_by}
use Rattle.chain_defs.specs.Shape.{encoded}
use Rattle.chain_defs.specs.Schema.{Transaction, transaction}

-- The bytes of a block with these transactions and proposal ids: each transaction has an offset beside its own bytes, and an id has 10.
unfoldable pub size_with : List Transaction → List (List ℕ) → ℕ
size_with transactions ids = 240 + sum_by (λ t. 4 + length (encoded transaction t)) transactions + 10 * length ids

-- the most items that a block is assembled of, and the most bytes of an item
unfoldable pub most_items : ℕ
most_items = 1000

unfoldable pub most_bytes : ℕ
most_bytes = 2 ^ 20
