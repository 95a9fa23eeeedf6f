-- The rows of the transactions that a branch committed.
use Rattle.std.specs.Prelude.{ℕ, suc, Bool, List, [], ◌∷◌, map, Option, Some, None, if◌then◌else◌}
use Rattle.std.specs.List.{flat_map}
use Rattle.std.specs.Str.{bytes_eq}
use Rattle.std.specs.List.Sorted.{IsStrictlySortedBy}
use Rattle.std.specs.Ordering.{nat_cmp, is_lt, ordering_then}
use Rattle.std.specs.declared.cmp.Ordering.{Ordering}
use Rattle.std.specs.Cmp.Lexicographic.{slice_cmp}
use Rattle.chain_defs.specs.Hashes.{transaction_hash}
use Rattle.chain_defs.specs.Schema.{Block}
use Rattle.transaction_index.specs.declared.row.Row.{Row}

-- the first row with a hash
abbrev pub first_row : List Row → List ℕ → Option Row
first_row [] hash = None
first_row (row ∷ later) hash = if bytes_eq row.hash hash then Some row else first_row later hash

-- a row for each of some hashes, which stand from a place on in the block of a number
abbrev pub rows_from : ℕ → ℕ → List (List ℕ) → List Row
rows_from number place [] = []
rows_from number place (hash ∷ later) = record { hash = hash; number = number; place = place } ∷ rows_from number (suc place) later

-- a row for each transaction of a block, which are told to stand in one of this number
abbrev pub rows_at : ℕ → Block → List Row
rows_at number block = rows_from number 0 (map transaction_hash block.transactions)

-- in its own
abbrev pub rows_in : Block → List Row
rows_in block = rows_at block.header.number block

-- and of blocks, one after another
abbrev pub rows_of : List Block → List Row
rows_of blocks = flat_map rows_in blocks

-- which of two rows is first on a branch: by the number of the block, and in a block by the place
abbrev pub by_place : Row → Row → Ordering
by_place one other = ordering_then (nat_cmp one.number other.number) (nat_cmp one.place other.place)

-- the order by hash, and of one hash as on a branch
abbrev pub by_hash : Row → Row → Ordering
by_hash one other = ordering_then (slice_cmp nat_cmp one.hash other.hash) (by_place one other)

-- rows that stand as on a branch
abbrev pub AreInOrder : List Row → Type 0
AreInOrder rows = IsStrictlySortedBy by_place rows

-- whether the hash of a row is before another, byte by byte
abbrev pub is_before : List ℕ → Row → Bool
is_before hash row = is_lt (slice_cmp nat_cmp row.hash hash)
