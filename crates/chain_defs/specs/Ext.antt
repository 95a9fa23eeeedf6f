-- The ext: what a record keeps beside its block (docs/STORE.md, "The ext"): the fees of its transactions, and the rows of the cells that it
-- spends.
use Rattle.std.specs.Prelude.{ℕ, zero, suc, ◌+◌, ◌-◌, ◌*◌, ◌==◌, ◌&&◌, ◌||◌, Bool, true, List, ◌∷◌, ◌++◌, length, drop, map, replicate, slice_index, Option, Some, None}
use Rattle.std.specs.List.{slice_range, list_all, concat}
use Rattle.std.specs.Int.{w32, w64, from_le_bytes, to_le_bytes}
use Rattle.chain_defs.specs.Schema.{OutPoint}
use Rattle.chain_defs.specs.Row.{Row}

pub record Ext : Type 0 where
  -- shannons, one for each transaction after the first, in their order
  pub fees : List ℕ
  -- the rows of the cells that the block spends and that were live before it, in the order of spending
  pub spent : List (OutPoint × Row)

-- ---- Its bytes

-- the byte 1 and a type hash; without one the byte 0 and 32 zero bytes
abbrev pub type_bytes : Option (List ℕ) → List ℕ
type_bytes None = 0 ∷ replicate 32 0
type_bytes (Some hash) = 1 ∷ hash

-- A row with its out-point: out-point (36 bytes), block, transaction (4 each), capacity, occupied capacity (8 each), lock hash (32), type
-- hash (33), data hash (32), data length (4).
abbrev pub row_bytes : OutPoint × Row → List ℕ
row_bytes (o, row) =
    o.tx_hash ++ to_le_bytes w32 o.index ++ to_le_bytes w32 row.block ++ to_le_bytes w32 row.transaction
    ++ to_le_bytes w64 row.capacity ++ to_le_bytes w64 row.occupied ++ row.lock_hash ++ type_bytes row.type_hash
    ++ row.data_hash ++ to_le_bytes w32 row.data_len

-- A count of fees, 8 bytes a fee, a count of rows, the rows.
unfoldable pub ext_bytes : Ext → List ℕ
ext_bytes ext =
    to_le_bytes w32 (length ext.fees) ++ concat (map (to_le_bytes w64) ext.fees)
    ++ to_le_bytes w32 (length ext.spent) ++ concat (map row_bytes ext.spent)

-- ---- Bytes that are some ext's

-- the number that the four bytes at a place are
abbrev pub count_at : List ℕ → ℕ → ℕ
count_at bytes place = from_le_bytes w32 (slice_range bytes place (place + 4))

unfoldable pub row_size : ℕ
row_size = 161

abbrev pub type_flag : List ℕ → ℕ
type_flag row = slice_index row 92

abbrev pub is_row : List ℕ → Bool
is_row row = (type_flag row == 1) || ((type_flag row == 0) && list_all (λ b. b == 0) (slice_range row 93 125))

abbrev pub are_rows : ℕ → List ℕ → Bool
are_rows zero bytes = true
are_rows (suc count) bytes = is_row (slice_range bytes 0 row_size) && are_rows count (drop row_size bytes)

-- the counts are those of what follows, each row is one, and nothing stands after them
unfoldable pub is_ext : List ℕ → Bool
is_ext bytes =
    let rows_at = 4 + 8 * count_at bytes 0 in
    let rows = count_at bytes rows_at in
    (length bytes == rows_at + 4 + row_size * rows) && are_rows rows (drop (rows_at + 4) bytes)

-- the fee of the transaction at a place, 1 or above
unfoldable pub fee_of : List ℕ → ℕ → ℕ
fee_of bytes place = from_le_bytes w64 (slice_range bytes (8 * place - 4) (8 * place + 4))
