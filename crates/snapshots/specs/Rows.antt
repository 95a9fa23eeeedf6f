-- The rows of a snapshot, as they are read one after the other.
use Rattle.std.specs.Prelude.{◌≡◌, ℕ, ◌<◌, ◌≤◌, Bool, true, List, length, map, Option, Some, None}
use Rattle.std.specs.List.{All, concat}
use Rattle.std.specs.Ordering.{is_lt}
use Rattle.chain_defs.specs.Schema.{OutPoint}
use Rattle.chain_defs.specs.Row.{Row, out_point_cmp, IsRising, ListsRows}
use Rattle.chain_defs.specs.Ext.{row_bytes}
use Rattle.chain_defs.specs.Fits.{FitsRow}

-- A row of so many kept blocks: its block is one of them, and what it occupies is within its capacity.
pub record IsHeld (kept : ℕ) (it : OutPoint × Row) : Type 0 where
  pub block : it.1.block < kept
  pub occupied : it.1.occupied ≤ it.1.capacity

-- an out-point stands after the last one, where there is one
abbrev pub is_after_last : Option OutPoint → OutPoint → Bool
is_after_last None o = true
is_after_last (Some last) o = is_lt (out_point_cmp last o)

-- The row that bytes hold may stand after the last one.
pub record IsNextRow (kept : ℕ) (last : Option OutPoint) (bytes : List ℕ) (it : OutPoint × Row) : Type 0 where
  pub is : row_bytes it ≡ bytes
  pub fits : FitsRow it
  pub held : IsHeld kept it
  pub after : is_after_last last it.0 ≡ true

-- Bytes are those of so many rows of kept blocks, in rising order of their out-points.
pub record AreRows (kept count : ℕ) (bytes : List ℕ) (list : List (OutPoint × Row)) : Type 0 where
  pub are : concat (map row_bytes list) ≡ bytes
  pub as_many : length list ≡ count
  pub fits : All FitsRow list
  pub rising : IsRising list
  pub held : All (IsHeld kept) list

-- Just those rows there are.
pub record HasRows (kept count : ℕ) (bytes : List ℕ) (rows : OutPoint → Option Row) : Type 0 where
  pub list : List (OutPoint × Row)
  pub are : AreRows kept count bytes list
  pub lists : ListsRows rows list
