-- The live cells of a branch that have one lock, as a list (docs/RULES.md, "Cells").
use Rattle.std.specs.Prelude.{◌≡◌, ◌↔◌, ℕ, Bool, List, [], ◌∷◌, map, Option, Some, None, if◌then◌else◌}
use Rattle.std.specs.List.{filter, sum_by}
use Rattle.std.specs.BTreeMap.{insert_entry}
use Rattle.std.specs.Str.{bytes_eq}
use Rattle.chain_defs.specs.Schema.{OutPoint, Block}
use Rattle.chain_defs.specs.Branch.{branch}
use Rattle.chain_defs.specs.Cell.{Cell, script_hash}
use Rattle.chain_defs.specs.Events.{events}
use Rattle.chain_defs.specs.LiveCells.{live_cells}
use Rattle.chain_defs.specs.Row.{Row, row_on, live_row, out_point_cmp, ListsRows}

-- ---- As a list

-- Whether the lock of a cell has a hash.
abbrev pub has_lock : List ℕ → OutPoint × Cell → Bool
has_lock lock listed = bytes_eq (script_hash listed.1.output.lock) lock

-- a cell with its row
abbrev pub with_row_on : List Block → ℕ → OutPoint × Cell → OutPoint × Row
with_row_on kept place listed = (listed.0, row_on kept place listed.1)

-- Rows in rising order of their out-points.
unfoldable pub in_order : List (OutPoint × Row) → List (OutPoint × Row)
in_order [] = []
in_order (one ∷ later) = insert_entry out_point_cmp (in_order later) one.0 one.1

-- Of the live cells of a branch those whose lock has a hash, with their rows, in rising order of their out-points.
unfoldable pub cells_by_lock : List Block → ℕ → List ℕ → List (OutPoint × Row)
cells_by_lock kept place lock = in_order (map (with_row_on kept place) (filter (has_lock lock) (live_cells (events (branch kept place)))))

-- What listed rows hold together, in shannons.
abbrev pub capacity_of : List (OutPoint × Row) → ℕ
capacity_of list = sum_by (λ one. one.1.capacity) list

-- ---- As a relation

-- a row where its lock has a hash
abbrev pub of_lock : List ℕ → Option Row → Option Row
of_lock lock None = None
of_lock lock (Some row) = if bytes_eq row.lock_hash lock then Some row else None

-- Just the rows of a branch whose lock has a hash, in rising order.
abbrev pub IsByLock : List Block → ℕ → List ℕ → List (OutPoint × Row) → Type 0
IsByLock kept place lock list = ListsRows (λ o. of_lock lock (live_row kept place o)) list

-- Law: that is the list, and no other is.
abbrev pub ListsByLock : Type 0
ListsByLock = (kept : List Block) (place : ℕ) (lock : List ℕ) (list : List (OutPoint × Row))
    → IsByLock kept place lock list ↔ (list ≡ cells_by_lock kept place lock)
