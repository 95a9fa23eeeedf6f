-- What it takes to go from one place's branch to another's.
use Rattle.std.specs.Prelude.{◌≡◌, ℕ, ◌-◌, ◌<◌, ◌==◌, Bool, true, false, not, nat_lt, List, length, Option, Some, slice_get}
use Rattle.std.specs.List.{list_any}
use Rattle.chain_defs.specs.Schema.{OutPoint, Block}
use Rattle.chain_defs.specs.Kept.{parent_place}
use Rattle.chain_defs.specs.Branch.{branch_places}
use Rattle.chain_tree.specs.Told.{Stored, blocks_of}
use Rattle.chain_tree.specs.declared.entry.Entry.{Entry}
use Rattle.chain_tree.specs.Damages.{IsAtRecord}
use Rattle.outside.specs.declared.disk.Damage.{Damage}
use Rattle.chain_defs.specs.Events.{events_of_block}
use Rattle.chain_defs.specs.Row.{Row, live_row}
use Rattle.chain_defs.specs.Ext.{Ext, ext_bytes}
use Rattle.chain_defs.specs.Fits.{FitsExt}
use Rattle.chain_defs.specs.UndoLaws.{ComesBefore}

-- A block can be taken back with the bytes beside it: they are those of an ext that fits them, and its rows are what the block spends of the
-- rows before it.
pub record CanBeTakenBack (b : Block) (bytes : List ℕ) (after before : OutPoint → Option Row) : Type 0 where
  pub height : ℕ
  pub above : 0 < height
  pub ext : Ext
  pub fits : FitsExt ext
  pub bytes_are : ext_bytes ext ≡ bytes
  pub comes_before : ComesBefore (events_of_block height b) ext.spent after before

-- So can each kept block that has a parent, from the rows of its branch to those of its parent's.
abbrev pub EachCanBeTakenBack : List Stored → Type 0
EachCanBeTakenBack stored = (place parent : ℕ) (it : Stored) → slice_get stored place ≡ Some it → parent_place (blocks_of stored) place ≡ Some parent
    → CanBeTakenBack it.block it.ext (live_row (blocks_of stored) place) (live_row (blocks_of stored) parent)

-- rows are those of the branch of a place
abbrev pub AreRowsOfBranch : List Block → ℕ → (OutPoint → Option Row) → Type 0
AreRowsOfBranch kept place rows = (o : OutPoint) → rows o ≡ live_row kept place o

-- each row is of a block before a place
abbrev pub AreRowsBelow : ℕ → (OutPoint → Option Row) → Type 0
AreRowsBelow place rows = (o : OutPoint) (row : Row) → rows o ≡ Some row → row.block < place

-- whether a row is
abbrev pub is_below : ℕ → OutPoint × Row → Bool
is_below place it = nat_lt it.1.block place

-- whether a place is on the branch of another
abbrev pub is_on_branch : List Block → ℕ → ℕ → Bool
is_on_branch kept end place = list_any (λ other. other == place) (branch_places kept end)

-- Each block that is taken back on the way from one place to another can be: those on the branch of the first that are not on the other's.
abbrev pub CanGoDown : List Stored → ℕ → ℕ → Type 0
CanGoDown stored from to = (place parent : ℕ) (it : Stored) → is_on_branch (blocks_of stored) from place ≡ true → is_on_branch (blocks_of stored) to place ≡ false
    → slice_get stored place ≡ Some it → parent_place (blocks_of stored) place ≡ Some parent
    → CanBeTakenBack it.block it.ext (live_row (blocks_of stored) place) (live_row (blocks_of stored) parent)

-- A place is on the way from one place to another where it is on just one of their branches: it is one of those that distance counts.
abbrev pub IsOnTheWay : List Block → ℕ → ℕ → ℕ → Type 0
IsOnTheWay kept from to place = is_on_branch kept from place ≡ not (is_on_branch kept to place)

-- so is each of these
abbrev pub AreOnTheWay : List Block → ℕ → ℕ → List ℕ → Type 0
AreOnTheWay kept from to places = (i place : ℕ) → slice_get places i ≡ Some place → IsOnTheWay kept from to place

-- Damage of the block that is in hand: it is one of these, and the damage is at its record.
abbrev pub IsOfHand : List Entry → (ℕ → Type 0) → Damage → ℕ → Type 0
IsOfHand entries Is damage place = Is place × IsAtRecord entries place damage

-- The last places of a branch, its end first, and below them the next.
pub record IsPathUp (kept : List Block) (end : ℕ) (places : List ℕ) (next : ℕ) : Type 0 where
  pub some : length places < length (branch_places kept end)
  pub each : (i place : ℕ) → slice_get places i ≡ Some place → slice_get (branch_places kept end) (length (branch_places kept end) - 1 - i) ≡ Some place
  pub below : slice_get (branch_places kept end) (length (branch_places kept end) - 1 - length places) ≡ Some next
