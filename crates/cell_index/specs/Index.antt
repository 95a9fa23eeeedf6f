-- What contracts see of an index by lock, and when it stands for a branch.
use Rattle.std.specs.Prelude.{⊤, slice_index, ◌≡◌, ℕ, ◌^◌, ◌<◌, List, [], ◌∷◌, length, Option, IsSome, unwrap_or, if◌then◌else◌}
use Rattle.std.specs.List.{AllByRecursion, sum_by}
use Rattle.std.specs.List.Sorted.{IsStrictlySortedBy}
use Rattle.std.specs.Map.{lookup, keys_of, values_of}
use Rattle.std.specs.BTreeMap.{is_at}
use Rattle.std.specs.Str.{bytes_eq}
use Rattle.std.specs.declared.cmp.Ordering.{Ordering}
use Rattle.std.specs.Ordering.{nat_cmp, ordering_then}
use Rattle.std.specs.Cmp.Lexicographic.{slice_cmp}
use Rattle.chain_defs.specs.Schema.{OutPoint, Block}
use Rattle.chain_defs.specs.Row.{Row, live_row}
use Rattle.chain_defs.specs.Undo.{without}
use Rattle.chain_defs.specs.ByLock.{of_lock}

-- the hash of a lock, and an out-point
abbrev pub Key : Type 0
Key = List ℕ × (List ℕ × ℕ)

abbrev pub key_of : List ℕ → OutPoint → Key
key_of lock o = (lock, (o.tx_hash, o.index))

-- Keys in order: by lock, and under one lock by out-point.
abbrev pub key_cmp : Key → Key → Ordering
key_cmp one other = ordering_then (slice_cmp nat_cmp one.0 other.0) (ordering_then (slice_cmp nat_cmp one.1.0 other.1.0) (nat_cmp one.1.1 other.1.1))

-- A row at each of some keys, in their order, and beside them a count and a capacity at each lock that has a row.
pub record IndexValue : Type 0 where
  pub entries : List (Key × Row)
  pub totals : List (List ℕ × (ℕ × ℕ))

-- the row under a lock at an out-point
abbrev pub at : List (Key × Row) → List ℕ → OutPoint → Option Row
at entries lock o = lookup (is_at (key_cmp (key_of lock o))) entries

-- ---- How many, and how much

-- a row counts for its lock, with its capacity
abbrev pub counts : List ℕ → Row → ℕ
counts lock row = if bytes_eq row.lock_hash lock then 1 else 0

abbrev pub holds : List ℕ → Row → ℕ
holds lock row = if bytes_eq row.lock_hash lock then row.capacity else 0

-- how many rows of a lock there are, and what they hold together
abbrev pub total_of : List ℕ → List (Key × Row) → ℕ × ℕ
total_of lock entries = (sum_by (counts lock) (values_of entries), sum_by (holds lock) (values_of entries))

-- what is kept of a lock
abbrev pub kept_of : List ℕ → List (List ℕ × (ℕ × ℕ)) → ℕ × ℕ
kept_of lock totals = unwrap_or (lookup (is_at (slice_cmp nat_cmp lock)) totals) (0, 0)

-- A row stands under its own lock, and its key and its capacity are what they can be.
pub record IsOwn (entry : Key × Row) : Type 0 where
  pub lock : entry.1.lock_hash ≡ entry.0.0
  pub tx_hash : length entry.0.1.0 ≡ 32
  pub bytes : (i : ℕ) → slice_index entry.0.1.0 i < 256
  pub index : entry.0.1.1 < 2 ^ 32
  pub capacity : entry.1.capacity < 2 ^ 64

-- What is so of each index: keys in order, each row at its own, and of each lock what is kept is what its rows are.
pub record IsTotalled (entries : List (Key × Row)) (totals : List (List ℕ × (ℕ × ℕ))) : Type 0 where
  pub ordered : IsStrictlySortedBy key_cmp (keys_of entries)
  pub own : AllByRecursion IsOwn entries
  pub kept : (lock : List ℕ) → kept_of lock totals ≡ total_of lock entries

-- ---- What it has

-- An index has just these rows, each under its lock.
abbrev pub Holds : (OutPoint → Option Row) → IndexValue → Type 0
Holds rows index = (lock : List ℕ) (o : OutPoint) → at index.entries lock o ≡ of_lock lock (rows o)

-- An index stands for the branch of a kept block where it has just the rows of that branch.
abbrev pub IndexesBranch : List Block → ℕ → IndexValue → Type 0
IndexesBranch kept place index = Holds (live_row kept place) index

-- The same, as what an index is asked: it is one for every lock.
abbrev pub stands_for_all : Unit {0} → List Block → ℕ → IndexValue → Type 0
stands_for_all all kept place index = IndexesBranch kept place index

-- ---- Without some rows

abbrev pub without_all : List (OutPoint × Row) → (OutPoint → Option Row) → OutPoint → Option Row
without_all [] rows = rows
without_all (one ∷ later) rows = without_all later (without one.0 rows)

-- Each of these, when it is its turn to go, is there under its lock.
abbrev pub AreThere : List (OutPoint × Row) → (OutPoint → Option Row) → Type 0
AreThere [] rows = ⊤
AreThere (one ∷ later) rows = IsSome (of_lock one.1.lock_hash (rows one.0)) × AreThere later (without one.0 rows)
