-- How many live cells of a branch one lock has, and what they hold.
use Rattle.std.specs.Prelude.{◌≡◌, ◌+◌, ℕ, Bool, List, length, drop, Option, if◌then◌else◌}
use Rattle.std.specs.List.{sum_by}
use Rattle.std.specs.Str.{bytes_eq}
use Rattle.chain_defs.specs.Schema.{OutPoint, CellOutput, Block}
use Rattle.chain_defs.specs.Cell.{script_hash}
use Rattle.chain_defs.specs.Row.{Row, ListsRows}
use Rattle.chain_defs.specs.ByLock.{of_lock, capacity_of, cells_by_lock}

-- whether the lock of a listed row has a hash
abbrev pub is_of : List ℕ → OutPoint × Row → Bool
is_of lock listed = bytes_eq listed.1.lock_hash lock

-- how many rows are listed, and what they hold together
abbrev pub sum_of : List (OutPoint × Row) → ℕ × ℕ
sum_of list = (length list, capacity_of list)

-- What contracts see of a balance: a lock, by its hash, and how many cells it has and what they hold.
pub record BalanceValue : Type 0 where
  pub lock : List ℕ
  pub sum : ℕ × ℕ

-- A balance is that of a lock on the branch of a kept block.
pub record IsBalance (lock : List ℕ) (kept : List Block) (place : ℕ) (balance : BalanceValue) : Type 0 where
  pub lock_is : balance.lock ≡ lock
  pub sum_is : balance.sum ≡ sum_of (cells_by_lock kept place lock)

-- ---- What a block changes

-- Of rows before and after a block those of a lock are listed: so much went and so much came, in number and in capacity.
abbrev pub Changes : List ℕ → (OutPoint → Option Row) → (OutPoint → Option Row) → ℕ × ℕ → ℕ × ℕ → Type 0
Changes lock before after gone come = (one other : List (OutPoint × Row))
    → ListsRows (λ o. of_lock lock (before o)) one → ListsRows (λ o. of_lock lock (after o)) other
    → (length other + gone.0 ≡ length one + come.0) × (capacity_of other + gone.1 ≡ capacity_of one + come.1)

-- an output counts for the lock that has its hash, with its capacity
abbrev pub counts_for : List ℕ → CellOutput → ℕ
counts_for lock output = if bytes_eq (script_hash output.lock) lock then 1 else 0

abbrev pub holds_for : List ℕ → CellOutput → ℕ
holds_for lock output = if bytes_eq (script_hash output.lock) lock then output.capacity else 0

-- how many outputs are for a lock, and what these hold together
abbrev pub sum_for : List ℕ → List CellOutput → ℕ × ℕ
sum_for lock outputs = (sum_by (counts_for lock) outputs, sum_by (holds_for lock) outputs)

-- those of a block
abbrev pub made_for : List ℕ → Block → ℕ × ℕ
made_for lock b = (sum_by (λ t. sum_by (counts_for lock) t.raw.outputs) b.transactions, sum_by (λ t. sum_by (holds_for lock) t.raw.outputs) b.transactions)

-- how many inputs the transactions of a block after its first have
abbrev pub inputs_of : Block → ℕ
inputs_of b = sum_by (λ t. length t.raw.inputs) (drop 1 b.transactions)
