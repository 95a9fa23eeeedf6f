-- The block so far, as the code has it, and what that stands for.
use Rattle.std.specs.Prelude.{◌≡◌, ℕ, ◌+◌, ◌^◌, ◌<◌, ◌≤◌, ℤ, pos, Bool, true, false, ◌||◌, List, [], ◌∷◌, ◌++◌, map, length, Option, IsTrue}
use Rattle.std.specs.List.{list_any, AllByRecursion}
use Rattle.std.specs.Str.{bytes_eq}
use Rattle.std.specs.HashSet.{contains}
use Rattle.chain_defs.specs.Shape.{encoded}
use Rattle.chain_defs.specs.Schema.{OutPoint, Transaction, transaction}
use Rattle.chain_defs.specs.Specification.{Specification}
use Rattle.chain_defs.specs.Branch.{branch}
use Rattle.chain_defs.specs.Hashes.{transaction_hash, are_distinct}
use Rattle.chain_tree.specs.Told.{Stored, blocks_of}
use Rattle.chain_defs.specs.Events.{events_of}
use Rattle.chain_defs.specs.Row.{Row, row_after}
use Rattle.rule_defs.specs.Cellbase.{has_cellbase}
use Rattle.block_judge.specs.BlockCells.{rows_in}
use Rattle.block_judge.specs.Appending.{SoFarValue, SeesSoFar}
use Rattle.block_judge.specs.Progress.{AreMoved, CanMove}
use Rattle.block_judge.specs.Standing.{ContextValue}
use Rattle.pool_defs.specs.Size.{size_with}
use Rattle.pool_defs.specs.Assembly.{Assembly}
use Rattle.pool_defs.specs.declared.line.Line.{Line}
use Rattle.tx_pool.specs.Sealing.{Fills}
use Rattle.tx_pool.specs.declared.draft.Draft.{Draft}

-- What the code has: the timestamp, the rows that the next transaction sees, the transactions and the proposal ids, whether a hash or an id is among
-- them, the bytes of the block, the cycles that are left, what the transactions move, and the lines.
pub record DraftValue : Type 0 where
  pub timestamp : ℕ
  pub rows : OutPoint → Option Row
  pub transactions : List Transaction
  pub has_hash : List ℕ → Bool
  pub proposals : List (List ℕ)
  pub has_id : List ℕ → Bool
  pub length : ℕ
  pub left : ℕ
  pub interest : ℤ
  pub freed : ℕ
  pub lines : List Line

-- by what the branch's cells have as rows
abbrev pub draft_of : {C : Type 0} → (C → OutPoint → Option Row) → Draft C → DraftValue
draft_of rows draft = record {
  timestamp = draft.timestamp;
  rows = rows_in rows draft.cells;
  transactions = draft.transactions.items;
  has_hash = contains bytes_eq draft.hashes;
  proposals = draft.proposals.items;
  has_id = contains bytes_eq draft.ids;
  length = draft.length;
  left = draft.left;
  interest = draft.interest;
  freed = draft.freed;
  lines = draft.lines.items;
}

-- a draft with one line more
abbrev pub with_line : DraftValue → Line → DraftValue
with_line draft line = record draft { lines = draft.lines ++ line ∷ [] }

-- ---- What holds of each draft

-- It begins with a cellbase and has at most one transaction more than lines; its length is that of its block; and its numbers fit.
pub record Fits (draft : DraftValue) : Type 0 where
  pub some : 0 < length draft.transactions
  pub few : length draft.transactions ≤ length draft.lines + 1
  pub length_is : draft.length ≡ size_with draft.transactions draft.proposals
  pub short : draft.length < 2 ^ 32
  pub left : draft.left ≤ 2 ^ 40
  pub moves : CanMove (length draft.transactions) draft.interest draft.freed

-- ---- One transaction more

-- A draft with nothing in it yet, of this timestamp and over the rows of a branch.
pub record IsEmpty (spec : Specification) (timestamp : ℕ) (base : OutPoint → Option Row) (draft : DraftValue) : Type 0 where
  pub timestamp_is : draft.timestamp ≡ timestamp
  pub rows : (o : OutPoint) → draft.rows o ≡ base o
  pub transactions : draft.transactions ≡ []
  pub hashes : (hash : List ℕ) → draft.has_hash hash ≡ false
  pub proposals : draft.proposals ≡ []
  pub ids : (id : List ℕ) → draft.has_id id ≡ false
  pub length_is : draft.length ≡ 240
  pub left : draft.left ≡ spec.max_cycles
  pub interest : draft.interest ≡ pos 0
  pub freed : draft.freed ≡ 0
  pub lines : draft.lines ≡ []

-- A transaction was put at the end of one draft, which is another then: its rows have the place `e`.
pub record IsPut (e : ℕ) (t : Transaction) (before after : DraftValue) : Type 0 where
  pub timestamp : after.timestamp ≡ before.timestamp
  pub rows : (height : ℕ) (o : OutPoint) → 0 < height → after.rows o ≡ row_after e (events_of t height (length before.transactions)) before.rows o
  pub transactions : after.transactions ≡ before.transactions ++ t ∷ []
  pub hashes : (hash : List ℕ) → after.has_hash hash ≡ (before.has_hash hash || bytes_eq (transaction_hash t) hash)
  pub length_is : after.length ≡ before.length + (4 + length (encoded transaction t))
  pub proposals : after.proposals ≡ before.proposals
  pub ids : (id : List ℕ) → after.has_id id ≡ before.has_id id
  pub left : after.left ≡ before.left
  pub interest : after.interest ≡ before.interest
  pub freed : after.freed ≡ before.freed
  pub lines : after.lines ≡ before.lines

-- ---- What it stands for

abbrev pub has : List (List ℕ) → List ℕ → Bool
has values value = list_any (λ other. bytes_eq other value) values

-- the block so far that has these transactions, as the next one is judged in it
abbrev pub so_far_in : DraftValue → List Transaction → SoFarValue
so_far_in draft transactions = record { timestamp = draft.timestamp; transactions = transactions; rows = draft.rows }

-- Over kept blocks for which the context stands, the draft is what the items came to so far after the parent's branch.
pub record IsDraftSoFar (stored : List Stored) (on : ContextValue) (so_far : Assembly) (draft : DraftValue) : Type 0 where
  pub timestamp_is : draft.timestamp ≡ so_far.block.header.timestamp
  pub sees : SeesSoFar stored on (so_far_in draft so_far.block.transactions)
  pub fills : Fills on.spec (branch (blocks_of stored) on.parent) so_far.block draft.transactions draft.proposals
  pub begins : IsTrue (has_cellbase so_far.block)
  pub distinct : are_distinct so_far.block.proposals ≡ true
  pub ids_fit : AllByRecursion (λ id. length id ≡ 10) so_far.block.proposals
  pub hashes_are : (hash : List ℕ) → draft.has_hash hash ≡ has (map transaction_hash so_far.block.transactions) hash
  pub ids_are : (id : List ℕ) → draft.has_id id ≡ has so_far.block.proposals id
  pub left_is : draft.left ≡ so_far.left
  pub moved : AreMoved on.spec (branch (blocks_of stored) on.parent) so_far.block draft.interest draft.freed
  pub lines_are : draft.lines ≡ so_far.lines
