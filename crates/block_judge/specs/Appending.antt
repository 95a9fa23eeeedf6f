-- A transaction put at the end of those that stand in a block so far, and what it is judged over.
use Rattle.std.specs.Prelude.{◌≡◌, ℕ, List, length, Option, Some}
use Rattle.chain_defs.specs.Schema.{OutPoint, Transaction, Block}
use Rattle.chain_defs.specs.Specification.{Specification}
use Rattle.chain_defs.specs.Branch.{branch}
use Rattle.chain_tree.specs.Told.{Stored, blocks_of}
use Rattle.chain_defs.specs.Events.{events_from}
use Rattle.chain_defs.specs.Row.{Row, row_after}
use Rattle.rule_defs.specs.Site.{Site, site_at}
use Rattle.tx_rules.specs.At.{AtValue}
use Rattle.tx_rules.specs.Own.{of_transactions}
use Rattle.block_judge.specs.declared.appending.BlockSoFar.{BlockSoFar}
use Rattle.block_judge.specs.Standing.{ContextValue, ContextStandsFor}

-- where the next transaction stands of a block after a branch that has this timestamp and these transactions so far
abbrev pub next_site : Specification → List Block → ℕ → List Transaction → Site
next_site spec branch timestamp so_far = site_at spec branch (of_transactions timestamp so_far) (length so_far)

-- a block so far: its timestamp, its transactions and the rows of the cells that the next one sees
pub record SoFarValue : Type 0 where
  pub timestamp : ℕ
  pub transactions : List Transaction
  pub rows : OutPoint → Option Row

-- one by what its cells have as rows
abbrev pub so_far_seen : {S : Type 0} → (S → OutPoint → Option Row) → BlockSoFar S → SoFarValue
so_far_seen rows so_far = record { timestamp = so_far.timestamp; transactions = so_far.transactions.now; rows = rows so_far.cells.now }

-- the place of the next transaction as the code is handed it, in a context
abbrev pub at_next : ContextValue → SoFarValue → AtValue
at_next on so_far = record {
  spec = on.spec;
  entries = on.entries;
  parent = on.parent;
  block = Some (of_transactions so_far.timestamp so_far.transactions);
}

-- The context stands for kept blocks, and the rows are those after these transactions of a block on its parent, the cellbase first.
pub record SeesSoFar (stored : List Stored) (on : ContextValue) (so_far : SoFarValue) : Type 0 where
  pub stands : ContextStandsFor stored on
  pub rows_are : (o : OutPoint)
      → so_far.rows o ≡ row_after (length on.entries) (events_from 0 so_far.transactions (length (branch (blocks_of stored) on.parent))) on.rows o
