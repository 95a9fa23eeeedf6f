-- The fees of kept blocks, and the exts that keep them.
use Rattle.std.specs.Prelude.{◌≡◌, ℕ, ◌+◌, ◌<◌, List, length, drop, Some, slice_get, slice_index}
use Rattle.chain_defs.specs.Schema.{Block}
use Rattle.chain_defs.specs.Specification.{Specification}
use Rattle.chain_defs.specs.Kept.{parent_place}
use Rattle.chain_defs.specs.Branch.{branch}
use Rattle.chain_defs.specs.Ext.{count_at, fee_of}
use Rattle.rule_defs.specs.Capacity.{fees_from}
use Rattle.chain_tree.specs.Told.{Stored, blocks_of}

-- the fees of a block on the parent at a place
abbrev pub fees_on : Specification → List Block → ℕ → Block → List ℕ
fees_on spec kept parent b = fees_from spec (branch kept parent) b 1 (drop 1 b.transactions)

-- A kept ext has a fee for each transaction of its block after the first, and it is that transaction's.
pub record HasOwnFees (spec : Specification) (kept : List Block) (place : ℕ) (it : Stored) : Type 0 where
  pub count : (parent : ℕ) → parent_place kept place ≡ Some parent → count_at it.ext 0 ≡ length (fees_on spec kept parent it.block)
  pub each : (parent j : ℕ) → parent_place kept place ≡ Some parent → j < length (fees_on spec kept parent it.block)
      → fee_of it.ext (j + 1) ≡ slice_index (fees_on spec kept parent it.block) j

-- So has the ext of each kept block after the genesis.
abbrev pub HaveOwnFees : Specification → List Stored → Type 0
HaveOwnFees spec stored = (place : ℕ) (it : Stored) → 0 < place → slice_get stored place ≡ Some it → HasOwnFees spec (blocks_of stored) place it
