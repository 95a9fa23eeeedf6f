-- The fees of a kept block, in the ext beside it.
use Rattle.std.specs.Prelude.{◌≡◌, ℕ, ◌<◌, List, length, drop, Some, slice_get}
use Rattle.chain_defs.specs.Specification.{Specification}
use Rattle.chain_defs.specs.Kept.{parent_place}
use Rattle.chain_defs.specs.Branch.{branch}
use Rattle.chain_defs.specs.Ext.{count_at}
use Rattle.rule_defs.specs.Capacity.{fees_from}
use Rattle.chain_tree.specs.Told.{Stored, blocks_of}
use Rattle.verdict_defs.specs.Chain.{Chain}
use Rattle.store_defs.specs.Store.{AreJoined}
use Rattle.store_defs.specs.JoinedLaws.{HoldsFees}
use Rattle.node_store.specs.Kept.{exts_of, CountFees}

-- An ext counts these fees, and holds them.
abbrev pub KeepsFees : List ℕ → List ℕ → Type 0
KeepsFees ext fees = (count_at ext 0 ≡ length fees) × HoldsFees ext fees

-- Law: where kept blocks have joined, each with its own ext, and the exts count fees, the ext of each block after the genesis keeps the fees of its
-- transactions on the branch of its parent.
abbrev pub ExtsKeepFees : Type 0
ExtsKeepFees = (spec : Specification) (stored : List Stored) → AreJoined (record { spec = spec; blocks = blocks_of stored }) (exts_of stored) → CountFees stored
    → (place parent : ℕ) (it : Stored) → 0 < place → slice_get stored place ≡ Some it → parent_place (blocks_of stored) place ≡ Some parent
    → KeepsFees it.ext (fees_from spec (branch (blocks_of stored) parent) it.block 1 (drop 1 it.block.transactions))
