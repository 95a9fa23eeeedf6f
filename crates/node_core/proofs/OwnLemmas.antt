-- The fees in the exts of blocks that joined, where each block has its own ext beside it.
use Rattle.std.proofs.Common.{List}
use Rattle.chain_defs.specs.Specification.{Specification}
use Rattle.chain_tree.specs.Told.{Stored, blocks_of}
use Rattle.store_defs.specs.Store.{AreJoined}
use Rattle.node_store.specs.Kept.{exts_of, CountFees}
use Rattle.node_store.proofs.FeeLaws.{exts-keep-fees}
use Rattle.rewards.specs.Own.{HaveOwnFees}

-- each holds its own fees
pub have-own-fees : (spec : Specification) (stored : List Stored) → AreJoined (record { spec = spec; blocks = blocks_of stored }) (exts_of stored)
    → CountFees stored → HaveOwnFees spec stored
have-own-fees spec stored kept counted place it above there = record {
  count = λ parent on. (exts-keep-fees spec stored kept counted place parent it above there on).0;
  each = λ parent j on within. (exts-keep-fees spec stored kept counted place parent it above there on).1.each j within;
}
