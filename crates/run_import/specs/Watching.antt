-- A lock that is watched while items are imported.
use Rattle.std.specs.Prelude.{◌≡◌, ℕ, List, Option, Some, None}
use Rattle.chain_defs.specs.Schema.{Block}
use Rattle.chain_defs.specs.Tip.{tip_place}
use Rattle.outside.specs.Image.{Image}
use Rattle.verdict_defs.specs.declared.verdict.Verdict.{Verdict}
use Rattle.verdict_defs.specs.Chain.{verdict_over, chain_after}
use Rattle.cell_index.specs.Balance.{BalanceValue, IsBalance}
use Rattle.node_store.specs.Node.{NodeValue, IsOwnDiskWhereTold, IsSoundNode, IsSoundWhereTold, StandsOnDisk}

-- a balance is that of a lock on the best branch
pub record IsTipBalance (lock : List ℕ) (kept : List Block) (balance : BalanceValue) : Type 0 where
  pub tip : ℕ
  pub is_tip : tip_place kept ≡ Some tip
  pub stands : IsBalance lock kept tip balance

-- where a lock is watched, its balance is that on the branch of a kept block
abbrev pub IsWatchAt : Option (List ℕ) → List Block → ℕ → Option BalanceValue → Type 0
IsWatchAt None kept place watch = watch ≡ None
IsWatchAt (Some lock) kept place watch = (balance : BalanceValue) × (watch ≡ Some balance) × IsBalance lock kept place balance

-- and that on the best branch
pub record IsWatching (watched : Option (List ℕ)) (kept : List Block) (watch : Option BalanceValue) : Type 0 where
  pub tip : ℕ
  pub is_tip : tip_place kept ≡ Some tip
  pub at : IsWatchAt watched kept tip watch

-- A node is sound on its disk, and what it watches is of it.
pub record IsSoundWatching (watched : Option (List ℕ)) (node : NodeValue) (watch : Option BalanceValue) (reads : Option Image) : Type 0 where
  pub sound : IsSoundWhereTold node reads
  pub watching : IsWatching watched node.chain.blocks watch

-- An item was imported over a node, and what is watched followed the tip.
pub record IsFollowed (before after : NodeValue) (watch later : Option BalanceValue) (item : List ℕ) (answer : Verdict) (reads_old reads_new : Option Image)
    (old new : Image → Type 0) : Type 0 where
  pub own : IsOwnDiskWhereTold after reads_new new
  pub verdict : IsSoundWhereTold before reads_old → answer ≡ verdict_over before.chain item
  pub kept : IsSoundWhereTold before reads_old → after.chain ≡ chain_after before.chain item
  pub sound : IsSoundWhereTold before reads_old → IsSoundNode after
  pub on : StandsOnDisk before reads_old old → StandsOnDisk after reads_new new
  pub watching : (watched : Option (List ℕ)) → IsSoundWatching watched before watch reads_old → IsWatching watched after.chain.blocks later
