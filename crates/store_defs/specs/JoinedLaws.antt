-- What is true of a chain whose blocks joined, in words.
use Rattle.std.specs.Prelude.{◌≡◌, ℕ, ◌+◌, ◌^◌, ◌<◌, List, map, length, drop, Some, IsTrue, IsSome, slice_get, slice_index}
use Rattle.chain_defs.specs.Schema.{OutPoint, UncleBlock, Block}
use Rattle.chain_defs.specs.Dao.{is_rated}
use Rattle.chain_defs.specs.Kept.{block_hash, block_at, parent_place}
use Rattle.chain_defs.specs.Hashes.{uncle_hash, are_distinct}
use Rattle.chain_defs.specs.Branch.{branch}
use Rattle.chain_defs.specs.Cell.{Cell, holds_its_own}
use Rattle.chain_defs.specs.Ext.{count_at, fee_of}
use Rattle.chain_defs.specs.Events.{live_cell, events_of_block, events}
use Rattle.chain_defs.specs.Fit.{are_live, none_live, AllFit, BranchFits}
use Rattle.rule_defs.specs.Capacity.{fees_from}
use Rattle.rule_defs.specs.Uncles.{embedded_uncles}
use Rattle.verdict_defs.specs.Chain.{Chain}
use Rattle.verdict_defs.specs.Laws.{MayJoin}
use Rattle.store_defs.specs.Store.{IsJoined, HaveOwnExts}

-- ---- Cells

-- Law: on each branch the live cells with a type script hold what they occupy.
abbrev pub TypedCellsHoldTheirOwn : Type 0
TypedCellsHoldTheirOwn = (chain : Chain) (place : ℕ) (o : OutPoint) (cell : Cell) → IsJoined chain → place < length chain.blocks
    → live_cell (branch chain.blocks place) o ≡ Some cell → IsSome cell.output.type_script → IsTrue (holds_its_own cell.output cell.content)

-- Law: the events of each branch fit, those of the genesis too: each spend is of a live cell, and each make of an out-point that is not live.
abbrev pub EventsFit : Type 0
EventsFit = (chain : Chain) (place : ℕ) → IsJoined chain → place < length chain.blocks → AllFit (events (branch chain.blocks place)) none_live

-- Law: the events of a block that may join fit the cells that are live on its parent's branch.
abbrev pub WhatJoinsFits : Type 0
WhatJoinsFits = (chain : Chain) (b : Block) → (may : MayJoin chain.spec chain.blocks b)
    → AllFit (events_of_block (length (branch chain.blocks may.parent)) b) (are_live (live_cell (branch chain.blocks may.parent)))

-- Law: so it is along each branch.
abbrev pub BranchesFit : Type 0
BranchesFit = (chain : Chain) (place : ℕ) → IsJoined chain → place < length chain.blocks → BranchFits chain.blocks place

-- ---- Headers

-- Law: the DAO field of each block is rated.
abbrev pub BlocksAreRated : Type 0
BlocksAreRated = (chain : Chain) (place : ℕ) (b : Block) → IsJoined chain → block_at chain.blocks place ≡ Some b → IsTrue (is_rated b.header.dao)

-- Law: the number of each block of a branch is its height.
abbrev pub NumbersAreHeights : Type 0
NumbersAreHeights = (chain : Chain) (place height : ℕ) (b : Block) → IsJoined chain → place < length chain.blocks
    → block_at (branch chain.blocks place) height ≡ Some b → b.header.number ≡ height

-- ---- Uncles

-- Law: no hash is embedded as an uncle twice along a branch.
abbrev pub UnclesDiffer : Type 0
UnclesDiffer = (chain : Chain) (place : ℕ) → IsJoined chain → place < length chain.blocks
    → IsTrue (are_distinct (map uncle_hash (embedded_uncles (branch chain.blocks place))))

-- Law: no uncle has the hash of an ancestor of the block that embeds it.
abbrev pub UnclesAreNoAncestors : Type 0
UnclesAreNoAncestors = (chain : Chain) (place height other index : ℕ) (b ancestor : Block) (uncle : UncleBlock) → IsJoined chain
    → place < length chain.blocks → block_at (branch chain.blocks place) height ≡ Some b → slice_get b.uncles index ≡ Some uncle
    → block_at (branch chain.blocks place) other ≡ Some ancestor → other < height → uncle_hash uncle ≡ block_hash ancestor → ⊥

-- ---- Exts

-- The bytes of an ext hold these fees, that of the first transaction after the cellbase first. Their count stands in four bytes.
pub record HoldsFees (ext : List ℕ) (fees : List ℕ) : Type 0 where
  pub count : length fees < 2 ^ 32 → count_at ext 0 ≡ length fees
  pub each : (i : ℕ) → i < length fees → fee_of ext (i + 1) ≡ slice_index fees i

-- Law: the own ext of each block after the genesis holds the fees of its transactions on the branch of its parent.
abbrev pub ExtsHoldFees : Type 0
ExtsHoldFees = (chain : Chain) (exts : List (List ℕ)) (place parent : ℕ) (b : Block) (ext : List ℕ) → IsJoined chain → HaveOwnExts chain exts → 0 < place
    → block_at chain.blocks place ≡ Some b → slice_get exts place ≡ Some ext → parent_place chain.blocks place ≡ Some parent
    → HoldsFees ext (fees_from chain.spec (branch chain.blocks parent) b 1 (drop 1 b.transactions))
