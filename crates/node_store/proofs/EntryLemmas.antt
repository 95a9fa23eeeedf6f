-- The entries of what is kept: as many as blocks, and each one on which a block can be judged.
use Rattle.std.proofs.Common.{◌≡◌, ℕ, ◌-◌, ◌<◌, ◌^◌, List, length, ap, arith}
use Rattle.std.proofs.lemmas.List.{length-map}
use Rattle.chain_defs.specs.Schema.{Block, block}
use Rattle.chain_defs.specs.Branch.{branch}
use Rattle.chain_tree.specs.declared.entry.Entry.{Entry}
use Rattle.chain_tree.specs.Blocks.{IndexesBlocks, IsParent}
use Rattle.chain_tree.specs.Told.{Stored, blocks_of}
use Rattle.chain_tree.proofs.BlockLemmas.{len-same}
use Rattle.uncle_rules.specs.Embedded.{UnclesValue}
use Rattle.chain_defs.specs.Fit.{BranchFits}
use Rattle.verdict_defs.specs.Chain.{Chain}
use Rattle.store_defs.specs.Store.{IsJoined}
use Rattle.store_defs.proofs.FitLaws.{what-joins-fits}
use Rattle.store_defs.proofs.BranchFitLaws.{branches-fit}
use Rattle.node_store.specs.Kept.{AreKept}
use Rattle.node_store.proofs.JoiningLemmas.{few-heights}

-- as many entries as blocks, and how many there may be
pub as-many : (stored : List Stored) (entries : List Entry) (index : UnclesValue) → AreKept stored entries index → length stored ≡ length entries
as-many stored entries index are =
    omega (arith, len-same (blocks_of stored) entries are.indexed, length-map stored (λ (it : Stored). it.block))

pub few-entries : (stored : List Stored) (entries : List Entry) (index : UnclesValue) → AreKept stored entries index → length entries < 2 ^ 24
few-entries stored entries index are =
    omega (arith, few-heights (length stored) are.few, as-many stored entries index are)

-- an entry of what is kept is one on which a block can be judged
pub kept-parent : (stored : List Stored) (entries : List Entry) (index : UnclesValue) (place : ℕ) → AreKept stored entries index → place < length entries
    → IsParent entries place
kept-parent stored entries index place are within = record { parent = within; few = few-entries stored entries index are; rated = are.rated }

-- a place of a block
pub within-entries : (kept blocks : List Block) (entries : List Entry) (place : ℕ) → kept ≡ blocks → IndexesBlocks kept entries → place < length blocks
    → place < length entries
within-entries kept blocks entries place seen indexed below = omega (arith, below, ap length seen, len-same kept entries indexed)

pub within-blocks : (kept blocks : List Block) (entries : List Entry) (place : ℕ) → kept ≡ blocks → IndexesBlocks kept entries → place < length entries
    → place < length blocks
within-blocks kept blocks entries place seen indexed below = omega (arith, below, ap length seen, len-same kept entries indexed)

-- its parent's branch fits
pub fits-below : (chain : Chain) (entries : List Entry) (parent : ℕ) → IsJoined chain → IndexesBlocks chain.blocks entries → parent < length entries
    → BranchFits chain.blocks parent
fits-below chain entries parent joined indexed below =
    branches-fit what-joins-fits chain parent joined (omega (arith, below, len-same chain.blocks entries indexed))
