-- What the rows of an ext are, in words (docs/STORE.md, "The ext").
use Rattle.std.specs.Prelude.{◌≡◌, ℕ, [], ◌∷◌, ◌++◌, length, take, Some}
use Rattle.chain_defs.specs.Schema.{Block}
use Rattle.chain_defs.specs.Kept.{block_at, parent_place}
use Rattle.chain_defs.specs.Branch.{branch}
use Rattle.chain_defs.specs.Events.{events_of_block}
use Rattle.chain_defs.specs.Row.{live_row}
use Rattle.chain_defs.specs.Undo.{spent_of}
use Rattle.chain_defs.specs.UndoLaws.{ComesBefore}
use Rattle.verdict_defs.specs.Ext.{ext_of}
use Rattle.verdict_defs.specs.Chain.{Chain}
use Rattle.verdict_defs.specs.Laws.{MayJoin}
use Rattle.store_defs.specs.Store.{IsJoined}

-- Law: the rows of the ext of a block that may join are those that its events spend of the rows of its parent's branch.
abbrev pub ExtsHoldSpentRows : Type 0
ExtsHoldSpentRows = (chain : Chain) (b : Block) (may : MayJoin chain.spec chain.blocks b)
    → (ext_of chain.spec chain.blocks may.parent b).spent
    ≡ spent_of (events_of_block (length (branch chain.blocks may.parent)) b) (live_row chain.blocks may.parent)

-- Law: with it the rows of that branch come before those of the block's own.
abbrev pub ExtsTakeBack : Type 0
ExtsTakeBack = (chain : Chain) (b : Block) (may : MayJoin chain.spec chain.blocks b)
    → ComesBefore (events_of_block (length (branch chain.blocks may.parent)) b) (ext_of chain.spec chain.blocks may.parent b).spent
    (live_row (chain.blocks ++ b ∷ []) (length chain.blocks)) (live_row chain.blocks may.parent)

-- Law: so it is for each block of a chain that has joined, with its ext, which is over the blocks before it.
abbrev pub KeptExtsTakeBack : Type 0
KeptExtsTakeBack = (chain : Chain) (place parent : ℕ) (b : Block) → IsJoined chain → block_at chain.blocks place ≡ Some b
    → parent_place chain.blocks place ≡ Some parent
    → ComesBefore (events_of_block (length (branch chain.blocks parent)) b) (ext_of chain.spec (take place chain.blocks) parent b).spent
    (live_row chain.blocks place) (live_row chain.blocks parent)
