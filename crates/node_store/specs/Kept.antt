-- What contracts see of what is kept of a store.
use Rattle.std.specs.Prelude.{◌≡◌, ℕ, ◌+◌, ◌-◌, ◌<◌, ◌≤◌, List, [], ◌∷◌, ◌++◌, map, length, slice_get, Option, Some}
use Rattle.chain_defs.specs.Schema.{OutPoint, Block, block}
use Rattle.chain_defs.specs.Kept.{kept_limit}
use Rattle.chain_defs.specs.Tip.{tip_place}
use Rattle.chain_tree.specs.declared.entry.Entry.{Entry}
use Rattle.chain_tree.specs.Blocks.{IndexesBlocks, AreRated}
use Rattle.chain_tree.specs.Told.{Stored, blocks_of}
use Rattle.chain_defs.specs.Ext.{count_at}
use Rattle.chain_defs.specs.Row.{Row}
use Rattle.cell_state.specs.State.{rows}
use Rattle.uncle_rules.specs.Embedded.{UnclesValue, IndexesUncles}
use Rattle.chain_defs.specs.Specification.{Specification}
use Rattle.verdict_defs.specs.Chain.{Chain}
use Rattle.chain_defs.specs.FitLaws.{AreCanonical}
use Rattle.cell_state.specs.Moves.{AreRowsOfBranch, AreRowsBelow}
use Rattle.store_defs.specs.Store.{AreJoined}

-- the ext beside each kept block
abbrev pub exts_of : List Stored → List (List ℕ)
exts_of stored = map (λ it. it.ext) stored

-- each block with the ext beside it
abbrev pub paired : List Block → List (List ℕ) → List Stored
paired [] exts = []
paired (b ∷ blocks) [] = []
paired (b ∷ blocks) (ext ∷ exts) = record { block = b; ext = ext } ∷ paired blocks exts

-- what is remembered of the kept blocks, for clauses alone
pub record RecordedValue : Type 0 where
  pub stored : List Stored

-- what is kept: a chain, the exts of its blocks, and their entries in the tree
pub record KeptValue : Type 0 where
  pub chain : Chain
  pub exts : List (List ℕ)
  pub entries : List Entry

abbrev pub kept_of : Specification → List Stored → List Entry → KeptValue
kept_of spec stored entries = record { chain = record { spec = spec; blocks = blocks_of stored }; exts = exts_of stored; entries = entries }

-- with one more block, its ext and its entry
abbrev pub kept_with : KeptValue → Block → List ℕ → Entry → KeptValue
kept_with kept b ext entry = record {
  chain = record { spec = kept.chain.spec; blocks = kept.chain.blocks ++ b ∷ [] };
  exts = kept.exts ++ ext ∷ [];
  entries = kept.entries ++ entry ∷ [];
}

-- its blocks, each with its ext
abbrev pub stored_of : KeptValue → List Stored
stored_of kept = paired kept.chain.blocks kept.exts

-- What is kept has joined, and a source of blocks tells it.
pub record HoldsJoined (kept : KeptValue) (told : Option (List Stored)) : Type 0 where
  pub all : told ≡ Some (stored_of kept)
  pub joined : AreJoined kept.chain kept.exts

-- the rows are those of the branch of a place that was found
abbrev pub AreRowsOfFound : List Block → Option ℕ → (OutPoint → Option Row) → Type 0
AreRowsOfFound kept found rows = (place : ℕ) → found ≡ Some place → AreRowsOfBranch kept place rows

-- of the tip's branch
abbrev pub AreRowsOfTip : List Block → (OutPoint → Option Row) → Type 0
AreRowsOfTip kept rows = AreRowsOfFound kept (tip_place kept) rows

-- each row is of a kept block
abbrev pub AreRowsOfKept : List Block → (OutPoint → Option Row) → Type 0
AreRowsOfKept kept rows = AreRowsBelow (length kept) rows

-- The ext of each block after the genesis counts a fee for each transaction of the block after the first.
abbrev pub CountFees : List Stored → Type 0
CountFees stored = (place : ℕ) (it : Stored) → 0 < place → slice_get stored place ≡ Some it → count_at it.ext 0 ≡ length it.block.transactions - 1

-- What is kept: canonical blocks; the tree indexes them, and the other index their uncles; the C and the AR of each block's DAO field
-- are above 0; the exts count their fees; and no more blocks are kept than may be.
pub record AreKept (stored : List Stored) (entries : List Entry) (index : UnclesValue) : Type 0 where
  pub canonical : AreCanonical (blocks_of stored)
  pub indexed : IndexesBlocks (blocks_of stored) entries
  pub uncles : IndexesUncles (blocks_of stored) index
  pub rated : AreRated entries
  pub counted : CountFees stored
  pub few : length stored ≤ kept_limit
