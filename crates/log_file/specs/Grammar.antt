-- What the records of a log are judged as.
use Rattle.std.specs.Prelude.{◌≡◌, ◌⊎◌, ℕ, ◌<◌, ◌≤◌, ◌&&◌, true, false, is_none, List, [], ◌∷◌, ◌++◌, length, Option, Some, None, slice_get, IsTrue}
use Rattle.chain_defs.specs.Shape.{encoded, decoded}
use Rattle.chain_defs.specs.Schema.{Block}
use Rattle.chain_defs.specs.Schema as shapes
use Rattle.chain_defs.specs.Kept.{place_of, kept_limit}
use Rattle.chain_defs.specs.Ext.{is_ext}
use Rattle.chain_defs.specs.FitLaws.{IsCanonical, AreCanonical}
use Rattle.chain_tree.specs.declared.entry.Entry.{Entry}
use Rattle.chain_tree.specs.Blocks.{Describes, IndexesBlocks}
use Rattle.chain_tree.specs.Told.{Stored, blocks_of}
use Rattle.disk_defs.specs.Log.{Record, parts_of_body, block_of_record, is_genesis, is_of_edition, is_edition, epoch_in, record_limit}
use Rattle.disk_defs.specs.LogLaws.{HasFittingBody}
use Rattle.log_file.specs.Pieces.{block_record}

abbrev pub record_of : ℕ → List ℕ → Record
record_of kind body = record { kind = kind; body = body }

-- the entry names the body of a record, which begins at this place
pub record NamesBody (place : ℕ) (r : Record) (entry : Entry) : Type 0 where
  pub at : entry.at ≡ place
  pub len : entry.len ≡ length r.body

-- the ext beside the block of a record
abbrev pub ext_in : Record → List ℕ
ext_in r = elim (parts_of_body r.body) [
  | None ↦ []
  | Some parts ↦ parts.1
]

-- the record is that of this canonical block with this ext
pub record HoldsBlock (r : Record) (block : Block) (ext : List ℕ) : Type 0 where
  pub canonical : IsCanonical block
  pub form : IsTrue (is_ext ext)
  pub is : r ≡ block_record (encoded shapes.block block) ext
  pub beside : ext ≡ ext_in r

-- It is the record of this block with this ext, and the block may stand after these with this entry.
pub record IsNextBlock (at : ℕ) (r : Record) (kept : List Block) (block : Block) (ext : List ℕ) (entry : Entry) : Type 0 where
  pub is : block_of_record kept r ≡ Some block
  pub holds : HoldsBlock r block ext
  pub described : Describes block entry
  pub parent : place_of kept block.header.parent_hash ≡ Some entry.parent
  pub named : NamesBody at r entry

-- a record's block with its ext, and the block's entry, or nothing where it is none of a block that may stand after these
abbrev pub IsJudged : ℕ → Record → List Block → Option ((Block × List ℕ) × Entry) → Type 0
IsJudged at r kept None = block_of_record kept r ≡ None
IsJudged at r kept (Some found) = IsNextBlock at r kept found.0.0 found.0.1 found.1

-- ---- The blocks of a log

-- Whatever a disk tells, these are canonical blocks that the entries index, each after the genesis with bytes of an ext's form beside it, and they are
-- no more than may be.
pub record AreBlocks (stored : List Stored) (entries : List Entry) : Type 0 where
  pub indexed : IndexesBlocks (blocks_of stored) entries
  pub canonical : AreCanonical (blocks_of stored)
  pub forms : (place : ℕ) (it : Stored) → slice_get stored place ≡ Some it → 0 < place → IsTrue (is_ext it.ext)
  pub few : length stored ≤ kept_limit

-- The blocks that were read, each with its ext, and their entries. The genesis has no ext: no byte stands for it.
pub record BlocksValue : Type 0 where
  pub stored : List Stored
  pub entries : List Entry

abbrev pub blocks_with : List Stored → List Entry → BlocksValue
blocks_with stored entries = record { stored = stored; entries = entries }

-- a genesis alone, from its record, whose body begins at this place
pub record IsGenesisOf (at : ℕ) (r : Record) (value : BlocksValue) : Type 0 where
  pub genesis : is_genesis r ≡ true
  pub block : Block
  pub is : decoded shapes.block r.body ≡ Some block
  pub stored : value.stored ≡ record { block = block; ext = [] } ∷ []
  pub entry : Entry
  pub entries : value.entries ≡ entry ∷ []
  pub named : NamesBody at r entry

-- one block more, from its record, whose body begins at this place
pub record IsGrownBy (at : ℕ) (r : Record) (old new : BlocksValue) : Type 0 where
  pub block : Block
  pub is : block_of_record (blocks_of old.stored) r ≡ Some block
  pub ext : List ℕ
  pub holds : HoldsBlock r block ext
  pub stored : new.stored ≡ old.stored ++ record { block = block; ext = ext } ∷ []
  pub entry : Entry
  pub entries : new.entries ≡ old.entries ++ entry ∷ []
  pub named : NamesBody at r entry
  pub fits : HasFittingBody r

-- ---- The records after the genesis

-- what was read of a log: its blocks, and its edition, the epoch from which the second edition of the rules holds
pub record ReadValue : Type 0 where
  pub blocks : BlocksValue
  pub edition : Option ℕ

abbrev pub read_with : List Stored → List Entry → Option ℕ → ReadValue
read_with stored entries edition = record { blocks = blocks_with stored entries; edition = edition }

-- the edition, from its record, where there was none
pub record IsEditedBy (r : Record) (old new : ReadValue) : Type 0 where
  pub is : is_edition r ≡ true
  pub first : old.edition ≡ None
  pub edition : new.edition ≡ Some (epoch_in r)
  pub blocks : new.blocks ≡ old.blocks

-- What a record after the genesis adds: one block more, or the edition.
abbrev pub IsTakenFrom : ℕ → Record → ReadValue → ReadValue → Type 0
IsTakenFrom at r old new = (IsGrownBy at r old.blocks new.blocks × (new.edition ≡ old.edition)) ⊎ IsEditedBy r old new

-- A record may not stand after these blocks and this edition: one of an edition is another than the first, or has other than 8 bytes; any other holds no
-- block that may stand there, or there are as many as may be.
abbrev pub IsMisplaced : List Block → Option ℕ → Record → Type 0
IsMisplaced kept edition r = ((is_of_edition r ≡ true) × ((is_none edition && is_edition r) ≡ false))
    ⊎ ((is_of_edition r ≡ false) × ((block_of_record kept r ≡ None) ⊎ (record_limit < length kept)))

-- The bytes of a record of an edition, where one may still come. So a log is never longer than its blocks' records and this may make it.
abbrev pub edition_room : Option ℕ → ℕ
edition_room None = 14
edition_room (Some epoch) = 0
