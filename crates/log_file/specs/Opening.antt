-- What a log is opened as.
use Rattle.std.specs.Prelude.{◌≡◌, ℕ, ◌+◌, ◌<◌, ◌==◌, Bool, true, false, List, [], ◌∷◌, ◌++◌, All, map, length, drop, slice_index, Some, None, if◌then◌else◌}
use Rattle.chain_defs.specs.Shape.{encoded}
use Rattle.chain_defs.specs.Schema.{block}
use Rattle.chain_defs.specs.Specification.{Specification, specification_of}
use Rattle.chain_tree.specs.declared.entry.Entry.{Entry}
use Rattle.chain_tree.specs.Blocks.{IndexesBlocks}
use Rattle.chain_tree.specs.Told.{Stored, blocks_of}
use Rattle.outside.specs.declared.disk.Area.TheVariants.{Log}
use Rattle.outside.specs.Image.{Image}
use Rattle.outside.specs.Disk.{write_area}
use Rattle.log_file.specs.Grammar.{record_of, ext_in, ReadValue}
use Rattle.log_file.specs.Pieces.{block_record}
use Rattle.log_file.specs.Reading.{ReaderValue, IsReading}
use Rattle.disk_defs.specs.Log.{Record, record_bytes, all_record_bytes, record_at, records_of, is_of_edition, of_blocks, edition_of, LogContent, specification_in, content_of_records, log_of, stop_of_records}
use Rattle.disk_defs.specs.LogLaws.{HasFittingBody}

abbrev pub NameNone : List Entry → Type 0
NameNone [] = Unit
NameNone (entry ∷ entries) = ⊥

-- the first entry names the body of a record at a place, and the others the rest; a record of an edition is passed over
abbrev pub NameNext : Bool → ℕ → Record → List Entry → (List Entry → Type 0) → Type 0
NameNext true place r entries rest = rest entries
NameNext false place r [] rest = ⊥
NameNext false place r (entry ∷ entries) rest = (entry.at ≡ place + 6) × (entry.len ≡ length r.body) × rest entries

-- The entries name the bodies of these records, which stand one after the other from this place on, but for those of editions.
abbrev pub NameBodies : ℕ → List Record → List Entry → Type 0
NameBodies place [] entries = NameNone entries
NameBodies place (r ∷ records) entries = NameNext (is_of_edition r) place r entries (NameBodies (place + length (record_bytes r)) records)

-- the records of kept blocks: that of the genesis, whose body is its encoding, and those of the later ones with their exts
abbrev pub kept_records : List Stored → List Record
kept_records [] = []
kept_records (genesis ∷ later) = record_of 2 (encoded block genesis.block) ∷ map (λ it. block_record (encoded block it.block) it.ext) later

-- What the records of a log say, as it is opened: its blocks with their exts, of which no byte stands for that of the genesis, and their entries. The
-- first record that an entry names, that of the genesis, stands after the start and the record of the specification; and each that is named holds its
-- block's bytes and its ext.
pub record AreOpened (log : LogContent) (stored : List Stored) (entries : List Entry) : Type 0 where
  pub blocks : blocks_of stored ≡ log.blocks
  pub exts : map (λ it. it.ext) stored ≡ [] ∷ map ext_in (of_blocks log.records)
  pub fits : All HasFittingBody log.records
  pub indexed : IndexesBlocks log.blocks entries
  pub named : NameBodies (14 + length log.specification) (record_of 2 log.genesis ∷ log.records) entries
  pub held : record_of 2 log.genesis ∷ of_blocks log.records ≡ kept_records stored

-- The bytes are this log, and it is opened as this specification, with the edition that it tells, these blocks with their exts, and these entries.
pub record IsOpened (bytes : List ℕ) (log : LogContent) (specification : Specification) (stored : List Stored) (entries : List Entry) : Type 0 where
  pub is_log : log_of bytes ≡ Some log
  pub says : content_of_records (records_of (drop 8 bytes)) ≡ Some log
  pub specified : specification ≡ specification_in log
  pub opened : AreOpened log stored entries

-- So far a log was read: its records up to the place of the reader, and what they say.
pub record HasReadLog (bytes : List ℕ) (specification : Specification) (reader : ReaderValue) (read : ReadValue) : Type 0 where
  pub reading : IsReading bytes reader
  pub within : reader.at < length bytes
  pub records : List Record
  pub split : records_of (drop 8 bytes) ≡ records ++ records_of (drop reader.at bytes)
  pub place : reader.at ≡ 8 + length (all_record_bytes records)
  pub log : LogContent
  pub says : content_of_records records ≡ Some log
  pub specified : specification ≡ specification_of log.specification
  pub told : edition_of log.records ≡ read.edition
  pub opened : AreOpened log read.blocks.stored read.blocks.entries
  pub counted : length log.blocks ≡ length (of_blocks log.records) + 1
  pub next : reader.at ≡ 14 + length log.specification + length (all_record_bytes (record_of 2 log.genesis ∷ log.records))

-- All of it was read: no record stands where the reader is, and a byte is in memory.
pub record HasReadAll (bytes : List ℕ) (specification : Specification) (reader : ReaderValue) (read : ReadValue) : Type 0 where
  pub so_far : HasReadLog bytes specification reader read
  pub ended : record_at (drop reader.at bytes) ≡ None
  pub byte : 0 < length reader.ahead

-- What its records say is no log, and this is where they stop being those of one.
pub record IsNoContentFrom (bytes : List ℕ) (place : ℕ) : Type 0 where
  pub none : content_of_records (records_of (drop 8 bytes)) ≡ None
  pub stops : place ≡ stop_of_records 8 (records_of (drop 8 bytes))

-- A gate that stands open where the records end is closed; nothing else is written.
abbrev pub mended : ℕ → Image → Image
mended place image = if slice_index image.log place == 1 then write_area Log place (0 ∷ []) image else image
