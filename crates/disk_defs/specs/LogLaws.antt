-- What the bytes of a log hold, in words (docs/STORE.md, "The log").
use Rattle.std.specs.Prelude.{◌≡◌, ◌↔◌, ℕ, ◌+◌, ◌^◌, ◌<◌, ◌≤◌, true, false, List, [], ◌∷◌, ◌++◌, All, take, drop, length, Some, None}
use Rattle.chain_defs.specs.Schema.{Block}
use Rattle.chain_defs.specs.Kept.{blocks_of_item}
use Rattle.chain_defs.specs.Specification.{broken_specification_rule}
use Rattle.rule_defs.specs.Genesis.{broken_genesis_rule}
use Rattle.disk_defs.specs.Log.{Record, record_at, records_of, all_record_bytes, record_limit, LogContent, are_first, blocks_over, content_of_records, block_of_record, log_of, end_of_log, stop_of_log, body_of_parts, parts_of_body, is_of_edition, is_edition, edition_record, epoch_in, of_editions, of_blocks, at_most_one, edition_of}
use Rattle.disk_defs.specs.Rest.{IsAtRest}

-- the length of its body fits the four bytes that it has
abbrev pub HasFittingBody : Record → Type 0
HasFittingBody r = length r.body < 2 ^ 32

-- Law: records one after the other, and after them an end that is not empty and begins with no whole record, are read as just these records.
abbrev pub ReadsTheRecords : Type 0
ReadsTheRecords = (records : List Record) (end : List ℕ) → All HasFittingBody records → 0 < length end → record_at end ≡ None
    → records_of (all_record_bytes records ++ end) ≡ records

-- Law: bytes with the same prefix, up to where the records end, and a byte more hold the same records, and then those of what stands after them.
abbrev pub KeepsTheRecords : Type 0
KeepsTheRecords = (bytes other : List ℕ) → let end = length (all_record_bytes (records_of bytes)) in
    take end other ≡ take end bytes → end < length other → records_of other ≡ records_of bytes ++ records_of (drop end other)

-- Law: no whole record stands where the records end.
abbrev pub EndsTheRecords : Type 0
EndsTheRecords = (bytes : List ℕ) → record_at (drop (length (all_record_bytes (records_of bytes))) bytes) ≡ None

-- Law: the parts of a body are those that it was made of.
abbrev pub GivesTheParts : Type 0
GivesTheParts = (item ext : List ℕ) → length item < 2 ^ 32 → parts_of_body (body_of_parts item ext) ≡ Some (item, ext)

-- Law: a log at rest says what its records say.
abbrev pub SaysItsRecords : Type 0
SaysItsRecords = (place : ℕ) (records : List Record) (bytes : List ℕ) → IsAtRest place records bytes → log_of bytes ≡ content_of_records records

-- What the records of a log say, part by part.
pub record IsSaidBy (records : List Record) (log : LogContent) : Type 0 where
  pub one : Record
  pub two : Record
  pub all : records ≡ one ∷ two ∷ log.records
  pub first : are_first one two ≡ true
  pub specification : one.body ≡ log.specification
  pub genesis : two.body ≡ log.genesis
  pub room : length (of_blocks log.records) ≤ record_limit
  pub once : at_most_one (of_editions log.records) ≡ true
  pub over : blocks_over (blocks_of_item log.genesis) (of_blocks log.records) ≡ Some log.blocks

-- Law: records say just this.
abbrev pub SaysByParts : Type 0
SaysByParts = (records : List Record) (log : LogContent) → (content_of_records records ≡ Some log) ↔ IsSaidBy records log

-- the log with a record and its block after the others
abbrev pub grown : LogContent → Record → Block → LogContent
grown log r b = record { specification = log.specification; genesis = log.genesis; records = log.records ++ r ∷ []; blocks = log.blocks ++ b ∷ [] }

-- Law: one record more, of a block that may stand there, is one block more.
abbrev pub AddsABlock : Type 0
AddsABlock = (records : List Record) (r : Record) (log : LogContent) (b : Block) → content_of_records records ≡ Some log
    → block_of_record log.blocks r ≡ Some b → length (of_blocks log.records) < record_limit → content_of_records (records ++ r ∷ []) ≡ Some (grown log r b)

-- the log with a record of an edition after the others
abbrev pub edited : LogContent → Record → LogContent
edited log r = record { specification = log.specification; genesis = log.genesis; records = log.records ++ r ∷ []; blocks = log.blocks }

-- Law: so is one of an edition, where there was none, and the blocks stay.
abbrev pub AddsAnEdition : Type 0
AddsAnEdition = (records : List Record) (r : Record) (log : LogContent) → content_of_records records ≡ Some log → edition_of log.records ≡ None
    → is_edition r ≡ true → content_of_records (records ++ r ∷ []) ≡ Some (edited log r)

-- With one record more of a block the edition of records is the same, and with one of an edition, where there was none, it is that one's.
pub record HasEditionAfter (records : List Record) (r : Record) : Type 0 where
  pub same : is_of_edition r ≡ false → edition_of (records ++ r ∷ []) ≡ edition_of records
  pub told : is_of_edition r ≡ true → edition_of records ≡ None → edition_of (records ++ r ∷ []) ≡ Some (epoch_in r)

-- Law: so it is of all records.
abbrev pub EditionsAreKept : Type 0
EditionsAreKept = (records : List Record) (r : Record) → HasEditionAfter records r

-- Law: the record of an epoch is that of an edition, from this epoch on.
abbrev pub EpochIsTold : Type 0
EpochIsTold = (epoch : ℕ) → epoch < 2 ^ 64 → (is_edition (edition_record epoch) ≡ true) × (epoch_in (edition_record epoch) ≡ epoch)

-- the specification and the genesis keep their rules, and there is a block for each record of one and for the genesis
pub record IsWellBegun (log : LogContent) : Type 0 where
  pub specification : broken_specification_rule log.specification ≡ None
  pub genesis : broken_genesis_rule log.genesis ≡ None
  pub blocks : length log.blocks ≡ length (of_blocks log.records) + 1

-- Law: so it is of what the records of a log say.
abbrev pub BeginsWell : Type 0
BeginsWell = (records : List Record) (log : LogContent) → content_of_records records ≡ Some log → IsWellBegun log

-- Law: a log stops being one where its records end.
abbrev pub StopsAtItsEnd : Type 0
StopsAtItsEnd = (bytes : List ℕ) (log : LogContent) → log_of bytes ≡ Some log → stop_of_log bytes ≡ end_of_log bytes
