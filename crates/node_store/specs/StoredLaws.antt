-- What a log tells of its kept blocks, and what a cache keeps of them while it grows, in words (docs/STORE.md, "Kept blocks read by their places").
use Rattle.std.specs.Prelude.{◌≡◌, ◌↔◌, ℕ, ◌+◌, ◌<◌, true, false, List, [], ◌∷◌, ◌++◌, map, length, drop, Some}
use Rattle.chain_defs.specs.Shape.{encoded, decoded}
use Rattle.chain_defs.specs.Schema.{block}
use Rattle.chain_defs.specs.Ext.{is_ext}
use Rattle.outside.specs.Image.{Image}
use Rattle.disk_defs.specs.Log.{Record, LogContent, records_of, is_of_edition, of_blocks, end_of_log, content_of_records}
use Rattle.disk_defs.specs.LogLaws.{HasFittingBody}
use Rattle.log_file.specs.declared.log.Rec.{Rec}
use Rattle.log_file.specs.Pieces.{Names}
use Rattle.log_file.specs.Grammar.{record_of, ext_in}
use Rattle.log_file.specs.Opening.{NameBodies}
use Rattle.chain_tree.specs.Told.{Stored, blocks_of}
use Rattle.chain_tree.specs.declared.entry.Entry.{Entry}
use Rattle.node_store.specs.Stored.{stored_in, known_by, known_in, later_record, CanBeKept}
use Rattle.log_file.specs.Opening.{kept_records}
use Rattle.node_store.specs.Held.{OnlyAdds, IsKept, AgreesWith}

-- The log holds these records after that of its specification, and the entries name their bodies.
pub record NamesTheLog (bytes specification : List ℕ) (records : List Record) (entries : List Entry) : Type 0 where
  pub holds : records_of (drop 8 bytes) ≡ record_of 1 specification ∷ records
  pub named : NameBodies (14 + length specification) records entries

-- Law: what is known at the places that entries name is what the records of blocks in the log say.
abbrev pub LogHasRecords : Type 0
LogHasRecords = (image : Image) (specification : List ℕ) (records : List Record) (entries : List Entry)
    → NamesTheLog image.log specification records entries → known_by (Some image) entries ≡ known_in (of_blocks records)

-- Law: the body of the record of a kept block after the genesis is read as this block with its ext.
abbrev pub ReadsItsRecord : Type 0
ReadsItsRecord = (place : ℕ) (it : Stored) → 0 < place → decoded block (encoded block it.block) ≡ Some it.block → is_ext it.ext ≡ true
    → HasFittingBody (later_record it) → stored_in place (later_record it).body ≡ Some it

-- Law: the records of kept blocks that a log can keep say these blocks.
abbrev pub SaysWhatIsKept : Type 0
SaysWhatIsKept = (stored : List Stored) → CanBeKept stored → known_in (kept_records stored) ≡ Some stored

-- Law: so a log with these records of blocks tells them.
abbrev pub LogHasBlocks : Type 0
LogHasBlocks = (image : Image) (specification : List ℕ) (records : List Record) (stored : List Stored) (entries : List Entry)
    → NamesTheLog image.log specification records entries → of_blocks records ≡ kept_records stored → CanBeKept stored
    → known_by (Some image) entries ≡ Some stored

-- Law: the records of a log say its blocks, each with the ext beside it.
abbrev pub SaysWhatIsOpened : Type 0
SaysWhatIsOpened = (records : List Record) (log : LogContent) (stored : List Stored) → content_of_records records ≡ Some log
    → blocks_of stored ≡ log.blocks → map (λ it. it.ext) stored ≡ [] ∷ map ext_in (of_blocks log.records)
    → known_in (record_of 2 log.genesis ∷ of_blocks log.records) ≡ Some stored

-- Law: so a log that is opened tells them.
abbrev pub OpensKnown : Type 0
OpensKnown = (image : Image) (log : LogContent) (stored : List Stored) (entries : List Entry) → content_of_records (records_of (drop 8 image.log)) ≡ Some log
    → blocks_of stored ≡ log.blocks → map (λ it. it.ext) stored ≡ [] ∷ map ext_in (of_blocks log.records)
    → NameBodies (14 + length log.specification) (record_of 2 log.genesis ∷ log.records) entries → known_by (Some image) entries ≡ Some stored

-- Law: what a cache holds is what LOG has, exactly where it is what is known.
abbrev pub AgreesAlways : Type 0
AgreesAlways = (image : Image) (entries : List Entry) (stored : List Stored) (held : List (ℕ × Stored))
    → known_by (Some image) entries ≡ Some stored → (IsKept entries held image ↔ AgreesWith stored held)

-- Law: a cache agrees with one block more, whether that is put for its place or not.
abbrev pub KeepsAfterAppend : Type 0
KeepsAfterAppend = (stored : List Stored) (it : Stored) (old new : List (ℕ × Stored)) → AgreesWith stored old → OnlyAdds (length stored) it old new
    → AgreesWith (stored ++ it ∷ []) new

-- Law: the entry of a record of a block that was put where the log ended names its body after the others.
abbrev pub FollowsTheLog : Type 0
FollowsTheLog = (bytes specification : List ℕ) (records : List Record) (entries : List Entry) (r : Record) (rec : Rec) (entry : Entry)
    → NamesTheLog bytes specification records entries → is_of_edition r ≡ false → Names rec (end_of_log bytes) r → entry.at ≡ rec.at → entry.len ≡ rec.len
    → NameBodies (14 + length specification) (records ++ r ∷ []) (entries ++ entry ∷ [])

-- Law: with the record of an edition after the others the entries name what they named.
abbrev pub PassesEditions : Type 0
PassesEditions = (place : ℕ) (records : List Record) (entries : List Entry) (r : Record) → NameBodies place records entries → is_of_edition r ≡ true
    → NameBodies place (records ++ r ∷ []) entries

-- Law: with one record more, whose body is read as a block with its ext, the records say one more.
abbrev pub SaysOneMore : Type 0
SaysOneMore = (records : List Record) (stored : List Stored) (r : Record) (it : Stored) → known_in records ≡ Some stored
    → stored_in (length records) r.body ≡ Some it → known_in (records ++ r ∷ []) ≡ Some (stored ++ it ∷ [])

-- Law: one kept block more is one record more after the others, and can be kept where it is canonical, with an ext of its form, and where the body
-- of its record fits.
abbrev pub AddsARecord : Type 0
AddsARecord = (stored : List Stored) (it : Stored) → 0 < length stored
    → (kept_records (stored ++ it ∷ []) ≡ kept_records stored ++ later_record it ∷ [])
    × (CanBeKept stored → decoded block (encoded block it.block) ≡ Some it.block → is_ext it.ext ≡ true → HasFittingBody (later_record it)
    → CanBeKept (stored ++ it ∷ []))
