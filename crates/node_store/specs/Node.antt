-- What contracts see of a node and of a new store, and a disk as a node left it.
use Rattle.std.specs.Prelude.{◌≡◌, ◌⊎◌, Bool, false, true, ℕ, ◌+◌, ◌-◌, ◌*◌, ◌^◌, ◌<◌, ◌≤◌, List, [], ◌∷◌, ◌++◌, length, Option, Some, None, IfSome, IsSome}
use Rattle.outside.specs.Causes.{CountsFault}
use Rattle.outside.specs.declared.disk.Area.TheVariants.{Log}
use Rattle.outside.specs.declared.disk.Damage.{Damage}
use Rattle.outside.specs.declared.disk.ReadStop.{ReadStop}
use Rattle.outside.specs.declared.disk.ReadStop.TheVariants.{DiskFault, Damaged}
use Rattle.outside.specs.Image.{Image, content}
use Rattle.outside.specs.Disk.{ComesBy, Follows, AreaKept}
use Rattle.std.specs.Option.{option_map}
use Rattle.chain_defs.specs.Shape.{decoded}
use Rattle.chain_defs.specs.Schema.{Block, block}
use Rattle.chain_defs.specs.Kept.{block_hash, kept_limit}
use Rattle.chain_tree.specs.declared.entry.Entry.{Entry}
use Rattle.chain_tree.specs.Told.{Stored}
use Rattle.chain_tree.specs.Reading.{Findings, Finds}
use Rattle.cell_state.specs.State.{StateValue, rows}
use Rattle.chain_defs.specs.Specification.{broken_specification_rule}
use Rattle.verdict_defs.specs.declared.verdict.Verdict.{Verdict}
use Rattle.verdict_defs.specs.Verdict.{joins}
use Rattle.verdict_defs.specs.Chain.{Chain, chain_of_genesis}
use Rattle.log_file.specs.Pieces.{block_record}
use Rattle.log_file.specs.Grammar.{record_of, edition_room}
use Rattle.log_file.specs.Opening.{kept_records}
use Rattle.node_store.specs.Held.{CacheValue, AgreesWith}
use Rattle.node_store.specs.Stored.{CanBeKept}
use Rattle.node_store.specs.StoredLaws.{NamesTheLog}
use Rattle.rule_defs.specs.Genesis.{broken_genesis_rule}
use Rattle.disk_defs.specs.Log.{Record, of_blocks, edition_of, log_of}
use Rattle.disk_defs.specs.Rest.{IsSettled, IsAppended, HasLog}
use Rattle.store_defs.specs.Store.{StandsFor, AreJoined, HasNoSnapshots, new_image}
use Rattle.node_store.specs.Kept.{KeptValue, stored_of, AreRowsOfTip, AreRowsOfKept}

-- A node: its chain, the exts of its blocks, and their entries, which say where in LOG each block lies; the offset where the records of its log end;
-- its live cells; the blocks that it holds in memory, each with its ext, by their places, and how many at most; and the damage that was found as it
-- read its blocks.
pub record NodeValue : Type 0 where
  pub chain : Chain
  pub exts : List (List ℕ)
  pub entries : List Entry
  pub place : ℕ
  pub cells : StateValue
  pub held : List (ℕ × Stored)
  pub most : ℕ
  pub damages : Findings

abbrev pub kept_in : NodeValue → KeptValue
kept_in node = record { chain = node.chain; exts = node.exts; entries = node.entries }

abbrev pub node_of : KeptValue → ℕ → StateValue → CacheValue → NodeValue
node_of kept place cells cache = record {
  chain = kept.chain;
  exts = kept.exts;
  entries = kept.entries;
  place = place;
  cells = cells;
  held = cache.held;
  most = cache.most;
  damages = cache.damages;
}

-- ---- What a disk has of it

-- LOG has what is kept, and just that, after some specification: a log can keep it, the entries name its bodies, and what is held in memory is of it. Its
-- records tell the edition of the chain, wherever among them that one stands.
pub record LogHoldsKept (kept : KeptValue) (held : List (ℕ × Stored)) (image : Image) : Type 0 where
  pub specification : List ℕ
  pub records : List Record
  pub keeps : of_blocks records ≡ kept_records (stored_of kept)
  pub edition : edition_of records ≡ kept.chain.spec.second_from
  pub names : NamesTheLog image.log specification records kept.entries
  pub can : CanBeKept (stored_of kept)
  pub agrees : AgreesWith (stored_of kept) held

-- The disk is a node's own: LOG has what the node keeps, its records end at the node's place, and a crash leaves LOG as it reads.
pub record IsOwnDisk (node : NodeValue) (reads : Option Image) (images : Image → Type 0) : Type 0 where
  pub now : Image
  pub told : reads ≡ Some now
  pub read : LogHoldsKept (kept_in node) node.held now
  pub settled : IsSettled node.place (record_of 1 read.specification ∷ read.records) reads images

-- so it is where the disk tells what it reads as
abbrev pub IsOwnDiskWhereTold : NodeValue → Option Image → (Image → Type 0) → Type 0
IsOwnDiskWhereTold node reads images = IfSome reads (λ _. IsOwnDisk node reads images)

-- A node is sound: what it keeps has joined, each block with its own ext, and its live cells are those of the tip.
pub record IsSoundNode (node : NodeValue) : Type 0 where
  pub joined : AreJoined node.chain node.exts
  pub live : AreRowsOfTip node.chain.blocks (rows node.cells)

-- It is sound on a disk that tells what it reads as.
pub record IsSoundWhereTold (node : NodeValue) (reads : Option Image) : Type 0 where
  pub sound : IsSoundNode node
  pub told : IsSome reads

-- The disk has one image, and that stands for this chain.
pub record IsOnlyImage (chain : Chain) (reads : Option Image) (images : Image → Type 0) : Type 0 where
  pub now : Image
  pub told : reads ≡ Some now
  pub one : (image : Image) → images image → image ≡ now
  pub stands : StandsFor chain now

-- A node is on a disk: it is sound, and the disk is its own and has one image, that of its chain.
pub record StandsOnDisk (node : NodeValue) (reads : Option Image) (images : Image → Type 0) : Type 0 where
  pub image : IsOnlyImage node.chain reads images
  pub of : IsOwnDisk node reads images
  pub sound : IsSoundNode node

-- What a call leaves that only reads kept blocks on a disk: the disk as it was, in memory what is the disk's, and as much at most as before, damage in
-- LOG alone, and faults counted.
-- The damage that is answered is the one that was found then, with its place.
pub record HasOnlyRead {S C : Type 0} (content_of : S → C) (reads_as : S → Option Image) (faults : S → ℕ) (old new : S) (kept : KeptValue)
    (before after : CacheValue) (stop : Option ReadStop) : Type 0 where
  pub content : content_of new ≡ content_of old
  pub agrees : IfSome (reads_as new) (LogHoldsKept kept after.held)
  pub most : after.most ≡ before.most
  pub damage : (damage : Damage) → stop ≡ Some (Damaged damage) → damage.area ≡ Log
  pub cause : CountsFault (faults old) (faults new) (stop ≡ Some DiskFault)
  pub found : Finds before.damages after.damages stop

-- the same of a node and its own disk: the node differs in what it holds in memory and in the damage that was found alone
pub record LeavesAll {S C : Type 0} (content_of : S → C) (reads_as : S → Option Image) (images : S → Image → Type 0) (faults : S → ℕ) (old new : S)
    (before after : NodeValue) (stop : Option ReadStop) : Type 0 where
  pub content : content_of new ≡ content_of old
  pub node : after ≡ record before { held = after.held; damages = after.damages }
  pub own : IsOwnDiskWhereTold after (reads_as new) (images new)
  pub damage : (damage : Damage) → stop ≡ Some (Damaged damage) → damage.area ≡ Log
  pub cause : CountsFault (faults old) (faults new) (stop ≡ Some DiskFault)
  pub found : Finds before.damages after.damages stop

-- A log is no longer than the records of so many blocks may make it, with that of an edition where there is one.
abbrev pub IsWithin : ℕ → Option ℕ → ℕ → Type 0
IsWithin count edition place = place + edition_room edition ≤ 2 ^ 33 * (count + 1)

-- What holds of each node, whatever its disk is: no more blocks are kept than may be, its log is no longer than their records and that of an edition may make it, and each row
-- of its live cells is of one of them.
pub record IsBounded (kept : KeptValue) (place : ℕ) (cells : StateValue) : Type 0 where
  pub few : length kept.chain.blocks ≤ kept_limit
  pub within : IsWithin (length kept.chain.blocks) kept.chain.spec.second_from place
  pub below : AreRowsOfKept kept.chain.blocks (rows cells)

-- a specification and a genesis that keep their rules, as handed in
pub record NewStoreValue : Type 0 where
  pub specification : List ℕ
  pub genesis : List ℕ

-- the item is a canonical `Block` of this hash
abbrev pub IsHashOf : List ℕ → List ℕ → Type 0
IsHashOf item hash = (b : Block) × (decoded block item ≡ Some b) × (hash ≡ block_hash b)

-- Both keep their rules, and this is the hash of the genesis.
pub record AreJudged (specification genesis hash : List ℕ) : Type 0 where
  pub good_spec : broken_specification_rule specification ≡ None
  pub good_genesis : broken_genesis_rule genesis ≡ None
  pub short_spec : length specification < 2 ^ 32
  pub short_genesis : length genesis < 2 ^ 32
  pub named : IsHashOf genesis hash

-- The disk has one image, that of a new store, and it stands for the chain of its genesis.
pub record IsNew (specification genesis : List ℕ) (reads : Option Image) (images : Image → Type 0) : Type 0 where
  pub told : reads ≡ Some (new_image specification genesis)
  pub one : (image : Image) → images image → image ≡ new_image specification genesis
  pub stands : StandsFor (chain_of_genesis specification genesis) (new_image specification genesis)

-- While a new store is made: LOG is as it was in one of these, or the snapshots are cleared already.
abbrev pub HasOldLogOrNoSnapshots : (Image → Type 0) → Image → Type 0
HasOldLogOrNoSnapshots images image = ComesBy (AreaKept Log) images image ⊎ HasNoSnapshots image

-- LOG is as it was: as the disk reads, and in each image.
pub record KeepsLog (reads_old reads_new : Option Image) (old new : Image → Type 0) : Type 0 where
  pub reads : option_map (content Log) reads_new ≡ option_map (content Log) reads_old
  pub images : Follows (AreaKept Log) old new

-- What opening leaves of images, over a LOG that reads as these bytes: one of them, or one of them with a log that says what these bytes say.
abbrev pub IsLeftByOpening : List ℕ → (Image → Type 0) → Image → Type 0
IsLeftByOpening bytes images image = images image ⊎ HasLog (λ log. log_of log ≡ log_of bytes) images image

-- What an import of an item leaves of the LOG of images with these records: they, or they and one of that item, with some ext after it. Of the
-- areas of snapshots nothing is said.
abbrev pub IsLeftByImport : ℕ → List Record → List ℕ → (Image → Type 0) → Image → Type 0
IsLeftByImport place records item images image =
    (ext : List ℕ) × ComesBy (λ old new. IsAppended place records (block_record item ext) old.log new.log) images image

-- with the record of an item after them where it joined, and some ext in it, and else the same
abbrev pub AreRecordsWith : List Record → List ℕ → List Record → Bool → Type 0
AreRecordsWith records item later false = later ≡ records
AreRecordsWith records item later true = (ext : List ℕ) × (later ≡ records ++ block_record item ext ∷ [])

-- The records after an item of this verdict.
abbrev pub AreRecordsAfter : List Record → List ℕ → Verdict → List Record → Type 0
AreRecordsAfter records item verdict later = AreRecordsWith records item later (joins verdict)

-- The log is settled with the records after an item of this verdict.
abbrev pub IsSettledAfter : List Record → List ℕ → Verdict → ℕ → Option Image → (Image → Type 0) → Type 0
IsSettledAfter records item verdict place reads images = (later : List Record) × AreRecordsAfter records item verdict later × IsSettled place later reads images
