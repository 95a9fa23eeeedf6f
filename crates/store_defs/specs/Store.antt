-- What an image of the disk keeps, and when it is sound (docs/STORE.md).
use Rattle.std.specs.Prelude.{◌≡◌, ℕ, ◌+◌, ◌<◌, ◌==◌, List, [], slice_get, length, take, Option, Some, None, if◌then◌else◌}
use Rattle.outside.specs.declared.disk.Area.TheVariants.{SnapA, SnapB}
use Rattle.outside.specs.Image.{Image}
use Rattle.chain_defs.specs.Shape.{decoded}
use Rattle.chain_defs.specs.Schema.{Block, block}
use Rattle.chain_defs.specs.First.{first_failing}
use Rattle.chain_defs.specs.Kept.{block_at, place_of}
use Rattle.chain_defs.specs.Ext.{ext_bytes}
use Rattle.verdict_defs.specs.Ext.{ext_of}
use Rattle.verdict_defs.specs.Chain.{Chain, chain_after}
use Rattle.verdict_defs.specs.Laws.{MayJoin}
use Rattle.rule_defs.specs.Genesis.{genesis_rules}
use Rattle.disk_defs.specs.Log.{LogContent, Record, of_blocks, specification_in, log_of, parts_of_body, new_log}
use Rattle.disk_defs.specs.Snapshot.{IsSoundArea}

-- What stands in the folder when a run begins.
pub data Store : Type 0 where
  -- no log, or an empty one
  NoLog : Store
  -- a log that is none by its grammar
  NotALog : Store
  -- a log that keeps this chain
  Keeps : Chain → Store

-- the chain that a log keeps: its specification, with the edition that the log tells, and all its blocks
abbrev pub chain_of : LogContent → Chain
chain_of log = record { spec = specification_in log; blocks = log.blocks }

abbrev pub store_of_log : Option LogContent → Store
store_of_log None = NotALog
store_of_log (Some log) = Keeps (chain_of log)

-- the store of an image
unfoldable pub store_of : Image → Store
store_of image = if length image.log == 0 then NoLog else store_of_log (log_of image.log)

-- ---- What joined

-- the bytes of the ext of a block on the parent at a place, where it has one
abbrev pub ext_on : Chain → Block → Option ℕ → List ℕ
ext_on chain b None = []
ext_on chain b (Some parent) = ext_bytes (ext_of chain.spec chain.blocks parent b)

-- those of its own ext: on the kept parent that it names
abbrev pub own_ext : Chain → Block → List ℕ
own_ext chain b = ext_on chain b (place_of chain.blocks b.header.parent_hash)

abbrev pub ext_of_found : Chain → Option Block → List ℕ
ext_of_found chain None = []
ext_of_found chain (Some b) = own_ext chain b

-- The ext that the block of an item has over a chain.
unfoldable pub ext_over : Chain → List ℕ → List ℕ
ext_over chain item = ext_of_found chain (decoded block item)

-- The block of a record joined over the blocks before it, and its ext is its own.
pub record HasJoined (before : Chain) (r : Record) (after : Chain) : Type 0 where
  pub item : List ℕ
  pub parts : parts_of_body r.body ≡ Some (item, ext_over before item)
  pub kept : after ≡ chain_after before item
  pub grown : length after.blocks ≡ length before.blocks + 1

-- A chain has joined: its genesis keeps the rules on one, and each block after it could join over those before it.
pub record IsJoined (chain : Chain) : Type 0 where
  pub genesis : Block
  pub first : block_at chain.blocks 0 ≡ Some genesis
  pub good : first_failing (genesis_rules genesis) ≡ None
  pub each : (place : ℕ) (b : Block) → 0 < place → block_at chain.blocks place ≡ Some b → MayJoin chain.spec (take place chain.blocks) b

-- the chain where its first blocks stand alone, so many of them
abbrev pub first_of : Chain → ℕ → Chain
first_of chain count = record { spec = chain.spec; blocks = take count chain.blocks }

-- As many exts as blocks: beside each block after the genesis stands its own, over the blocks before it. Beside the genesis anything may stand.
pub record HaveOwnExts (chain : Chain) (exts : List (List ℕ)) : Type 0 where
  pub as_many : length exts ≡ length chain.blocks
  pub own : (place : ℕ) (b : Block) → 0 < place → block_at chain.blocks place ≡ Some b → slice_get exts place ≡ Some (own_ext (first_of chain place) b)

-- What is kept has joined: the blocks of a chain, each with its own ext beside it.
pub record AreJoined (chain : Chain) (exts : List (List ℕ)) : Type 0 where
  pub joined : IsJoined chain
  pub own : HaveOwnExts chain exts

-- the chain where the first blocks of a log stand alone, so many of them
abbrev pub chain_before : LogContent → ℕ → Chain
chain_before log count = record { spec = specification_in log; blocks = take count log.blocks }

-- A log is sound: each block after the genesis joined over those before it, wherever the record of an edition stands.
abbrev pub EachHasJoined : LogContent → Type 0
EachHasJoined log = (place : ℕ) (r : Record) → slice_get (of_blocks log.records) place ≡ Some r → HasJoined (chain_before log (place + 1)) r (chain_before log (place + 2))

-- An image stands for a chain: its log keeps just this, each block after the genesis joined over those before it; and where the gate of an area of
-- snapshots is open, the area holds a snapshot of the chain's blocks that belongs there.
pub record StandsFor (chain : Chain) (image : Image) : Type 0 where
  pub log : LogContent
  pub is_log : log_of image.log ≡ Some log
  pub keeps : chain_of log ≡ chain
  pub joined : EachHasJoined log
  pub snap_a : IsSoundArea chain.blocks SnapA image.snap_a
  pub snap_b : IsSoundArea chain.blocks SnapB image.snap_b

-- no snapshot is there: both areas are empty
abbrev pub HasNoSnapshots : Image → Type 0
HasNoSnapshots image = (image.snap_a ≡ []) × (image.snap_b ≡ [])

-- The image of a new store: its log is that of these two items, with not a byte after it, and no snapshot is there.
abbrev pub new_image : List ℕ → List ℕ → Image
new_image specification genesis = record { log = new_log specification genesis; snap_a = []; snap_b = [] }

-- An image is sound: it stands for some chain.
abbrev pub IsSound : Image → Type 0
IsSound image = (chain : Chain) × StandsFor chain image
