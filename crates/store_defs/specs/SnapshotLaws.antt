-- What an image stands for, by what stands in its areas of snapshots (docs/STORE.md, "Sound").
use Rattle.std.specs.Prelude.{◌≡◌, ◌≢◌, ◌↔◌, ℕ, false, List, Some}
use Rattle.chain_defs.specs.Schema.{Block}
use Rattle.outside.specs.declared.disk.Area.{Area}
use Rattle.outside.specs.declared.disk.Area.TheVariants.{Log, SnapA, SnapB}
use Rattle.outside.specs.Image.{Image, with_content}
use Rattle.verdict_defs.specs.Chain.{Chain, chain_after}
use Rattle.disk_defs.specs.Log.{LogContent, log_of}
use Rattle.disk_defs.specs.Snapshot.{Snapshot, has_open_gate, Holds, area_of, IsOfBlocks, IsSoundArea}
use Rattle.store_defs.specs.Store.{Keeps, store_of, chain_of, EachHasJoined, StandsFor, HasNoSnapshots, IsSound}

-- Law: an area that is sound over the blocks of a chain is sound over those after any item.
abbrev pub StaysSoundAfterAnItem : Type 0
StaysSoundAfterAnItem = (chain : Chain) (item : List ℕ) (area : Area) (bytes : List ℕ) → IsSoundArea chain.blocks area bytes
    → IsSoundArea (chain_after chain item).blocks area bytes

-- The bytes of LOG keep just this chain, each block after the genesis joined over those before it.
pub record IsLogOf (chain : Chain) (bytes : List ℕ) : Type 0 where
  pub log : LogContent
  pub is_log : log_of bytes ≡ Some log
  pub keeps : chain_of log ≡ chain
  pub joined : EachHasJoined log

-- Both areas of an image are sound over kept blocks.
pub record HasSoundAreas (kept : List Block) (image : Image) : Type 0 where
  pub snap_a : IsSoundArea kept SnapA image.snap_a
  pub snap_b : IsSoundArea kept SnapB image.snap_b

-- Law: an image stands for a chain exactly where its log does and both areas are sound over the chain's blocks;
abbrev pub StandsByParts : Type 0
StandsByParts = (chain : Chain) (image : Image) → StandsFor chain image ↔ (IsLogOf chain image.log × HasSoundAreas chain.blocks image)

-- where no gate is open, exactly where its log does,
abbrev pub StandsByItsLog : Type 0
StandsByItsLog = (chain : Chain) (image : Image) → has_open_gate image.snap_a ≡ false → has_open_gate image.snap_b ≡ false
    → StandsFor chain image ↔ IsLogOf chain image.log

-- and so where no snapshot is there.
abbrev pub StandsWithoutSnapshots : Type 0
StandsWithoutSnapshots = (chain : Chain) (image : Image) → HasNoSnapshots image → StandsFor chain image ↔ IsLogOf chain image.log

-- Law: an image that stands for a chain stands for it with other bytes in an area of snapshots that are sound there,
abbrev pub StandsWithSoundArea : Type 0
StandsWithSoundArea = (chain : Chain) (image : Image) (area : Area) (bytes : List ℕ) → StandsFor chain image → area ≢ Log
    → IsSoundArea chain.blocks area bytes → StandsFor chain (with_content area bytes image)

-- with any that have no open gate,
abbrev pub StandsWithClosedArea : Type 0
StandsWithClosedArea = (chain : Chain) (image : Image) (area : Area) (bytes : List ℕ) → StandsFor chain image → area ≢ Log
    → has_open_gate bytes ≡ false → StandsFor chain (with_content area bytes image)

-- and, in the area of its number, with such as hold a snapshot of the chain's blocks.
abbrev pub StandsWithSnapshot : Type 0
StandsWithSnapshot = (chain : Chain) (image : Image) (bytes : List ℕ) (s : Snapshot) → StandsFor chain image → Holds bytes s
    → IsOfBlocks chain.blocks s → StandsFor chain (with_content (area_of s.number) bytes image)

-- Law: an image whose log says the same, with the same areas beside it, stands for the same chain.
abbrev pub StandsWhereItSaysTheSame : Type 0
StandsWhereItSaysTheSame = (chain : Chain) (one other : Image) → StandsFor chain one → log_of other.log ≡ log_of one.log
    → other.snap_a ≡ one.snap_a → other.snap_b ≡ one.snap_b → StandsFor chain other

-- Law: a sound image whose log says the same stands for the same chain.
abbrev pub SoundStandsForTheSame : Type 0
SoundStandsForTheSame = (chain : Chain) (one other : Image) → StandsFor chain one → IsSound other → log_of other.log ≡ log_of one.log → StandsFor chain other

-- Law: an image stands for a chain exactly where it is sound and its store keeps this chain.
abbrev pub StandsForWhatItKeeps : Type 0
StandsForWhatItKeeps = (chain : Chain) (image : Image) → StandsFor chain image ↔ (IsSound image × (store_of image ≡ Keeps chain))

-- Law: two snapshots of a sound image have two numbers.
abbrev pub NumbersDiffer : Type 0
NumbersDiffer = (chain : Chain) (image : Image) (one other : Snapshot) → StandsFor chain image → Holds image.snap_a one → Holds image.snap_b other
    → one.number ≢ other.number
