-- What the first fault of an image is for, in words (docs/STORE.md, "Whether a store is sound").
use Rattle.std.specs.Prelude.{◌≡◌, ◌↔◌, ℕ, List, Some, None}
use Rattle.outside.specs.Image.{Image}
use Rattle.disk_defs.specs.Log.{LogContent, log_of}
use Rattle.store_defs.specs.Store.{EachHasJoined, IsSound}
use Rattle.store_defs.specs.SnapshotLaws.{HasSoundAreas}
use Rattle.verify_defs.specs.Fault.{fault_of_log}

-- Law: nothing is wrong of LOG exactly where it is a log each of whose blocks after the genesis joined over those before it.
abbrev pub NoneOfASoundLog : Type 0
NoneOfASoundLog = (bytes : List ℕ) → (fault_of_log bytes ≡ None) ↔ ((log : LogContent) × (log_of bytes ≡ Some log) × EachHasJoined log)

-- Law: so an image is sound exactly where nothing is wrong of LOG, and both areas are sound over its blocks.
abbrev pub SoundByParts : Type 0
SoundByParts = (image : Image) → IsSound image ↔ ((log : LogContent) × (log_of image.log ≡ Some log) × (fault_of_log image.log ≡ None) × HasSoundAreas log.blocks image)
