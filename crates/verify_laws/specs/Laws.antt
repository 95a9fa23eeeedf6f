-- What the first fault of an image is for, in words (docs/STORE.md, "Whether a store is sound").
use Rattle.outside.specs.Image.{Image}
use Rattle.store_defs.specs.Store.{IsSound}
use Rattle.verify_defs.specs.declared.fault.Fault.{Fault}
use Rattle.verify_defs.specs.Fault.{IsFirstFault}

-- Law: an image of which something is wrong first is not sound.
abbrev pub FaultIsNotSound : Type 0
FaultIsNotSound = (image : Image) (fault : Fault) → IsFirstFault image fault → IsSound image → ⊥
