-- A disk after an import, where a snapshot may have been taken.
use Rattle.std.proofs.Common.{ℕ, Option, Some, None, ap}
use Rattle.std.specs.Prelude.{is_some}
use Rattle.outside.specs.Image.{Image}
use Rattle.outside.specs.Disk.{IsKnownAsBefore}
use Rattle.node_store.specs.Snapshot.{OthersReadBut}

-- it tells as before, whatever LOG and the area of the snapshot that was due read as
pub tells_but : (due : Option ℕ) (old new : Option Image) → OthersReadBut due old new → IsKnownAsBefore old new
tells_but None None new (log, is) = ap is_some is
tells_but None (Some image) new (log, is) = ap is_some is
tells_but (Some number) None new (log, bytes, is) = ap is_some is
tells_but (Some number) (Some image) new (log, bytes, is) = ap is_some is
