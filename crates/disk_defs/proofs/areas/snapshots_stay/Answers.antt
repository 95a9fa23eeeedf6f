use Rattle.disk_defs.proofs.StayLaws.{stays-of-blocks, stays-sound}
use Rattle.disk_defs.proofs.areas.snapshots_stay.Goals as goal

pub returns : goal.returns
returns c = record { stays_of_blocks = stays-of-blocks; stays_sound = stays-sound }
