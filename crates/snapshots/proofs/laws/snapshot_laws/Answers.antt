use Rattle.snapshots.proofs.ReadBack.{reads-what-is-written}
use Rattle.snapshots.proofs.laws.snapshot_laws.Goals as goal

pub returns : goal.returns
returns c = record { reads_what_is_written = reads-what-is-written }
