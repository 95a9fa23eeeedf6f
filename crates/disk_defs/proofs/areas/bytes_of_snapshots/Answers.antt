use Rattle.disk_defs.proofs.SnapshotLaws.{bytes-tell-snapshots, opens-its-gate, finds-itself}
use Rattle.disk_defs.proofs.areas.bytes_of_snapshots.Goals as goal

pub returns : goal.returns
returns c = record { bytes_determine_snapshots = bytes-tell-snapshots; opens_its_gate = opens-its-gate; finds_itself = finds-itself }
