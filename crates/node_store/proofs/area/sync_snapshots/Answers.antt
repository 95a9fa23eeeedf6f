use Rattle.std.proofs.Common.{rules}
use Rattle.node_store.proofs.area.sync_snapshots.Goals as goal

pub returns-clause-snap_b : goal.returns-clause-snap_b
returns-clause-snap_b g c = search rules
