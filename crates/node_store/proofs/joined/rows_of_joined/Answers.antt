use Rattle.node_store.proofs.HeldLaws.{cells-hold-their-own, rows-are-kept, snapshot-rows-are-kept}
use Rattle.node_store.proofs.joined.rows_of_joined.Goals as goal

pub returns : goal.returns
returns c = record { cells_hold_their_own = cells-hold-their-own; rows_are_kept = rows-are-kept; snapshot_rows_are_kept = snapshot-rows-are-kept }
