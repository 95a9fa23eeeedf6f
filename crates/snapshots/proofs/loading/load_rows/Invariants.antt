use Rattle.std.proofs.Common.{◌≡◌, ◌+◌, ◌≤◌}
use Rattle.cell_state.specs.State.{rows}
use Rattle.snapshots.proofs.LoadLemmas.{HasLoaded}
use Rattle.snapshots.proofs.loading.load_rows.Given as goal

abbrev pub invariant-rows : goal.invariant-rows
invariant-rows g l = record {
  loaded : HasLoaded l.kept l.i l.bytes (rows l.state) l.last;
  spare : l.count ≤ l.state.spare + l.i;
  steps : l.steps ≡ l.fn.steps + l.i;
}
