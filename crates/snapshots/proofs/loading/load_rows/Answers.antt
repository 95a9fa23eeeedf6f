use Rattle.std.proofs.Common.{◌+◌, refl, arith}
use Rattle.cell_state.specs.State.{rows}
use Rattle.snapshots.proofs.LoadLemmas.{refused-here, loaded-more, new-here}
use Rattle.snapshots.proofs.loading.load_rows.Goals as goal

pub returns-in_default-clause-refused : goal.returns-in_default-clause-refused
returns-in_default-clause-refused g c = λ _ list are.
    refused-here c.args.kept c.args.count c.rows.i c.args.bytes.now (rows c.rows.state) c.rows.last _ c.rows-test.true c.rows.invariant.loaded refl c.in_default.ensures.exact list are

pub load_row-requires-clause-new : goal.load_row-requires-clause-new
load_row-requires-clause-new g c =
    new-here c.args.kept c.rows.i c.args.bytes.now _ (rows c.rows.state) c.rows.last _ c.rows.invariant.loaded c.in-Some.ensures.found

pub rows-preserved : goal.rows-preserved
rows-preserved g c = record {
  loaded = loaded-more c.args.kept c.rows.i (c.rows.i + 1) c.args.bytes.now (rows c.rows.state) (rows c.load_row.new.self) c.rows.last _ refl
      c.rows.invariant.loaded c.in-Some.ensures.found c.load_row.ensures.rows;
  spare = omega (arith, c.rows.invariant.spare, c.load_row.ensures.spare);
  steps = omega (arith, c.rows.invariant.steps, c.load_row.ensures.steps);
}
