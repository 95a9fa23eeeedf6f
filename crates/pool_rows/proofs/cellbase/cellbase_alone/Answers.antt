use Rattle.std.proofs.Common.{[]}
use Rattle.chain_defs.specs.Shape.{bytes}
use Rattle.chain_defs.specs.Schema.{cell_output}
use Rattle.pool_rows.proofs.Fits.{none-is}
use Rattle.pool_rows.proofs.cellbase.cellbase_alone.Goals as goal

pub returns-clause-cellbase : goal.returns-clause-cellbase
returns-clause-cellbase c = c.cellbase_of.ensures.cellbase [] c.args.witness.now (none-is cell_output) (none-is bytes) c.bytes.ensures
