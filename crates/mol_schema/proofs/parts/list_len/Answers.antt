use Rattle.std.proofs.Common.{arith}
use Rattle.chain_defs.proofs.Checks.{length-items}
use Rattle.mol_schema.proofs.parts.list_len.Goals as goal

pub returns-clause-fits : goal.returns-clause-fits
returns-clause-fits c = omega (arith, c.len.ensures, length-items c.args.list.now c.from_encoding.result c.from_encoding.ensures.found)
