use Rattle.std.proofs.Common.{◌-◌, length, length-take, drop, ap, arith}
use Rattle.chain_defs.specs.Molecule.{items_of_fixvec}
use Rattle.chain_defs.proofs.MoleculeLaws.{length-fixvec}
use Rattle.chain_defs.proofs.Checks.{length-content}
use Rattle.mol_schema.proofs.parts.content.Goals as goal

pub slice_bounds-result-count : goal.slice_bounds-result-count
slice_bounds-result-count c = omega (arith, ap length c.requires.encoding, length-fixvec (items_of_fixvec 1 c.args.bytes.now))

pub slice_bounds-result-start : goal.slice_bounds-result-start
slice_bounds-result-start c = omega (arith, ap length c.requires.encoding, length-fixvec (items_of_fixvec 1 c.args.bytes.now))

pub returns-clause-fits : goal.returns-clause-fits
returns-clause-fits c = omega (arith, length-take (length c.args.bytes.now - 4) (drop 4 c.args.bytes.now), length-content c.args.bytes.now c.requires)
