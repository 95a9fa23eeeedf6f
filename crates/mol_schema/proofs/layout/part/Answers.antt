use Rattle.std.proofs.Common.{◌≤◌, ◌+◌, length, refl, arith, rules}
use Rattle.chain_defs.specs.Molecule.{part_of}
use Rattle.mol_schema.proofs.Reading.{header-within, start-within}
use Rattle.mol_schema.proofs.layout.part.Goals as goal

pub start-from-requires-clause-header : goal.start-from-requires-clause-header
start-from-requires-clause-header c = omega (arith, header-within c.args.bytes.now c.requires.laid_out)

pub start-to-requires-clause-header : goal.start-to-requires-clause-header
start-to-requires-clause-header c = omega (arith, header-within c.args.bytes.now c.requires.laid_out)

pub slice_bounds-result-end : goal.slice_bounds-result-end
slice_bounds-result-end c =
    let rises : c.start-from.result ≤ c.start-to.result = omega (arith, c.requires.laid_out.rises c.args.i (omega arith)) in
    let within : c.start-to.result ≤ length c.args.bytes.now = omega (arith, start-within c.args.bytes.now c.requires.laid_out (c.args.i + 1) (omega arith)) in
    search rules

pub returns : goal.returns
unfolding part_of
returns c = rw (c.start-from.ensures, c.start-to.ensures) refl
