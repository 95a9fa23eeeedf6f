use Rattle.std.proofs.Common.{length, ap, arith}
use Rattle.chain_defs.specs.Molecule.{items_of_fixvec}
use Rattle.mol_schema.proofs.Reading.{IsCounted-from_fixvec, length-items_of_fixvec}
use Rattle.mol_schema.proofs.fixvec.FixView.len.Goals as goal

pub read_u32-requires : goal.read_u32-requires
read_u32-requires c =
    let bytes = c.self.inside.bytes.now in
    let size = c.self.inside.item in
    omega (arith, (IsCounted-from_fixvec size bytes (items_of_fixvec size bytes) c.self.invariant).whole)

pub returns : goal.returns
returns c = omega (arith, length-items_of_fixvec c.self.inside.item c.self.inside.bytes.now, ap length c.self.view_is, c.read_u32.ensures.value)
