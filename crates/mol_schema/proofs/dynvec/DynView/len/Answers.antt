use Rattle.std.proofs.Common.{length, ap, arith}
use Rattle.chain_defs.specs.Molecule.{parts_of}
use Rattle.mol_schema.proofs.Reading.{IsLaidOut-from_dynvec, layout-short, length-parts_of}
use Rattle.mol_schema.proofs.dynvec.DynView.len.Goals as goal

pub count_parts-requires : goal.count_parts-requires
count_parts-requires c =
    let bytes = c.self.inside.bytes.now in
    layout-short bytes (IsLaidOut-from_dynvec bytes (parts_of bytes) c.self.invariant)

pub returns : goal.returns
returns c = omega (arith, length-parts_of c.self.inside.bytes.now, ap length c.self.view_is, c.count_parts.ensures.value)
