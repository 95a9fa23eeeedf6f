use Rattle.std.proofs.Common.{ap, arith}
use Rattle.chain_defs.specs.Molecule.{full_size}
use Rattle.mol_write.proofs.Fields.{full_size-fields_by_lengths}
use Rattle.mol_write.proofs.builder.Builder.size.Goals as goal

pub returns : goal.returns
returns c =
    let size = full_size-fields_by_lengths c.self.inside.lengths.items c.self.inside.content.items c.self.invariant.0 in
    let same = ap full_size c.self.view_is in
    omega (arith, size, same, c.len.ensures, c.len-2.ensures, c.self.inside.lengths.ok.0, c.self.inside.content.ok.0)
