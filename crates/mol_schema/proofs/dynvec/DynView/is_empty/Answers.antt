use Rattle.std.proofs.Common.{subst, arith}
use Rattle.chain_defs.specs.Molecule.{IsDynvec}
use Rattle.mol_schema.proofs.Reading.{length-dynvec_empty}
use Rattle.mol_schema.proofs.dynvec.DynView.is_empty.Goals as goal

pub returns : goal.returns
returns c =
    let bytes = c.self.inside.bytes.now in
    let empty = length-dynvec_empty bytes c.args.self.now (subst (IsDynvec bytes) c.self.view_is c.self.invariant) in
    grind arith
