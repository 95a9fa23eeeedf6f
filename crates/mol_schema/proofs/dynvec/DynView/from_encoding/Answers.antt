use Rattle.std.proofs.Common.{sym, subst}
use Rattle.chain_defs.specs.Molecule.{IsDynvec}
use Rattle.chain_defs.proofs.MoleculeLaws.{IsDynvec_only}
use Rattle.mol_schema.proofs.dynvec.DynView.from_encoding.Goals as goal

pub invariant_of-result : goal.invariant_of-result
invariant_of-result c = subst (IsDynvec c.args.b.now) (sym (IsDynvec_only c.args.b.now c.requires.0 c.requires.1)) c.requires.1

pub returns-clause-found : goal.returns-clause-found
returns-clause-found c = subst (IsDynvec c.args.b.now) (sym (IsDynvec_only c.args.b.now c.requires.0 c.requires.1)) c.requires.1

pub returns-clause-only : goal.returns-clause-only
returns-clause-only c = IsDynvec_only c.args.b.now
