use Rattle.std.proofs.Common.{sym, subst}
use Rattle.chain_defs.specs.Molecule.{IsFixvec}
use Rattle.chain_defs.proofs.MoleculeLaws.{IsFixvec_only}
use Rattle.mol_schema.proofs.fixvec.FixView.from_encoding.Goals as goal

pub invariant_of-result : goal.invariant_of-result
invariant_of-result c = subst (IsFixvec c.args.item c.args.b.now) (sym (IsFixvec_only c.args.item c.args.b.now c.requires.0 c.requires.1)) c.requires.1

pub returns-clause-found : goal.returns-clause-found
returns-clause-found c = subst (IsFixvec c.args.item c.args.b.now) (sym (IsFixvec_only c.args.item c.args.b.now c.requires.0 c.requires.1)) c.requires.1

pub returns-clause-only : goal.returns-clause-only
returns-clause-only c = IsFixvec_only c.args.item c.args.b.now
