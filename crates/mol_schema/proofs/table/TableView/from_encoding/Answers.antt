use Rattle.std.proofs.Common.{sym, subst}
use Rattle.chain_defs.specs.Molecule.{IsTable}
use Rattle.chain_defs.proofs.MoleculeLaws.{IsTable_only}
use Rattle.mol_schema.proofs.table.TableView.from_encoding.Goals as goal

pub invariant_of-result : goal.invariant_of-result
invariant_of-result g c = subst (IsTable g.row.N c.args.b.now) (sym (IsTable_only g.row.N c.args.b.now c.requires.0 c.requires.1)) c.requires.1

pub returns-clause-found : goal.returns-clause-found
returns-clause-found g c = subst (IsTable g.row.N c.args.b.now) (sym (IsTable_only g.row.N c.args.b.now c.requires.0 c.requires.1)) c.requires.1

pub returns-clause-only : goal.returns-clause-only
returns-clause-only g c = IsTable_only g.row.N c.args.b.now
