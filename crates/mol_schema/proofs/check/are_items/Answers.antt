use Rattle.chain_defs.proofs.Checks.{checked-items}
use Rattle.mol_schema.proofs.check.are_items.Goals as goal

pub returns : goal.returns
returns c = checked-items c.args.size c.args.b.now c.is_some.result c.check_fixvec.result c.is_some.ensures c.check_fixvec.ensures.found c.check_fixvec.ensures.only
