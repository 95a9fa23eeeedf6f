use Rattle.std.proofs.Common.{rules}
use Rattle.mol_schema.proofs.check.is_list_of.Goals as goal

pub loop-i-preserved : goal.loop-i-preserved
loop-i-preserved g c = search rules
