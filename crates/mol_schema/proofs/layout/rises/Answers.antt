use Rattle.std.proofs.Common.{rules}
use Rattle.mol_schema.proofs.layout.rises.Goals as goal

pub returns-then-to-from : goal.returns-then-to-from
returns-then-to-from c = search rules

pub returns : goal.returns
returns c = search rules
