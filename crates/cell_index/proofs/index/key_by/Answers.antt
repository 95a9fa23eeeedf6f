use Rattle.std.proofs.Common.{rules}
use Rattle.cell_index.proofs.index.key_by.Goals as goal

pub returns-clause-bytes : goal.returns-clause-bytes
returns-clause-bytes c i = search rules
