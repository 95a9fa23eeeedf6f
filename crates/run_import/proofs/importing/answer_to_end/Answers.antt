use Rattle.std.proofs.Common.{rules}
use Rattle.run_import.proofs.importing.answer_to_end.Goals as goal

pub returns-clause-status : goal.returns-clause-status
returns-clause-status c = search rules
