use Rattle.std.proofs.Common.{rules}
use Rattle.run_store.proofs.store.status_of_reading.Goals as goal

pub returns-in-Damaged-clause-fault : goal.returns-in-Damaged-clause-fault
returns-in-Damaged-clause-fault c = search rules
