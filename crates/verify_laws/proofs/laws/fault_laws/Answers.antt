use Rattle.verify_laws.proofs.FaultLemmas.{fault_is_not_sound}
use Rattle.verify_laws.proofs.laws.fault_laws.Goals as goal

pub returns : goal.returns
returns c = record { fault_is_not_sound = fault_is_not_sound }
