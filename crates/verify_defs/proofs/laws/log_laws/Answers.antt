use Rattle.verify_defs.proofs.FaultLemmas.{none_of_a_sound_log, sound_by_parts}
use Rattle.verify_defs.proofs.laws.log_laws.Goals as goal

pub returns-clause-none_of_a_sound_log : goal.returns-clause-none_of_a_sound_log
returns-clause-none_of_a_sound_log c = none_of_a_sound_log

pub returns-clause-sound_by_parts : goal.returns-clause-sound_by_parts
returns-clause-sound_by_parts c = sound_by_parts
