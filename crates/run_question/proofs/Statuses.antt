-- Statuses of a question.
use Rattle.std.proofs.Common.{[], ◌∷◌, refl}
use Rattle.report_defs.specs.declared.status.Status.{Status}
use Rattle.report_defs.specs.declared.status.Status.TheVariants.{Done, SomeRefused, InputFault, SinkFault, NoMemory}
use Rattle.report_defs.specs.Status.{IsOneOf}
use Rattle.report_defs.specs.Promise.{question_statuses}
use Rattle.run_text.specs.Items.{IsReadingStop}
use Rattle.run_text.specs.Output.{early_ends}
use Rattle.run_text.specs.Store.{opening_stops}
use Rattle.run_text.proofs.Tables.{held, among}

pub question_opening : (status : Status) → IsOneOf opening_stops status → IsOneOf question_statuses status
question_opening = among opening_stops question_statuses refl

pub question_told : (status : Status) → IsOneOf (SinkFault ∷ Done ∷ SomeRefused ∷ []) status → IsOneOf question_statuses status
question_told = among (SinkFault ∷ Done ∷ SomeRefused ∷ []) question_statuses refl

-- ---- An input that ended early

pub question_early : (status : Status) → IsOneOf early_ends status → IsOneOf question_statuses status
question_early = among early_ends question_statuses refl

pub question_reading : (status : Status) → IsReadingStop status → IsOneOf question_statuses status
question_reading InputFault stop = held question_statuses InputFault refl
question_reading NoMemory stop = held question_statuses NoMemory refl
question_reading _ stop = absurd stop
