-- What the command that the words ask for decides.
use Rattle.std.proofs.Common.{◌≡◌, Option, Some, None, refl, ◌∙◌, subst}
use Rattle.std.specs.Prelude.{◌↔◌}
use Rattle.report_defs.specs.declared.command.Command.{Command}
use Rattle.report_defs.specs.declared.command.Command.TheVariants.{Init, Import, Migrate, Query, Question, Standalone, Simulation}
use Rattle.report_defs.specs.declared.command.Standalone as files
use Rattle.report_defs.specs.declared.command.Standalone.TheVariants.{Exec, Asm, Dis, Unjson}
use Rattle.report_defs.specs.declared.status.Status.{Status}
use Rattle.report_defs.specs.declared.status.Status.TheVariants.{BadWords, InputFault, DiskFault}
use Rattle.report_defs.specs.Status.{IsOneOf}
use Rattle.report_defs.specs.Promise.{init_statuses, import_statuses, migrate_statuses, query_statuses, question_statuses, answering_statuses, refusing_statuses, standalone_statuses, simulation_statuses, statuses_of}
use Rattle.run_text.proofs.Tables.{lacks}

-- what no command without a store answers
lacks_bad_words : (command : files.Standalone) (status : Status) → IsOneOf (standalone_statuses command) status → status ≡ BadWords → ⊥
lacks_bad_words (Exec budget) = lacks answering_statuses BadWords refl
lacks_bad_words Asm = lacks refusing_statuses BadWords refl
lacks_bad_words Dis = lacks answering_statuses BadWords refl
lacks_bad_words Unjson = lacks refusing_statuses BadWords refl

pub standalone_no_disk_fault : (command : files.Standalone) (status : Status) → IsOneOf (standalone_statuses command) status → status ≡ DiskFault → ⊥
standalone_no_disk_fault (Exec budget) = lacks answering_statuses DiskFault refl
standalone_no_disk_fault Asm = lacks refusing_statuses DiskFault refl
standalone_no_disk_fault Dis = lacks answering_statuses DiskFault refl
standalone_no_disk_fault Unjson = lacks refusing_statuses DiskFault refl

-- no command answers that the words are bad
pub never_bad_words : (command : Command) (status : Status) → IsOneOf (statuses_of (Some command)) status → status ≡ BadWords → ⊥
never_bad_words Init = lacks init_statuses BadWords refl
never_bad_words (Import watched) = lacks import_statuses BadWords refl
never_bad_words (Migrate epoch) = lacks migrate_statuses BadWords refl
never_bad_words (Query query) = lacks query_statuses BadWords refl
never_bad_words (Question question) = lacks question_statuses BadWords refl
never_bad_words (Standalone command) = lacks_bad_words command
never_bad_words (Simulation simulation) = lacks simulation_statuses BadWords refl

abbrev IsAsked : Option Command → Type 0
IsAsked None = ⊥
IsAsked (Some command) = Unit {0}

pub words_are_good : (asked : Option Command) (command : Command) (status : Status) → Some command ≡ asked → IsOneOf (statuses_of (Some command)) status
    → (status ≡ BadWords) ↔ (asked ≡ None)
words_are_good asked command status is one = (
  λ bad. absurd (never_bad_words command status one bad),
  λ none. absurd (subst IsAsked (is ∙ none) tt),
)

-- the command is another than `init`
abbrev pub IsNotInit : Option Command → Type 0
IsNotInit (Some Init) = ⊥
IsNotInit _ = Unit {0}

pub simulation_no_input_fault : (status : Status) → IsOneOf simulation_statuses status → status ≡ InputFault → ⊥
simulation_no_input_fault = lacks simulation_statuses InputFault refl

pub simulation_no_disk_fault : (status : Status) → IsOneOf simulation_statuses status → status ≡ DiskFault → ⊥
simulation_no_disk_fault = lacks simulation_statuses DiskFault refl

pub migrate_no_input_fault : (status : Status) → IsOneOf migrate_statuses status → status ≡ InputFault → ⊥
migrate_no_input_fault = lacks migrate_statuses InputFault refl

pub query_no_input_fault : (status : Status) → IsOneOf query_statuses status → status ≡ InputFault → ⊥
query_no_input_fault = lacks query_statuses InputFault refl
