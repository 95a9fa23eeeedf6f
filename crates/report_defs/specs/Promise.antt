-- What a run promises of the bytes that its source gave and its sink took, whether it was stopped or not (docs/PROVED.md, "A run").
-- What it promises of the disk stands in Survival.
use Rattle.std.specs.Prelude.{◌≡◌, ◌⊎◌, ℕ, ◌+◌, ◌-◌, ◌<◌, ◌≤◌, List, [], ◌∷◌, ◌++◌, length, take, Option, Some, None}
use Rattle.std.specs.List.{concat}
use Rattle.std.specs.Io.KnownBytes.{IsAtEnd}
use Rattle.outside.specs.Image.{Image}
use Rattle.verdict_defs.specs.Chain.{Chain}
use Rattle.store_defs.specs.Store.{Store, NoLog, NotALog, Keeps, store_of, StandsFor}
use Rattle.report_defs.specs.declared.command.Command.{Command}
use Rattle.report_defs.specs.declared.command.Command.TheVariants.{Init, Import, Migrate, Query, Question, Standalone, Simulation}
use Rattle.report_defs.specs.declared.command.Question as questions
use Rattle.report_defs.specs.declared.command.Standalone as files
use Rattle.report_defs.specs.declared.command.Standalone.TheVariants.{Exec, Asm, Dis, Unjson}
use Rattle.report_defs.specs.declared.status.Status.{Status}
use Rattle.report_defs.specs.declared.status.Status.TheVariants.{Done, SomeRefused, BadWords, InputFault, SinkFault, DiskFault, NoMemory, NotAStore, CutInput, BadSize, StoreThere, BadGenesis, ExtraInput, TooEarly, AlreadyMigrated}
use Rattle.report_defs.specs.Status.{IsOneOf}
use Rattle.report_defs.specs.Items.{IsAtWord, Limits, split_of, end_offset, ReadsNoFurther}
use Rattle.report_defs.specs.Report.{Report, text_of, init_limits, import_limits, question_limits, lines_over, file_limit}

-- ---- Statuses

-- those of a report: no fault stopped the run, and memory was enough
abbrev pub reported : List Status
reported = Done ∷ SomeRefused ∷ BadWords ∷ NotAStore ∷ CutInput ∷ BadSize ∷ StoreThere ∷ BadGenesis ∷ ExtraInput ∷ TooEarly ∷ AlreadyMigrated ∷ []

abbrev pub IsReported : Status → Type 0
IsReported status = IsOneOf reported status

-- those of an input that does not end where it should
abbrev pub ended_early : List Status
ended_early = CutInput ∷ BadSize ∷ ExtraInput ∷ []

-- those of each class of commands
abbrev pub init_statuses : List Status
init_statuses = Done ∷ InputFault ∷ SinkFault ∷ DiskFault ∷ NoMemory ∷ CutInput ∷ BadSize ∷ StoreThere ∷ BadGenesis ∷ ExtraInput ∷ []

abbrev pub import_statuses : List Status
import_statuses = Done ∷ SomeRefused ∷ InputFault ∷ SinkFault ∷ DiskFault ∷ NoMemory ∷ NotAStore ∷ CutInput ∷ BadSize ∷ ExtraInput ∷ []

abbrev pub migrate_statuses : List Status
migrate_statuses = Done ∷ SinkFault ∷ DiskFault ∷ NoMemory ∷ NotAStore ∷ TooEarly ∷ AlreadyMigrated ∷ []

abbrev pub query_statuses : List Status
query_statuses = Done ∷ SinkFault ∷ DiskFault ∷ NoMemory ∷ NotAStore ∷ []

abbrev pub question_statuses : List Status
question_statuses = Done ∷ SomeRefused ∷ InputFault ∷ SinkFault ∷ DiskFault ∷ NoMemory ∷ NotAStore ∷ CutInput ∷ BadSize ∷ ExtraInput ∷ []

-- a command without a store answers each file, or refuses some
abbrev pub answering_statuses : List Status
answering_statuses = Done ∷ InputFault ∷ SinkFault ∷ NoMemory ∷ ExtraInput ∷ []

abbrev pub refusing_statuses : List Status
refusing_statuses = Done ∷ SomeRefused ∷ InputFault ∷ SinkFault ∷ NoMemory ∷ ExtraInput ∷ []

abbrev pub standalone_statuses : files.Standalone → List Status
standalone_statuses (Exec budget) = answering_statuses
standalone_statuses Asm = refusing_statuses
standalone_statuses Dis = answering_statuses
standalone_statuses Unjson = refusing_statuses

-- a simulation is reported, or stopped
abbrev pub simulation_statuses : List Status
simulation_statuses = Done ∷ SinkFault ∷ NoMemory ∷ []

abbrev pub statuses_of : Option Command → List Status
statuses_of None = BadWords ∷ []
statuses_of (Some Init) = init_statuses
statuses_of (Some (Import watched)) = import_statuses
statuses_of (Some (Migrate epoch)) = migrate_statuses
statuses_of (Some (Query query)) = query_statuses
statuses_of (Some (Question question)) = question_statuses
statuses_of (Some (Standalone command)) = standalone_statuses command
statuses_of (Some (Simulation simulation)) = simulation_statuses

-- The run was stopped, and not by the sink.
abbrev pub IsStoppedBeforeTheSink : Status → Type 0
IsStoppedBeforeTheSink status = IsOneOf (InputFault ∷ DiskFault ∷ NoMemory ∷ []) status

-- ---- Text

-- the first is a prefix of the second
abbrev pub IsPrefix : List ℕ → List ℕ → Type 0
IsPrefix prefix whole = (rest : List ℕ) × (whole ≡ prefix ++ rest)

-- What was taken is the text of a report of the whole input as far as it was written, and all of it, with the report's status, where nothing
-- stopped the run. The relation says which reports an input has.
pub record MatchesReport (IsReportOf : List ℕ → Report → Type 0) (given : List ℕ) (left : Option (List ℕ)) (taken : List ℕ) (status : Status) : Type 0 where
  pub prefix : (more : List ℕ) → left ≡ Some more → (taken ≡ []) ⊎ ((said : Report) × IsReportOf (given ++ more) said × IsPrefix taken (text_of said))
  pub whole : (more : List ℕ) → left ≡ Some more → IsReported status
      → (said : Report) × IsReportOf (given ++ more) said × (taken ≡ text_of said) × (status ≡ said.status)

-- ---- How far a run has read and written

-- the list without its last element
abbrev pub all_but_last : List (List ℕ) → List (List ℕ)
all_but_last items = take (length items - 1) items

-- How the lines keep up with items that the source gave whole, over the chain at the start. The rest is what it gave after them.
pub record WritesInOrder (watched : Option (List ℕ)) (chain : Chain) (items : List (List ℕ)) (rest taken : List ℕ) : Type 0 where
  -- each item but the last has its whole line
  pub lines : IsPrefix (concat (lines_over watched chain (all_but_last items))) taken
  -- each has it before a byte of the next item is read
  pub lines_first : 0 < length rest → IsPrefix (concat (lines_over watched chain items)) taken

-- the text is the lines of the first items, and nothing more
abbrev pub AreWholeLines : Option (List ℕ) → Chain → List (List ℕ) → List ℕ → Type 0
AreWholeLines watched chain items taken = (count : ℕ) × (taken ≡ concat (lines_over watched chain (take count items)))

-- nothing was read and nothing written
pub record IsUntouched (given taken : List ℕ) : Type 0 where
  pub unread : given ≡ []
  pub unwritten : taken ≡ []

-- of an input that does not end where it should, as much was read as is needed to see it
abbrev pub ReadsToTheEnd : Limits → List ℕ → Option (List ℕ) → Status → Type 0
ReadsToTheEnd limits given left status =
    IsOneOf ended_early status → (more : List ℕ) → left ≡ Some more → end_offset (split_of limits (given ++ more)) ≤ length given

-- An input that is read whole is read and answered in this order, where these statuses tell what was judged.
pub record ReadsWhole (limits : Limits) (judged : List Status) (given : List ℕ) (left : Option (List ℕ)) (taken : List ℕ) (status : Status) : Type 0 where
  -- it was read to its end before it is judged
  pub to_end : IsOneOf judged status → IsAtEnd left
  pub to_early_end : ReadsToTheEnd limits given left status
  pub no_further : ReadsNoFurther limits given
  -- nothing is written but what follows the whole input
  pub silent : IsStoppedBeforeTheSink status → taken ≡ []

-- `init`
pub record InitsInOrder (store : Store) (given : List ℕ) (left : Option (List ℕ)) (taken : List ℕ) (status : Status) : Type 0 where
  -- where there is a log nothing is read and nothing written
  pub there : (store ≡ NoLog → ⊥) → IsUntouched given taken
  pub whole : ReadsWhole init_limits (Done ∷ BadGenesis ∷ []) given left taken status

-- `import`, over the chain of a store, where a lock may be watched
pub record ImportsInOrder (watched : Option (List ℕ)) (chain : Chain) (given : List ℕ) (left : Option (List ℕ)) (taken : List ℕ) (status : Status) : Type 0 where
  pub written : WritesInOrder watched chain (split_of import_limits given).items (split_of import_limits given).rest taken
  -- only the sink leaves a part of a line, or of the text after the lines
  pub whole_lines : IsStoppedBeforeTheSink status → AreWholeLines watched chain (split_of import_limits given).items taken
  pub to_end : IsOneOf (Done ∷ SomeRefused ∷ []) status → IsAtEnd left
  pub to_early_end : ReadsToTheEnd import_limits given left status
  -- nothing is read after a size word at which the reading ends
  pub no_further : IsAtWord (split_of import_limits given).end → length (split_of import_limits given).rest ≡ 4

-- where there is no store, nothing is read and nothing written
pub record FindsNoStore (given taken : List ℕ) (status : Status) : Type 0 where
  pub untouched : IsUntouched given taken
  pub answer : IsOneOf (NotAStore ∷ DiskFault ∷ NoMemory ∷ []) status

-- over the chain of a store P holds
abbrev pub OverStore : Store → (Chain → Type 0) → List ℕ → List ℕ → Status → Type 0
OverStore NoLog P given taken status = FindsNoStore given taken status
OverStore NotALog P given taken status = FindsNoStore given taken status
OverStore (Keeps chain) P given taken status = P chain

-- a query, `migrate` or a simulation: nothing is read, and nothing written where the run was stopped before the sink
pub record ReadsNothingInOrder (given taken : List ℕ) (status : Status) : Type 0 where
  pub unread : given ≡ []
  pub silent : IsStoppedBeforeTheSink status → taken ≡ []

-- a question
abbrev pub AnswersInOrder : questions.Question → List ℕ → Option (List ℕ) → List ℕ → Status → Type 0
AnswersInOrder question given left taken status = ReadsWhole (question_limits question) (Done ∷ SomeRefused ∷ []) given left taken status

-- a command without a store, whose file has at most so many bytes
pub record ReadsFileInOrder (limit : ℕ) (given : List ℕ) (left : Option (List ℕ)) (taken : List ℕ) (status : Status) : Type 0 where
  pub to_end : IsOneOf (Done ∷ SomeRefused ∷ []) status → IsAtEnd left
  pub to_extra : status ≡ ExtraInput → limit < length given
  -- of an input that is too long one byte more than a file has is read
  pub most : length given ≤ limit + 1
  -- nothing is written before the file was read
  pub read_first : 0 < length taken → IsAtEnd left ⊎ (limit < length given)
  -- nothing is written where the run was stopped otherwise than by the sink
  pub silent : IsStoppedBeforeTheSink status → taken ≡ []

-- a disk that reads so has this store
abbrev pub IsStoreOf : Option Image → Store → Type 0
IsStoreOf reads store = (now : Image) × (reads ≡ Some now) × (store ≡ store_of now)

-- a store that a disk has so, and that is sound where it is one
abbrev pub IsSoundStoreOf : Option Image → Store → Type 0
IsSoundStoreOf reads store = (now : Image) × (reads ≡ Some now) × (store ≡ store_of now) × ((chain : Chain) → store ≡ Keeps chain → StandsFor chain now)

-- What a command finds in the folder: the store of what the disk reads as, or any where it does not look. What `init` finds need not be sound.
abbrev pub Finds : Option Command → Option Image → Store → Type 0
Finds None reads store = Unit {0}
Finds (Some Init) reads store = IsStoreOf reads store
Finds (Some (Import watched)) reads store = IsSoundStoreOf reads store
Finds (Some (Migrate epoch)) reads store = IsSoundStoreOf reads store
Finds (Some (Query query)) reads store = IsSoundStoreOf reads store
Finds (Some (Question question)) reads store = IsSoundStoreOf reads store
Finds (Some (Standalone command)) reads store = Unit {0}
Finds (Some (Simulation simulation)) reads store = Unit {0}

-- By what the words ask for, over what stands in the folder.
abbrev pub KeepsOrder : Option Command → Store → List ℕ → Option (List ℕ) → List ℕ → Status → Type 0
KeepsOrder None store given left taken status = IsUntouched given taken
KeepsOrder (Some Init) store given left taken status = InitsInOrder store given left taken status
KeepsOrder (Some (Import watched)) store given left taken status = OverStore store (λ chain. ImportsInOrder watched chain given left taken status) given taken status
KeepsOrder (Some (Migrate epoch)) store given left taken status = OverStore store (λ chain. ReadsNothingInOrder given taken status) given taken status
KeepsOrder (Some (Query query)) store given left taken status = OverStore store (λ chain. ReadsNothingInOrder given taken status) given taken status
KeepsOrder (Some (Question question)) store given left taken status = OverStore store (λ chain. AnswersInOrder question given left taken status) given taken status
KeepsOrder (Some (Standalone command)) store given left taken status = ReadsFileInOrder (file_limit command) given left taken status
KeepsOrder (Some (Simulation simulation)) store given left taken status = ReadsNothingInOrder given taken status
