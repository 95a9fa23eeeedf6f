-- What was given and taken at each exit of a command without a store, against the report of the whole input.
use Rattle.std.proofs.Common.{◌≡◌, ◌⊎◌, inl, inr, ℕ, ◌+◌, ◌≤◌, ◌<◌, List, [], ◌∷◌, ◌++◌, length, refl, ap, sym, ◌∙◌, subst, arith, append-nil, length-append}
use Rattle.std.specs.Prelude.{Option, Some, Result, Ok, Err, IfOk}
use Rattle.std.specs.Io.KnownBytes.{IsAtEnd}
use Rattle.std.proofs.lemmas.Bool.Decides.{leb_tells}
use Rattle.report_defs.specs.declared.status.Status.{Status}
use Rattle.report_defs.specs.declared.status.Status.TheVariants.{Done, SomeRefused, InputFault, SinkFault, DiskFault, NoMemory, ExtraInput}
use Rattle.report_defs.specs.declared.command.Standalone.{Standalone}
use Rattle.report_defs.specs.declared.command.Standalone.TheVariants.{Exec, Asm, Dis, Unjson}
use Rattle.machine_defs.specs.Assembly.{lines_of, Assembles}
use Rattle.machine_defs.specs.File.{elf_file}
use Rattle.report_defs.specs.Report.{Report, text_of, report_without_lines, file_limit, IsAnswerToFile, IsReportOfFile}
use Rattle.report_defs.specs.Status.{IsOneOf}
use Rattle.report_defs.specs.Promise.{IsPrefix, MatchesReport, ReadsFileInOrder, IsStoppedBeforeTheSink, answering_statuses, refusing_statuses, standalone_statuses}
use Rattle.run_text.specs.Items.{IsReadingStop}
use Rattle.run_alone.specs.declared.files.FileAnswer.{FileAnswer}
use Rattle.run_text.specs.Output.{IsStop}
use Rattle.run_alone.specs.Standalone.{IsFile}
use Rattle.run_text.proofs.Reading.{left_nothing}
use Rattle.run_text.proofs.Tables.{lacks, among, apart}
use Rattle.run_text.proofs.Statuses.{stop_not_reported, stop_not_done, not_early}
use Rattle.run_text.proofs.StoreLemmas.{stop_says}

-- ---- The report of a file

is_longer : (a b : ℕ) → (b < a) ⊎ (a ≤ b)
is_longer a b = elim (leb_tells a b) [ inl fits ↦ inr fits.1 | inr longer ↦ inl longer.1 ]

-- what is said of a file within the limit is that it was done, or refused
abbrev pub answered_statuses : List Status
answered_statuses = Done ∷ SomeRefused ∷ []

pub answer_status : (command : Standalone) (file : List ℕ) (said : Report) → IsAnswerToFile command file said → IsOneOf answered_statuses said.status
answer_status (Exec budget) file said is = inl (ap (λ (r : Report). r.status) is)
answer_status Asm file said (inl code) = inl (ap (λ (r : Report). r.status) code.2)
answer_status Asm file said (inr bad) = inr (inl (ap (λ (r : Report). r.status) bad.2))
answer_status Dis file said is = inl (ap (λ (r : Report). r.status) is)
answer_status Unjson file said (inl read) = inl (ap (λ (r : Report). r.status) read.2)
answer_status Unjson file said (inr none) = inr (inl (ap (λ (r : Report). r.status) none.1))

-- Each command answers with statuses of its own.
refusing : (status : Status) → IsOneOf answered_statuses status → IsOneOf refusing_statuses status
refusing = among answered_statuses refusing_statuses refl

pub own_status : (command : Standalone) (file : List ℕ) (said : Report) → IsAnswerToFile command file said → IsOneOf (standalone_statuses command) said.status
own_status (Exec budget) file said is = inl (ap (λ (r : Report). r.status) is)
own_status Asm file said is = refusing said.status (answer_status Asm file said is)
own_status Dis file said is = inl (ap (λ (r : Report). r.status) is)
own_status Unjson file said is = refusing said.status (answer_status Unjson file said is)

-- and each may be stopped, or find a file too long
abbrev pub other_statuses : List Status
other_statuses = InputFault ∷ SinkFault ∷ NoMemory ∷ ExtraInput ∷ []

pub own_other : (command : Standalone) (status : Status) → IsOneOf other_statuses status → IsOneOf (standalone_statuses command) status
own_other (Exec budget) = among other_statuses answering_statuses refl
own_other Asm = among other_statuses refusing_statuses refl
own_other Dis = among other_statuses answering_statuses refl
own_other Unjson = among other_statuses refusing_statuses refl

pub standalone_reading : (command : Standalone) (status : Status) → IsReadingStop status → IsOneOf (standalone_statuses command) status
standalone_reading command InputFault stop = own_other command InputFault (inl refl)
standalone_reading command NoMemory stop = own_other command NoMemory (inr (inr (inl refl)))
standalone_reading command _ stop = absurd stop

pub standalone_printed : (command : Standalone) (file : List ℕ) (said : Report) → IsReportOfFile command file said → IsOneOf (standalone_statuses command) said.status
standalone_printed command file said (inl long) = subst (λ (s : Status). IsOneOf (standalone_statuses command) s) (sym (ap (λ (r : Report). r.status) long.1)) (own_other command ExtraInput (inr (inr (inr (inl refl)))))
standalone_printed command file said (inr within) = own_status command file said within.1

-- What a report of a file says is no stop.
told_status : (command : Standalone) (file : List ℕ) (said : Report) → IsReportOfFile command file said
    → IsOneOf (ExtraInput ∷ answered_statuses) said.status
told_status command file said (inl long) = inl (ap (λ (r : Report). r.status) long.1)
told_status command file said (inr within) = inr (answer_status command file said within.1)

-- The input has the report of what was read of it.
pub same_report : (command : Standalone) (left : Option (List ℕ)) (file given more : List ℕ) (said : Report) → IsFile (file_limit command) left file given → left ≡ Some more
    → IsReportOfFile command file said → IsReportOfFile command (given ++ more) said
same_report command left file given more said read is (inl long) =
    inl (omega (arith, long.0, ap length read.same, length-append given more), long.1)
same_report command left file given more said read is (inr within) =
    let nothing : more ≡ [] = left_nothing left more (read.to_end within.0) is in
    subst (λ input. IsReportOfFile command input said) (sym (ap (λ xs. given ++ xs) nothing ∙ append-nil given ∙ read.same)) (inr within)

-- it was read to its end or past the longest file
read_all : (limit : ℕ) (left : Option (List ℕ)) (file given : List ℕ) → IsFile limit left file given → IsAtEnd left ⊎ (limit < length given)
read_all limit left file given read = elim (is_longer (length file) limit) [
  | inl long ↦ inr (omega (arith, long, ap length read.same))
  | inr short ↦ inl (read.to_end short)
]

pub given_most : (limit : ℕ) (left : Option (List ℕ)) (file given : List ℕ) → IsFile limit left file given → length given ≤ limit + 1
given_most limit left file given read = omega (arith, read.most, ap length read.same)

-- ---- What is said of a file

same_parts : (bytes text : List ℕ) (status wanted : Status) → bytes ≡ text → status ≡ wanted → report_without_lines bytes status ≡ report_without_lines text wanted
same_parts bytes text status wanted same ended = ap (λ b. report_without_lines b status) same ∙ ap (report_without_lines text) ended

pub asm_words : (file code bytes : List ℕ) → Assembles (lines_of file) code → bytes ≡ elf_file code → IsAnswerToFile Asm file (report_without_lines bytes Done)
asm_words file code bytes words is = inl (code, words, same_parts bytes (elf_file code) Done Done is refl)

pub file_within : (command : Standalone) (file : List ℕ) (said : Report) (limit : ℕ) → limit ≡ file_limit command → length file ≤ limit → IsAnswerToFile command file said
    → IsReportOfFile command file said
file_within command file said limit is short answer = inr (omega (arith, is, short), answer)

-- what was answered of a file within the limit
pub told_within : {E : Type 0} (command : Standalone) (file : List ℕ) (limit : ℕ) (told : Result FileAnswer E) → limit ≡ file_limit command → length file ≤ limit
    → IfOk told (λ answer. IsAnswerToFile command file (report_without_lines answer.bytes.items answer.status))
    → IfOk told (λ answer. IsReportOfFile command file (report_without_lines answer.bytes.items answer.status))
told_within command file limit (Ok answer) is short says = file_within command file (report_without_lines answer.bytes.items answer.status) limit is short says
told_within command file limit (Err stop) is short says = tt

-- ---- The exits

stopped_in_order : (limit : ℕ) (given : List ℕ) (left : Option (List ℕ)) (taken : List ℕ) (status : Status) → IsStop status
    → length given ≤ limit + 1
    → (0 < length taken → IsAtEnd left ⊎ (limit < length given))
    → (IsStoppedBeforeTheSink status → taken ≡ [])
    → ReadsFileInOrder limit given left taken status
stopped_in_order limit given left taken status stop most first silent = record {
  to_end = λ done. absurd (stop_not_done status stop done);
  to_extra = λ e. absurd (subst IsStop e stop);
  most = most;
  read_first = first;
  silent = silent;
}

-- nothing was written yet
pub stopped_at_once : (command : Standalone) (given : List ℕ) (left : Option (List ℕ)) (status : Status) → IsStop status → length given ≤ file_limit command + 1
    → MatchesReport (IsReportOfFile command) given left [] status × ReadsFileInOrder (file_limit command) given left [] status
stopped_at_once command given left status stop most = (
  stop_says (IsReportOfFile command) given left status stop,
  stopped_in_order (file_limit command) given left [] status stop most (λ some. absurd (omega arith)) (λ early. refl),
)

-- the text was written in part
pub stopped_in_text : (command : Standalone) (given : List ℕ) (left : Option (List ℕ)) (file taken : List ℕ) (said : Report) (status : Status)
    → IsFile (file_limit command) left file given → IsReportOfFile command file said → status ≡ SinkFault → IsPrefix taken (text_of said)
    → MatchesReport (IsReportOfFile command) given left taken status × ReadsFileInOrder (file_limit command) given left taken status
stopped_in_text command given left file taken said status read is sink begins =
    let stop : IsStop status = subst IsStop (sym sink) tt in (
      record {
        prefix = λ more at. inr (said, same_report command left file given more said read at is, begins);
        whole = λ more at reported. absurd (stop_not_reported status stop reported);
      },
      stopped_in_order (file_limit command) given left taken status stop (given_most (file_limit command) left file given read)
          (λ some. read_all (file_limit command) left file given read) (λ early. absurd (not_early status sink early)),
    )

-- the text was written
pub answered : (command : Standalone) (given : List ℕ) (left : Option (List ℕ)) (file taken : List ℕ) (said : Report) (status : Status)
    → IsFile (file_limit command) left file given → IsReportOfFile command file said → taken ≡ text_of said → status ≡ said.status
    → MatchesReport (IsReportOfFile command) given left taken status × ReadsFileInOrder (file_limit command) given left taken status
answered command given left file taken said status read is text_is status_is = (
  record {
    prefix = λ more at. inr (said, same_report command left file given more said read at is, ([], sym text_is ∙ sym (append-nil taken)));
    whole = λ more at reported. (said, same_report command left file given more said read at is, text_is, status_is);
  },
  record {
    to_end = λ done. to_end is done;
    to_extra = λ extra. to_extra is extra;
    most = given_most (file_limit command) left file given read;
    read_first = λ some. read_all (file_limit command) left file given read;
    silent = λ early. absurd (apart (ExtraInput ∷ answered_statuses) (InputFault ∷ DiskFault ∷ NoMemory ∷ []) refl status
        (subst (λ (s : Status). IsOneOf (ExtraInput ∷ answered_statuses) s) (sym status_is) (told_status command file said is)) early);
  },
)
  where
    to_end : IsReportOfFile command file said → IsOneOf answered_statuses status → IsAtEnd left
    to_end (inl long) done = absurd (lacks answered_statuses ExtraInput refl status done (status_is ∙ ap (λ (r : Report). r.status) long.1))
    to_end (inr within) done = read.to_end within.0

    to_extra : IsReportOfFile command file said → status ≡ ExtraInput → file_limit command < length given
    to_extra (inl long) extra = omega (arith, long.0, ap length read.same)
    to_extra (inr within) extra = absurd (lacks answered_statuses ExtraInput refl said.status (answer_status command file said within.1) (sym status_is ∙ extra))
