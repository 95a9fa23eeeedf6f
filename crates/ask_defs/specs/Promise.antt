-- What `ckbask` promises of the bytes that its source gave, those that its sink took, and the disk (docs/PROVED.md, "Many questions").
use Rattle.std.specs.Prelude.{◌≡◌, ℕ, zero, suc, ◌+◌, ◌-◌, ◌^◌, ◌<◌, ◌≤◌, List, [], ◌∷◌, ◌++◌, map, length, take, Option, Some, None, nat_lt, if◌then◌else◌}
use Rattle.std.specs.List.{concat}
use Rattle.std.specs.Io.KnownBytes.{IsAtEnd}
use Rattle.outside.specs.Image.{Image}
use Rattle.verdict_defs.specs.Chain.{Chain}
use Rattle.store_defs.specs.Store.{Store, StandsFor}
use Rattle.report_defs.specs.declared.status.Status.{Status}
use Rattle.report_defs.specs.declared.status.Status.TheVariants.{Done, InputFault, SinkFault, DiskFault, NoMemory, NotAStore, BadSize, ExtraInput}
use Rattle.report_defs.specs.Report.{Report, text_of, report_without_lines, report_over}
use Rattle.report_defs.specs.Promise.{IsPrefix, IsStoppedBeforeTheSink, MatchesReport, OverStore, IsSoundStoreOf}
use Rattle.report_defs.specs.Survival.{KeepsItems}
use Rattle.ask_defs.specs.Lines.{line_limit, lines_of, has_no_feed, AreLines, spelled}
use Rattle.ask_defs.specs.Answers.{answer}

-- the statuses of a run that asks
abbrev pub ask_statuses : List Status
ask_statuses = Done ∷ InputFault ∷ SinkFault ∷ DiskFault ∷ NoMemory ∷ NotAStore ∷ BadSize ∷ ExtraInput ∷ []

-- the answers to some lines, one after another
abbrev pub answers : Chain → List (List ℕ) → List ℕ
answers chain lines = concat (map (answer chain) lines)

-- one answer more, before others
abbrev pub answer_first : List ℕ → Report → Report
answer_first text later = record { lines = text ∷ later.lines; closing = later.closing; status = later.status }

-- so many lines are counted
unfoldable pub line_count : ℕ
line_count = 2 ^ 64 - 1

-- Each line is answered. One that is too long ends it, and so does what follows the last line that is counted.
abbrev pub report_of_lines : Chain → List (List ℕ) → ℕ → Report
report_of_lines chain [] more = report_without_lines [] Done
report_of_lines chain (line ∷ later) zero = report_without_lines [] ExtraInput
report_of_lines chain (line ∷ later) (suc more) =
    if nat_lt line_limit (length line) then report_without_lines [] BadSize else answer_first (answer chain line) (report_of_lines chain later more)

-- the report of an input over a chain
abbrev pub ask_report : Chain → List ℕ → Report
ask_report chain input = report_of_lines chain (lines_of input) line_count

-- In which order it reads and writes, over the chain of a store.
pub record AsksInOrder (chain : Chain) (given : List ℕ) (left : Option (List ℕ)) (taken : List ℕ) (status : Status) : Type 0 where
  -- each answer is written before a byte of the next line is read
  pub answered_first : (lines : List (List ℕ)) (next : List ℕ) → given ≡ spelled lines ++ next → AreLines lines → 0 < length next → IsPrefix (answers chain lines) taken
  -- only the sink leaves a part of an answer
  pub whole : IsStoppedBeforeTheSink status → (count : ℕ) × (taken ≡ answers chain (take count (lines_of given)))
  pub to_end : status ≡ Done → IsAtEnd left
  -- no more is read of a line than shows that it is too long
  pub no_further : (lines : List (List ℕ)) (next : List ℕ) → given ≡ spelled lines ++ next → AreLines lines → has_no_feed next → length next ≤ line_limit + 1

-- What it promises: the answers over the store that the disk has, and no image but those of the start and those that stand for the same chain.
pub record IsAsked (reads : Option Image) (at_start at_exit meanwhile : Image → Type 0) (left : Option (List ℕ)) (given taken : List ℕ) (status : Status) : Type 0 where
  pub text : (store : Store) → IsSoundStoreOf reads store → MatchesReport (λ whole said. said ≡ report_over store (λ chain. ask_report chain whole)) given left taken status
  pub order : (store : Store) → IsSoundStoreOf reads store → OverStore store (λ chain. AsksInOrder chain given left taken status) given taken status
  -- where it is done, all of what was given is answered, also of a source that does not tell what is left
  pub answered : (now : Image) (chain : Chain) → reads ≡ Some now → StandsFor chain now → status ≡ Done → taken ≡ answers chain (lines_of given)
  pub disk : (now : Image) → reads ≡ Some now → KeepsItems None [] now at_start at_exit meanwhile taken status
