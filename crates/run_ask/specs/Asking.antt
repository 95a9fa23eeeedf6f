-- The parts of asking: what was read and answered of one line, and of all.
use Rattle.std.specs.Prelude.{◌≡◌, ◌⊎◌, ℕ, ◌+◌, ◌<◌, List, [], ◌∷◌, ◌++◌, length, Option, Result, Ok, Err}
use Rattle.std.specs.Io.KnownBytes.{IsAtEnd}
use Rattle.verdict_defs.specs.Chain.{Chain}
use Rattle.report_defs.specs.declared.status.Status.{Status}
use Rattle.report_defs.specs.declared.status.Status.TheVariants.{Done, SinkFault}
use Rattle.report_defs.specs.Promise.{IsPrefix, IsStoppedBeforeTheSink}
use Rattle.run_text.specs.Items.{IsReadingStop}
use Rattle.run_text.specs.Output.{IsWritingStop, MatchesReportOf}
use Rattle.run_text.specs.Store.{opening_stops}
use Rattle.ask_defs.specs.Lines.{line_limit, lines_of, has_no_feed, IsLine}
use Rattle.ask_defs.specs.Answers.{answer}
use Rattle.ask_defs.specs.Promise.{answers, ask_report, AsksInOrder}
use Rattle.run_ask.specs.Reading.{IsBegun}
use Rattle.run_ask.specs.declared.asking.Going.{Going}
use Rattle.run_ask.specs.declared.asking.Going.TheVariants.{On, AtEnd, TooLong}

-- what stops a line that was read
abbrev pub line_stops : List Status
line_stops = SinkFault ∷ opening_stops

-- An answer was stopped: only the sink leaves a part of it.
pub record IsCutShort (text : List ℕ) (status : Status) (taken : List ℕ) : Type 0 where
  pub stop : IsWritingStop status
  pub part : IsPrefix taken text
  pub silent : IsStoppedBeforeTheSink status → taken ≡ []

abbrev pub IsAnswered : {V : Type 0} → List ℕ → Result V Status → List ℕ → Type 0
IsAnswered text (Ok v) taken = taken ≡ text
IsAnswered text (Err status) taken = IsCutShort text status taken

-- a line as it was given: with its line feed, or as the last
abbrev pub IsGivenAs : List ℕ → Option (List ℕ) → List ℕ → Type 0
IsGivenAs line left given = (given ≡ line ++ 10 ∷ []) ⊎ ((given ≡ line) × (0 < length line) × IsAtEnd left)

-- The reading was stopped, and nothing was written.
pub record IsUnread (status : Status) (given taken : List ℕ) : Type 0 where
  pub stop : IsReadingStop status
  pub begun : IsBegun given
  pub unwritten : taken ≡ []

-- A line was read, and its answer stopped.
pub record IsUnanswered (sound : Type 0) (chain : Chain) (left : Option (List ℕ)) (status : Status) (given taken : List ℕ) : Type 0 where
  pub line : List ℕ
  pub is_line : IsLine line
  pub given_as : IsGivenAs line left given
  pub cut : sound → IsCutShort (answer chain line) status taken

-- One line was read and answered, over a chain.
abbrev pub IsAskedNext : Type 0 → Chain → Option (List ℕ) → Result Going Status → List ℕ → List ℕ → Type 0
IsAskedNext sound chain left (Ok On) given taken = (line : List ℕ) × IsLine line × (given ≡ line ++ 10 ∷ []) × (sound → taken ≡ answer chain line)
IsAskedNext sound chain left (Ok AtEnd) given taken = IsLine given × IsAtEnd left × (sound → taken ≡ answers chain (lines_of given))
IsAskedNext sound chain left (Ok TooLong) given taken = has_no_feed given × (length given ≡ line_limit + 1) × (taken ≡ [])
IsAskedNext sound chain left (Err status) given taken = IsUnread status given taken ⊎ IsUnanswered sound chain left status given taken

-- All that was read was answered, over a chain.
pub record AreAnswered (chain : Chain) (given : List ℕ) (left : Option (List ℕ)) (taken : List ℕ) (status : Status) : Type 0 where
  pub text : MatchesReportOf (ask_report chain) given left taken status
  pub order : AsksInOrder chain given left taken status
  pub answered : status ≡ Done → taken ≡ answers chain (lines_of given)
