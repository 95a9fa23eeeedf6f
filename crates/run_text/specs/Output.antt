-- What the sink took of a text.
use Rattle.std.specs.Prelude.{◌≡◌, ◌⊎◌, ◌<◌, ℕ, List, [], ◌∷◌, ◌++◌, length, Option, Some, Result, Ok, Err}
use Rattle.std.specs.List.{concat}
use Rattle.outside.specs.Streams.{Gives, Takes}
use Rattle.verdict_defs.specs.Chain.{Chain}
use Rattle.report_defs.specs.declared.status.Status.{Status}
use Rattle.report_defs.specs.declared.status.Status.TheVariants.{InputFault, SinkFault, DiskFault, NoMemory, CutInput, BadSize, ExtraInput}
use Rattle.report_defs.specs.Report.{Report, text_of, lines_over}
use Rattle.report_defs.specs.Promise.{IsPrefix, IsReported, IsStoppedBeforeTheSink}

-- the sink took some bytes, and P holds of them
abbrev pub SinkTook : Option (List ℕ) → Option (List ℕ) → (List ℕ → Type 0) → Type 0
SinkTook taken_old taken_new P = (taken : List ℕ) × Takes taken_old taken_new taken × P taken

-- the source gave some bytes and the sink took some, and P holds of them
abbrev pub Transfers : Option (List ℕ) → Option (List ℕ) → Option (List ℕ) → Option (List ℕ) → (List ℕ → List ℕ → Type 0) → Type 0
Transfers left_old left_new taken_old taken_new P =
    (given : List ℕ) × (taken : List ℕ) × Gives left_old left_new given × Takes taken_old taken_new taken × P given taken

-- What was taken, where the report of an input is a function of it.
pub record MatchesReportOf (report : List ℕ → Report) (given : List ℕ) (left : Option (List ℕ)) (taken : List ℕ) (status : Status) : Type 0 where
  pub prefix : (more : List ℕ) → left ≡ Some more → IsPrefix taken (text_of (report (given ++ more)))
  pub whole_text : (more : List ℕ) → left ≡ Some more → IsReported status → taken ≡ text_of (report (given ++ more))
  pub same_status : (more : List ℕ) → left ≡ Some more → IsReported status → status ≡ (report (given ++ more)).status

-- a part of a text, and not all of it
pub record IsPartOf (text taken : List ℕ) : Type 0 where
  pub prefix : IsPrefix taken text
  pub shorter : length taken < length text

-- a text was taken, or a part of it
abbrev pub IsWritten : {V : Type 0} → List ℕ → Result V Status → List ℕ → Type 0
IsWritten text (Ok v) taken = taken ≡ text
IsWritten text (Err status) taken = IsPartOf text taken

-- a text was taken and its status answered, or the sink failed
abbrev pub IsWrittenAnswer : List ℕ → Status → Status → List ℕ → Type 0
IsWrittenAnswer text status result taken = ((taken ≡ text) × (result ≡ status)) ⊎ (IsPartOf text taken × (result ≡ SinkFault))

-- what stops a run: a fault, or missing memory
abbrev pub IsStop : Status → Type 0
IsStop InputFault = Unit {0}
IsStop SinkFault = Unit {0}
IsStop DiskFault = Unit {0}
IsStop NoMemory = Unit {0}
IsStop _ = ⊥

-- what stops a run when its input was read
abbrev pub IsWritingStop : Status → Type 0
IsWritingStop SinkFault = Unit {0}
IsWritingStop DiskFault = Unit {0}
IsWritingStop NoMemory = Unit {0}
IsWritingStop _ = ⊥

-- A report's text was stopped: only the sink leaves a part of it.
pub record IsSaidInPart (report : Report) (status : Status) (taken : List ℕ) : Type 0 where
  pub stop : IsWritingStop status
  pub prefix : IsPrefix taken (text_of report)
  pub silent : IsStoppedBeforeTheSink status → taken ≡ []

-- a report was printed, or a part of it
abbrev pub IsSaid : Report → Status → List ℕ → Type 0
IsSaid report status taken = ((taken ≡ text_of report) × (status ≡ report.status)) ⊎ IsSaidInPart report status taken

-- how the telling of an early end ends
abbrev pub early_ends : List Status
early_ends = SinkFault ∷ NoMemory ∷ CutInput ∷ BadSize ∷ ExtraInput ∷ []

-- the lines of items one after the other
abbrev pub text_over : Option (List ℕ) → Chain → List (List ℕ) → List ℕ
text_over watched chain items = concat (lines_over watched chain items)
