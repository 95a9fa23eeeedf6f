-- An explanation: what is printed of one item, which is the text of `check` or of `import` and a page below it, and what is left of the disk.
use Rattle.std.specs.Prelude.{◌≡◌, ℕ, List, [], ◌∷◌, ◌++◌, Option, Some, None}
use Rattle.outside.specs.Image.{Image}
use Rattle.verdict_defs.specs.Chain.{Chain, verdict_over}
use Rattle.store_defs.specs.Store.{Store}
use Rattle.report_defs.specs.declared.status.Status.{Status}
use Rattle.report_defs.specs.declared.status.Status.TheVariants.{Done, SomeRefused, CutInput}
use Rattle.report_defs.specs.Status.{IsOneOf}
use Rattle.report_defs.specs.Items.{Limits, Split, split_of, whole_limits}
use Rattle.report_defs.specs.Report.{Report, text_of, report_without_lines, report_of_whole, item_limit, line_over, status_of_verdicts, report_of_check}
use Rattle.report_defs.specs.Promise.{ReadsWhole, OverStore, IsSoundStoreOf}
use Rattle.report_defs.specs.Survival.{KeepsItems}
use Rattle.run_text.specs.Output.{MatchesReportOf}
use Rattle.run_explanation.specs.declared.asked.Asked.{Asked}
use Rattle.run_explanation.specs.declared.asked.Asked.TheVariants.{Check, Import}

-- ---- What is said

-- the input is one item
abbrev pub one_item : List ℕ
one_item = item_limit ∷ []

-- What `import` says of an input that has this item alone (a whole input has one).
abbrev pub report_of_one : Chain → List (List ℕ) → Report
report_of_one chain [] = report_without_lines [] CutInput
report_of_one chain (item ∷ more) = report_without_lines (line_over None chain item) (status_of_verdicts (verdict_over chain item ∷ []))

-- what `check`, or `import`, says over a chain of the items
abbrev pub said_of : Asked → Chain → List (List ℕ) → Report
said_of Check chain items = report_of_check chain items
said_of Import chain items = report_of_one chain items

-- the same with a page below it
abbrev pub with_page : List ℕ → Report → Report
with_page page report = record report { closing = report.closing ++ page }

-- of a whole input: where it ends otherwise than after its item, its end alone is told
abbrev pub explained : List ℕ → Asked → Chain → List ℕ → Report
explained page asked chain whole = report_of_whole 1 (λ items. with_page page (said_of asked chain items)) (split_of (whole_limits one_item) whole)

-- ---- The call

-- Over a chain that has joined, with this page: the text, how far was read and written, and what was answered.
pub record ExplainsOver (page : List ℕ) (asked : Asked) (chain : Chain) (given : List ℕ) (left : Option (List ℕ)) (taken : List ℕ) (status : Status) : Type 0 where
  pub text : MatchesReportOf (explained page asked chain) given left taken status
  pub order : ReadsWhole (whole_limits one_item) (Done ∷ SomeRefused ∷ []) given left taken status
  -- also of a source that does not tell what is left
  pub answers : IsOneOf (Done ∷ SomeRefused ∷ []) status → taken ≡ text_of (explained page asked chain given)

-- Of the store of what the disk reads as: there is a page with which the item is explained over its chain, and where there is no store nothing is
-- read or written. Each image at the exit keeps the chain, as each at any moment does, or is one of the start.
pub record Explains (asked : Asked) (reads : Option Image) (at_start at_exit meanwhile : Image → Type 0) (left : Option (List ℕ)) (given taken : List ℕ) (status : Status) : Type 0 where
  pub page : List ℕ
  pub over : (store : Store) → IsSoundStoreOf reads store → OverStore store (λ chain. ExplainsOver page asked chain given left taken status) given taken status
  pub disk : (now : Image) → reads ≡ Some now → KeepsItems None [] now at_start at_exit meanwhile taken status

-- ---- Its parts

-- the line of items over a chain, of which the first decides, and the status
pub record IsLineOf (asked : Asked) (chain : Chain) (items : List (List ℕ)) (line : List ℕ) (status : Status) : Type 0 where
  pub line_is : line ≡ text_of (said_of asked chain items)
  pub status_is : status ≡ (said_of asked chain items).status
