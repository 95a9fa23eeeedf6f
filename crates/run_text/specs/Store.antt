-- What a command delivers of a store.
use Rattle.std.specs.Prelude.{◌≡◌, ℕ, List, [], ◌∷◌, Option, Some}
use Rattle.outside.specs.Causes.{CountsFault}
use Rattle.outside.specs.Image.{Image}
use Rattle.verdict_defs.specs.Chain.{Chain}
use Rattle.store_defs.specs.Store.{Store}
use Rattle.report_defs.specs.declared.command.Command.{Command}
use Rattle.report_defs.specs.declared.command.Query.{Query}
use Rattle.report_defs.specs.declared.status.Status.{Status}
use Rattle.report_defs.specs.declared.status.Status.TheVariants.{DiskFault, NoMemory, NotAStore}
use Rattle.report_defs.specs.Report.{IsReport, report_of_query}
use Rattle.report_defs.specs.Promise.{MatchesReport, ReadsNothingInOrder, KeepsOrder, Finds}
use Rattle.report_defs.specs.Survival.{KeepsDisk}
use Rattle.run_text.specs.Output.{MatchesReportOf}

abbrev pub opening_stops : List Status
opening_stops = NotAStore ∷ DiskFault ∷ NoMemory ∷ []

-- A command over the store of what the disk reads as: its text, how far it read and wrote, and what it leaves of the disk.
pub record DeliversCommand (command : Command) (reads : Option Image) (at_start at_exit meanwhile : Image → Type 0) (left : Option (List ℕ)) (given taken : List ℕ) (status : Status) : Type 0 where
  pub text : (store : Store) → Finds (Some command) reads store → MatchesReport (λ whole said. IsReport (Some command) whole store said) given left taken status
  pub order : (store : Store) → Finds (Some command) reads store → KeepsOrder (Some command) store given left taken status
  pub disk : (now : Image) → reads ≡ Some now → KeepsDisk (Some command) now at_start at_exit meanwhile given taken status

-- What a call leaves of the disk that only looks at it: all as it was, and a failure counted where it is answered.
pub record OnlyReads {S C : Type 0} (content_of : S → C) (faults : S → ℕ) (old new : S) (failed : Type 0) : Type 0 where
  pub content : content_of new ≡ content_of old
  pub cause : CountsFault (faults old) (faults new) failed

-- what stops the finding of an answer by what is in memory, in a store that is sound or not
abbrev pub finding_stops : List Status
finding_stops = NotAStore ∷ NoMemory ∷ []

-- what a query answers over a chain was printed, or a part of it
abbrev pub IsQueryPrinted : Query → Chain → Option (List ℕ) → List ℕ → Status → Type 0
IsQueryPrinted query chain left taken status = MatchesReportOf (λ whole. report_of_query query chain) [] left taken status × ReadsNothingInOrder [] taken status
