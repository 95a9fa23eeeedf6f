-- The parts of a question: what was found, and what was read and printed.
use Rattle.std.specs.Prelude.{◌≡◌, ℕ, List, [], ◌∷◌, Option, Some}
use Rattle.outside.specs.Image.{Image}
use Rattle.verdict_defs.specs.Chain.{Chain}
use Rattle.store_defs.specs.Store.{StandsFor}
use Rattle.report_defs.specs.declared.command.Command.TheVariants as commands
use Rattle.report_defs.specs.declared.command.Question.{Question}
use Rattle.report_defs.specs.declared.status.Status.{Status}
use Rattle.report_defs.specs.declared.status.Status.TheVariants.{Done, SomeRefused}
use Rattle.report_defs.specs.Status.{IsOneOf}
use Rattle.report_defs.specs.Items.{split_of}
use Rattle.report_defs.specs.Report.{Report, text_of, question_limits, answer_to_question, report_of_question}
use Rattle.report_defs.specs.Promise.{AnswersInOrder}
use Rattle.run_text.specs.Output.{MatchesReportOf}
use Rattle.run_text.specs.Store.{DeliversCommand}

-- what is said of items over a chain, and the status
pub record IsAnswerTo (question : Question) (chain : Chain) (items : List (List ℕ)) (text : List ℕ) (status : Status) : Type 0 where
  pub text_is : text ≡ text_of (answer_to_question question chain items)
  pub status_is : status ≡ (answer_to_question question chain items).status

-- the report on a whole input
abbrev pub full : Question → Chain → List ℕ → Report
full question chain whole = report_of_question question chain (split_of (question_limits question) whole)

-- What is said over a chain that has joined: the text, how far was read and written, and what was answered.
pub record AnswersQuestion (question : Question) (chain : Chain) (given : List ℕ) (left : Option (List ℕ)) (taken : List ℕ) (status : Status) : Type 0 where
  pub text : MatchesReportOf (full question chain) given left taken status
  pub order : AnswersInOrder question given left taken status
  pub answers : IsOneOf (Done ∷ SomeRefused ∷ []) status → taken ≡ text_of (full question chain given)

-- What a question delivers, and what it answered over a store that is sound: the report on what was given, also of a source that does not
-- tell what is left.
pub record DeliversAnswer (question : Question) (reads : Option Image) (at_start at_exit meanwhile : Image → Type 0) (left : Option (List ℕ)) (given taken : List ℕ) (status : Status) : Type 0 where
  pub delivers : DeliversCommand (commands.Question question) reads at_start at_exit meanwhile left given taken status
  pub answers : (now : Image) (chain : Chain) → reads ≡ Some now → StandsFor chain now → IsOneOf (Done ∷ SomeRefused ∷ []) status
      → taken ≡ text_of (full question chain given)
