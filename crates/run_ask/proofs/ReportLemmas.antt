-- What is reported of an input whose lines were answered one after another.
use Rattle.std.proofs.Common.{◌≡◌, ℕ, zero, suc, ◌+◌, ◌<◌, ◌≤◌, Bool, true, false, List, [], ◌∷◌, ◌++◌, map, length, take, refl, ap, sym, ◌∙◌, subst, arith, append_assoc, append-nil}
use Rattle.std.specs.Prelude.{Option, Some, nat_lt}
use Rattle.std.specs.List.{concat}
use Rattle.std.specs.Io.KnownBytes.{IsAtEnd}
use Rattle.std.proofs.lemmas.Bool.{ltb-true, ltb-false}
use Rattle.std.proofs.Math.Seq.{take-append_seam}
use Rattle.std.proofs.lemmas.List.{map-append}
use Rattle.std.proofs.lemmas.List.Folds.{concat-append}
use Rattle.verdict_defs.specs.Chain.{Chain}
use Rattle.report_defs.specs.declared.status.Status.{Status}
use Rattle.report_defs.specs.declared.status.Status.TheVariants.{Done, BadSize}
use Rattle.report_defs.specs.Report.{Report, text_of}
use Rattle.report_defs.specs.Promise.{IsPrefix, IsStoppedBeforeTheSink}
use Rattle.run_text.specs.Output.{IsStop, MatchesReportOf}
use Rattle.run_text.proofs.Statuses.{stop_not_reported}
use Rattle.ask_defs.specs.Lines.{line_limit, lines_of, AreLines, spelled}
use Rattle.ask_defs.specs.Answers.{answer}
use Rattle.ask_defs.specs.Promise.{answers, answer_first, line_count, report_of_lines, ask_report, AsksInOrder}
use Rattle.run_ask.proofs.LineLemmas.{lines_spelled, HoldsNoMore, cut_before, AreShort, short_last}

-- ---- Lists

pub answers_append : (chain : Chain) (lines more : List (List ℕ)) → answers chain (lines ++ more) ≡ answers chain lines ++ answers chain more
answers_append chain lines more = ap concat (map-append (answer chain) lines more) ∙ concat-append (map (answer chain) lines) (map (answer chain) more)

pub answers_push : (chain : Chain) (lines : List (List ℕ)) (line : List ℕ) → answers chain (lines ++ line ∷ []) ≡ answers chain lines ++ answer chain line
answers_push chain lines line = answers_append chain lines (line ∷ []) ∙ ap (λ (l : List ℕ). answers chain lines ++ l) (append-nil (answer chain line))

-- ---- The report

-- one line more is answered
first_answered : (chain : Chain) (more : ℕ) (line : List ℕ) (later : List (List ℕ)) → length line ≤ line_limit
    → report_of_lines chain (line ∷ later) (suc more) ≡ answer_first (answer chain line) (report_of_lines chain later more)
first_answered chain more line later short = by_test (nat_lt line_limit (length line)) refl
  where
    by_test : (t : Bool) → nat_lt line_limit (length line) ≡ t
        → report_of_lines chain (line ∷ later) (suc more) ≡ answer_first (answer chain line) (report_of_lines chain later more)
    by_test true is = absurd (omega (arith, ltb-true line_limit (length line) is, short))
    by_test false is = rw is refl

-- a line that is too long ends it
pub long_ends : (chain : Chain) (more : ℕ) (line : List ℕ) (later : List (List ℕ)) → line_limit < length line
    → (text_of (report_of_lines chain (line ∷ later) (suc more)) ≡ []) × ((report_of_lines chain (line ∷ later) (suc more)).status ≡ BadSize)
long_ends chain more line later long = by_test (nat_lt line_limit (length line)) refl
  where
    by_test : (t : Bool) → nat_lt line_limit (length line) ≡ t
        → (text_of (report_of_lines chain (line ∷ later) (suc more)) ≡ []) × ((report_of_lines chain (line ∷ later) (suc more)).status ≡ BadSize)
    by_test false is = absurd (omega (arith, ltb-false line_limit (length line) is, long))
    by_test true is = rw is (refl, refl)

pub line_answered : (chain : Chain) (more : ℕ) (line : List ℕ) (later : List (List ℕ)) → length line ≤ line_limit
    → (text_of (report_of_lines chain (line ∷ later) (suc more)) ≡ answer chain line ++ text_of (report_of_lines chain later more))
    × ((report_of_lines chain (line ∷ later) (suc more)).status ≡ (report_of_lines chain later more).status)
line_answered chain more line later short =
    let is = first_answered chain more line later short in
    let rest = report_of_lines chain later more in (
      ap (λ (r : Report). text_of r) is ∙ append_assoc (answer chain line) (concat rest.lines) rest.closing,
      ap (λ (r : Report). r.status) is,
    )

-- some lines are answered, and then the others are reported
pub lines_answered : (chain : Chain) (all more : ℕ) (lines later : List (List ℕ)) → AreLines lines → all ≡ length lines + more
    → (text_of (report_of_lines chain (lines ++ later) all) ≡ answers chain lines ++ text_of (report_of_lines chain later more))
    × ((report_of_lines chain (lines ++ later) all).status ≡ (report_of_lines chain later more).status)
lines_answered chain all more [] later are counted =
    let same : more ≡ all = omega (arith, counted) in
    subst (λ (n : ℕ). (text_of (report_of_lines chain later n) ≡ text_of (report_of_lines chain later more))
    × ((report_of_lines chain later n).status ≡ (report_of_lines chain later more).status)) same (refl, refl)
lines_answered chain zero more (line ∷ lines) later are counted = absurd (omega (arith, counted))
lines_answered chain (suc all) more (line ∷ lines) later are counted =
    let one = line_answered chain all line (lines ++ later) are.0.short in
    let rest = lines_answered chain all more lines later are.1 (omega (arith, counted)) in (
      one.0 ∙ ap (λ (l : List ℕ). answer chain line ++ l) rest.0
          ∙ sym (append_assoc (answer chain line) (answers chain lines) (text_of (report_of_lines chain later more))),
      one.1 ∙ rest.1,
    )

-- ---- What was read and answered

-- Whole lines were read and answered, so many more may be, and after them bytes were read and some written.
pub record HasAnswered (chain : Chain) (given taken : List ℕ) (more : ℕ) (next part : List ℕ) : Type 0 where
  pub lines : List (List ℕ)
  pub all : AreLines lines
  pub given_is : given ≡ spelled lines ++ next
  pub taken_is : taken ≡ answers chain lines ++ part
  pub counted : line_count ≡ length lines + more

module _ (chain : Chain) (given taken : List ℕ) (more : ℕ) (next part : List ℕ) (has : HasAnswered chain given taken more next part) where
  -- the lines of what was given, whatever follows it
  lines_are : (later : List ℕ) → lines_of (given ++ later) ≡ has.lines ++ lines_of (next ++ later)
  lines_are later =
      ap lines_of (ap (λ (l : List ℕ). l ++ later) has.given_is ∙ append_assoc (spelled has.lines) next later)
      ∙ lines_spelled has.lines (next ++ later) has.all

  pub lines_given : lines_of given ≡ has.lines ++ lines_of next
  lines_given = ap lines_of has.given_is ∙ lines_spelled has.lines next has.all

  -- the report of it
  report_is : (later : List ℕ)
      → (text_of (ask_report chain (given ++ later)) ≡ answers chain has.lines ++ text_of (report_of_lines chain (lines_of (next ++ later)) more))
      × ((ask_report chain (given ++ later)).status ≡ (report_of_lines chain (lines_of (next ++ later)) more).status)
  report_is later =
      subst (λ (them : List (List ℕ)). (text_of (report_of_lines chain them line_count) ≡ answers chain has.lines ++ text_of (report_of_lines chain (lines_of (next ++ later)) more))
      × ((report_of_lines chain them line_count).status ≡ (report_of_lines chain (lines_of (next ++ later)) more).status)) (sym (lines_are later))
      (lines_answered chain line_count more has.lines (lines_of (next ++ later)) has.all has.counted)

  -- it was stopped, where what was written is the start of what is reported of the rest
  pub stopped_text : (left : Option (List ℕ)) (status : Status) → IsStop status
      → ((later : List ℕ) → left ≡ Some later → IsPrefix part (text_of (report_of_lines chain (lines_of (next ++ later)) more)))
      → MatchesReportOf (ask_report chain) given left taken status
  stopped_text left status stop begins = record {
    prefix = λ later is.
        let rest = begins later is in (
          rest.0,
          (report_is later).0 ∙ ap (λ (l : List ℕ). answers chain has.lines ++ l) rest.1
              ∙ sym (append_assoc (answers chain has.lines) part rest.0) ∙ ap (λ (l : List ℕ). l ++ rest.0) (sym has.taken_is),
        );
    whole_text = λ later is told. absurd (stop_not_reported status stop told);
    same_status = λ later is told. absurd (stop_not_reported status stop told);
  }

  -- it ended, where what was written is what is reported of the rest
  pub ended_text : (left : Option (List ℕ)) (status : Status)
      → ((later : List ℕ) → left ≡ Some later → (text_of (report_of_lines chain (lines_of (next ++ later)) more) ≡ part)
      × ((report_of_lines chain (lines_of (next ++ later)) more).status ≡ status))
      → MatchesReportOf (ask_report chain) given left taken status
  ended_text left status ends = record {
    prefix = λ later is. ([], (report_is later).0 ∙ ap (λ (l : List ℕ). answers chain has.lines ++ l) (ends later is).0 ∙ sym has.taken_is ∙ sym (append-nil taken));
    whole_text = λ later is told. has.taken_is ∙ ap (λ (l : List ℕ). answers chain has.lines ++ l) (sym (ends later is).0) ∙ sym (report_is later).0;
    same_status = λ later is told. sym (ends later is).1 ∙ sym (report_is later).1;
  }

  -- the order in which it read and wrote
  pub in_order : (left : Option (List ℕ)) (status : Status) → HoldsNoMore next → AreShort (lines_of next) → (IsStoppedBeforeTheSink status → part ≡ []) → (status ≡ Done → IsAtEnd left)
      → AsksInOrder chain given left taken status
  in_order left status ends short silent at_end = record {
    answered_first = λ lines later is all some.
        let more = cut_before lines has.lines later next all has.all ends (sym is ∙ has.given_is) some in (
          answers chain more.0 ++ part,
          has.taken_is ∙ ap (λ (l : List ℕ). l ++ part) (ap (answers chain) more.1 ∙ answers_append chain lines more.0)
              ∙ append_assoc (answers chain lines) (answers chain more.0) part,
        );
    whole = λ early. (
      length has.lines,
      has.taken_is ∙ ap (λ (l : List ℕ). answers chain has.lines ++ l) (silent early) ∙ append-nil (answers chain has.lines)
          ∙ ap (answers chain) (sym (ap (take (length has.lines)) lines_given ∙ take-append_seam has.lines (lines_of next))),
    );
    to_end = at_end;
    no_further = λ lines later is all none. short_last has.lines next lines later has.all short all none (sym is ∙ has.given_is);
  }
