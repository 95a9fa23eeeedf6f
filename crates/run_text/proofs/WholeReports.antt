-- What is printed of an input that is read whole, at each exit: for `init` and for each question.
use Rattle.std.proofs.Common.{◌≡◌, inl, inr, ℕ, ◌≤◌, false, List, [], ◌++◌, length, slice_get, refl, ap, sym, ◌∙◌, subst, arith, append-nil}
use Rattle.std.specs.Prelude.{Option, Some, None, nat_lt}
use Rattle.std.specs.List.{concat}
use Rattle.std.specs.Io.KnownBytes.{IsAtEnd}
use Rattle.std.proofs.lemmas.Bool.Decides.{nat_tests}
use Rattle.report_defs.specs.declared.status.Status.{Status}
use Rattle.report_defs.specs.declared.status.Status.TheVariants.{Done, SomeRefused, InputFault, SinkFault, DiskFault, NoMemory, BadGenesis}
use Rattle.report_defs.specs.declared.end.End.{End}
use Rattle.report_defs.specs.declared.end.End.TheVariants as ends
use Rattle.report_defs.specs.Status.{IsOneOf}
use Rattle.report_defs.specs.Items.{split_of, end_offset, whole_limits, ReadsNoFurther}
use Rattle.report_defs.specs.Report.{Report, text_of, status_of_end, report_of_end, report_at_end, report_of_whole}
use Rattle.report_defs.specs.Promise.{IsPrefix, ReadsWhole, IsStoppedBeforeTheSink}
use Rattle.report_defs.proofs.ItemLemmas.{split_of-is, end_at-nothing}
use Rattle.run_text.specs.Whole.{IsWhole, EndsEarly}
use Rattle.run_text.proofs.Reading.{left_nothing}
use Rattle.run_text.proofs.FurtherLemmas.{items_no_further}
use Rattle.run_text.specs.Output.{IsStop, MatchesReportOf, IsSaid, IsWrittenAnswer, IsWritingStop}
use Rattle.run_text.proofs.Statuses.{Have, each_of, IsEarly, is_early, not_early, stop_not_reported, stop_not_ended, writing_stops}

-- ---- The report

-- of all of an input
abbrev pub whole_report : List ℕ → ℕ → (List (List ℕ) → Report) → List ℕ → Report
whole_report limits needed judged whole = report_of_whole needed judged (split_of (whole_limits limits) whole)

pub all_given : (left : Option (List ℕ)) (given more : List ℕ) → IsAtEnd left → left ≡ Some more → given ++ more ≡ given
all_given left given more at_end is = ap (λ bs. given ++ bs) (left_nothing left more at_end is) ∙ append-nil given

pub whole_split : (limits : List ℕ) (needed : ℕ) (left : Option (List ℕ)) (items : List (List ℕ)) (given : List ℕ) → IsWhole limits needed left items given
    → split_of (whole_limits limits) given ≡ record { items = items; rest = []; end = ends.AtEnd }
whole_split limits needed left items given whole = split_of-is (whole_limits limits) given (record { items = items; rest = []; end = ends.AtEnd }) (record {
  whole = whole.same ∙ sym (append-nil (concat items));
  items = whole.all;
  within = tt;
  ends = end_at-nothing (slice_get limits (length items)) None (length (concat items));
})

pub whole_no_further : (limits : List ℕ) (needed : ℕ) (left : Option (List ℕ)) (items : List (List ℕ)) (given : List ℕ) → IsWhole limits needed left items given
    → ReadsNoFurther (whole_limits limits) given
whole_no_further limits needed left items given whole = items_no_further (whole_limits limits) items whole.all tt given whole.same

-- what is said of a whole input is said of its items
pub report_of_all : (limits : List ℕ) (needed : ℕ) (judged : List (List ℕ) → Report) (left : Option (List ℕ)) (items : List (List ℕ)) (given : List ℕ) → IsWhole limits needed left items given
    → whole_report limits needed judged given ≡ judged items
report_of_all limits needed judged left items given whole =
    let count : needed ≤ length items = whole.count in
    let test : nat_lt (length items) needed ≡ false = grind (arith, nat_tests) in
    ap (report_of_whole needed judged) (whole_split limits needed left items given whole) ∙ rw test refl

early_report : (judged : Report) (offset : ℕ) (end : End) → (end ≡ ends.AtEnd → ⊥) → report_at_end judged offset end ≡ report_of_end offset end
early_report judged offset ends.AtEnd early = absurd (early refl)
early_report judged offset ends.Cut early = refl
early_report judged offset ends.BadSize early = refl
early_report judged offset ends.Extra early = refl

-- and of one that ends early its end
pub report_of_early : (limits : List ℕ) (needed : ℕ) (judged : List (List ℕ) → Report) (left : Option (List ℕ)) (end : End) (offset : ℕ) (given : List ℕ)
    → EndsEarly limits needed left end offset given → (more : List ℕ) → left ≡ Some more → whole_report limits needed judged (given ++ more) ≡ report_of_end offset end
report_of_early limits needed judged left end offset given here more is =
    let split = split_of (whole_limits limits) (given ++ more) in
    ap (λ (e : End). report_at_end (judged split.items) (end_offset split) e) (here.ends more is)
    ∙ ap (λ (n : ℕ). report_at_end (judged split.items) n end) (here.there more is)
    ∙ early_report (judged split.items) offset end here.early

-- ---- Statuses of what was judged

abbrev pub IsJudged : Status → Type 0
IsJudged Done = Unit {0}
IsJudged SomeRefused = Unit {0}
IsJudged BadGenesis = Unit {0}
IsJudged _ = ⊥

pub stop_not_judged : (status : Status) → IsStop status → IsJudged status → ⊥
stop_not_judged InputFault stop judged = judged
stop_not_judged SinkFault stop judged = judged
stop_not_judged DiskFault stop judged = judged
stop_not_judged NoMemory stop judged = judged
stop_not_judged _ stop judged = absurd stop

end_not_judged : (end : End) → (end ≡ ends.AtEnd → ⊥) → IsJudged (status_of_end Done end) → ⊥
end_not_judged ends.AtEnd early judged = early refl
end_not_judged ends.Cut early judged = judged
end_not_judged ends.BadSize early judged = judged
end_not_judged ends.Extra early judged = judged

pub end_no_stop : (end : End) → IsEarly (status_of_end Done end) → ⊥
end_no_stop ends.AtEnd stop = stop
end_no_stop ends.Cut stop = stop
end_no_stop ends.BadSize stop = stop
end_no_stop ends.Extra stop = stop

-- ---- A report that was printed, or a part of it

pub told_said : (report : Report) (text : List ℕ) (status result : Status) (taken : List ℕ) → text ≡ text_of report → status ≡ report.status
    → IsWrittenAnswer text status result taken → IsSaid report result taken
told_said report text status result taken text_is status_is (inl told) = inl (told.0 ∙ text_is, told.1 ∙ status_is)
told_said report text status result taken text_is status_is (inr failed) =
    inr (record {
      stop = subst IsWritingStop (sym failed.1) tt;
      prefix = subst (IsPrefix taken) text_is failed.0.prefix;
      silent = λ early. absurd (not_early result failed.1 early);
    })

pub said_text : (full : List ℕ → Report) (report : Report) (left : Option (List ℕ)) (given taken : List ℕ) (status : Status) → IsSaid report status taken
    → ((more : List ℕ) → left ≡ Some more → full (given ++ more) ≡ report) → MatchesReportOf full given left taken status
said_text full report left given taken status (inl said) says = record {
  prefix = λ more is. subst (IsPrefix taken) (said.0 ∙ sym (ap (λ (r : Report). text_of r) (says more is))) ([], sym (append-nil taken));
  whole_text = λ more is told. said.0 ∙ sym (ap (λ (r : Report). text_of r) (says more is));
  same_status = λ more is told. said.1 ∙ sym (ap (λ (r : Report). r.status) (says more is));
}
said_text full report left given taken status (inr part) says = record {
  prefix = λ more is. subst (IsPrefix taken) (sym (ap (λ (r : Report). text_of r) (says more is))) part.prefix;
  whole_text = λ more is told. absurd (stop_not_reported status (writing_stops status part.stop) told);
  same_status = λ more is told. absurd (stop_not_reported status (writing_stops status part.stop) told);
}

said_silent : (report : Report) (status : Status) (taken : List ℕ) → IsSaid report status taken → (IsEarly report.status → ⊥) → IsStoppedBeforeTheSink status → taken ≡ []
said_silent report status taken (inl said) never early = absurd (never (subst IsEarly said.1 (is_early status early)))
said_silent report status taken (inr part) never early = part.silent early

-- it was printed whole where the status is of what was judged
pub all_said : (report : Report) (status : Status) (taken : List ℕ) → IsSaid report status taken → IsJudged status → taken ≡ text_of report
all_said report status taken (inl said) judged = said.0
all_said report status taken (inr part) judged = absurd (stop_not_judged status (writing_stops status part.stop) judged)

pub early_not_judged : (end : End) (offset : ℕ) (status : Status) (taken : List ℕ) → (end ≡ ends.AtEnd → ⊥) → IsSaid (report_of_end offset end) status taken
    → IsJudged status → ⊥
early_not_judged end offset status taken early (inl said) judged = end_not_judged end early (subst IsJudged said.1 judged)
early_not_judged end offset status taken early (inr part) judged = stop_not_judged status (writing_stops status part.stop) judged

-- ---- The exits

module _ (limits : List ℕ) (needed : ℕ) (judged : List (List ℕ) → Report) (statuses : List Status) (are : Have IsJudged statuses) where
  is_judged : (status : Status) → IsOneOf statuses status → IsJudged status
  is_judged status one = each_of IsJudged statuses status are one

  -- the run was stopped before the sink
  pub whole_stopped : (left : Option (List ℕ)) (given : List ℕ) (status : Status) → IsStop status → ReadsNoFurther (whole_limits limits) given
      → MatchesReportOf (whole_report limits needed judged) given left [] status × ReadsWhole (whole_limits limits) statuses given left [] status
  whole_stopped left given status stop no_further = (
    record {
      prefix = λ more is. (text_of (whole_report limits needed judged (given ++ more)), refl);
      whole_text = λ more is told. absurd (stop_not_reported status stop told);
      same_status = λ more is told. absurd (stop_not_reported status stop told);
    },
    record {
      to_end = λ told. absurd (stop_not_judged status stop (is_judged status told));
      to_early_end = λ told. absurd (stop_not_ended status stop told);
      no_further = no_further;
      silent = λ early. refl;
    },
  )

  -- the input ends early
  pub whole_early : (left : Option (List ℕ)) (given taken : List ℕ) (end : End) (offset : ℕ) (status : Status)
      → EndsEarly limits needed left end offset given → IsSaid (report_of_end offset end) status taken
      → MatchesReportOf (whole_report limits needed judged) given left taken status × ReadsWhole (whole_limits limits) statuses given left taken status
  whole_early left given taken end offset status here said = (
    said_text (whole_report limits needed judged) (report_of_end offset end) left given taken status said (report_of_early limits needed judged left end offset given here),
    record {
      to_end = λ told. absurd (early_not_judged end offset status taken here.early said (is_judged status told));
      to_early_end = λ told more is. subst (λ (n : ℕ). n ≤ length given) (sym (here.there more is)) here.enough;
      no_further = here.no_further;
      silent = said_silent (report_of_end offset end) status taken said (end_no_stop end);
    },
  )

  -- its items were judged
  pub whole_judged : (left : Option (List ℕ)) (items : List (List ℕ)) (given taken : List ℕ) (status : Status)
      → IsWhole limits needed left items given → IsSaid (judged items) status taken → (IsEarly (judged items).status → ⊥)
      → MatchesReportOf (whole_report limits needed judged) given left taken status × ReadsWhole (whole_limits limits) statuses given left taken status
  whole_judged left items given taken status whole said never = (
    said_text (whole_report limits needed judged) (judged items) left given taken status said
        (λ more is. ap (whole_report limits needed judged) (all_given left given more whole.to_end is) ∙ report_of_all limits needed judged left items given whole),
    record {
      to_end = λ told. whole.to_end;
      to_early_end = λ told more is. rw (all_given left given more whole.to_end is, whole_split limits needed left items given whole)
          (omega (arith, ap length whole.same));
      no_further = whole_no_further limits needed left items given whole;
      silent = said_silent (judged items) status taken said never;
    },
  )
