-- What was given and taken at each exit of `import`, against the report of the whole input.
use Rattle.std.proofs.Common.{◌≡◌, ◌⊎◌, inl, inr, ℕ, ◌-◌, ◌≤◌, List, [], ◌∷◌, ◌++◌, length, take, refl, ap, sym, ◌∙◌, subst, arith, append_assoc, append-nil, length-append}
use Rattle.std.specs.Prelude.{Option, Some, if◌then◌else◌}
use Rattle.std.specs.List.{concat}
use Rattle.std.specs.Io.KnownBytes.{IsAtEnd}
use Rattle.outside.specs.Image.{Image}
use Rattle.outside.specs.Disk.{LeavesOnly}
use Rattle.verdict_defs.specs.Chain.{Chain, chain_over, verdicts_over}
use Rattle.store_defs.specs.Store.{StandsFor}
use Rattle.report_defs.specs.declared.status.Status.{Status}
use Rattle.report_defs.specs.declared.status.Status.TheVariants.{Done, SomeRefused}
use Rattle.report_defs.specs.Status.{IsOneOf}
use Rattle.report_defs.specs.Items.{Split, split_of, end_offset}
use Rattle.report_defs.specs.Report.{Report, text_of, item_limit, import_limits, lines_over, closing_of_end, status_of_end, status_of_verdicts, line_over, report_of_import}
use Rattle.report_defs.specs.Promise.{IsPrefix, WritesInOrder, AreWholeLines, ImportsInOrder, IsStoppedBeforeTheSink, all_but_last}
use Rattle.report_defs.specs.Survival.{Each, IsKeptPrefix, KeepsStore}
use Rattle.report_defs.proofs.ItemLemmas.{split_of-is, split_of-append}
use Rattle.run_text.proofs.Reading.{few_partial}
use Rattle.run_text.specs.Output.{MatchesReportOf, IsPartOf, IsWrittenAnswer, IsStop, text_over}
use Rattle.run_import.specs.Import.{AreGiven, KeepsSome, IsEnded, IsStopped}
use Rattle.run_import.specs.declared.importing.Ended.{Ended}
use Rattle.run_import.proofs.LineLemmas.{prefix_refl, prefix_trans, prefix_front, prefix_behind, lines-push, lines-append, lines_front, but_the_last, take_all, take_prefix, prefix_of_part}
use Rattle.run_text.proofs.LineLemmas.{prefix_of_all}
use Rattle.run_import.proofs.KeptLemmas.{keeps_imported}
use Rattle.run_text.proofs.Statuses.{stop_not_reported, stop_not_done, stop_not_ended, not_early}
use Rattle.run_import.proofs.Statuses.{end_not_early, of_end, only_at_end}

-- the report of an import, and what it is held against
abbrev pub report_on : Option (List ℕ) → Chain → List ℕ → Report
report_on watched chain whole = report_of_import watched chain (split_of import_limits whole)

-- ---- What was given, cut by itself

pub split_is : (items : List (List ℕ)) (rest given : List ℕ) → (are : AreGiven items rest given)
    → split_of import_limits given ≡ record { items = items; rest = rest; end = are.partial.end }
split_is items rest given are = split_of-is import_limits given (record { items = items; rest = rest; end = are.partial.end }) (record {
  whole = are.whole;
  items = are.all;
  within = are.within;
  ends = are.partial.ends;
})

parted : (items : List (List ℕ)) (rest given more : List ℕ) → AreGiven items rest given → given ++ more ≡ concat items ++ (rest ++ more)
parted items rest given more are = ap (λ bs. bs ++ more) are.whole ∙ append_assoc (concat items) rest more

-- the lines of what was given stand at the start of the report's text, whatever follows
lines_begin : (watched : Option (List ℕ)) (chain : Chain) (items : List (List ℕ)) (rest given more : List ℕ) → AreGiven items rest given
    → IsPrefix (text_over watched chain items) (text_of (report_on watched chain (given ++ more)))
lines_begin watched chain items rest given more are =
    let found = split_of-append import_limits items (rest ++ more) are.all are.within in
    rw (parted items rest given more are, found.2)
    (prefix_trans (text_over watched chain items) (text_over watched chain (items ++ found.0.items))
    (text_over watched chain (items ++ found.0.items) ++ closing_of_end (length (concat (items ++ found.0.items))) found.0.end)
    (text_over watched (chain_over chain items) found.0.items, lines-append watched chain items found.0.items)
    (prefix_front (text_over watched chain (items ++ found.0.items)) (closing_of_end (length (concat (items ++ found.0.items))) found.0.end)))

-- nothing was given
pub none_given : AreGiven [] [] []
none_given = record { whole = refl; all = tt; within = omega arith; partial = few_partial item_limit import_limits.input 0 [] (omega arith) }

-- ---- Stopped among the items

module _ (watched : Option (List ℕ)) (chain : Chain) (status : Status) (items before : List (List ℕ)) (rest taken : List ℕ) where
  taken_front : IsStopped watched chain status items before rest taken → IsPrefix taken (text_over watched chain items)
  taken_front stopped = rw stopped.taken_is (elim stopped.last [
    | inl none ↦
        let all : text_over watched chain before ++ stopped.part ≡ text_over watched chain items =
        ap (λ bs. text_over watched chain before ++ bs) none.1 ∙ append-nil (text_over watched chain before) ∙ sym (ap (text_over watched chain) none.0) in
        subst (IsPrefix (text_over watched chain before ++ stopped.part)) all (prefix_refl (text_over watched chain before ++ stopped.part))
    | inr last ↦
        rw (last.1, lines-push) (prefix_behind (text_over watched chain before) stopped.part (line_over watched (chain_over chain before) last.0) last.3.prefix)
  ])

  stopped_writes : IsStopped watched chain status items before rest taken → WritesInOrder watched chain items rest taken
  stopped_writes stopped = rw stopped.taken_is (elim stopped.last [
    | inl none ↦ record {
      lines = rw none.0 (prefix_trans (text_over watched chain (all_but_last before)) (text_over watched chain before) (text_over watched chain before ++ stopped.part)
          (lines_front watched chain (length before - 1) before) (prefix_front (text_over watched chain before) stopped.part));
      lines_first = λ more. rw none.0 (prefix_front (text_over watched chain before) stopped.part);
    }
    | inr last ↦ record {
      lines = rw (last.1, but_the_last) (prefix_front (text_over watched chain before) stopped.part);
      lines_first = λ more. absurd (omega (arith, more, ap length last.2));
    }
  ])

  pub stopped_take : IsStopped watched chain status items before rest taken → take (length before) items ≡ before
  stopped_take stopped = elim stopped.last [
    | inl none ↦ ap (take (length before)) none.0 ∙ take_all before
    | inr last ↦ ap (take (length before)) last.1 ∙ take_prefix before (last.0 ∷ [])
  ]

  pub stopped_acknowledges : IsStopped watched chain status items before rest taken → IsKeptPrefix watched chain items taken (length before)
  stopped_acknowledges stopped = elim stopped.last [
    | inl none ↦ subst (λ xs. IsKeptPrefix watched chain items taken (length xs)) none.0 (prefix_of_all watched chain items taken (inl (taken_front stopped)))
    | inr last ↦ rw (stopped.taken_is, last.1) (prefix_of_part watched chain before last.0 stopped.part last.3)
  ]

  whole_lines : IsStopped watched chain status items before rest taken → IsStoppedBeforeTheSink status → AreWholeLines watched chain items taken
  whole_lines stopped early = (
    length before,
    stopped.taken_is ∙ ap (λ bs. text_over watched chain before ++ bs) (stopped.silent early) ∙ append-nil (text_over watched chain before) ∙ sym (ap (text_over watched chain) (stopped_take stopped)),
  )

pub stopped_import : (watched : Option (List ℕ)) (chain : Chain) (items before : List (List ℕ)) (rest given taken : List ℕ) (left : Option (List ℕ)) (status : Status)
    → AreGiven items rest given → IsStopped watched chain status items before rest taken
    → MatchesReportOf (report_on watched chain) given left taken status × ImportsInOrder watched chain given left taken status
stopped_import watched chain items before rest given taken left status are stopped =
    let split = split_is items rest given are in (
      record {
        prefix = λ more is. prefix_trans taken (text_over watched chain items) (text_of (report_on watched chain (given ++ more)))
            (taken_front watched chain status items before rest taken stopped) (lines_begin watched chain items rest given more are);
        whole_text = λ more is told. absurd (stop_not_reported status stopped.stop told);
        same_status = λ more is told. absurd (stop_not_reported status stopped.stop told);
      },
      record {
        written = rw split (stopped_writes watched chain status items before rest taken stopped);
        whole_lines = λ early. rw split (whole_lines watched chain status items before rest taken stopped early);
        to_end = λ told. absurd (stop_not_done status stopped.stop told);
        to_early_end = λ told. absurd (stop_not_ended status stopped.stop told);
        no_further = rw split are.partial.word;
      },
    )

-- ---- After the items

module _ (watched : Option (List ℕ)) (chain : Chain) (left : Option (List ℕ)) (ended : Ended) (items : List (List ℕ)) (rest given taken : List ℕ)
    (are : AreGiven items rest given) (end : IsEnded watched chain left ended items rest taken) where
  split_ends : (more : List ℕ) → left ≡ Some more → split_of import_limits (given ++ more) ≡ record { items = items; rest = rest ++ more; end = ended.end }
  split_ends more is = split_of-is import_limits (given ++ more) (record { items = items; rest = rest ++ more; end = ended.end }) (record {
    whole = parted items rest given more are;
    items = are.all;
    within = are.within;
    ends = end.ends.ends more is;
  })

  says : (more : List ℕ) → left ≡ Some more → report_on watched chain (given ++ more) ≡ record {
    lines = lines_over watched chain items;
    closing = closing_of_end (length (concat items)) ended.end;
    status = status_of_end (status_of_verdicts (verdicts_over chain items)) ended.end;
  }
  says more is = ap (report_of_import watched chain) (split_ends more is)

  -- the run was stopped where its closing text is made
  pub stopped_behind : (status : Status) → IsStop status → IsStopped watched chain status items items rest taken
  stopped_behind status stop = record {
    stop = stop;
    part = [];
    taken_is = end.lines ∙ sym (append-nil (text_over watched chain items));
    silent = λ early. refl;
    last = inl (refl, refl);
  }

  ended_writes : (behind : List ℕ) → WritesInOrder watched chain items rest (taken ++ behind)
  ended_writes behind = rw end.lines (record {
    lines = prefix_trans (text_over watched chain (all_but_last items)) (text_over watched chain items) (text_over watched chain items ++ behind)
        (lines_front watched chain (length items - 1) items) (prefix_front (text_over watched chain items) behind);
    lines_first = λ more. prefix_front (text_over watched chain items) behind;
  })

  reads_enough : (more : List ℕ) → left ≡ Some more → end_offset (split_of import_limits (given ++ more)) ≤ length given
  reads_enough more is = rw (split_ends more is) (omega (arith, ap length are.whole, length-append (concat items) rest))

  whole_report : (written : List ℕ) → written ≡ closing_of_end ended.offset ended.end
      → (more : List ℕ) → left ≡ Some more → taken ++ written ≡ text_of (report_on watched chain (given ++ more))
  whole_report written is more known =
      ap (λ bs. bs ++ written) end.lines ∙ ap (λ bs. text_over watched chain items ++ bs) (is ∙ ap (λ n. closing_of_end n ended.end) end.offset)
      ∙ sym (ap (λ (r : Report). text_of r) (says more known))

  front_report : (written : List ℕ) → IsPartOf (closing_of_end ended.offset ended.end) written
      → (more : List ℕ) → left ≡ Some more → IsPrefix (taken ++ written) (text_of (report_on watched chain (given ++ more)))
  front_report written part more known =
      let is : text_over watched chain items ++ closing_of_end (length (concat items)) ended.end ≡ text_of (report_on watched chain (given ++ more)) =
      sym (ap (λ (r : Report). text_of r) (says more known)) in
      let begins : IsPrefix (text_over watched chain items ++ written) (text_over watched chain items ++ closing_of_end (length (concat items)) ended.end) =
      prefix_behind (text_over watched chain items) written (closing_of_end (length (concat items)) ended.end)
      (subst (λ n. IsPrefix written (closing_of_end n ended.end)) end.offset part.prefix) in
      subst (IsPrefix (taken ++ written)) is (subst (λ bs. IsPrefix (bs ++ written) (text_over watched chain items ++ closing_of_end (length (concat items)) ended.end)) (sym end.lines) begins)

  abbrev pub last_status : Status
  last_status = status_of_end (if ended.refused then SomeRefused else Done) ended.end

  at_end : IsOneOf (Done ∷ SomeRefused ∷ []) last_status → IsAtEnd left
  at_end told = end.ends.to_end (only_at_end ended.refused ended.end told)

  pub ended_import : (written : List ℕ) (status : Status) → IsWrittenAnswer (closing_of_end ended.offset ended.end) last_status status written
      → MatchesReportOf (report_on watched chain) given left (taken ++ written) status × ImportsInOrder watched chain given left (taken ++ written) status
  ended_import written status (inl told) =
      let split = split_is items rest given are in (
        record {
          prefix = λ more is. ([], sym (whole_report written told.0 more is) ∙ sym (append-nil (taken ++ written)));
          whole_text = λ more is reported. whole_report written told.0 more is;
          same_status = λ more is reported.
              told.1 ∙ ap (λ b. status_of_end (if b then SomeRefused else Done) ended.end) end.refused ∙ sym (ap (λ (r : Report). r.status) (says more is));
        },
        record {
          written = rw split (ended_writes written);
          whole_lines = λ early. absurd (end_not_early last_status (of_end ended.refused ended.end) (subst (λ s. IsStoppedBeforeTheSink s) told.1 early));
          to_end = λ done. at_end (subst (λ s. IsOneOf (Done ∷ SomeRefused ∷ []) s) told.1 done);
          to_early_end = λ early. reads_enough;
          no_further = rw split are.partial.word;
        },
      )
  ended_import written status (inr short) =
      let split = split_is items rest given are in
      let stop : IsStop status = subst IsStop (sym short.1) tt in (
        record {
          prefix = λ more is. front_report written short.0 more is;
          whole_text = λ more is told. absurd (stop_not_reported status stop told);
          same_status = λ more is told. absurd (stop_not_reported status stop told);
        },
        record {
          written = rw split (ended_writes written);
          whole_lines = λ early. absurd (not_early status short.1 early);
          to_end = λ told. absurd (stop_not_done status stop told);
          to_early_end = λ told. absurd (stop_not_ended status stop told);
          no_further = rw split are.partial.word;
        },
      )

-- ---- What a crash leaves

module _ {D : Type 0} (images : D → Image → Type 0) (moment : D → ℕ) (left_since : D → ℕ → Image → Type 0)
    (counts_now : (disk : D) (t : ℕ) (image : Image) → t ≤ moment disk → images disk image → left_since disk t image) where
  -- of the items that were given
  pub keeps_given : (watched : Option (List ℕ)) (old mid new : D) (chain : Chain) (items before : List (List ℕ)) (rest given taken : List ℕ) (status : Status) → AreGiven items rest given
      → IsKeptPrefix watched chain items taken (length before) → take (length before) items ≡ before
      → LeavesOnly moment left_since old mid (λ image. images old image ⊎ StandsFor chain image)
      → Each (images new) (λ image. StandsFor (chain_over chain before) image ⊎ StandsFor (chain_over chain items) image)
      → LeavesOnly moment left_since mid new (KeepsSome chain items)
      → KeepsStore watched chain (split_of import_limits given).items taken status (images old) (images new) (left_since new (moment old))
  keeps_given watched old mid new chain items before rest given taken status are front is opened exit moments =
      subst (λ (s : Split). KeepsStore watched chain s.items taken status (images old) (images new) (left_since new (moment old))) (sym (split_is items rest given are))
      (keeps_imported images moment left_since counts_now watched old mid new chain items before taken status front is opened exit moments)

  -- where all of them were answered
  pub keeps_all_given : (watched : Option (List ℕ)) (old mid new : D) (chain : Chain) (items before : List (List ℕ)) (rest given taken : List ℕ) (status : Status) → AreGiven items rest given
      → items ≡ before → (written : List ℕ) → taken ≡ text_over watched chain items ++ written
      → LeavesOnly moment left_since old mid (λ image. images old image ⊎ StandsFor chain image)
      → Each (images new) (λ image. StandsFor (chain_over chain before) image ⊎ StandsFor (chain_over chain items) image)
      → LeavesOnly moment left_since mid new (KeepsSome chain items)
      → KeepsStore watched chain (split_of import_limits given).items taken status (images old) (images new) (left_since new (moment old))
  keeps_all_given watched old mid new chain items before rest given taken status are same written answered opened exit moments =
      keeps_given watched old mid new chain items items rest given taken status are (prefix_of_all watched chain items taken (inr (written, answered))) (take_all items) opened
      (subst (λ xs. Each (images new) (λ image. StandsFor (chain_over chain xs) image ⊎ StandsFor (chain_over chain items) image)) (sym same) exit) moments

-- the order of a run that was stopped before a byte was read
pub stopped_at_once : (watched : Option (List ℕ)) (chain : Chain) (left : Option (List ℕ)) (status : Status) → IsStop status → ImportsInOrder watched chain [] left [] status
stopped_at_once watched chain left status stop = (stopped_import watched chain [] [] [] [] [] left status none_given (record {
  stop = stop;
  part = [];
  taken_is = refl;
  silent = λ early. refl;
  last = inl (refl, refl);
})).1
