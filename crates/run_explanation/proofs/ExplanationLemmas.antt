-- What an explanation read, printed and left at each exit.
use Rattle.std.proofs.Common.{◌≡◌, ◌⊎◌, ℕ, ◌≤◌, List, [], ◌∷◌, ◌++◌, refl, ap, sym, ◌∙◌, subst, append_assoc}
use Rattle.std.specs.Prelude.{Option, Some, None, IfSome, Result, Ok, Err, IfOk, string_bytes}
use Rattle.std.specs.List.{concat}
use Rattle.outside.specs.Image.{Image}
use Rattle.outside.specs.Disk.{LeavesOnly, IsAsBefore, IsKnownAsBefore}
use Rattle.verdict_defs.specs.Chain.{Chain}
use Rattle.store_defs.specs.Store.{Store, NoLog, NotALog, Keeps, store_of, StandsFor, IsSound}
use Rattle.report_defs.specs.declared.end.End.{End}
use Rattle.report_defs.specs.declared.status.Status.{Status}
use Rattle.report_defs.specs.declared.status.Status.TheVariants.{Done, SomeRefused, DiskFault, NoMemory, NotAStore}
use Rattle.report_defs.specs.Status.{IsOneOf}
use Rattle.report_defs.specs.Items.{whole_limits, ReadsNoFurther}
use Rattle.report_defs.specs.Report.{Report, text_of, report_of_end}
use Rattle.report_defs.specs.Promise.{OverStore, IsSoundStoreOf}
use Rattle.run_text.specs.Whole.{IsWhole, EndsEarly}
use Rattle.run_text.specs.Output.{IsStop, IsSaid, IsWrittenAnswer}
use Rattle.run_text.specs.Store.{opening_stops}
use Rattle.run_text.proofs.FurtherLemmas.{items_no_further}
use Rattle.run_text.proofs.StoreLemmas.{if_told, opened_store, keeps_unopened, sound_opening, sound_here, by_disk_or_memory}
use Rattle.run_text.proofs.Statuses.{each_of, IsEarly, opening_stop}
use Rattle.run_text.proofs.WholeReports.{IsJudged, stop_not_judged, whole_stopped, whole_early, whole_judged, report_of_all, told_said, all_said, early_not_judged}
use Rattle.node_store.specs.Node.{NodeValue, IsSoundNode, IsSoundWhereTold, StandsOnDisk}
use Rattle.run_store.proofs.DiskLemmas.{found_sound}
use Rattle.run_store.proofs.LookLemmas.{keeps_looked}
use Rattle.run_explanation.specs.declared.asked.Asked.{Asked}
use Rattle.run_explanation.specs.declared.asked.Asked.TheVariants.{Check, Import}
use Rattle.run_explanation.specs.declared.said.Said.{Said}
use Rattle.run_explanation.specs.Explanation.{one_item, said_of, with_page, explained, ExplainsOver, Explains, IsLineOf}

-- ---- What is said

-- the first item decides
first_says : (asked : Asked) (chain : Chain) (first : List ℕ) (rest : List (List ℕ)) → said_of asked chain (first ∷ []) ≡ said_of asked chain (first ∷ rest)
first_says Check chain first rest = refl
first_says Import chain first rest = refl

pub first_decides : (asked : Asked) (chain : Chain) (first : List ℕ) (rest items : List (List ℕ)) (result : Result Said Status) → items ≡ first ∷ rest
    → IfOk result (λ said. IsLineOf asked chain (first ∷ []) (string_bytes said.line.text) said.line.status)
    → IfOk result (λ said. IsLineOf asked chain items (string_bytes said.line.text) said.line.status)
first_decides asked chain first rest items (Ok said) are is =
    let same : said_of asked chain (first ∷ []) ≡ said_of asked chain items = first_says asked chain first rest ∙ ap (said_of asked chain) (sym are) in
    record {
      line_is = is.line_is ∙ ap (λ (r : Report). text_of r) same;
      status_is = is.status_is ∙ ap (λ (r : Report). r.status) same;
    }
first_decides asked chain first rest items (Err status) are is = tt

-- a page stands below what is said
page_below : (page : List ℕ) (report : Report) → text_of (with_page page report) ≡ text_of report ++ page
page_below page report = sym (append_assoc (concat report.lines) report.closing page)

-- what is said of items, with a page
abbrev judged : List ℕ → Asked → Chain → List (List ℕ) → Report
judged page asked chain items = with_page page (said_of asked chain items)

-- the statuses of what was judged
done_judged : (status : Status) → IsOneOf (Done ∷ SomeRefused ∷ []) status → IsJudged status
done_judged status one = each_of IsJudged (Done ∷ SomeRefused ∷ []) status (tt, (tt, tt)) one

done_no_stop : (status : Status) → IsOneOf (Done ∷ SomeRefused ∷ []) status → IsEarly status → ⊥
done_no_stop status one = each_of (λ s. IsEarly s → ⊥) (Done ∷ SomeRefused ∷ []) status (λ n. n, (λ n. n, tt)) one

-- want of memory is no fault of the disk
pub memory_no_fault : {T : Type 0} → ◌≡◌ {A = Result T Status} (Err NoMemory) (Err DiskFault) → ⊥
memory_no_fault is = absurd (cc)

-- ---- Over a chain

-- the run was stopped before the sink
pub explain_stopped : (page : List ℕ) (asked : Asked) (chain : Chain) (left : Option (List ℕ)) (given : List ℕ) (status : Status) → IsStop status
    → ReadsNoFurther (whole_limits one_item) given → ExplainsOver page asked chain given left [] status
explain_stopped page asked chain left given status stop no_further =
    let says = whole_stopped one_item 1 (judged page asked chain) (Done ∷ SomeRefused ∷ []) (tt, (tt, tt)) left given status stop no_further in
    record {
      text = says.0;
      order = says.1;
      answers = λ told. absurd (stop_not_judged status stop (done_judged status told));
    }

-- the input ends early
pub explain_early : (page : List ℕ) (asked : Asked) (chain : Chain) (left : Option (List ℕ)) (given taken : List ℕ) (end : End) (offset : ℕ) (status : Status)
    → EndsEarly one_item 1 left end offset given → IsSaid (report_of_end offset end) status taken → ExplainsOver page asked chain given left taken status
explain_early page asked chain left given taken end offset status here said =
    let says = whole_early one_item 1 (judged page asked chain) (Done ∷ SomeRefused ∷ []) (tt, (tt, tt)) left given taken end offset status here said in
    record {
      text = says.0;
      order = says.1;
      answers = λ told. absurd (early_not_judged end offset status taken here.early said (done_judged status told));
    }

-- its item was judged
pub explain_judged : (page : List ℕ) (asked : Asked) (chain : Chain) (left : Option (List ℕ)) (items : List (List ℕ)) (given taken line text : List ℕ) (status result : Status)
    → IsWhole one_item 1 left items given → IsLineOf asked chain items line status → text ≡ line ++ page
    → IsOneOf (Done ∷ SomeRefused ∷ []) status → IsWrittenAnswer text status result taken → ExplainsOver page asked chain given left taken result
explain_judged page asked chain left items given taken line text status result whole is text_is one told =
    let report = judged page asked chain items in
    let text_whole : text ≡ text_of report =
    text_is ∙ ap (λ (l : List ℕ). l ++ page) is.line_is ∙ sym (page_below page (said_of asked chain items)) in
    let said : IsSaid report result taken = told_said report text status result taken text_whole is.status_is told in
    let never : IsEarly report.status → ⊥ = λ early. done_no_stop status one (subst IsEarly (sym is.status_is) early) in
    let says = whole_judged one_item 1 (judged page asked chain) (Done ∷ SomeRefused ∷ []) (tt, (tt, tt)) left items given taken result whole said never in
    record {
      text = says.0;
      order = says.1;
      answers = λ done. all_said report result taken said (done_judged result done)
          ∙ sym (ap (λ (r : Report). text_of r) (report_of_all one_item 1 (judged page asked chain) left items given whole));
    }

-- ---- Of a store

stopped_opening : (reads : Option Image) (status : Status) (chain : Chain) → (status ≡ NotAStore → IfSome reads (λ now. IsSound now → ⊥))
    → IsSoundStoreOf reads (Keeps chain) → status ≡ NotAStore → ⊥
stopped_opening reads status chain none found = sound_opening reads status found.0 none found.1 (chain, found.3 chain refl)

module _ {D : Type 0} (reads_as : D → Option Image) (images : D → Image → Type 0) (moment : D → ℕ) (left_since : D → ℕ → Image → Type 0)
    (counts_now : (disk : D) (t : ℕ) (image : Image) → t ≤ moment disk → images disk image → left_since disk t image) where
  -- none was opened
  pub explain_unopened : (asked : Asked) (old new : D) (left : Option (List ℕ)) (status : Status) → IsOneOf opening_stops status
      → (status ≡ NotAStore → IfSome (reads_as old) (λ now. IsSound now → ⊥)) → IfSome (reads_as old) (images old)
      → ((now : Image) (chain : Chain) → reads_as old ≡ Some now → store_of now ≡ Keeps chain → ((image : Image) → images old image → IsSound image)
      → LeavesOnly moment left_since old new (λ image. images old image ⊎ StandsFor chain image))
      → Explains asked (reads_as old) (images old) (images new) (left_since new (moment old)) left [] [] status
  explain_unopened asked old new left status one none here moments = record {
    page = [];
    over = over;
    disk = λ now told chain keeps sound. keeps_unopened images moment left_since counts_now None old new chain [] status
        (by_disk_or_memory status one (sound_opening (reads_as old) status now none told (sound_here (reads_as old) (images old) now here told sound)))
        (moments now chain told keeps sound);
  }
    where
      over : (store : Store) → IsSoundStoreOf (reads_as old) store → OverStore store (λ chain. ExplainsOver [] asked chain [] left [] status) [] [] status
      over NoLog found = record { untouched = record { unread = refl; unwritten = refl }; answer = one }
      over NotALog found = record { untouched = record { unread = refl; unwritten = refl }; answer = one }
      over (Keeps chain) found =
          explain_stopped [] asked chain left [] status (opening_stop status one (stopped_opening (reads_as old) status chain none found))
          (items_no_further (whole_limits one_item) [] tt tt [] refl)

  -- the store was opened, and then looked at
  module _ {C : Type 0} (content_of : D → C) (rests : (old new : D) → content_of new ≡ content_of old → IsAsBefore reads_as images moment left_since old new) where
    pub explain_opened : (asked : Asked) (old mid new : D) (node : NodeValue) (left : Option (List ℕ)) (page given taken : List ℕ) (status : Status)
        → IfSome (reads_as old) (λ now. store_of now ≡ Keeps node.chain)
        → (((image : Image) → images old image → IsSound image) → IfSome (reads_as old) (λ _. StandsOnDisk node (reads_as mid) (images mid)))
        → ((now : Image) (chain : Chain) → reads_as old ≡ Some now → store_of now ≡ Keeps chain → ((image : Image) → images old image → IsSound image)
        → LeavesOnly moment left_since old mid (λ image. images old image ⊎ StandsFor chain image))
        → ((now : Image) → reads_as old ≡ Some now → IsSound now → IsSoundNode node)
        → IsKnownAsBefore (reads_as old) (reads_as mid)
        → content_of new ≡ content_of mid
        → (IsSoundWhereTold node (reads_as mid) → ExplainsOver page asked node.chain given left taken status)
        → Explains asked (reads_as old) (images old) (images new) (left_since new (moment old)) left given taken status
    explain_opened asked old mid new node left page given taken status kept on moments sound tells looked says = record {
      page = page;
      over = λ store found.
          subst (λ (s : Store). OverStore s (λ chain. ExplainsOver page asked chain given left taken status) given taken status)
          (sym (opened_store (reads_as old) node.chain store kept found))
          (says (found_sound node (reads_as old) (reads_as mid) store kept tells sound found));
      disk = keeps_looked content_of reads_as images moment left_since rests counts_now old mid new node taken status kept on moments looked;
    }
