-- What a question read, printed and left at each exit.
use Rattle.std.proofs.Common.{◌≡◌, ◌⊎◌, ℕ, ◌≤◌, List, [], ◌∷◌, refl, ap, sym, ◌∙◌, subst}
use Rattle.std.specs.Prelude.{Option, Some, None, Result, Ok, Err, IfOk, IfSome, string_bytes}
use Rattle.outside.specs.Image.{Image}
use Rattle.outside.specs.Disk.{LeavesOnly, IsAsBefore, IsKnownAsBefore}
use Rattle.chain_defs.specs.Shape.{decoded}
use Rattle.chain_defs.specs.Schema.{Transaction, transaction}
use Rattle.verdict_defs.specs.Chain.{Chain}
use Rattle.verdict_defs.specs.Trial.{trial, trial_of}
use Rattle.store_defs.specs.Store.{Keeps, store_of, StandsFor, IsSound}
use Rattle.report_defs.specs.declared.command.Command.TheVariants as commands
use Rattle.report_defs.specs.declared.command.Question.{Question}
use Rattle.report_defs.specs.declared.command.Question.TheVariants.{Check}
use Rattle.report_defs.specs.declared.end.End.{End}
use Rattle.report_defs.specs.declared.status.Status.{Status}
use Rattle.report_defs.specs.declared.status.Status.TheVariants.{Done, SomeRefused, NotAStore}
use Rattle.report_defs.specs.Status.{IsOneOf}
use Rattle.report_defs.specs.Items.{ReadsNoFurther}
use Rattle.report_defs.specs.Report.{Report, text_of, question_items, question_limits, answer_to_question, report_of_end}
use Rattle.run_text.specs.Whole.{IsWhole, EndsEarly}
use Rattle.run_text.proofs.FurtherLemmas.{items_no_further}
use Rattle.node_store.specs.Node.{NodeValue, IsSoundNode, IsSoundWhereTold, StandsOnDisk}
use Rattle.run_question.specs.Question.{IsAnswerTo, full, AnswersQuestion, DeliversAnswer}
use Rattle.run_text.specs.Output.{IsStop, IsSaid, IsWrittenAnswer}
use Rattle.run_text.specs.declared.output.Answer.{Answer}
use Rattle.run_text.specs.Store.{opening_stops}
use Rattle.run_store.proofs.DiskLemmas.{opened_sound, found_sound}
use Rattle.run_store.proofs.LookLemmas.{keeps_looked}
use Rattle.run_text.proofs.StoreLemmas.{if_told, same_chain, store_of_stands, delivers_over, keeps_unopened, unopened, sound_opening, sound_here, by_disk_or_memory}
use Rattle.run_text.proofs.Statuses.{each_of, IsEarly, opening_not_done}
use Rattle.run_text.proofs.WholeReports.{IsJudged, stop_not_judged, whole_stopped, whole_early, whole_judged, report_of_all, told_said, all_said, early_not_judged}

-- what comes of the bytes of an item is what comes of what they decode to
pub trial_of_bytes : (chain : Chain) (item : List ℕ) (found : Option Transaction) → found ≡ decoded transaction item → trial_of chain found ≡ trial chain item
unfolding trial
trial_of_bytes chain item found is = ap (trial_of chain) is

-- a transaction alone is judged, whatever follows it
pub first_decides : (chain : Chain) (item : List ℕ) (more items : List (List ℕ)) (result : Result Answer Status) → items ≡ item ∷ more
    → IfOk result (λ answer. IsAnswerTo Check chain (item ∷ []) (string_bytes answer.text) answer.status)
    → IfOk result (λ answer. IsAnswerTo Check chain items (string_bytes answer.text) answer.status)
first_decides chain item more items (Ok answer) is says =
    subst (λ (them : List (List ℕ)). IsAnswerTo Check chain them (string_bytes answer.text) answer.status) (sym is)
    (record { text_is = says.text_is; status_is = says.status_is })
first_decides chain item more items (Err status) is says = tt

-- ---- What is said over a chain

-- the statuses of what was judged
done_judged : (status : Status) → IsOneOf (Done ∷ SomeRefused ∷ []) status → IsJudged status
done_judged status one = each_of IsJudged (Done ∷ SomeRefused ∷ []) status (tt, (tt, tt)) one

-- they end a run whose text was taken
done_no_stop : (status : Status) → IsOneOf (Done ∷ SomeRefused ∷ []) status → IsEarly status → ⊥
done_no_stop status one = each_of (λ s. IsEarly s → ⊥) (Done ∷ SomeRefused ∷ []) status (λ n. n, (λ n. n, tt)) one

-- the run was stopped before the sink
pub question_stopped : (question : Question) (chain : Chain) (left : Option (List ℕ)) (given : List ℕ) (status : Status) → IsStop status
    → ReadsNoFurther (question_limits question) given → AnswersQuestion question chain given left [] status
question_stopped question chain left given status stop no_further =
    let says = whole_stopped (question_items question) 1 (answer_to_question question chain) (Done ∷ SomeRefused ∷ []) (tt, (tt, tt)) left given status stop no_further in
    record {
      text = says.0;
      order = says.1;
      answers = λ told. absurd (stop_not_judged status stop (done_judged status told));
    }

-- the input ends early
pub question_early : (question : Question) (chain : Chain) (left : Option (List ℕ)) (given taken : List ℕ) (end : End) (offset : ℕ) (status : Status)
    → EndsEarly (question_items question) 1 left end offset given → IsSaid (report_of_end offset end) status taken → AnswersQuestion question chain given left taken status
question_early question chain left given taken end offset status here said =
    let says = whole_early (question_items question) 1 (answer_to_question question chain) (Done ∷ SomeRefused ∷ []) (tt, (tt, tt)) left given taken end offset status here said in
    record {
      text = says.0;
      order = says.1;
      answers = λ told. absurd (early_not_judged end offset status taken here.early said (done_judged status told));
    }

-- its items were judged
pub question_judged : (question : Question) (chain : Chain) (left : Option (List ℕ)) (items : List (List ℕ)) (given taken text : List ℕ) (status result : Status)
    → IsWhole (question_items question) 1 left items given → IsAnswerTo question chain items text status → IsOneOf (Done ∷ SomeRefused ∷ []) status
    → IsWrittenAnswer text status result taken → AnswersQuestion question chain given left taken result
question_judged question chain left items given taken text status result whole answer one told =
    let report = answer_to_question question chain items in
    let said : IsSaid report result taken = told_said report text status result taken answer.text_is answer.status_is told in
    let never : IsEarly report.status → ⊥ = λ early. done_no_stop status one (subst IsEarly (sym answer.status_is) early) in
    let says = whole_judged (question_items question) 1 (answer_to_question question chain) (Done ∷ SomeRefused ∷ []) (tt, (tt, tt)) left items given taken result whole said never in
    record {
      text = says.0;
      order = says.1;
      answers = λ done. all_said report result taken said (done_judged result done)
          ∙ sym (ap (λ (r : Report). text_of r) (report_of_all (question_items question) 1 (answer_to_question question chain) left items given whole));
    }

-- ---- What is delivered of a store

module _ {D : Type 0} (reads_as : D → Option Image) (images : D → Image → Type 0) (moment : D → ℕ) (left_since : D → ℕ → Image → Type 0)
    (counts_now : (disk : D) (t : ℕ) (image : Image) → t ≤ moment disk → images disk image → left_since disk t image) where
  -- none was opened
  pub question_unopened : (question : Question) (old new : D) (left : Option (List ℕ)) (status : Status) → IsOneOf opening_stops status
      → (status ≡ NotAStore → IfSome (reads_as old) (λ now. IsSound now → ⊥)) → IfSome (reads_as old) (images old)
      → ((now : Image) (chain : Chain) → reads_as old ≡ Some now → store_of now ≡ Keeps chain → ((image : Image) → images old image → IsSound image)
      → LeavesOnly moment left_since old new (λ image. images old image ⊎ StandsFor chain image))
      → DeliversAnswer question (reads_as old) (images old) (images new) (left_since new (moment old)) left [] [] status
  question_unopened question old new left status one none here moments = record {
    delivers = unopened (commands.Question question) (reads_as old) (images old) (images new) (left_since new (moment old)) left status (λ store found. found) one none
        (λ input. refl) (λ input. refl) (λ never. never) (λ never. never) (λ chain stop. (question_stopped question chain left [] status stop (items_no_further (question_limits question) [] tt tt [] refl)).order)
        (λ now told chain keeps sound. keeps_unopened images moment left_since counts_now None old new chain [] status
        (by_disk_or_memory status one (sound_opening (reads_as old) status now none told (sound_here (reads_as old) (images old) now here told sound)))
        (moments now chain told keeps sound));
    answers = λ now chain told stands done. absurd (opening_not_done status one done);
  }

  -- the store was opened, and then looked at
  module _ {C : Type 0} (content_of : D → C) (rests : (old new : D) → content_of new ≡ content_of old → IsAsBefore reads_as images moment left_since old new) where
    pub question_opened : (question : Question) (old mid new : D) (node : NodeValue) (left : Option (List ℕ)) (given taken : List ℕ) (status : Status)
        → IfSome (reads_as old) (λ now. store_of now ≡ Keeps node.chain)
        → (((image : Image) → images old image → IsSound image) → IfSome (reads_as old) (λ _. StandsOnDisk node (reads_as mid) (images mid)))
        → ((now : Image) (chain : Chain) → reads_as old ≡ Some now → store_of now ≡ Keeps chain → ((image : Image) → images old image → IsSound image)
        → LeavesOnly moment left_since old mid (λ image. images old image ⊎ StandsFor chain image))
        → ((now : Image) → reads_as old ≡ Some now → IsSound now → IsSoundNode node)
        → IsKnownAsBefore (reads_as old) (reads_as mid)
        → content_of new ≡ content_of mid
        → (IsSoundWhereTold node (reads_as mid) → AnswersQuestion question node.chain given left taken status)
        → DeliversAnswer question (reads_as old) (images old) (images new) (left_since new (moment old)) left given taken status
    question_opened question old mid new node left given taken status kept on moments sound tells looked says = record {
      delivers = delivers_over (IsSoundWhereTold node (reads_as mid)) (commands.Question question) (reads_as old) node.chain (images old) (images new) (left_since new (moment old)) left given taken status (λ store found. found) kept
          (λ store found. found_sound node (reads_as old) (reads_as mid) store kept tells sound found)
          (full question node.chain) (λ whole. refl) (λ is. ((says is).text, (says is).order))
          (keeps_looked content_of reads_as images moment left_since rests counts_now old mid new node taken status kept on moments looked);
      answers = λ now chain told stands done.
          let same : node.chain ≡ chain = same_chain node.chain chain
          (sym (if_told (reads_as old) (λ image. store_of image ≡ Keeps node.chain) now kept told) ∙ store_of_stands chain now stands) in
          (says (opened_sound node (reads_as old) (reads_as mid) now tells (sound now told) told (chain, stands))).answers done
          ∙ ap (λ (k : Chain). text_of (full question k given)) same;
    }
