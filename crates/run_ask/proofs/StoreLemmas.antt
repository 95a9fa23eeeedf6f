-- What is promised of a store that is asked, whether it was opened or not.
use Rattle.std.proofs.Common.{◌≡◌, ◌⊎◌, inl, ℕ, ◌≤◌, List, [], refl, ap, sym, ◌∙◌, subst, arith}
use Rattle.std.specs.Prelude.{Option, Some, None, IfSome}
use Rattle.outside.specs.Image.{Image}
use Rattle.outside.specs.Disk.{LeavesOnly, IsAsBefore, IsKnownAsBefore}
use Rattle.verdict_defs.specs.Chain.{Chain}
use Rattle.store_defs.specs.Store.{Store, NoLog, NotALog, Keeps, store_of, StandsFor, IsSound}
use Rattle.report_defs.specs.declared.status.Status.{Status}
use Rattle.report_defs.specs.declared.status.Status.TheVariants.{NotAStore}
use Rattle.report_defs.specs.Status.{IsOneOf}
use Rattle.report_defs.specs.Report.{report_over}
use Rattle.report_defs.specs.Promise.{MatchesReport, OverStore, IsSoundStoreOf, FindsNoStore}
use Rattle.run_text.specs.Output.{IsStop}
use Rattle.run_text.specs.Store.{opening_stops}
use Rattle.run_text.proofs.Statuses.{opening_stop, opening_not_done}
use Rattle.run_text.proofs.StoreLemmas.{if_told, opened_store, same_chain, store_of_stands, by_function, keeps_unopened, none_says, stop_says, sound_opening, sound_here, by_disk_or_memory}
use Rattle.run_store.proofs.DiskLemmas.{opened_sound, found_sound}
use Rattle.run_store.proofs.LookLemmas.{keeps_looked}
use Rattle.node_store.specs.Node.{NodeValue, IsSoundNode, IsSoundWhereTold, StandsOnDisk}
use Rattle.ask_defs.specs.Lines.{lines_of}
use Rattle.ask_defs.specs.Promise.{answers, line_count, ask_report, AsksInOrder, IsAsked}
use Rattle.run_ask.specs.Asking.{AreAnswered}
use Rattle.run_ask.proofs.LineLemmas.{unbroken_holds_no_more, short_none}
use Rattle.run_ask.proofs.ReportLemmas.{in_order}

-- there is no store
finds_none : (status : Status) → IsOneOf opening_stops status → FindsNoStore [] [] status
finds_none status one = record { untouched = record { unread = refl; unwritten = refl }; answer = one }

-- a sound store is opened, where nothing else stops it
stopped_opening : (reads : Option Image) (status : Status) (chain : Chain) → (status ≡ NotAStore → IfSome reads (λ now. IsSound now → ⊥))
    → IsSoundStoreOf reads (Keeps chain) → status ≡ NotAStore → ⊥
stopped_opening reads status chain none found = sound_opening reads status found.0 none found.1 (chain, found.3 chain refl)

-- nothing was read and nothing written
order_none : (chain : Chain) (left : Option (List ℕ)) (status : Status) → IsStop status → AsksInOrder chain [] left [] status
order_none chain left status stop =
    in_order chain [] [] line_count [] [] (record { lines = []; all = tt; given_is = refl; taken_is = refl; counted = omega arith }) left status
    (unbroken_holds_no_more [] refl) short_none (λ _. refl) (λ done. absurd (subst IsStop done stop))

module _ {D : Type 0} (reads_as : D → Option Image) (images : D → Image → Type 0) (moment : D → ℕ) (left_since : D → ℕ → Image → Type 0)
    (counts_now : (disk : D) (t : ℕ) (image : Image) → t ≤ moment disk → images disk image → left_since disk t image) where
  -- none was opened
  pub asked_unopened : (old new : D) (left : Option (List ℕ)) (status : Status) → IsOneOf opening_stops status
      → (status ≡ NotAStore → IfSome (reads_as old) (λ now. IsSound now → ⊥)) → IfSome (reads_as old) (images old)
      → ((now : Image) (chain : Chain) → reads_as old ≡ Some now → store_of now ≡ Keeps chain → ((image : Image) → images old image → IsSound image)
      → LeavesOnly moment left_since old new (λ image. images old image ⊎ StandsFor chain image))
      → IsAsked (reads_as old) (images old) (images new) (left_since new (moment old)) left [] [] status
  asked_unopened old new left status one none here moments = record {
    text = text;
    order = order;
    answered = λ now chain told stands done. absurd (opening_not_done status one (inl done));
    disk = λ now told chain keeps sound. keeps_unopened images moment left_since counts_now None old new chain [] status
        (by_disk_or_memory status one (sound_opening (reads_as old) status now none told (sound_here (reads_as old) (images old) now here told sound)))
        (moments now chain told keeps sound);
  }
    where
      text : (store : Store) → IsSoundStoreOf (reads_as old) store → MatchesReport (λ whole said. said ≡ report_over store (λ chain. ask_report chain whole)) [] left [] status
      text NoLog found = none_says (λ whole said. said ≡ report_over NoLog (λ chain. ask_report chain whole)) left status one (λ input. refl)
      text NotALog found = none_says (λ whole said. said ≡ report_over NotALog (λ chain. ask_report chain whole)) left status one (λ input. refl)
      text (Keeps chain) found = stop_says (λ whole said. said ≡ report_over (Keeps chain) (λ chain. ask_report chain whole)) [] left status
          (opening_stop status one (stopped_opening (reads_as old) status chain none found))

      order : (store : Store) → IsSoundStoreOf (reads_as old) store → OverStore store (λ chain. AsksInOrder chain [] left [] status) [] [] status
      order NoLog found = finds_none status one
      order NotALog found = finds_none status one
      order (Keeps chain) found = order_none chain left status (opening_stop status one (stopped_opening (reads_as old) status chain none found))

  -- the store was opened, and then asked
  module _ {C : Type 0} (content_of : D → C) (rests : (old new : D) → content_of new ≡ content_of old → IsAsBefore reads_as images moment left_since old new) where
    pub asked_opened : (old mid new : D) (node : NodeValue) (left : Option (List ℕ)) (given taken : List ℕ) (status : Status)
        → IfSome (reads_as old) (λ now. store_of now ≡ Keeps node.chain)
        → (((image : Image) → images old image → IsSound image) → IfSome (reads_as old) (λ _. StandsOnDisk node (reads_as mid) (images mid)))
        → ((now : Image) (chain : Chain) → reads_as old ≡ Some now → store_of now ≡ Keeps chain → ((image : Image) → images old image → IsSound image)
        → LeavesOnly moment left_since old mid (λ image. images old image ⊎ StandsFor chain image))
        → ((now : Image) → reads_as old ≡ Some now → IsSound now → IsSoundNode node)
        → IsKnownAsBefore (reads_as old) (reads_as mid)
        → content_of new ≡ content_of mid
        → (IsSoundWhereTold node (reads_as mid) → AreAnswered node.chain given left taken status)
        → IsAsked (reads_as old) (images old) (images new) (left_since new (moment old)) left given taken status
    asked_opened old mid new node left given taken status kept on moments sound tells looked says = record {
      text = λ store found.
          subst (λ (s : Store). MatchesReport (λ whole said. said ≡ report_over s (λ chain. ask_report chain whole)) given left taken status)
          (sym (opened_store (reads_as old) node.chain store kept found))
          (by_function (ask_report node.chain) (λ whole said. said ≡ report_over (Keeps node.chain) (λ chain. ask_report chain whole)) given left taken status (λ whole. refl)
          (says (found_sound node (reads_as old) (reads_as mid) store kept tells sound found)).text);
      order = λ store found.
          subst (λ (s : Store). OverStore s (λ chain. AsksInOrder chain given left taken status) given taken status)
          (sym (opened_store (reads_as old) node.chain store kept found))
          (says (found_sound node (reads_as old) (reads_as mid) store kept tells sound found)).order;
      answered = λ now chain told stands done.
          let same : node.chain ≡ chain = same_chain node.chain chain
          (sym (if_told (reads_as old) (λ image. store_of image ≡ Keeps node.chain) now kept told) ∙ store_of_stands chain now stands) in
          (says (opened_sound node (reads_as old) (reads_as mid) now tells (sound now told) told (chain, stands))).answered done
          ∙ ap (λ (k : Chain). answers k (lines_of given)) same;
      disk = keeps_looked content_of reads_as images moment left_since rests counts_now old mid new node taken status kept on moments looked;
    }
