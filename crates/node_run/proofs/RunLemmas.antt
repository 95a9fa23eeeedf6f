-- What a run promises of the disk for any list of runs before it.
use Rattle.std.proofs.Common.{◌≡◌, inl, inr, ℕ, List, [], ◌∷◌, take, refl, ap, sym, ◌∙◌, subst, arith}
use Rattle.std.specs.Prelude.{Option, Some, None, IfSome, IsSome}
use Rattle.outside.specs.Image.{Image}
use Rattle.outside.specs.Disk.{IsAsBefore}
use Rattle.verdict_defs.specs.Chain.{Chain, chain_over}
use Rattle.store_defs.specs.Store.{Store, NoLog, Keeps, store_of, StandsFor}
use Rattle.store_defs.specs.Migration.{migrated}
use Rattle.report_defs.specs.declared.command.Command.{Command}
use Rattle.report_defs.specs.declared.command.Command.TheVariants.{Init, Import, Migrate, Query, Question, Standalone, Simulation}
use Rattle.report_defs.specs.declared.command.Query as queries
use Rattle.report_defs.specs.declared.command.Question as questions
use Rattle.report_defs.specs.declared.command.Standalone as files
use Rattle.report_defs.specs.declared.command.Simulation as simulations
use Rattle.report_defs.specs.declared.status.Status.{Status}
use Rattle.report_defs.specs.declared.status.Status.TheVariants.{Done, SomeRefused, BadWords, DiskFault, NoMemory}
use Rattle.report_defs.specs.Status.{IsOneOf}
use Rattle.report_defs.specs.Report.{Report, text_of, report_without_lines, file_limit, IsReport, IsReportOfFile, answer_to_query}
use Rattle.report_defs.specs.Promise.{MatchesReport, KeepsOrder, ReadsFileInOrder, Finds, IsReported}
use Rattle.report_defs.specs.Survival.{Each, Run, IsDone, IsUnderEdition, MovesStore, MovesEdition, IsKeptPrefix, IsKeptBy, IsLeftBy, KeepsStore, KeepsItems, KeepsDisk, Answers, IsPromised, items_of, watched_of}
use Rattle.run_text.specs.Store.{DeliversCommand}
use Rattle.run_question.specs.Question.{DeliversAnswer}
use Rattle.run_simulation.specs.Simulation.{IsSimulationPrinted}
use Rattle.run_text.proofs.LineLemmas.{prefix_of_none}
use Rattle.run_text.proofs.StoreLemmas.{same_chain, store_of_stands}

-- ---- Runs that keep what was kept

-- a run may have kept no more than what was kept
keeps_none : (genesis : Chain) (past : List Run) (run : Run) (image : Image)
    → ((kept : Chain) → IsUnderEdition run.command run.status kept kept)
    → ((kept : Chain) → IsKeptPrefix (watched_of run.command) kept (items_of run.command run.given) run.taken 0)
    → ((kept : Chain) → IsDone run.status → Answers run.command kept run.given run.taken)
    → IsLeftBy genesis past image → IsLeftBy genesis (run ∷ past) image
keeps_none genesis past run image stays front answers left =
    (left.0, (left.0, left.1, record { under = left.0; edition = stays left.0; count = 0; prefix = front left.0; added = refl; answered = answers left.0 }), left.2)

prefix_of_no_item : (watched : Option (List ℕ)) (kept : Chain) (taken : List ℕ) → IsKeptPrefix watched kept [] taken 0
prefix_of_no_item watched kept taken = record { answered = inr (taken, refl); most = omega arith; acknowledged = λ n most begins. most }

prefix_of_no_items : (watched : Option (List ℕ)) (items : List (List ℕ)) (kept : Chain) (taken : List ℕ) → items ≡ [] → IsKeptPrefix watched kept items taken 0
prefix_of_no_items watched items kept taken none = subst (λ (i : List (List ℕ)). IsKeptPrefix watched kept i taken 0) (sym none) (prefix_of_no_item watched kept taken)

keeps_some : (genesis : Chain) (past : List Run) (run : Run) (image : Image) (kept under : Chain) (count : ℕ)
    → IsKeptBy genesis past kept → IsUnderEdition run.command run.status kept under → IsKeptPrefix (watched_of run.command) kept (items_of run.command run.given) run.taken count
    → (IsDone run.status → Answers run.command kept run.given run.taken)
    → StandsFor (chain_over under (take count (items_of run.command run.given))) image → IsLeftBy genesis (run ∷ past) image
keeps_some genesis past run image kept under count by edition front answers stands =
    (chain_over under (take count (items_of run.command run.given)), (kept, by, record { under = under; edition = edition; count = count; prefix = front; added = refl; answered = answers }), stands)

-- a run that ended with a fault or without memory is not done
not_done : (status : Status) → IsOneOf (DiskFault ∷ NoMemory ∷ []) status → IsOneOf (Done ∷ SomeRefused ∷ []) status → ⊥
not_done status (inl fault) (inl done) = cc
not_done status (inl fault) (inr (inl refused)) = cc
not_done status (inl fault) (inr (inr never)) = never
not_done status (inr (inl memory)) (inl done) = cc
not_done status (inr (inl memory)) (inr (inl refused)) = cc
not_done status (inr (inl memory)) (inr (inr never)) = never
not_done status (inr (inr never)) done = never

-- ---- What a run promises of the disk

-- a run of a command, and one that was stopped at a moment
abbrev run_of : Option Command → List ℕ → List ℕ → Status → Run
run_of command given taken status = record { command = command; given = given; taken = taken; status = Some status }

abbrev stopped_run : Option Command → List ℕ → Run
stopped_run command given = record { command = command; given = given; taken = []; status = None }

module _ (command : Option Command) (now : Image) (at_start at_exit meanwhile : Image → Type 0) (given taken : List ℕ) (status : Status) where
  -- the store that the disk read as is the one that a past left
  kept_store : at_start now → KeepsItems (watched_of command) (items_of command given) now at_start at_exit meanwhile taken status
      → (genesis : Chain) (past : List Run) → Each at_start (IsLeftBy genesis past)
      → (kept : Chain) × IsKeptBy genesis past kept × StandsFor kept now × KeepsStore (watched_of command) kept (items_of command given) taken status at_start at_exit meanwhile
  kept_store here keeps genesis past by =
      let first = by now here in
      (first.0, first.1, first.2, keeps first.0 (store_of_stands first.0 now first.2) (λ image left. let one = by image left in (one.0, one.2)))

  pub survives_store : ((kept : Chain) → IsUnderEdition command (Some status) kept kept) → at_start now → KeepsItems (watched_of command) (items_of command given) now at_start at_exit meanwhile taken status
      → ((kept : Chain) → StandsFor kept now → IsOneOf (Done ∷ SomeRefused ∷ []) status → Answers command kept given taken)
      → (genesis : Chain) (past : List Run) → Each at_start (IsLeftBy genesis past) → Each at_exit (IsLeftBy genesis (run_of command given taken status ∷ past))
  survives_store stays here keeps answers genesis past by = λ image left.
      let kept = kept_store here keeps genesis past by in
      elim (kept.3.exit image left) [
        | inl before ↦ keeps_none genesis past (run_of command given taken status) image stays
            (λ chain. subst (λ bytes. IsKeptPrefix (watched_of command) chain (items_of command given) bytes 0) (sym before.1) (prefix_of_none (watched_of command) chain (items_of command given) 0 (omega arith)))
            (λ chain done. absurd (not_done status before.0 done)) (by image before.2)
        | inr some ↦ keeps_some genesis past (run_of command given taken status) image kept.0 kept.0 some.0 kept.1 (stays kept.0) some.1 (answers kept.0 kept.2) some.2
      ]

  pub survives_store_meanwhile : ((kept : Chain) → IsUnderEdition command None kept kept) → at_start now → KeepsItems (watched_of command) (items_of command given) now at_start at_exit meanwhile taken status
      → (genesis : Chain) (past : List Run) → Each at_start (IsLeftBy genesis past) → Each meanwhile (IsLeftBy genesis (stopped_run command given ∷ past))
  survives_store_meanwhile stays here keeps genesis past by = λ image left.
      let kept = kept_store here keeps genesis past by in
      elim (kept.3.moments image left) [
        | inl before ↦ keeps_none genesis past (stopped_run command given) image stays (λ chain. prefix_of_none (watched_of command) chain (items_of command given) 0 (omega arith))
            (λ chain done. absurd done) (by image before)
        | inr some ↦ keeps_some genesis past (stopped_run command given) image kept.0 kept.0 some.0 kept.1 (stays kept.0) (prefix_of_none (watched_of command) kept.0 (items_of command given) some.0 some.1)
            (λ done. absurd done) some.2
      ]

-- the image that a disk reads as, where it tells it
told_image : (reads : Option Image) → IsSome reads → (now : Image) × (reads ≡ Some now)
told_image None told = absurd (cc)
told_image (Some now) told = (now, refl)

reads_here : (reads : Option Image) (images : Image → Type 0) (now : Image) → IfSome reads images → reads ≡ Some now → images now
reads_here reads images now here told = subst (λ (r : Option Image). IfSome r images) told here

-- ---- Each class of commands

-- a command that opens the store
opening_promised : (command : Command) (reads : Option Image) (at_start at_exit meanwhile : Image → Type 0) (left : Option (List ℕ)) (given taken : List ℕ) (status : Status)
    → ((kept : Chain) (ended : Option Status) → IsUnderEdition (Some command) ended kept kept)
    → IfSome reads at_start → DeliversCommand command reads at_start at_exit meanwhile left given taken status
    → ((now : Image) → KeepsDisk (Some command) now at_start at_exit meanwhile given taken status → KeepsItems (watched_of (Some command)) (items_of (Some command) given) now at_start at_exit meanwhile taken status)
    → ((now : Image) (kept : Chain) → reads ≡ Some now → StandsFor kept now → IsOneOf (Done ∷ SomeRefused ∷ []) status → Answers (Some command) kept given taken)
    → IsPromised (Some command) reads at_start at_exit meanwhile left given taken status
opening_promised command reads at_start at_exit meanwhile left given taken status stays here kept keeps answers = record {
  text = kept.text;
  order = kept.order;
  disk = kept.disk;
  survives = λ told.
      let now = told_image reads told in
      survives_store (Some command) now.0 at_start at_exit meanwhile given taken status (λ chain. stays chain (Some status))
      (reads_here reads at_start now.0 here now.1) (keeps now.0 (kept.disk now.0 now.1)) (λ chain stands done. answers now.0 chain now.1 stands done);
  at_each_moment = λ told.
      let now = told_image reads told in
      survives_store_meanwhile (Some command) now.0 at_start at_exit meanwhile given taken status (λ chain. stays chain None)
      (reads_here reads at_start now.0 here now.1) (keeps now.0 (kept.disk now.0 now.1));
  answers = λ told genesis past by done.
      let now = told_image reads told in
      let first = by now.0 (reads_here reads at_start now.0 here now.1) in
      (first.0, first.1, answers now.0 first.0 now.1 first.2 done);
}

pub import_promised : (watched : Option (List ℕ)) (reads : Option Image) (at_start at_exit meanwhile : Image → Type 0) (left : Option (List ℕ)) (given taken : List ℕ) (status : Status)
    → IfSome reads at_start → DeliversCommand (Import watched) reads at_start at_exit meanwhile left given taken status
    → IsPromised (Some (Import watched)) reads at_start at_exit meanwhile left given taken status
import_promised watched reads at_start at_exit meanwhile left given taken status here kept =
    opening_promised (Import watched) reads at_start at_exit meanwhile left given taken status (λ chain ended. refl) here kept (λ now keeps. keeps) (λ now chain told stands done. tt)

-- what was done is reported
reported : (status : Status) → IsOneOf (Done ∷ SomeRefused ∷ []) status → IsReported status
reported status (inl done) = inl done
reported status (inr (inl refused)) = inr (inl refused)
reported status (inr (inr never)) = absurd never

-- the answer of a query is that over the chain that a past left
query_answers : (query : queries.Query) (reads : Option Image) (at_start at_exit meanwhile : Image → Type 0) (taken : List ℕ) (status : Status) (now : Image) (kept : Chain)
    → DeliversCommand (Query query) reads at_start at_exit meanwhile (Some []) [] taken status → reads ≡ Some now → StandsFor kept now → IsOneOf (Done ∷ SomeRefused ∷ []) status
    → taken ≡ answer_to_query query kept
query_answers query reads at_start at_exit meanwhile taken status now kept delivers told stands done =
    let said = (delivers.text (Keeps kept) (now, told, sym (store_of_stands kept now stands), λ chain same. subst (λ (k : Chain). StandsFor k now) (same_chain kept chain same) stands)).whole
    [] refl (reported status done) in
    said.2 ∙ ap (λ (r : Report). text_of r) said.1

pub query_promised : (query : queries.Query) (reads : Option Image) (at_start at_exit meanwhile : Image → Type 0) (left : Option (List ℕ)) (taken : List ℕ) (status : Status)
    → IfSome reads at_start → ((left : Option (List ℕ)) → DeliversCommand (Query query) reads at_start at_exit meanwhile left [] taken status)
    → IsPromised (Some (Query query)) reads at_start at_exit meanwhile left [] taken status
query_promised query reads at_start at_exit meanwhile left taken status here all =
    opening_promised (Query query) reads at_start at_exit meanwhile left [] taken status (λ chain ended. refl) here (all left) (λ now keeps. keeps)
    (λ now kept told stands done. query_answers query reads at_start at_exit meanwhile taken status now kept (all (Some [])) told stands done)

pub question_promised : (question : questions.Question) (reads : Option Image) (at_start at_exit meanwhile : Image → Type 0) (left : Option (List ℕ)) (given taken : List ℕ) (status : Status)
    → IfSome reads at_start → DeliversAnswer question reads at_start at_exit meanwhile left given taken status
    → IsPromised (Some (Question question)) reads at_start at_exit meanwhile left given taken status
question_promised question reads at_start at_exit meanwhile left given taken status here answered =
    opening_promised (Question question) reads at_start at_exit meanwhile left given taken status (λ chain ended. refl) here answered.delivers (λ now keeps. keeps) answered.answers

-- ---- `migrate`

-- a status is not that it is done
not_none_done : None ≡ Some Done → ⊥
not_none_done same = absurd (cc)

same_ended : (status : Status) → Some status ≡ Some Done → status ≡ Done
same_ended status same = cc

stopped_undone : (status : Status) → IsOneOf (DiskFault ∷ NoMemory ∷ []) status → Some status ≡ Some Done → ⊥
stopped_undone status stop same = not_done status stop (inl (same_ended status same))

module _ (epoch : ℕ) (now : Image) (at_start at_exit meanwhile : Image → Type 0) (given taken : List ℕ) (status : Status) where
  -- the store that the disk read as is the one that a past left
  moved_store : at_start now → MovesEdition epoch now at_start at_exit meanwhile taken status → (genesis : Chain) (past : List Run) → Each at_start (IsLeftBy genesis past)
      → (kept : Chain) × IsKeptBy genesis past kept × MovesStore epoch kept taken status at_start at_exit meanwhile
  moved_store here moves genesis past by =
      let first = by now here in
      (first.0, first.1, moves first.0 (store_of_stands first.0 now first.2) (λ image left. let one = by image left in (one.0, one.2)))

  survives_migration : at_start now → MovesEdition epoch now at_start at_exit meanwhile taken status → (genesis : Chain) (past : List Run)
      → Each at_start (IsLeftBy genesis past) → Each at_exit (IsLeftBy genesis (run_of (Some (Migrate epoch)) given taken status ∷ past))
  survives_migration here moves genesis past by = λ image left.
      let kept = moved_store here moves genesis past by in
      elim (kept.2.exit image left) [
        | inl before ↦ keeps_none genesis past (run_of (Some (Migrate epoch)) given taken status) image (λ chain. inl (stopped_undone status before.0, refl))
            (λ chain. prefix_of_no_item None chain taken) (λ chain done. tt) (by image before.2)
        | inr (inl same) ↦ keeps_some genesis past (run_of (Some (Migrate epoch)) given taken status) image kept.0 kept.0 0 kept.1
            (inl (λ done. same.0 (same_ended status done), refl)) (prefix_of_no_item None kept.0 taken) (λ done. tt) same.1
        | inr (inr moved) ↦ keeps_some genesis past (run_of (Some (Migrate epoch)) given taken status) image kept.0 (migrated epoch kept.0) 0 kept.1
            (inr (moved.0, refl)) (prefix_of_no_item None kept.0 taken) (λ done. tt) moved.1
      ]

  survives_migration_meanwhile : at_start now → MovesEdition epoch now at_start at_exit meanwhile taken status → (genesis : Chain) (past : List Run)
      → Each at_start (IsLeftBy genesis past) → Each meanwhile (IsLeftBy genesis (stopped_run (Some (Migrate epoch)) given ∷ past))
  survives_migration_meanwhile here moves genesis past by = λ image left.
      let kept = moved_store here moves genesis past by in
      elim (kept.2.moments image left) [
        | inl before ↦ keeps_none genesis past (stopped_run (Some (Migrate epoch)) given) image (λ chain. inl (not_none_done, refl))
            (λ chain. prefix_of_no_item None chain []) (λ chain done. tt) (by image before)
        | inr (inl same) ↦ keeps_some genesis past (stopped_run (Some (Migrate epoch)) given) image kept.0 kept.0 0 kept.1
            (inl (not_none_done, refl)) (prefix_of_no_item None kept.0 []) (λ done. tt) same
        | inr (inr moved) ↦ keeps_some genesis past (stopped_run (Some (Migrate epoch)) given) image kept.0 (migrated epoch kept.0) 0 kept.1
            (inr (λ never. never, refl)) (prefix_of_no_item None kept.0 []) (λ done. tt) moved
      ]

pub migrate_promised : (epoch : ℕ) (reads : Option Image) (at_start at_exit meanwhile : Image → Type 0) (left : Option (List ℕ)) (taken : List ℕ) (status : Status)
    → IfSome reads at_start → DeliversCommand (Migrate epoch) reads at_start at_exit meanwhile left [] taken status
    → IsPromised (Some (Migrate epoch)) reads at_start at_exit meanwhile left [] taken status
migrate_promised epoch reads at_start at_exit meanwhile left taken status here kept = record {
  text = kept.text;
  order = kept.order;
  disk = kept.disk;
  survives = λ told.
      let now = told_image reads told in
      survives_migration epoch now.0 at_start at_exit meanwhile [] taken status (reads_here reads at_start now.0 here now.1) (kept.disk now.0 now.1);
  at_each_moment = λ told.
      let now = told_image reads told in
      survives_migration_meanwhile epoch now.0 at_start at_exit meanwhile [] taken status (reads_here reads at_start now.0 here now.1) (kept.disk now.0 now.1);
  answers = λ told genesis past by done.
      let now = told_image reads told in
      let first = by now.0 (reads_here reads at_start now.0 here now.1) in
      (first.0, first.1, tt);
}

-- where a log is there, `init` leaves the disk as it was
not_keeps : (chain : Chain) → Keeps chain ≡ NoLog → ⊥
not_keeps chain e = cc

module _ {D : Type 0} (reads_as : D → Option Image) (images : D → Image → Type 0) (moment : D → ℕ) (left_since : D → ℕ → Image → Type 0)
    (reads_image : (disk : D) → IfSome (reads_as disk) (images disk))
    (only_now : (disk : D) (image : Image) → left_since disk (moment disk) image → images disk image) where
  init_before : (old new : D) (genesis : Chain) (past : List Run) → IsSome (reads_as old)
      → ((now : Image) → reads_as old ≡ Some now → (store_of now ≡ NoLog → ⊥) → IsAsBefore reads_as images moment left_since old new)
      → Each (images old) (IsLeftBy genesis past) → IsAsBefore reads_as images moment left_since old new
  init_before old new genesis past told there by =
      let now = told_image (reads_as old) told in
      let first = by now.0 (reads_here (reads_as old) (images old) now.0 (reads_image old) now.1) in
      there now.0 now.1 (λ none. not_keeps first.0 (sym (store_of_stands first.0 now.0 first.2) ∙ none))

  pub init_promised : (old new : D) (left : Option (List ℕ)) (given taken : List ℕ) (status : Status)
      → DeliversCommand Init (reads_as old) (images old) (images new) (left_since new (moment old)) left given taken status
      → ((now : Image) → reads_as old ≡ Some now → (store_of now ≡ NoLog → ⊥) → IsAsBefore reads_as images moment left_since old new)
      → IsPromised (Some Init) (reads_as old) (images old) (images new) (left_since new (moment old)) left given taken status
  init_promised old new left given taken status kept there = record {
    text = kept.text;
    order = kept.order;
    disk = kept.disk;
    survives = λ told genesis past by image here.
        let same = init_before old new genesis past told there by in
        keeps_none genesis past (run_of (Some Init) given taken status) image (λ chain. refl) (λ chain. prefix_of_no_item None chain taken) (λ chain done. tt)
        (by image ((same.images image).0 here));
    at_each_moment = λ told genesis past by image here.
        let same = init_before old new genesis past told there by in
        keeps_none genesis past (stopped_run (Some Init) given) image (λ chain. refl) (λ chain. prefix_of_no_item None chain []) (λ chain done. tt) (by image (same.moments.each image here));
    answers = λ told genesis past by done.
        let now = told_image (reads_as old) told in
        let first = by now.0 (reads_here (reads_as old) (images old) now.0 (reads_image old) now.1) in
        (first.0, first.1, tt);
  }

  -- the disk was not called
  pub uncalled_promised : (command : Option Command) (old : D) (left : Option (List ℕ)) (given taken : List ℕ) (status : Status) → items_of command given ≡ []
      → ((store : Store) → Finds command (reads_as old) store → MatchesReport (λ whole said. IsReport command whole store said) given left taken status × KeepsOrder command store given left taken status)
      → ((now : Image) → KeepsDisk command now (images old) (images old) (left_since old (moment old)) given taken status)
      → ((kept : Chain) (ended : Option Status) → IsUnderEdition command ended kept kept)
      → ((kept : Chain) → Answers command kept given taken)
      → IsPromised command (reads_as old) (images old) (images old) (left_since old (moment old)) left given taken status
  uncalled_promised command old left given taken status none says disk stays answers = record {
    text = λ store found. (says store found).0;
    order = λ store found. (says store found).1;
    disk = λ now told. disk now;
    survives = λ told genesis past by image here. keeps_none genesis past (run_of command given taken status) image (λ chain. stays chain (Some status))
        (λ chain. prefix_of_no_items (watched_of command) (items_of command given) chain taken none) (λ chain done. answers chain) (by image here);
    at_each_moment = λ told genesis past by image here. keeps_none genesis past (stopped_run command given) image (λ chain. stays chain None)
        (λ chain. prefix_of_no_items (watched_of command) (items_of command given) chain [] none) (λ chain done. absurd done) (by image (only_now old image here));
    answers = λ told genesis past by done.
        let now = told_image (reads_as old) told in
        let first = by now.0 (reads_here (reads_as old) (images old) now.0 (reads_image old) now.1) in
        (first.0, first.1, answers first.0);
  }

  pub standalone_promised : (command : files.Standalone) (old : D) (left : Option (List ℕ)) (given taken : List ℕ) (status : Status)
      → MatchesReport (IsReportOfFile command) given left taken status × ReadsFileInOrder (file_limit command) given left taken status
      → IsPromised (Some (Standalone command)) (reads_as old) (images old) (images old) (left_since old (moment old)) left given taken status
  standalone_promised command old left given taken status says =
      uncalled_promised (Some (Standalone command)) old left given taken status refl (λ store found. says) (λ now. tt) (λ kept ended. refl) (λ kept. tt)

  pub simulation_promised : (simulation : simulations.Simulation) (old : D) (left : Option (List ℕ)) (taken : List ℕ) (status : Status)
      → IsSimulationPrinted simulation left taken status
      → IsPromised (Some (Simulation simulation)) (reads_as old) (images old) (images old) (left_since old (moment old)) left [] taken status
  simulation_promised simulation old left taken status says =
      uncalled_promised (Some (Simulation simulation)) old left [] taken status refl (λ store found. says) (λ now. tt) (λ kept ended. refl) (λ kept. tt)

  pub words_promised : (old : D) (left : Option (List ℕ)) → IsPromised None (reads_as old) (images old) (images old) (left_since old (moment old)) left [] [] BadWords
  words_promised old left = uncalled_promised None old left [] [] BadWords refl
      (λ store found. (
        record { prefix = λ more is. inl refl; whole = λ more is told. (report_without_lines [] BadWords, refl, refl, refl) },
        record { unread = refl; unwritten = refl },
      )) (λ now. tt) (λ kept ended. refl) (λ kept. tt)
