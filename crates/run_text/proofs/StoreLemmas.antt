-- What a command delivers of a store, whether it was opened or not.
use Rattle.std.proofs.Common.{◌≡◌, ◌⊎◌, inl, inr, ℕ, ◌≤◌, false, List, [], ◌∷◌, ◌++◌, length, refl, ap, sym, ◌∙◌, subst, arith}
use Rattle.std.specs.Prelude.{Option, Some, None, IfSome, ◌==◌}
use Rattle.std.proofs.lemmas.Bool.Decides.{nat_tests}
use Rattle.outside.specs.Image.{Image}
use Rattle.outside.specs.Disk.{LeavesOnly}
use Rattle.outside.proofs.Moments.{now_too}
use Rattle.verdict_defs.specs.Chain.{Chain}
use Rattle.disk_defs.specs.Log.{LogContent, log_of}
use Rattle.store_defs.specs.Store.{Store, NoLog, NotALog, Keeps, store_of, store_of_log, StandsFor, IsSound, IsJoined}
use Rattle.store_defs.proofs.JoinedLemmas.{joined_of_image}
use Rattle.report_defs.specs.declared.command.Command.{Command}
use Rattle.report_defs.specs.declared.status.Status.{Status}
use Rattle.report_defs.specs.declared.status.Status.TheVariants.{DiskFault, NoMemory, NotAStore}
use Rattle.report_defs.specs.Status.{IsOneOf}
use Rattle.report_defs.specs.Report.{Report, report_without_lines, IsReport}
use Rattle.report_defs.specs.Promise.{MatchesReport, KeepsOrder, IsSoundStoreOf, Finds, FindsNoStore}
use Rattle.report_defs.specs.Survival.{Each, KeepsStore, KeepsDisk}
use Rattle.run_text.specs.Output.{IsStop, MatchesReportOf}
use Rattle.run_text.specs.Store.{DeliversCommand, opening_stops}
use Rattle.run_text.proofs.LineLemmas.{prefix_of_all, prefix_of_none}
use Rattle.run_text.proofs.Statuses.{stop_not_reported, opening_reported, opening_stop}

-- ---- What the disk reads as

pub if_told : (reads : Option Image) (P : Image → Type 0) (now : Image) → IfSome reads P → reads ≡ Some now → P now
if_told reads P now known told = subst (λ (r : Option Image). IfSome r P) told known

-- the store that a command finds is the one that was opened
pub opened_store : (reads : Option Image) (chain : Chain) (store : Store) → IfSome reads (λ now. store_of now ≡ Keeps chain) → IsSoundStoreOf reads store → store ≡ Keeps chain
opened_store reads chain store kept found = found.2 ∙ if_told reads (λ now. store_of now ≡ Keeps chain) found.0 kept found.1

-- and its chain has joined
opened_joined : (reads : Option Image) (chain : Chain) (store : Store) → IfSome reads (λ now. store_of now ≡ Keeps chain) → IsSoundStoreOf reads store → IsJoined chain
opened_joined reads chain store kept found = joined_of_image chain found.0 (found.3 chain (opened_store reads chain store kept found))

-- where a store was opened, there is one
pub opened_there : (reads : Option Image) (chain : Chain) (now : Image) → IfSome reads (λ now. store_of now ≡ Keeps chain) → reads ≡ Some now
    → ((chain : Chain) → store_of now ≡ Keeps chain → ⊥) → ⊥
opened_there reads chain now kept told none = none chain (if_told reads (λ now. store_of now ≡ Keeps chain) now kept told)

pub same_chain : (a b : Chain) → Keeps a ≡ Keeps b → a ≡ b
same_chain a b e = cc

-- ---- The store of an image that stands for a chain

empty_log : log_of [] ≡ None
unfolding log_of
empty_log = refl

no_log_of : (bytes : List ℕ) (log : LogContent) → length bytes ≡ 0 → log_of bytes ≡ Some log → ⊥
no_log_of [] log none is = let never : None ≡ Some log = sym empty_log ∙ is in cc
no_log_of (b ∷ bs) log none is = omega (arith, none)

pub store_of_stands : (chain : Chain) (image : Image) → StandsFor chain image → store_of image ≡ Keeps chain
unfolding store_of
store_of_stands chain image stands =
    let some : length image.log ≡ 0 → ⊥ = λ none. no_log_of image.log stands.log none stands.is_log in
    let test : (length image.log == 0) ≡ false = grind (arith, nat_tests) in
    rw test (ap store_of_log stands.is_log ∙ ap Keeps stands.keeps)

-- ---- Where a store was opened

-- a report that is a function of the input
pub by_function : (report : List ℕ → Report) (IsReportOf : List ℕ → Report → Type 0) (given : List ℕ) (left : Option (List ℕ)) (taken : List ℕ) (status : Status)
    → ((whole : List ℕ) → IsReportOf whole (report whole)) → MatchesReportOf report given left taken status → MatchesReport IsReportOf given left taken status
by_function report IsReportOf given left taken status is says = record {
  prefix = λ more at. inr (report (given ++ more), is (given ++ more), says.prefix more at);
  whole = λ more at told. (report (given ++ more), is (given ++ more), says.whole_text more at told, says.same_status more at told);
}

-- What is said is said of what has joined, as what a sound store keeps has.
pub delivers_over : (has_joined : Type 0) (command : Command) (reads : Option Image) (chain : Chain) (at_start at_exit meanwhile : Image → Type 0)
    (left : Option (List ℕ)) (given taken : List ℕ) (status : Status)
    → ((store : Store) → Finds (Some command) reads store → IsSoundStoreOf reads store)
    → IfSome reads (λ now. store_of now ≡ Keeps chain)
    → ((store : Store) → IsSoundStoreOf reads store → has_joined)
    → (report : List ℕ → Report) → ((whole : List ℕ) → IsReport (Some command) whole (Keeps chain) (report whole))
    → (has_joined → MatchesReportOf report given left taken status × KeepsOrder (Some command) (Keeps chain) given left taken status)
    → ((now : Image) → reads ≡ Some now → KeepsDisk (Some command) now at_start at_exit meanwhile given taken status)
    → DeliversCommand command reads at_start at_exit meanwhile left given taken status
delivers_over has_joined command reads chain at_start at_exit meanwhile left given taken status sound kept joined report is says disk = record {
  text = λ store finds.
      let found = sound store finds in
      subst (λ (s : Store). MatchesReport (λ whole said. IsReport (Some command) whole s said) given left taken status) (sym (opened_store reads chain store kept found))
      (by_function report (λ whole said. IsReport (Some command) whole (Keeps chain) said) given left taken status is (says (joined store found)).0);
  order = λ store finds.
      let found = sound store finds in
      subst (λ (s : Store). KeepsOrder (Some command) s given left taken status) (sym (opened_store reads chain store kept found))
      (says (joined store found)).1;
  disk = disk;
}

-- of a chain that has joined
pub delivers : (command : Command) (reads : Option Image) (chain : Chain) (at_start at_exit meanwhile : Image → Type 0) (left : Option (List ℕ)) (given taken : List ℕ) (status : Status)
    → ((store : Store) → Finds (Some command) reads store → IsSoundStoreOf reads store)
    → IfSome reads (λ now. store_of now ≡ Keeps chain)
    → (report : List ℕ → Report) → ((whole : List ℕ) → IsReport (Some command) whole (Keeps chain) (report whole))
    → (IsJoined chain → MatchesReportOf report given left taken status × KeepsOrder (Some command) (Keeps chain) given left taken status)
    → ((now : Image) → reads ≡ Some now → KeepsDisk (Some command) now at_start at_exit meanwhile given taken status)
    → DeliversCommand command reads at_start at_exit meanwhile left given taken status
delivers command reads chain at_start at_exit meanwhile left given taken status sound kept =
    delivers_over (IsJoined chain) command reads chain at_start at_exit meanwhile left given taken status sound kept (λ store found. opened_joined reads chain store kept found)

-- what is kept of the chain that was opened is kept of that which the disk reads as
pub keeps_opened : (watched : Option (List ℕ)) (reads : Option Image) (chain : Chain) (items : List (List ℕ)) (at_start at_exit meanwhile : Image → Type 0) (taken : List ℕ) (status : Status)
    → IfSome reads (λ now. store_of now ≡ Keeps chain)
    → ((now : Image) → reads ≡ Some now → store_of now ≡ Keeps chain → Each at_start IsSound → KeepsStore watched chain items taken status at_start at_exit meanwhile)
    → (now : Image) → reads ≡ Some now → (other : Chain) → store_of now ≡ Keeps other → Each at_start IsSound → KeepsStore watched other items taken status at_start at_exit meanwhile
keeps_opened watched reads chain items at_start at_exit meanwhile taken status kept store now told other keeps sound =
    let here = if_told reads (λ image. store_of image ≡ Keeps chain) now kept told in
    subst (λ (k : Chain). KeepsStore watched k items taken status at_start at_exit meanwhile) (same_chain chain other (sym here ∙ keeps)) (store now told here sound)

module _ {D : Type 0} (images : D → Image → Type 0) (moment : D → ℕ) (left_since : D → ℕ → Image → Type 0)
    (counts_now : (disk : D) (t : ℕ) (image : Image) → t ≤ moment disk → images disk image → left_since disk t image) where
  -- opened, and nothing more
  pub keeps_read : (old new : D) (chain : Chain) (taken : List ℕ) (status : Status)
      → LeavesOnly moment left_since old new (λ image. images old image ⊎ StandsFor chain image)
      → Each (images new) (StandsFor chain)
      → KeepsStore None chain [] taken status (images old) (images new) (left_since new (moment old))
  keeps_read old new chain taken status opened exit = record {
    exit = λ image left. inr (0, prefix_of_all None chain [] taken (inr (taken, refl)), exit image left);
    moments = λ image left. elim (opened.each image left) [ inl past ↦ inl past | inr stands ↦ inr (0, omega arith, stands) ];
  }

  -- not opened
  pub keeps_unopened : (watched : Option (List ℕ)) (old new : D) (chain : Chain) (items : List (List ℕ)) (status : Status) → IsOneOf (DiskFault ∷ NoMemory ∷ []) status
      → LeavesOnly moment left_since old new (λ image. images old image ⊎ StandsFor chain image)
      → KeepsStore watched chain items [] status (images old) (images new) (left_since new (moment old))
  keeps_unopened watched old new chain items status stop opened = record {
    exit = λ image left. elim (now_too moment left_since images counts_now old new (λ image. images old image ⊎ StandsFor chain image) opened image left) [
      | inl past ↦ inl (stop, refl, past)
      | inr stands ↦ inr (0, prefix_of_none watched chain items 0 (omega arith), stands)
    ];
    moments = λ image left. elim (opened.each image left) [ inl past ↦ inl past | inr stands ↦ inr (0, omega arith, stands) ];
  }

-- ---- Where none was opened

-- the report says so
pub none_says : (IsReportOf : List ℕ → Report → Type 0) (left : Option (List ℕ)) (status : Status) → IsOneOf opening_stops status
    → ((input : List ℕ) → IsReportOf input (report_without_lines [] NotAStore)) → MatchesReport IsReportOf [] left [] status
none_says IsReportOf left status one says = record {
  prefix = λ more is. inl refl;
  whole = λ more is told. (report_without_lines [] NotAStore, says more, refl, opening_reported status one told);
}

-- the run was stopped before a byte was written
pub stop_says : (IsReportOf : List ℕ → Report → Type 0) (given : List ℕ) (left : Option (List ℕ)) (status : Status) → IsStop status
    → MatchesReport IsReportOf given left [] status
stop_says IsReportOf given left status stop = record {
  prefix = λ more is. inl refl;
  whole = λ more is told. absurd (stop_not_reported status stop told);
}

finds_none : (status : Status) → IsOneOf opening_stops status → FindsNoStore [] [] status
finds_none status one = record { untouched = record { unread = refl; unwritten = refl }; answer = one }

-- what is sound is opened, where nothing else stops it
pub sound_opening : (reads : Option Image) (status : Status) (now : Image) → (status ≡ NotAStore → IfSome reads (λ now. IsSound now → ⊥))
    → reads ≡ Some now → IsSound now → status ≡ NotAStore → ⊥
sound_opening reads status now none told sound e = if_told reads (λ now. IsSound now → ⊥) now (none e) told sound

-- so is what a disk reads as, where each of its images is sound
pub sound_here : (reads : Option Image) (images : Image → Type 0) (now : Image) → IfSome reads images → reads ≡ Some now → Each images IsSound → IsSound now
sound_here reads images now here told sound = sound now (if_told reads images now here told)

stopped_opening : (reads : Option Image) (status : Status) (chain : Chain) → (status ≡ NotAStore → IfSome reads (λ now. IsSound now → ⊥))
    → IsSoundStoreOf reads (Keeps chain) → status ≡ NotAStore → ⊥
stopped_opening reads status chain none found = sound_opening reads status found.0 none found.1 (chain, found.3 chain refl)

pub by_disk_or_memory : (status : Status) → IsOneOf opening_stops status → (status ≡ NotAStore → ⊥) → IsOneOf (DiskFault ∷ NoMemory ∷ []) status
by_disk_or_memory status (inl none) there = absurd (there none)
by_disk_or_memory status (inr later) there = later

-- A command that opens the store. Its report and order are given for where there is none, and for a chain where the run was stopped.
pub unopened : (command : Command) (reads : Option Image) (at_start at_exit meanwhile : Image → Type 0) (left : Option (List ℕ)) (status : Status)
    → ((store : Store) → Finds (Some command) reads store → IsSoundStoreOf reads store)
    → IsOneOf opening_stops status
    → (status ≡ NotAStore → IfSome reads (λ now. IsSound now → ⊥))
    → ((input : List ℕ) → IsReport (Some command) input NoLog (report_without_lines [] NotAStore))
    → ((input : List ℕ) → IsReport (Some command) input NotALog (report_without_lines [] NotAStore))
    → (FindsNoStore [] [] status → KeepsOrder (Some command) NoLog [] left [] status)
    → (FindsNoStore [] [] status → KeepsOrder (Some command) NotALog [] left [] status)
    → ((chain : Chain) → IsStop status → KeepsOrder (Some command) (Keeps chain) [] left [] status)
    → ((now : Image) → reads ≡ Some now → KeepsDisk (Some command) now at_start at_exit meanwhile [] [] status)
    → DeliversCommand command reads at_start at_exit meanwhile left [] [] status
unopened command reads at_start at_exit meanwhile left status sound one none no_log not_a_log order_none order_not order_stop disk = record {
  text = λ store finds. text store (sound store finds);
  order = λ store finds. order store (sound store finds);
  disk = disk;
}
  where
    text : (store : Store) → IsSoundStoreOf reads store → MatchesReport (λ whole said. IsReport (Some command) whole store said) [] left [] status
    text NoLog found = none_says (λ whole said. IsReport (Some command) whole NoLog said) left status one no_log
    text NotALog found = none_says (λ whole said. IsReport (Some command) whole NotALog said) left status one not_a_log
    text (Keeps chain) found =
        stop_says (λ whole said. IsReport (Some command) whole (Keeps chain) said) [] left status (opening_stop status one (stopped_opening reads status chain none found))

    order : (store : Store) → IsSoundStoreOf reads store → KeepsOrder (Some command) store [] left [] status
    order NoLog found = order_none (finds_none status one)
    order NotALog found = order_not (finds_none status one)
    order (Keeps chain) found = order_stop chain (opening_stop status one (stopped_opening reads status chain none found))
