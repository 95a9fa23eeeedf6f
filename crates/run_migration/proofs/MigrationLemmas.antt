-- What is printed of a migration, and what it leaves of the disk.
use Rattle.std.proofs.Common.{◌≡◌, ◌⊎◌, inl, inr, ℕ, ◌≤◌, Bool, true, false, cond, List, [], ◌∷◌, drop, refl, sym, ap, ◌∙◌, subst, append-nil}
use Rattle.std.specs.Prelude.{Option, Some, None, is_some, IfSome}
use Rattle.outside.specs.Image.{Image}
use Rattle.outside.specs.Disk.{LeavesOnly, OthersRead, IsKnownAsBefore}
use Rattle.outside.specs.declared.disk.Area.TheVariants.{Log}
use Rattle.outside.proofs.Moments.{started, leaves_also, leaves_then, now_too}
use Rattle.verdict_defs.specs.Chain.{Chain}
use Rattle.disk_defs.specs.Log.{Record, records_of, edition_record}
use Rattle.disk_defs.specs.Rest.{IsAtRest, IsSettled, IsBeforeOrAfter, HasAppended}
use Rattle.store_defs.specs.Store.{Keeps, store_of, StandsFor, IsSound}
use Rattle.store_defs.specs.declared.moved.Moved.{Moved}
use Rattle.store_defs.specs.declared.moved.Moved.TheVariants as moves
use Rattle.store_defs.specs.Migration.{migration, is_done, chain_moved, migrated}
use Rattle.store_defs.specs.EditionLaws.{edited_chain}
use Rattle.node_store.specs.Node.{IsOnlyImage, IsLeftByOpening}
use Rattle.report_defs.specs.declared.status.Status.{Status}
use Rattle.report_defs.specs.declared.status.Status.TheVariants.{Done, SinkFault, DiskFault, NoMemory, NotAStore, TooEarly, AlreadyMigrated}
use Rattle.report_defs.specs.Status.{IsOneOf}
use Rattle.report_defs.specs.Report.{Report, report_of_moved, report_of_migration}
use Rattle.report_defs.specs.Promise.{ReadsNothingInOrder, IsStoppedBeforeTheSink, migrate_statuses}
use Rattle.report_defs.specs.Survival.{Each, MovesStore, GoesOn, IsOfEdition, KeepsRecords, refusals}
use Rattle.run_text.specs.Output.{MatchesReportOf, IsSaid, IsWrittenAnswer}
use Rattle.run_text.specs.Store.{opening_stops}
use Rattle.run_text.proofs.Statuses.{each_of, IsEarly, is_early}
use Rattle.run_text.proofs.StoreLemmas.{if_told, same_chain}
use Rattle.run_text.proofs.Tables.{among, apart, lacks}
use Rattle.run_text.proofs.WholeReports.{said_text}
use Rattle.run_store.proofs.RecordLemmas.{opened_goes_on}
use Rattle.run_migration.specs.Migration.{LeavesMoved, moving_statuses, outcomes, telling_statuses}

-- ---- What is printed

-- no fault is reported
moved_no_stop : (epoch : ℕ) (moved : Moved) → IsEarly (report_of_moved epoch moved).status → ⊥
moved_no_stop epoch moves.Done early = early
moved_no_stop epoch (moves.TooEarly reached) early = early
moved_no_stop epoch (moves.Already first) early = early

silent : (epoch : ℕ) (chain : Chain) (taken : List ℕ) (status : Status) → IsSaid (report_of_migration epoch chain) status taken → IsStoppedBeforeTheSink status → taken ≡ []
silent epoch chain taken status (inl told) early =
    absurd (moved_no_stop epoch (migration chain epoch) (is_early (report_of_migration epoch chain).status (subst IsStoppedBeforeTheSink told.1 early)))
silent epoch chain taken status (inr part) early = part.silent early

pub migration_said : (epoch : ℕ) (chain : Chain) (left : Option (List ℕ)) (taken : List ℕ) (status : Status) → IsSaid (report_of_migration epoch chain) status taken
    → MatchesReportOf (λ whole. report_of_migration epoch chain) [] left taken status × ReadsNothingInOrder [] taken status
migration_said epoch chain left taken status said = (
  said_text (λ whole. report_of_migration epoch chain) (report_of_migration epoch chain) left [] taken status said (λ more is. refl),
  record { unread = refl; silent = silent epoch chain taken status said },
)

-- ---- The statuses

pub opening_migrates : (status : Status) → IsOneOf opening_stops status → IsOneOf migrate_statuses status
opening_migrates = among opening_stops migrate_statuses refl

pub moving_migrates : (status : Status) → IsOneOf moving_statuses status → IsOneOf migrate_statuses status
moving_migrates = among moving_statuses migrate_statuses refl

stopped_no_done : (status : Status) → IsOneOf (DiskFault ∷ NoMemory ∷ []) status → status ≡ Done → ⊥
stopped_no_done = lacks (DiskFault ∷ NoMemory ∷ []) Done refl

stopped_no_refusal : (status : Status) → IsOneOf (DiskFault ∷ NoMemory ∷ []) status → IsOneOf refusals status → ⊥
stopped_no_refusal = apart (DiskFault ∷ NoMemory ∷ []) refusals refl

stopped_no_outcome : (status : Status) → IsOneOf (DiskFault ∷ NoMemory ∷ []) status → IsOneOf outcomes status → ⊥
stopped_no_outcome = apart (DiskFault ∷ NoMemory ∷ []) outcomes refl

refused_no_done : (status : Status) → IsOneOf refusals status → status ≡ Done → ⊥
refused_no_done = lacks refusals Done refl

refusal_is_one : (status : Status) → IsOneOf refusals status → IsOneOf outcomes status
refusal_is_one status refused = inr refused

pub telling_moves : (status : Status) → IsOneOf telling_statuses status → IsOneOf moving_statuses status
telling_moves = among telling_statuses moving_statuses refl

pub stopped_moves : (status : Status) → IsOneOf (DiskFault ∷ NoMemory ∷ []) status → IsOneOf moving_statuses status
stopped_moves = among (DiskFault ∷ NoMemory ∷ []) moving_statuses refl

pub telling_no_disk_fault : (status : Status) → IsOneOf telling_statuses status → status ≡ DiskFault → ⊥
telling_no_disk_fault = lacks telling_statuses DiskFault refl

pub stopped_no_sink : (status : Status) → IsOneOf (DiskFault ∷ NoMemory ∷ []) status → status ≡ SinkFault → ⊥
stopped_no_sink = lacks (DiskFault ∷ NoMemory ∷ []) SinkFault refl

-- what is told is reported, where the sink took it
pub moved_reported : (epoch : ℕ) (moved : Moved) → IsOneOf outcomes (report_of_moved epoch moved).status
moved_reported epoch moves.Done = inl refl
moved_reported epoch (moves.TooEarly reached) = inr (inl refl)
moved_reported epoch (moves.Already first) = inr (inr (inl refl))

pub told_moved : (epoch : ℕ) (moved : Moved) (text : List ℕ) (status result : Status) (taken : List ℕ) → status ≡ (report_of_moved epoch moved).status
    → IsWrittenAnswer text status result taken → IsOneOf telling_statuses result
told_moved epoch moved text status result taken is (inl told) =
    subst (λ (s : Status). IsOneOf telling_statuses s) (sym (told.1 ∙ is))
    (among outcomes telling_statuses refl (report_of_moved epoch moved).status (moved_reported epoch moved))
told_moved epoch moved text status result taken is (inr failed) = inr (inl failed.1)

outcome_no_sink : (status : Status) → IsOneOf outcomes status → status ≡ SinkFault → ⊥
outcome_no_sink = lacks outcomes SinkFault refl

pub told_outcome : (epoch : ℕ) (moved : Moved) (text : List ℕ) (status result : Status) (taken : List ℕ) → status ≡ (report_of_moved epoch moved).status
    → IsWrittenAnswer text status result taken → IsOneOf outcomes result → result ≡ (report_of_moved epoch moved).status
told_outcome epoch moved text status result taken is (inl told) one = told.1 ∙ is
told_outcome epoch moved text status result taken is (inr failed) one = absurd (outcome_no_sink result one failed.1)

pub memory_no_outcome : {P : Type 0} → IsOneOf outcomes NoMemory → P
memory_no_outcome one = absurd (stopped_no_outcome NoMemory (inr (inl refl)) one)

pub stopped_not_refused : {P : Type 0} (status : Status) → IsOneOf (DiskFault ∷ NoMemory ∷ []) status → IsOneOf refusals status → P
stopped_not_refused status stop refused = absurd (stopped_no_refusal status stop refused)

-- ---- The disk

true_not_false : true ≡ false → ⊥
true_not_false same = absurd (cc)

-- where it is refused the chain is as before
refused_undone : (epoch : ℕ) (moved : Moved) → IsOneOf refusals (report_of_moved epoch moved).status → is_done moved ≡ false
refused_undone epoch moves.Done (inl never) = cc
refused_undone epoch moves.Done (inr (inl never)) = cc
refused_undone epoch moves.Done (inr (inr never)) = absurd never
refused_undone epoch (moves.TooEarly reached) refused = refl
refused_undone epoch (moves.Already first) refused = refl

stays : (epoch : ℕ) (chain : Chain) (moved : Moved) → is_done moved ≡ false → chain_moved chain epoch moved ≡ chain
stays epoch chain moved undone = ap (λ t. cond t (edited_chain chain epoch) chain) undone

done_is_done : (epoch : ℕ) (moved : Moved) → Done ≡ (report_of_moved epoch moved).status → is_done moved ≡ false → ⊥
done_is_done epoch moves.Done told undone = cc
done_is_done epoch (moves.TooEarly reached) told undone = cc
done_is_done epoch (moves.Already first) told undone = cc

-- it is refused where what became of it says so
pub refused_not_done : (epoch : ℕ) (chain : Chain) (moved : Moved) (status : Status) → moved ≡ migration chain epoch
    → (IsOneOf outcomes status → status ≡ (report_of_moved epoch moved).status) → IsOneOf refusals status → is_done (migration chain epoch) ≡ false
refused_not_done epoch chain moved status answer tells refused =
    subst (λ (m : Moved). is_done m ≡ false) answer
    (refused_undone epoch moved (subst (λ (s : Status). IsOneOf refusals s) (tells (refusal_is_one status refused)) refused))

-- what is left once it is known what became of it
pub leaves_told : (epoch : ℕ) (chain : Chain) (moved : Moved) (status : Status) (reads : Option Image) (images : Image → Type 0) → moved ≡ migration chain epoch
    → IsOnlyImage (chain_moved chain epoch moved) reads images
    → (IsOneOf outcomes status → status ≡ (report_of_moved epoch moved).status)
    → LeavesMoved epoch chain status images
leaves_told epoch chain moved status reads images answer only tells =
    let stands : StandsFor (migrated epoch chain) only.now = subst (λ (m : Moved). StandsFor (chain_moved chain epoch m) only.now) answer only.stands in
    record {
      each = by_done (is_done moved) refl;
      done = λ done. (only.now, only.one, stands);
      refused = λ refused image left. same (refused_undone epoch moved (subst (λ (s : Status). IsOneOf refusals s) (tells (refusal_is_one status refused)) refused)) image left;
    }
  where
    same : is_done moved ≡ false → (image : Image) → images image → StandsFor chain image
    same undone image left = subst (StandsFor chain) (sym (only.one image left)) (subst (λ (k : Chain). StandsFor k only.now) (stays epoch chain moved undone) only.stands)

    told_done : status ≡ Done → is_done moved ≡ false → ⊥
    told_done done undone = done_is_done epoch moved (sym done ∙ tells (inl done)) undone

    by_done : (d : Bool) → is_done moved ≡ d
        → Each images (λ image. ((status ≡ Done → ⊥) × StandsFor chain image) ⊎ ((IsOneOf refusals status → ⊥) × StandsFor (migrated epoch chain) image))
    by_done false undone = λ image left. inl ((λ done. told_done done undone), same undone image left)
    by_done true done = λ image left. inr (
      (λ refused. true_not_false (sym done ∙ refused_undone epoch moved (subst (λ (s : Status). IsOneOf refusals s) (tells (refusal_is_one status refused)) refused))),
      subst (StandsFor (migrated epoch chain)) (sym (only.one image left))
          (subst (λ (m : Moved). StandsFor (chain_moved chain epoch m) only.now) answer only.stands),
    )

-- what is left where it was stopped
pub leaves_stopped : (epoch : ℕ) (chain : Chain) (status : Status) (images : Image → Type 0) → IsOneOf (DiskFault ∷ NoMemory ∷ []) status
    → Each images (λ image. StandsFor chain image ⊎ StandsFor (migrated epoch chain) image) → LeavesMoved epoch chain status images
leaves_stopped epoch chain status images stop either = record {
  each = λ image left. elim (either image left) [
    | inl same ↦ inl (stopped_no_done status stop, same)
    | inr moved ↦ inr (stopped_no_refusal status stop, moved)
  ];
  done = λ done. absurd (stopped_no_done status stop done);
  refused = λ refused. absurd (stopped_no_refusal status stop refused);
}

-- the record of an edition was put after the others, or not
edition_goes_on : (epoch place : ℕ) (chain : Chain) (records : List Record) (images : Image → Type 0) (image : Image) → is_done (migration chain epoch) ≡ true
    → HasAppended place records (edition_record epoch) images image → GoesOn (IsOfEdition epoch chain) records image.log
edition_goes_on epoch place chain records images image done (before, left, (bytes, appended, is)) =
    subst (λ (i : Image). GoesOn (IsOfEdition epoch chain) records i.log) (sym is) (by_rest appended.rest)
  where
    by_rest : IsBeforeOrAfter place records (edition_record epoch) bytes → GoesOn (IsOfEdition epoch chain) records bytes
    by_rest (inl rest) = record { begins = rest.begins; added = []; some = inl refl; holds = rest.holds ∙ sym (append-nil records) }
    by_rest (inr rest) = record { begins = rest.begins; added = edition_record epoch ∷ []; some = inr (done, refl); holds = rest.holds }

-- nothing was put there
settled_goes_on : (epoch place : ℕ) (chain : Chain) (records : List Record) (reads : Option Image) (images : Image → Type 0) → IsSettled place records reads images
    → (image : Image) → images image → GoesOn (IsOfEdition epoch chain) records image.log
settled_goes_on epoch place chain records reads images settled image left =
    let rest = subst (IsAtRest place records) (sym (settled.durable image left)) settled.rest in
    record { begins = rest.begins; added = []; some = inl refl; holds = rest.holds ∙ sym (append-nil records) }

module _ {D : Type 0} (reads_as : D → Option Image) (images : D → Image → Type 0) (moment : D → ℕ) (left_since : D → ℕ → Image → Type 0)
    (only_now : (disk : D) (image : Image) → left_since disk (moment disk) image → images disk image) where
  -- the records of LOG at each moment
  pub goes_on_moved : (old new : D) (epoch place : ℕ) (chain : Chain) (records : List Record) → IsSettled place records (reads_as old) (images old)
      → (is_done (migration chain epoch) ≡ false → new ≡ old)
      → LeavesOnly moment left_since old new (HasAppended place records (edition_record epoch) (images old))
      → LeavesOnly moment left_since old new (λ image. GoesOn (IsOfEdition epoch chain) records image.log)
  goes_on_moved old new epoch place chain records settled uncalled appended = by_done (is_done (migration chain epoch)) refl
    where
      by_done : (d : Bool) → is_done (migration chain epoch) ≡ d → LeavesOnly moment left_since old new (λ image. GoesOn (IsOfEdition epoch chain) records image.log)
      by_done true done = leaves_also moment left_since old new _ _ appended (λ image has. edition_goes_on epoch place chain records (images old) image done has)
      by_done false undone =
          subst (λ (disk : D). LeavesOnly moment left_since old disk (λ image. GoesOn (IsOfEdition epoch chain) records image.log)) (sym (uncalled undone))
          (started moment left_since old _ (λ image left. settled_goes_on epoch place chain records (reads_as old) (images old) settled image (only_now old image left)))

-- what the disk reads as is known still
pub others_tell : (old new : Option Image) → OthersRead Log old new → IsKnownAsBefore old new
others_tell None new others = ap is_some others.1
others_tell (Some now) new others = ap is_some others.1

-- what is left of the chain that was opened is left of that which the disk reads as
pub moves_opened : (epoch : ℕ) (reads : Option Image) (chain : Chain) (at_start at_exit meanwhile : Image → Type 0) (taken : List ℕ) (status : Status)
    → IfSome reads (λ now. store_of now ≡ Keeps chain)
    → ((now : Image) → reads ≡ Some now → store_of now ≡ Keeps chain → Each at_start IsSound → MovesStore epoch chain taken status at_start at_exit meanwhile)
    → (now : Image) → reads ≡ Some now → (other : Chain) → store_of now ≡ Keeps other → Each at_start IsSound → MovesStore epoch other taken status at_start at_exit meanwhile
moves_opened epoch reads chain at_start at_exit meanwhile taken status kept store now told other keeps sound =
    let here = if_told reads (λ image. store_of image ≡ Keeps chain) now kept told in
    subst (λ (k : Chain). MovesStore epoch k taken status at_start at_exit meanwhile) (same_chain chain other (sym here ∙ keeps)) (store now told here sound)

module _ {D : Type 0} (images : D → Image → Type 0) (moment : D → ℕ) (left_since : D → ℕ → Image → Type 0)
    (counts_now : (disk : D) (t : ℕ) (image : Image) → t ≤ moment disk → images disk image → left_since disk t image) where
  -- not opened
  pub moves_unopened : (old new : D) (epoch : ℕ) (chain : Chain) (status : Status) → IsOneOf (DiskFault ∷ NoMemory ∷ []) status
      → LeavesOnly moment left_since old new (λ image. images old image ⊎ StandsFor chain image)
      → MovesStore epoch chain [] status (images old) (images new) (left_since new (moment old))
  moves_unopened old new epoch chain status stop opened = record {
    exit = λ image left. elim (now_too moment left_since images counts_now old new (λ image. images old image ⊎ StandsFor chain image) opened image left) [
      | inl past ↦ inl (stop, refl, past)
      | inr stands ↦ inr (inl (stopped_no_done status stop, stands))
    ];
    moments = λ image left. elim (opened.each image left) [ inl past ↦ inl past | inr stands ↦ inr (inl stands) ];
    done = λ done. absurd (stopped_no_done status stop done);
    refused = λ refused. absurd (stopped_no_refusal status stop refused);
  }

  -- opened, and then moved
  pub moves_moved : (old mid new : D) (epoch : ℕ) (chain : Chain) (taken : List ℕ) (status : Status)
      → LeavesOnly moment left_since old mid (λ image. images old image ⊎ StandsFor chain image)
      → LeavesMoved epoch chain status (images new)
      → LeavesOnly moment left_since mid new (λ image. StandsFor chain image ⊎ StandsFor (migrated epoch chain) image)
      → MovesStore epoch chain taken status (images old) (images new) (left_since new (moment old))
  moves_moved old mid new epoch chain taken status opened moved moments = record {
    exit = λ image left. inr (moved.each image left);
    moments = (leaves_then moment left_since old mid new _
        (leaves_also moment left_since old mid _ (λ image. images old image ⊎ (StandsFor chain image ⊎ StandsFor (migrated epoch chain) image)) opened here)
        (leaves_also moment left_since mid new _ _ moments (λ image some. inr some))).each;
    done = moved.done;
    refused = moved.refused;
  }
    where
      here : (image : Image) → images old image ⊎ StandsFor chain image → images old image ⊎ (StandsFor chain image ⊎ StandsFor (migrated epoch chain) image)
      here image (inl past) = inl past
      here image (inr stands) = inr (inl stands)

  -- the records of LOG after both
  pub moved_keeps : (old mid new : D) (epoch : ℕ) (now : Image) (own chain : Chain) → store_of now ≡ Keeps own → store_of now ≡ Keeps chain
      → LeavesOnly moment left_since old mid (IsLeftByOpening now.log (images old))
      → LeavesOnly moment left_since mid new (λ image. GoesOn (IsOfEdition epoch own) (records_of (drop 8 now.log)) image.log)
      → KeepsRecords (IsOfEdition epoch chain) now (images old) (images new) (left_since new (moment old))
  moved_keeps old mid new epoch now own chain own_is keeps opened moved =
      let also : LeavesOnly moment left_since old new (λ image. images old image ⊎ GoesOn (IsOfEdition epoch chain) (records_of (drop 8 now.log)) image.log) =
      leaves_then moment left_since old mid new _
      (leaves_also moment left_since old mid _ _ opened (opened_goes_on (IsOfEdition epoch chain) now chain (images old) (inl refl) keeps))
      (leaves_also moment left_since mid new _ _
      (subst (λ (k : Chain). LeavesOnly moment left_since mid new (λ image. GoesOn (IsOfEdition epoch k) (records_of (drop 8 now.log)) image.log))
      (same_chain own chain (sym own_is ∙ keeps)) moved) (λ image goes. inr goes)) in
      record { exit = now_too moment left_since images counts_now old new _ also; moments = also.each }
