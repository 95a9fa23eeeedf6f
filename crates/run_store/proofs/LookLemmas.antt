-- What only looks at a node's disk: what it leaves, what stops it, and what a command delivers that opened the store and then looked.
use Rattle.std.proofs.Common.{◌≡◌, ◌⊎◌, ℕ, ◌≤◌, List, [], Option, Some, None, Result, Err, refl, sym, ap, ◌∙◌, subst}
use Rattle.std.specs.Prelude.{IfSome, is_some, ◌↔◌}
use Rattle.std.proofs.lemmas.Option.{same_Some}
use Rattle.outside.specs.Image.{Image}
use Rattle.outside.specs.Disk.{LeavesOnly, IsAsBefore, IsOnlyRead, IsKnownAsBefore}
use Rattle.outside.specs.declared.disk.ReadStop.{ReadStop}
use Rattle.outside.specs.declared.disk.ReadStop.TheVariants as stops
use Rattle.outside.proofs.Endings.{no_fault, counts-as}
use Rattle.outside.proofs.Moments.{leaves_also, leaves_then, now_too}
use Rattle.verdict_defs.specs.Chain.{Chain}
use Rattle.store_defs.specs.Store.{Keeps, store_of, StandsFor, IsSound}
use Rattle.report_defs.specs.declared.status.Status.{Status}
use Rattle.report_defs.specs.declared.status.Status.TheVariants.{DiskFault, NoMemory, NotAStore}
use Rattle.report_defs.specs.Status.{IsOneOf}
use Rattle.report_defs.specs.Survival.{Each, KeepsStore}
use Rattle.node_store.specs.Node.{NodeValue, StandsOnDisk, LeavesAll}
use Rattle.run_text.specs.Store.{OnlyReads, opening_stops}
use Rattle.run_store.proofs.DiskLemmas.{only_read_then}
use Rattle.run_text.proofs.Exits.{same_stop}
use Rattle.run_text.proofs.StoreLemmas.{if_told, keeps_opened, keeps_read}
use Rattle.run_text.proofs.Tables.{held}

-- ---- What a call leaves that looks

module _ {S C : Type 0} {content_of : S → C} {faults : S → ℕ} {old new : S} where
  -- the same of another answer that is given just where the first is
  pub looks_as : {First Fault : Type 0} → OnlyReads content_of faults old new First → (Fault → First) → (First → Fault) → OnlyReads content_of faults old new Fault
  looks_as looks from to = record { content = looks.content; cause = counts-as looks.cause from to }

  -- where nothing failed
  pub looks_well : {First Fault : Type 0} → OnlyReads content_of faults old new First → (First → ⊥) → (Fault → ⊥) → OnlyReads content_of faults old new Fault
  looks_well looks none no_more = looks_as looks (λ fault. absurd (no_more fault)) (λ first. absurd (none first))

  module _ {reads_as : S → Option Image} {images : S → Image → Type 0} {before after : NodeValue} where
    -- a node found what was asked
    pub looks_found : {Fault : Type 0} → LeavesAll content_of reads_as images faults old new before after None → (Fault → ⊥) → OnlyReads content_of faults old new Fault
    looks_found left none = record {
      content = left.content;
      cause = counts-as left.cause (λ fault. absurd (none fault)) (λ stop. absurd (no_stop stop));
    }
      where
        no_stop : None ≡ Some stops.DiskFault → ⊥
        no_stop same = absurd (cc)

    -- it was stopped
    pub looks_stopped : {T : Type 0} (stop : ReadStop) (status : Status) → LeavesAll content_of reads_as images faults old new before after (Some stop)
        → (status ≡ DiskFault) ↔ (stop ≡ stops.DiskFault) → OnlyReads content_of faults old new (◌≡◌ {A = Result T Status} (Err status) (Err DiskFault))
    looks_stopped stop status left fault = record {
      content = left.content;
      cause = counts-as left.cause (λ is. ap Some (fault.0 (same_stop _ _ is))) (λ is. ap Err (fault.1 (same_Some stop stops.DiskFault is)));
    }

    -- where it judged, what stopped the reading is known by an equation: nothing
    pub looks_judged : {Fault : Type 0} {found : Option ReadStop} → LeavesAll content_of reads_as images faults old new before after found
        → found ≡ None → (Fault → ⊥) → OnlyReads content_of faults old new Fault
    looks_judged left is none = looks_found (subst (λ (found : Option ReadStop). LeavesAll content_of reads_as images faults old new before after found) is left) none

    -- or a stop
    pub looks_stopped_judging : {T : Type 0} {found : Option ReadStop} (stop : ReadStop) (status : Status)
        → LeavesAll content_of reads_as images faults old new before after found → found ≡ Some stop
        → (status ≡ DiskFault) ↔ (stop ≡ stops.DiskFault) → OnlyReads content_of faults old new (◌≡◌ {A = Result T Status} (Err status) (Err DiskFault))
    looks_stopped_judging stop status left is =
        looks_stopped stop status (subst (λ (found : Option ReadStop). LeavesAll content_of reads_as images faults old new before after found) is left)

-- nothing was looked at
pub looks_not : {S C Fault : Type 0} {content_of : S → C} {faults : S → ℕ} (disk : S) → (Fault → ⊥) → OnlyReads content_of faults disk disk Fault
looks_not disk none = record { content = refl; cause = no_fault _ _ refl none }

-- ---- What stops it

-- what wants memory alone
pub only_memory : {T : Type 0} (result : Result T Status) (wanted : Status) → ((status : Status) → result ≡ Err status → status ≡ NoMemory) → (NoMemory ≡ wanted → ⊥)
    → result ≡ Err wanted → ⊥
only_memory result wanted memory other is = other (sym (memory wanted is))

pub memory_no_fault : {T : Type 0} (result : Result T Status) → ((status : Status) → result ≡ Err status → status ≡ NoMemory) → result ≡ Err DiskFault → ⊥
memory_no_fault result memory = only_memory result DiskFault memory (λ same. absurd (cc))

pub memory_no_none : {T : Type 0} (result : Result T Status) → ((status : Status) → result ≡ Err status → status ≡ NoMemory) → result ≡ Err NotAStore → ⊥
memory_no_none result memory = only_memory result NotAStore memory (λ same. absurd (cc))

pub memory_opening : (status : Status) → status ≡ NoMemory → IsOneOf opening_stops status
memory_opening status is = subst (λ (s : Status). IsOneOf opening_stops s) (sym is) (held opening_stops NoMemory refl)

pub memory_is_no_fault : {T : Type 0} → ◌≡◌ {A = Result T Status} (Err NoMemory) (Err DiskFault) → ⊥
memory_is_no_fault same = absurd (cc)

pub none_no_fault : {T : Type 0} → ◌≡◌ {A = Result T Status} (Err NotAStore) (Err DiskFault) → ⊥
none_no_fault same = absurd (cc)

-- ---- A store that was opened and then looked at

module _ {D C : Type 0} (content_of : D → C) (reads_as : D → Option Image) (images : D → Image → Type 0) (moment : D → ℕ) (left_since : D → ℕ → Image → Type 0)
    (rests : (old new : D) → content_of new ≡ content_of old → IsAsBefore reads_as images moment left_since old new) where
  -- it tells as before
  pub tells_looked : (old mid new : D) → IsKnownAsBefore (reads_as old) (reads_as mid) → content_of new ≡ content_of mid → IsKnownAsBefore (reads_as old) (reads_as new)
  tells_looked old mid new tells looked = ap is_some (rests mid new looked).reads ∙ tells

  module _ (counts_now : (disk : D) (t : ℕ) (image : Image) → t ≤ moment disk → images disk image → left_since disk t image) where
    -- a crash leaves what it might have left
    pub leaves_looked : (old mid new : D) (P : Image → Type 0) → LeavesOnly moment left_since old mid P → content_of new ≡ content_of mid
        → LeavesOnly moment left_since old new P
    leaves_looked old mid new P opened looked =
        leaves_then moment left_since old mid new P opened
        (leaves_also moment left_since mid new (images mid) P (rests mid new looked).moments (now_too moment left_since images counts_now old mid P opened))

    -- and was only read
    pub only_read_looked : (old mid new : D) → IsOnlyRead reads_as images moment left_since old mid → content_of new ≡ content_of mid
        → IsOnlyRead reads_as images moment left_since old new
    only_read_looked old mid new only looked = only_read_then reads_as images moment left_since old mid new only (rests mid new looked)

    -- it stands for what was opened
    stands_looked : (mid new : D) (node : NodeValue) → StandsOnDisk node (reads_as mid) (images mid) → content_of new ≡ content_of mid → Each (images new) (StandsFor node.chain)
    stands_looked mid new node on looked =
        λ image left. subst (StandsFor node.chain) (sym (on.image.one image (((rests mid new looked).images image).0 left))) on.image.stands

    -- and keeps it
    pub keeps_looked : (old mid new : D) (node : NodeValue) (taken : List ℕ) (status : Status)
        → IfSome (reads_as old) (λ now. store_of now ≡ Keeps node.chain)
        → (((image : Image) → images old image → IsSound image) → IfSome (reads_as old) (λ _. StandsOnDisk node (reads_as mid) (images mid)))
        → ((now : Image) (chain : Chain) → reads_as old ≡ Some now → store_of now ≡ Keeps chain → ((image : Image) → images old image → IsSound image)
        → LeavesOnly moment left_since old mid (λ image. images old image ⊎ StandsFor chain image))
        → content_of new ≡ content_of mid
        → (now : Image) → reads_as old ≡ Some now → (chain : Chain) → store_of now ≡ Keeps chain → Each (images old) IsSound
        → KeepsStore None chain [] taken status (images old) (images new) (left_since new (moment old))
    keeps_looked old mid new node taken status kept on moments looked =
        keeps_opened None (reads_as old) node.chain [] (images old) (images new) (left_since new (moment old)) taken status kept
        (λ now told keeps sound. keeps_read images moment left_since counts_now old new node.chain taken status
        (leaves_looked old mid new (λ image. images old image ⊎ StandsFor node.chain image) (moments now node.chain told keeps sound) looked)
        (stands_looked mid new node (if_told (reads_as old) (λ _. StandsOnDisk node (reads_as mid) (images mid)) now (on sound) told) looked))
