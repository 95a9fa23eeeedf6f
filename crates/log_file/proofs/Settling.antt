-- A log that was synced, read and mended.
use Rattle.std.proofs.Common.{◌≡◌, ◌⊎◌, inl, inr, ℕ, List, drop, Option, Some, None, sym, ap, ◌∙◌, subst}
use Rattle.std.specs.Prelude.{IfSome, slice_index}
use Rattle.outside.specs.declared.disk.Area.TheVariants.{Log}
use Rattle.outside.specs.Image.{Image}
use Rattle.outside.specs.Disk.{OthersRead, NoneNew, SameImages, IsDurable, LeavesOnly, IsAsBefore, IsOnlyRead}
use Rattle.outside.proofs.Moments.{leaves_also, leaves_then}
use Rattle.chain_defs.specs.Specification.{Specification}
use Rattle.chain_tree.specs.declared.entry.Entry.{Entry}
use Rattle.chain_tree.specs.Told.{Stored}
use Rattle.disk_defs.specs.Log.{Record, LogContent, log_of, records_of, end_of_log}
use Rattle.disk_defs.specs.Rest.{EndsAt, IsSettled, HasLog}
use Rattle.log_file.specs.Opening.{IsOpened, mended}
use Rattle.log_file.proofs.Creating.{others_same}
use Rattle.log_file.proofs.Front.{on_same}
use Rattle.log_file.proofs.Mending.{SaysSame, settled_of}

pub others_kept : (old new : Option Image) → new ≡ old → OthersRead Log old new
others_kept old new same = subst (OthersRead Log old) (sym same) (others_same Log old)

pub others_on : (old mid new : Option Image) → mid ≡ old → OthersRead Log mid new → OthersRead Log old new
others_on old mid new same others = subst (λ (o : Option Image). OthersRead Log o new) same others

-- what was synced stays so while it is read
pub durable_on : (reads mid : Option Image) (synced read : Image → Type 0) → mid ≡ reads → SameImages synced read → IfSome reads (IsDurable Log synced) → IfSome mid (IsDurable Log read)
durable_on reads mid synced read same images durable = subst (λ (o : Option Image). IfSome o (IsDurable Log read)) (sym same) (told reads durable)
  where
    told : (o : Option Image) → IfSome o (IsDurable Log synced) → IfSome o (IsDurable Log read)
    told None durable = tt
    told (Some now) durable = λ image left. durable image ((images image).0 left)

pub told_settled : (reads later mid final : Option Image) (place : ℕ) (images : Image → Type 0) → later ≡ reads → mid ≡ reads
    → IfSome later (λ now. EndsAt place (records_of (drop 8 now.log)) now.log) → IfSome mid (λ now. final ≡ Some (mended place now)) → IfSome final (IsDurable Log images)
    → IfSome reads (λ now. IsSettled place (records_of (drop 8 now.log)) final images)
told_settled None later mid final place images same still ends wrote durable = tt
told_settled (Some now) later mid final place images same still ends wrote durable =
    settled_of place (records_of (drop 8 now.log)) now final images (on_same later (Some now) (λ now. EndsAt place (records_of (drop 8 now.log)) now.log) same ends)
    (on_same mid (Some now) (λ now. final ≡ Some (mended place now)) still wrote) durable

pub told_moments : (reads later mid : Option Image) (place : ℕ) (old read : Image → Type 0) (Leaves Ends : (Image → Type 0) → Type 0) → later ≡ reads → mid ≡ reads
    → IfSome later (λ now. EndsAt place (records_of (drop 8 now.log)) now.log) → IfSome mid (IsDurable Log read) → NoneNew old read
    → IfSome mid (λ now. (records : List Record) → EndsAt place records now.log → IsDurable Log read now → Ends (HasLog (SaysSame now) read))
    → ((P Q : Image → Type 0) → ((image : Image) → old image → P image) → Ends Q → ((image : Image) → Q image → P image) → Leaves P)
    → IfSome reads (λ now. Leaves (λ image. old image ⊎ HasLog (SaysSame now) old image))
told_moments None later mid place old read Leaves Ends same still ends durable none_new mend then = tt
told_moments (Some now) later mid place old read Leaves Ends same still ends durable none_new mend then =
    let end = on_same later (Some now) (λ now. EndsAt place (records_of (drop 8 now.log)) now.log) same ends in
    let here = on_same mid (Some now) (IsDurable Log read) still durable in
    let last = on_same mid (Some now) (λ now. (records : List Record) → EndsAt place records now.log → IsDurable Log read now → Ends (HasLog (SaysSame now) read)) still mend in
    then (λ image. old image ⊎ HasLog (SaysSame now) old image) (HasLog (SaysSame now) read) (λ image left. inl left) (last (records_of (drop 8 now.log)) end here)
    (λ image (before, left, step). inr (before, none_new before left, step))

-- ---- What was only read

pub read_only : {D : Type 0} (reads_as : D → Option Image) (images : D → Image → Type 0) (moment : D → ℕ) (left_since : D → ℕ → Image → Type 0) (old mid new : D)
    → reads_as mid ≡ reads_as old → NoneNew (images old) (images mid) → LeavesOnly moment left_since old mid (images old)
    → IsAsBefore reads_as images moment left_since mid new → IsOnlyRead reads_as images moment left_since old new
read_only reads_as images moment left_since old mid new same none_new so_far read = record {
  reads = read.reads ∙ same;
  images = λ image left. none_new image ((read.images image).0 left);
  moments = leaves_then moment left_since old mid new (images old) so_far (leaves_also moment left_since mid new (images mid) (images old) read.moments none_new);
}

-- what was opened is a log
pub told_log : (reads later : Option Image) (specification : Specification) (stored : List Stored) (entries : List Entry) (P : Type 0) → later ≡ reads
    → IfSome later (λ now. (log : LogContent) × IsOpened now.log log specification stored entries) → IfSome reads (λ now. log_of now.log ≡ None → P)
told_log None later specification stored entries P same opened = tt
told_log (Some now) later specification stored entries P same opened = λ none.
    let (log, is) = on_same later (Some now) (λ now. (log : LogContent) × IsOpened now.log log specification stored entries) same opened in
    let both : Some log ≡ None = sym is.is_log ∙ none in
    absurd (cc)

pub told_at_rest : (reads later mid final : Option Image) (place : ℕ) → later ≡ reads → mid ≡ reads
    → IfSome later (λ now. EndsAt place (records_of (drop 8 now.log)) now.log) → IfSome mid (λ now. (slice_index now.log place ≡ 1 → ⊥) → final ≡ mid)
    → IfSome reads (λ now. (slice_index now.log (end_of_log now.log) ≡ 1 → ⊥) → final ≡ reads)
told_at_rest None later mid final place same still ends mend = tt
told_at_rest (Some now) later mid final place same still ends mend = λ closed.
    let end = on_same later (Some now) (λ now. EndsAt place (records_of (drop 8 now.log)) now.log) same ends in
    on_same mid (Some now) (λ now. (slice_index now.log place ≡ 1 → ⊥) → final ≡ mid) still mend (λ open_gate. closed (ap (slice_index now.log) end.ends ∙ open_gate)) ∙ still

-- a log at rest was only read
pub told_rests : (reads later mid : Option Image) (place : ℕ) (Uncalled P : Type 0) → later ≡ reads → mid ≡ reads
    → IfSome later (λ now. EndsAt place (records_of (drop 8 now.log)) now.log) → IfSome mid (λ now. (slice_index now.log place ≡ 1 → ⊥) → Uncalled) → (Uncalled → P)
    → IfSome reads (λ now. (slice_index now.log (end_of_log now.log) ≡ 1 → ⊥) → P)
told_rests None later mid place Uncalled P same still ends mend only = tt
told_rests (Some now) later mid place Uncalled P same still ends mend only = λ closed.
    let end = on_same later (Some now) (λ now. EndsAt place (records_of (drop 8 now.log)) now.log) same ends in
    only (on_same mid (Some now) (λ now. (slice_index now.log place ≡ 1 → ⊥) → Uncalled) still mend (λ open_gate. closed (ap (slice_index now.log) end.ends ∙ open_gate)))
