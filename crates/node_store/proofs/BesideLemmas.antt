-- A node and its disk after a snapshot was taken: LOG is as it was, and one more area may read otherwise.
use Rattle.std.proofs.Common.{◌≡◌, ◌⊎◌, true, ℕ, ◌≤◌, List, [], Option, Some, None, refl, sym, ap, ◌∙◌, subst, inr}
use Rattle.std.specs.Prelude.{◌↔◌, IfSome, IsSome, IsOk, Result, Err}
use Rattle.std.specs.Option.{option_map}
use Rattle.outside.specs.declared.disk.ReadStop.{ReadStop}
use Rattle.outside.specs.declared.disk.ReadStop.TheVariants as reads
use Rattle.outside.specs.declared.disk.WriteStop.{WriteStop}
use Rattle.outside.specs.declared.disk.WriteStop.TheVariants as writes
use Rattle.outside.specs.declared.disk.Area.TheVariants.{Log}
use Rattle.outside.specs.Image.{Image, content, with_content}
use Rattle.outside.specs.Disk.{ComesBy, OthersRead, LeavesOnly, AreaKept}
use Rattle.outside.proofs.Images.{own_content}
use Rattle.outside.proofs.Moments.{leaves_also, leaves_then, now_too}
use Rattle.verdict_defs.specs.Chain.{Chain, chain_after}
use Rattle.verdict_defs.specs.declared.verdict.Verdict.{Verdict}
use Rattle.verdict_defs.specs.Verdict.{joins}
use Rattle.disk_defs.specs.Log.{Record}
use Rattle.disk_defs.specs.Rest.{IsAtRest, IsSettled, IsAppended}
use Rattle.log_file.specs.Pieces.{block_record}
use Rattle.log_file.specs.Opening.{kept_records}
use Rattle.node_store.specs.StoredLaws.{NamesTheLog}
use Rattle.disk_defs.specs.Snapshot.{area_of}
use Rattle.store_defs.specs.Store.{StandsFor}
use Rattle.node_store.specs.Node.{NodeValue, kept_in, IsOwnDisk, IsOwnDiskWhereTold, StandsOnDisk, IsOnlyImage, IsLeftByImport, IsSettledAfter, AreRecordsWith}
use Rattle.node_store.specs.Kept.{stored_of}
use Rattle.node_store.specs.Snapshot.{OnlySnapshotReads, OthersReadBut, IsSettledWith, with_log_and}
use Rattle.node_store.proofs.OpenLemmas.{not_ok}
use Rattle.node_store.proofs.SnapshotLemmas.{log-beside, none-log}

-- ---- What reads otherwise

-- LOG alone
pub others-log : (due : Option ℕ) (old new : Option Image) → OthersRead Log old new → OthersReadBut due old new
others-log None old new others = others
others-log (Some number) None new (log, is) = (log, [], is)
others-log (Some number) (Some image) new (log, is) =
    (log, content (area_of number) (with_content Log log image), is ∙ ap (λ (i : Image). Some i) (own_content (area_of number) (with_content Log log image)))

-- and then the area of a snapshot
pub others-both : (due : Option ℕ) (old mid new : Option Image) → OthersRead Log old mid → OnlySnapshotReads due mid new → OthersReadBut due old new
others-both None old mid new others same = (others.0, same ∙ others.1)
others-both (Some number) old mid new (log, is) (bytes, was) =
    (log, bytes, was ∙ ap (option_map (with_content (area_of number) bytes)) is ∙ twice old)
  where
    twice : (reads : Option Image) → option_map (with_content (area_of number) bytes) (option_map (with_content Log log) reads)
        ≡ option_map (with_log_and (area_of number) log bytes) reads
    twice None = refl
    twice (Some image) = refl

-- ---- LOG as it was

-- What a disk reads as, with the log of another image.
record HasLogOf (reads : Option Image) (now : Image) : Type 0 where
  later : Image
  told : reads ≡ Some later
  log : later.log ≡ now.log

log-told : (due : Option ℕ) (mid new : Option Image) (now : Image) → OnlySnapshotReads due mid new → mid ≡ Some now → HasLogOf new now
log-told None mid new now same told = record { later = now; told = same ∙ told; log = refl }
log-told (Some number) mid new now (bytes, is) told = record {
  later = with_content (area_of number) bytes now;
  told = is ∙ ap (option_map (with_content (area_of number) bytes)) told;
  log = log-beside (area_of number) bytes now (none-log number);
}

log-untold : (due : Option ℕ) (mid new : Option Image) → OnlySnapshotReads due mid new → mid ≡ None → new ≡ None
log-untold None mid new same none = same ∙ none
log-untold (Some number) mid new (bytes, is) none = is ∙ ap (option_map (with_content (area_of number) bytes)) none

module _ {D : Type 0} (reads_as : D → Option Image) (images : D → Image → Type 0) (moment : D → ℕ) (left_since : D → ℕ → Image → Type 0)
    (counts_now : (disk : D) (t : ℕ) (image : Image) → t ≤ moment disk → images disk image → left_since disk t image)
    (mid new : D) (due : Option ℕ) (log : LeavesOnly moment left_since mid new (ComesBy (AreaKept Log) (images mid)))
    (others : OnlySnapshotReads due (reads_as mid) (reads_as new)) where
  from-mid : (image : Image) → images new image → ComesBy (AreaKept Log) (images mid) image
  from-mid = now_too moment left_since images counts_now mid new (ComesBy (AreaKept Log) (images mid)) log

  pub settled-beside : (place : ℕ) (records : List Record) → IsSettled place records (reads_as mid) (images mid) → IsSettled place records (reads_as new) (images new)
  settled-beside place records settled =
      let at : HasLogOf (reads_as new) settled.now = log-told due (reads_as mid) (reads_as new) settled.now others settled.told in
      record {
        now = at.later;
        told = at.told;
        rest = subst (IsAtRest place records) (sym at.log) settled.rest;
        durable = λ image left. let it = from-mid image left in it.2 ∙ settled.durable it.0 it.1 ∙ sym at.log;
      }

  pub of-beside : (node : NodeValue) → IsOwnDisk node (reads_as mid) (images mid) → IsOwnDisk node (reads_as new) (images new)
  of-beside node of =
      let at : HasLogOf (reads_as new) of.now = log-told due (reads_as mid) (reads_as new) of.now others of.told in
      record {
        now = at.later;
        told = at.told;
        read = record {
          specification = of.read.specification;
          records = of.read.records;
          keeps = of.read.keeps;
          edition = of.read.edition;
          names = subst (λ (l : List ℕ). NamesTheLog l of.read.specification of.read.records node.entries) (sym at.log) of.read.names;
          can = of.read.can;
          agrees = of.read.agrees;
        };
        settled = settled-beside node.place _ of.settled;
      }

  pub own-beside : (node : NodeValue) → IsOwnDiskWhereTold node (reads_as mid) (images mid) → IsOwnDiskWhereTold node (reads_as new) (images new)
  own-beside node own = by (reads_as mid) refl own
    where
      by : (found : Option Image) → reads_as mid ≡ found → IfSome found (λ _. IsOwnDisk node (reads_as mid) (images mid)) → IsOwnDiskWhereTold node (reads_as new) (images new)
      by None none own = subst (λ (o : Option Image). IfSome o (λ _. IsOwnDisk node (reads_as new) (images new))) (sym (log-untold due (reads_as mid) (reads_as new) others none)) tt
      by (Some now) told own =
          let at : HasLogOf (reads_as new) now = log-told due (reads_as mid) (reads_as new) now others told in
          subst (λ (o : Option Image). IfSome o (λ _. IsOwnDisk node (reads_as new) (images new))) (sym at.told) (of-beside node own)

  pub on-beside : (node : NodeValue) → StandsOnDisk node (reads_as mid) (images mid) → IsOnlyImage node.chain (reads_as new) (images new) → StandsOnDisk node (reads_as new) (images new)
  on-beside node on image = record { image = image; of = of-beside node on.of; sound = on.sound }

  pub after-beside : (records : List Record) (item : List ℕ) (verdict : Verdict) (place : ℕ) → IsSettledAfter records item verdict place (reads_as mid) (images mid)
      → IsSettledAfter records item verdict place (reads_as new) (images new)
  after-beside records item verdict place (later, are, settled) = (later, are, settled-beside place later settled)

  -- the record of the block that joined is there
  pub behind-beside : (records : List Record) (item : List ℕ) (verdict : Verdict) (place : ℕ) → joins verdict ≡ true
      → IsSettledAfter records item verdict place (reads_as mid) (images mid) → IsSettledWith records item (reads_as new) (images new)
  behind-beside records item verdict place joined (later, are, settled) = from (subst (AreRecordsWith records item later) joined are)
    where
      from : AreRecordsWith records item later true → IsSettledWith records item (reads_as new) (images new)
      from (ext, is) = (ext, place, subst (λ (rs : List Record). IsSettled place rs (reads_as new) (images new)) is (settled-beside place later settled))

  pub keeps-beside : (old : D) (place : ℕ) (records : List Record) (item : List ℕ) → LeavesOnly moment left_since old mid (IsLeftByImport place records item (images old))
      → LeavesOnly moment left_since old new (IsLeftByImport place records item (images old))
  keeps-beside old place records item first =
      leaves_then moment left_since old mid new (IsLeftByImport place records item (images old)) first
      (leaves_also moment left_since mid new (ComesBy (AreaKept Log) (images mid)) (IsLeftByImport place records item (images old)) log
      (λ image (before, there, same). from image before same (now_too moment left_since images counts_now old mid (IsLeftByImport place records item (images old)) first before there)))
    where
      from : (image before : Image) → image.log ≡ before.log → IsLeftByImport place records item (images old) before → IsLeftByImport place records item (images old) image
      from image before same (ext, (earlier, left, appended)) =
          (ext, (earlier, left, subst (IsAppended place records (block_record item ext) earlier.log) (sym same) appended))

  pub moments-beside : (old : D) (chain next : Chain) (item : List ℕ) → next ≡ chain_after chain item
      → LeavesOnly moment left_since old mid (λ image. StandsFor chain image ⊎ StandsFor (chain_after chain item) image)
      → LeavesOnly moment left_since mid new (StandsFor next) → LeavesOnly moment left_since old new (λ image. StandsFor chain image ⊎ StandsFor (chain_after chain item) image)
  moments-beside old chain next item is first second =
      leaves_then moment left_since old mid new (λ image. StandsFor chain image ⊎ StandsFor (chain_after chain item) image) first
      (leaves_also moment left_since mid new (StandsFor next) (λ image. StandsFor chain image ⊎ StandsFor (chain_after chain item) image) second
      (λ image stands. inr (subst (λ (k : Chain). StandsFor k image) is stands)))

-- ---- Why no snapshot was written

-- memory was wanted where the disk did not fail
pub no-memory : (result : ReadStop) (stop : WriteStop) → (result ≡ reads.NoMemory) ↔ (stop ≡ writes.NoMemory) → (result ≡ reads.DiskFault) ↔ (stop ≡ writes.DiskFault)
    → (result ≡ reads.DiskFault → ⊥) → result ≡ reads.NoMemory
no-memory result writes.DiskFault memory fault other = absurd (other (fault.1 refl))
no-memory result writes.NoMemory memory fault other = memory.1 refl

-- one was due
pub due-some : {T E : Type 0} (due : Option ℕ) (result : Result T E) (stop : E) → (due ≡ None → IsOk result) → result ≡ Err stop → IsSome due
due-some None result stop none is = absurd (not_ok result stop is (none refl))
due-some (Some number) result stop none is = refl
