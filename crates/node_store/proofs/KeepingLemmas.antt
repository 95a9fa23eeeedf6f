-- What the disk keeps of its records, whatever a call answers.
use Rattle.std.proofs.Common.{◌≡◌, ◌⊎◌, ℕ, false, true, List, [], ◌∷◌, ◌++◌, Option, Some, None, refl, sym, ap, subst, inl, inr, arith}
use Rattle.std.specs.Prelude.{is_some, IsSome}
use Rattle.outside.specs.declared.disk.Area.{Area}
use Rattle.outside.specs.Image.{Image, content}
use Rattle.outside.proofs.Images.{own_content}
use Rattle.outside.specs.Disk.{NoneNew, OthersRead, LeavesOnly, IsKnownAsBefore}
use Rattle.outside.proofs.Moments.{started}
use Rattle.verdict_defs.specs.declared.verdict.Verdict.{Verdict}
use Rattle.verdict_defs.specs.Verdict.{joins}
use Rattle.disk_defs.specs.Log.{Record, log_of}
use Rattle.disk_defs.specs.Rest.{IsAtRest, IsSettled, IsAppended, HasAppended, HasLog}
use Rattle.log_file.specs.Pieces.{block_record}
use Rattle.snapshots.specs.Writing.{HasAnyArea}
use Rattle.node_store.specs.Node.{IsLeftByOpening, IsLeftByImport, AreRecordsWith, IsSettledAfter}

-- ---- The areas of snapshots

pub no-some : IsSome {T = Image} None → ⊥
no-some some = cc

-- before the first call
pub any-here : (area : Area) (images : Image → Type 0) (image : Image) → images image → HasAnyArea area images image
any-here area images image left = (image, left, (content area image, tt, own_content area image))

-- what opening leaves where the snapshots were synced before
pub left_by_opening : (bytes : List ℕ) (images images1 : Image → Type 0) → NoneNew images images1
    → (image : Image) → images1 image ⊎ HasLog (λ log. log_of log ≡ log_of bytes) images1 image → IsLeftByOpening bytes images image
left_by_opening bytes images images1 none_new image (inl left) = inl (none_new image left)
left_by_opening bytes images images1 none_new image (inr (before, left, step)) = inr (before, none_new before left, step)

-- before the first call of an import
pub left_there : (place : ℕ) (records : List Record) (item ext : List ℕ) (reads : Option Image) (images : Image → Type 0) → IsSettled place records reads images
    → (image : Image) → images image → IsLeftByImport place records item images image
left_there place records item ext reads images settled image left =
    let rest : IsAtRest place records image.log = subst (IsAtRest place records) (sym (settled.durable image left)) settled.rest in
    let appended : IsAppended place records (block_record item ext) image.log image.log = record { rest = inl rest; size = omega arith } in
    (ext, (image, left, appended))

-- while its record is put after the others
pub left_appended : (place : ℕ) (records : List Record) (item ext : List ℕ) (images : Image → Type 0) (image : Image)
    → HasAppended place records (block_record item ext) images image → IsLeftByImport place records item images image
left_appended place records item ext images image (before, left, (bytes, appended, is)) =
    (ext, (before, left, subst (IsAppended place records (block_record item ext) before.log) (sym (ap (λ (i : Image). i.log) is)) appended))

pub started_import : {D : Type 0} (moment : D → ℕ) (left_since : D → ℕ → Image → Type 0) (images : D → Image → Type 0)
    → ((disk : D) (image : Image) → left_since disk (moment disk) image → images disk image)
    → (place : ℕ) (records : List Record) (item : List ℕ) (reads : Option Image) (disk : D) → IsSettled place records reads (images disk)
    → LeavesOnly moment left_since disk disk (IsLeftByImport place records item (images disk))
started_import moment left_since images only_now place records item reads disk settled =
    started moment left_since disk _ (λ image left. left_there place records item [] reads (images disk) settled image (only_now disk image left))

-- an item that stays out
pub settled_still : (records : List Record) (item : List ℕ) (verdict : Verdict) (place : ℕ) (reads : Option Image) (images : Image → Type 0) → joins verdict ≡ false
    → IsSettled place records reads images → IsSettledAfter records item verdict place reads images
settled_still records item verdict place reads images stays settled = (records, subst (AreRecordsWith records item records) (sym stays) refl, settled)

-- an item that joined
pub settled_grown : (records : List Record) (item ext : List ℕ) (verdict : Verdict) (place : ℕ) (reads : Option Image) (images : Image → Type 0) → joins verdict ≡ true
    → IsSettled place (records ++ block_record item ext ∷ []) reads images → IsSettledAfter records item verdict place reads images
settled_grown records item ext verdict place reads images joined settled =
    let later : List Record = records ++ block_record item ext ∷ [] in
    (later, subst (AreRecordsWith records item later) (sym joined) (ext, refl), settled)

-- where one area alone may read otherwise, the disk tells as before
pub known_as_before : (area : Area) (old new : Option Image) → OthersRead area old new → IsKnownAsBefore old new
known_as_before area None new (bytes, is) = ap is_some is
known_as_before area (Some image) new (bytes, is) = ap is_some is
