-- The records of LOG after those of items.
use Rattle.std.proofs.Common.{◌≡◌, ◌⊎◌, inl, inr, ℕ, ◌≤◌, Bool, true, false, List, [], ◌∷◌, ◌++◌, drop, refl, ap, sym, ◌∙◌, subst, append-nil, append_assoc}
use Rattle.std.specs.Prelude.{Option}
use Rattle.outside.specs.Image.{Image}
use Rattle.outside.specs.Disk.{ComesBy, LeavesOnly}
use Rattle.outside.proofs.Moments.{started, leaves_also, leaves_then, now_too}
use Rattle.verdict_defs.specs.declared.verdict.Verdict.{Verdict}
use Rattle.verdict_defs.specs.Verdict.{joins}
use Rattle.verdict_defs.specs.Chain.{Chain}
use Rattle.store_defs.specs.Store.{Keeps, store_of}
use Rattle.node_store.specs.Node.{IsLeftByOpening, IsLeftByImport, AreRecordsWith, IsSettledAfter}
use Rattle.disk_defs.specs.Log.{Record, records_of}
use Rattle.disk_defs.specs.Rest.{IsAtRest, IsSettled, IsAppended}
use Rattle.log_file.specs.Pieces.{block_record}
use Rattle.report_defs.specs.Survival.{AreOfSome, GoesOn, KeepsRecords}
use Rattle.run_store.proofs.RecordLemmas.{none_of, opened_goes_on}

-- an item more, of which there is none
pub some_more : (items : List (List ℕ)) (item : List ℕ) (records : List Record) → AreOfSome items records → AreOfSome (items ++ item ∷ []) records
some_more [] item records is = inl is
some_more (x ∷ items) item records (inl rest) = inl (some_more items item records rest)
some_more (x ∷ items) item records (inr (ext, later, is, some)) = inr (ext, later, is, some_more items item later some)

-- an item more, and its record
pub some_push : (items : List (List ℕ)) (item ext : List ℕ) (records : List Record) → AreOfSome items records
    → AreOfSome (items ++ item ∷ []) (records ++ block_record item ext ∷ [])
some_push [] item ext records is = inr (ext, [], ap (λ (rs : List Record). rs ++ block_record item ext ∷ []) is, refl)
some_push (x ∷ items) item ext records (inl rest) = inl (some_push items item ext records rest)
some_push (x ∷ items) item ext records (inr (own, later, is, some)) =
    inr (own, later ++ block_record item ext ∷ [], ap (λ (rs : List Record). rs ++ block_record item ext ∷ []) is, some_push items item ext later some)

-- ---- What an append leaves

-- LOG at rest with the records of before and those of some items
pub at_rest_goes_on : (items : List (List ℕ)) (records added : List Record) (place : ℕ) (bytes : List ℕ) → AreOfSome items added
    → IsAtRest place (records ++ added) bytes → GoesOn (AreOfSome items) records bytes
at_rest_goes_on items records added place bytes some rest = record { begins = rest.begins; added = added; some = some; holds = rest.holds }

pub appended_goes_on : (items : List (List ℕ)) (item ext : List ℕ) (records added : List Record) (place : ℕ) (images : Image → Type 0) (image : Image)
    → AreOfSome items added → ComesBy (λ old new. IsAppended place (records ++ added) (block_record item ext) old.log new.log) images image
    → GoesOn (AreOfSome (items ++ item ∷ [])) records image.log
appended_goes_on items item ext records added place images image some (before, left, appended) =
    elim appended.rest [
      | inl rest ↦ at_rest_goes_on (items ++ item ∷ []) records added place image.log (some_more items item added some) rest
      | inr rest ↦ record {
        begins = rest.begins;
        added = added ++ block_record item ext ∷ [];
        some = some_push items item ext added some;
        holds = rest.holds ∙ append_assoc records added (block_record item ext ∷ []);
      }
    ]

-- ---- Items after them

-- LOG is settled with the records of before and those of some of the items, and at each moment it had such.
pub record HasGrown (items : List (List ℕ)) (records : List Record) (place : ℕ) (reads : Option Image) (images : Image → Type 0)
    (leaves : (Image → Type 0) → Type 0) : Type 0 where
  pub added : List Record
  pub some : AreOfSome items added
  pub settled : IsSettled place (records ++ added) reads images
  pub moments : leaves (λ image. GoesOn (AreOfSome items) records image.log)

settled_goes_on : (items : List (List ℕ)) (records added : List Record) (place : ℕ) (reads : Option Image) (images : Image → Type 0) → AreOfSome items added
    → IsSettled place (records ++ added) reads images → (image : Image) → images image → GoesOn (AreOfSome items) records image.log
settled_goes_on items records added place reads images some settled image left =
    at_rest_goes_on items records added place image.log some (subst (IsAtRest place (records ++ added)) (sym (settled.durable image left)) settled.rest)

pub goes_more : (items : List (List ℕ)) (item : List ℕ) (records : List Record) (bytes : List ℕ) → GoesOn (AreOfSome items) records bytes → GoesOn (AreOfSome (items ++ item ∷ [])) records bytes
goes_more items item records bytes goes = record { begins = goes.begins; added = goes.added; some = some_more items item goes.added goes.some; holds = goes.holds }

left_goes_on : (items : List (List ℕ)) (item : List ℕ) (records added : List Record) (place : ℕ) (images : Image → Type 0) (image : Image) → AreOfSome items added
    → IsLeftByImport place (records ++ added) item images image → GoesOn (AreOfSome (items ++ item ∷ [])) records image.log
left_goes_on items item records added place images image some (ext, appended) = appended_goes_on items item ext records added place images image some appended

-- the records after an item of a verdict
after_item : (items : List (List ℕ)) (item : List ℕ) (records added later : List Record) (joined : Bool) → AreOfSome items added
    → AreRecordsWith (records ++ added) item later joined → (more : List Record) × AreOfSome (items ++ item ∷ []) more × (later ≡ records ++ more)
after_item items item records added later false some is = (added, some_more items item added some, is)
after_item items item records added later true some (ext, is) =
    (added ++ block_record item ext ∷ [], some_push items item ext added some, is ∙ append_assoc records added (block_record item ext ∷ []))

module _ {D : Type 0} (images : D → Image → Type 0) (moment : D → ℕ) (left_since : D → ℕ → Image → Type 0)
    (counts_now : (disk : D) (t : ℕ) (image : Image) → t ≤ moment disk → images disk image → left_since disk t image) where
  -- a store was opened, and then items imported
  pub imported_keeps : (old mid new : D) (items : List (List ℕ)) (now : Image) (chain : Chain) → store_of now ≡ Keeps chain
      → LeavesOnly moment left_since old mid (IsLeftByOpening now.log (images old))
      → LeavesOnly moment left_since mid new (λ image. GoesOn (AreOfSome items) (records_of (drop 8 now.log)) image.log)
      → KeepsRecords (AreOfSome items) now (images old) (images new) (left_since new (moment old))
  imported_keeps old mid new items now chain keeps opened imported =
      let also : LeavesOnly moment left_since old new (λ image. images old image ⊎ GoesOn (AreOfSome items) (records_of (drop 8 now.log)) image.log) =
      leaves_then moment left_since old mid new _
      (leaves_also moment left_since old mid _ _ opened (opened_goes_on (AreOfSome items) now chain (images old) (none_of items) keeps))
      (leaves_also moment left_since mid new _ _ imported (λ image goes. inr goes)) in
      record { exit = now_too moment left_since images counts_now old new _ also; moments = also.each }

  -- before the first item
  pub grown_none : ((disk : D) (image : Image) → left_since disk (moment disk) image → images disk image) → (disk : D) (records : List Record) (place : ℕ) (reads : Option Image)
      → IsSettled place records reads (images disk) → HasGrown [] records place reads (images disk) (LeavesOnly moment left_since disk disk)
  grown_none only_now disk records place reads settled =
      let here : IsSettled place (records ++ []) reads (images disk) =
      subst (λ (rs : List Record). IsSettled place rs reads (images disk)) (sym (append-nil records)) settled in
      record {
        added = [];
        some = refl;
        settled = here;
        moments = started moment left_since disk _ (λ image left. settled_goes_on [] records [] place reads (images disk) refl here image (only_now disk image left));
      }

  -- the moments of one item more
  pub grown_moments : (old mid new : D) (items : List (List ℕ)) (item : List ℕ) (records : List Record) (place : ℕ) (reads : Option Image)
      → (grown : HasGrown items records place reads (images mid) (LeavesOnly moment left_since old mid))
      → LeavesOnly moment left_since mid new (IsLeftByImport place (records ++ grown.added) item (images mid))
      → LeavesOnly moment left_since old new (λ image. GoesOn (AreOfSome (items ++ item ∷ [])) records image.log)
  grown_moments old mid new items item records place reads grown second =
      leaves_then moment left_since old mid new _
      (leaves_also moment left_since old mid _ _ grown.moments (λ image goes. goes_more items item records image.log goes))
      (leaves_also moment left_since mid new _ _ second
      (λ image left. left_goes_on items item records grown.added place (images mid) image grown.some left))

  -- one item more
  pub grown_more : (old mid new : D) (items : List (List ℕ)) (item : List ℕ) (records : List Record) (place place_new : ℕ) (reads reads_new : Option Image) (verdict : Verdict)
      → (grown : HasGrown items records place reads (images mid) (LeavesOnly moment left_since old mid))
      → LeavesOnly moment left_since mid new (IsLeftByImport place (records ++ grown.added) item (images mid))
      → IsSettledAfter (records ++ grown.added) item verdict place_new reads_new (images new)
      → HasGrown (items ++ item ∷ []) records place_new reads_new (images new) (LeavesOnly moment left_since old new)
  grown_more old mid new items item records place place_new reads reads_new verdict grown second (later, after, settled) =
      let more = after_item items item records grown.added later (joins verdict) grown.some after in
      record {
        added = more.0;
        some = more.1;
        settled = subst (λ (rs : List Record). IsSettled place_new rs reads_new (images new)) more.2 settled;
        moments = grown_moments old mid new items item records place reads grown second;
      }
