-- The records that LOG keeps after an opening.
use Rattle.std.proofs.Common.{◌≡◌, ◌⊎◌, inl, inr, ℕ, ◌≤◌, Bool, true, false, List, [], ◌∷◌, take, drop, length, cond, arith, refl, ap, sym, ◌∙◌, subst, append-nil}
use Rattle.std.specs.Prelude.{Option, Some, None, is_none, ◌==◌, ◌&&◌}
use Rattle.std.specs.Str.{bytes_eq}
use Rattle.std.specs.Cmp.Lexicographic.{bytes_decides}
use Rattle.std.proofs.lemmas.Bool.{and_parts}
use Rattle.std.proofs.lemmas.Bool.Decides.{nat_tests}
use Rattle.chain_defs.specs.Specification.{broken_specification_rule}
use Rattle.rule_defs.specs.Genesis.{broken_genesis_rule}
use Rattle.disk_defs.specs.LogLaws.{IsSaidBy}
use Rattle.disk_defs.proofs.Contents.{says_by_parts}
use Rattle.outside.specs.Image.{Image}
use Rattle.outside.specs.Disk.{LeavesOnly}
use Rattle.outside.proofs.Moments.{leaves_also, now_too}
use Rattle.verdict_defs.specs.Chain.{Chain}
use Rattle.store_defs.specs.Store.{NoLog, Keeps, store_of, store_of_log}
use Rattle.node_store.specs.Node.{IsLeftByOpening}
use Rattle.disk_defs.specs.Log.{Record, LogContent, magic, records_of, log_of, content_of_records}
use Rattle.report_defs.specs.Survival.{AreOfSome, GoesOn, KeepsRecords}

pub none_of : (items : List (List ℕ)) → AreOfSome items []
none_of [] = refl
none_of (x ∷ items) = inl (none_of items)

-- ---- A log that says what another says

abbrev record_of : ℕ → List ℕ → Record
record_of kind body = record { kind = kind; body = body }

-- the records that say this
abbrev all_records : LogContent → List Record
all_records log = record_of 1 log.specification ∷ record_of 2 log.genesis ∷ log.records

of_kind : (r : Record) (kind : ℕ) → (r.kind == kind) ≡ true → r ≡ record_of kind r.body
of_kind r kind is = let same : r.kind ≡ kind = grind (arith, nat_tests) in ap (λ k. record_of k r.body) same

said_by : (records : List Record) (log : LogContent) → content_of_records records ≡ Some log → records ≡ all_records log
said_by records log says =
    let is : IsSaidBy records log = (says_by_parts records log).0 says in
    let one : Record = is.one in
    let two : Record = is.two in
    let front = and_parts ((one.kind == 1) && is_none (broken_specification_rule one.body) && (two.kind == 2)) (is_none (broken_genesis_rule two.body)) is.first in
    let kinds = and_parts ((one.kind == 1) && is_none (broken_specification_rule one.body)) (two.kind == 2) front.0 in
    is.all
    ∙ ap (λ (r : Record). r ∷ two ∷ log.records)
    (of_kind one 1 (and_parts (one.kind == 1) (is_none (broken_specification_rule one.body)) kinds.0).0 ∙ ap (record_of 1) is.specification)
    ∙ ap (λ (r : Record). record_of 1 log.specification ∷ r ∷ log.records) (of_kind two 2 kinds.1 ∙ ap (record_of 2) is.genesis)

-- bytes that say something begin as a log, with the records that say it
log_begins : (bytes : List ℕ) (log : LogContent) → log_of bytes ≡ Some log → (take 8 bytes ≡ magic) × (records_of (drop 8 bytes) ≡ all_records log)
unfolding log_of
log_begins bytes log says = by_test (bytes_eq (take 8 bytes) magic) refl says
  where
    by_test : (t : Bool) → bytes_eq (take 8 bytes) magic ≡ t → cond t (content_of_records (records_of (drop 8 bytes))) None ≡ Some log
        → (take 8 bytes ≡ magic) × (records_of (drop 8 bytes) ≡ all_records log)
    by_test false is says = absurd (cc)
    by_test true is says = ((bytes_decides (take 8 bytes) magic).0 is, said_by (records_of (drop 8 bytes)) log says)

-- what opening leaves of a log
pub says_goes_on : (MayFollow : List Record → Type 0) (bytes old : List ℕ) (log : LogContent) → MayFollow [] → log_of old ≡ Some log → log_of bytes ≡ log_of old
    → GoesOn MayFollow (records_of (drop 8 old)) bytes
says_goes_on MayFollow bytes old log none was same =
    let now = log_begins bytes log (same ∙ was) in
    record {
      begins = now.0;
      added = [];
      some = none;
      holds = now.1 ∙ sym (log_begins old log was).1 ∙ sym (append-nil (records_of (drop 8 old)));
    }

-- ---- A store that was opened

log_there : (now : Image) (chain : Chain) → store_of now ≡ Keeps chain → (log : LogContent) × (log_of now.log ≡ Some log)
unfolding store_of
log_there now chain keeps = by_test (length now.log == 0) keeps
  where
    by_log : (o : Option LogContent) → log_of now.log ≡ o → store_of_log o ≡ Keeps chain → (log : LogContent) × (log_of now.log ≡ Some log)
    by_log None is keeps = absurd (cc)
    by_log (Some log) is keeps = (log, is)

    by_test : (t : Bool) → cond t NoLog (store_of_log (log_of now.log)) ≡ Keeps chain → (log : LogContent) × (log_of now.log ≡ Some log)
    by_test true keeps = absurd (cc)
    by_test false keeps = by_log (log_of now.log) refl keeps

pub opened_goes_on : (MayFollow : List Record → Type 0) (now : Image) (chain : Chain) (images : Image → Type 0) → MayFollow [] → store_of now ≡ Keeps chain
    → (image : Image) → IsLeftByOpening now.log images image → images image ⊎ GoesOn MayFollow (records_of (drop 8 now.log)) image.log
opened_goes_on MayFollow now chain images none keeps image (inl left) = inl left
opened_goes_on MayFollow now chain images none keeps image (inr (before, left, (bytes, says, is))) =
    let log = log_there now chain keeps in
    inr (subst (λ (i : Image). GoesOn MayFollow (records_of (drop 8 now.log)) i.log) (sym is) (says_goes_on MayFollow bytes now.log log.0 none log.1 says))

module _ {D : Type 0} (images : D → Image → Type 0) (moment : D → ℕ) (left_since : D → ℕ → Image → Type 0)
    (counts_now : (disk : D) (t : ℕ) (image : Image) → t ≤ moment disk → images disk image → left_since disk t image) where
  -- opened, and nothing more
  pub opening_keeps : (old new : D) (MayFollow : List Record → Type 0) (now : Image) (chain : Chain) → MayFollow [] → store_of now ≡ Keeps chain
      → LeavesOnly moment left_since old new (IsLeftByOpening now.log (images old)) → KeepsRecords MayFollow now (images old) (images new) (left_since new (moment old))
  opening_keeps old new MayFollow now chain none keeps opened =
      let also : LeavesOnly moment left_since old new (λ image. images old image ⊎ GoesOn MayFollow (records_of (drop 8 now.log)) image.log) =
      leaves_also moment left_since old new _ _ opened (opened_goes_on MayFollow now chain (images old) none keeps) in
      record { exit = now_too moment left_since images counts_now old new _ also; moments = also.each }
