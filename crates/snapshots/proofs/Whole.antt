-- A snapshot is put together of its parts, or there is none.
use Rattle.std.proofs.Common.{◌≡◌, ℕ, ◌+◌, ◌*◌, ◌<◌, ◌≤◌, ◌^◌, true, false, List, ◌∷◌, ◌++◌, length, take, drop, Option, Some, None, Ok, Err, refl, sym, ap, ◌∙◌, subst, take-append-drop, length-append, arith}
use Rattle.std.specs.Prelude.{IfSome}
use Rattle.std.specs.Int.{w32, w64, to_le_bytes}
use Rattle.std.proofs.lemmas.Bool.{lt-ltb}
use Rattle.std.proofs.lemmas.List.{take_at, drop_at, length-take, length-drop}
use Rattle.std.proofs.lemmas.Option.{slice_get_within}
use Rattle.chain_tree.specs.Entries.{entry_at}
use Rattle.chain_defs.specs.Schema.{OutPoint}
use Rattle.chain_defs.specs.Row.{Row}
use Rattle.cell_state.specs.State.{StateValue, rows}
use Rattle.chain_tree.specs.declared.entry.Entry.{Entry}
use Rattle.outside.specs.declared.disk.Area.{Area}
use Rattle.outside.specs.declared.disk.ReadStop.{ReadStop}
use Rattle.outside.specs.declared.disk.ReadStop.TheVariants.{DiskFault, NoMemory, Damaged}
use Rattle.outside.specs.Image.{Image, content}
use Rattle.disk_defs.specs.Snapshot.{Snapshot, has_open_gate, Holds}
use Rattle.disk_defs.proofs.Fields.{rows_bytes, rows-length, head_bytes, head-length, same-head, head_of, in-parts}
use Rattle.snapshots.specs.declared.head.Head.{Head}
use Rattle.snapshots.specs.Rows.{IsHeld, AreRows, HasRows}
use Rattle.snapshots.specs.Reading.{AreWithin, IsHead, has_hash, has_tip, row_count, HasSpaceFor, AreRowBytes, IsOfTree, IsRead, IsDamaged, FewSteps, AnswersHead, AnswersShort, AnswersSnapshot, damage_in}
use Rattle.snapshots.proofs.Heads.{open-by}

abbrev snapshot_of : Head → List (OutPoint × Row) → Snapshot
snapshot_of head list = record { number = head.number; tip = head.tip; hash = head.hash; rows = list }

gate-open : (bytes : List ℕ) (head : Head) → IsHead bytes head → has_open_gate bytes ≡ true
gate-open bytes head is =
    let first : List ℕ = to_le_bytes w32 head.number ++ (to_le_bytes w32 head.tip ++ (head.hash ++ to_le_bytes w64 head.count)) in
    sym (open-by 47 bytes) ∙ ap has_open_gate is.parts ∙ lt-ltb 1 (length (1 ∷ first)) (omega arith)

whole-read : (bytes found : List ℕ) (head : Head) (list : List (OutPoint × Row)) (kept : ℕ) → IsHead bytes head → AreRowBytes head.count bytes found
    → AreRows kept head.count found list → Holds bytes (snapshot_of head list)
whole-read bytes found head list kept h there are =
    let rest : List ℕ = drop (161 * head.count) (drop 49 bytes) in
    let first : take 49 bytes ≡ head_of (snapshot_of head list) = h.parts ∙ ap (λ (n : ℕ). head_bytes head.number head.tip head.hash n) (sym are.as_many) in
    let later : drop 49 bytes ≡ rows_bytes list ++ rest =
    sym (take-append-drop (161 * head.count) (drop 49 bytes)) ∙ ap (λ (l : List ℕ). l ++ rest) (sym there.1 ∙ sym are.are) in
    record {
      form = record {
        number = h.number;
        tip = h.tip;
        hash = h.hash;
        few = subst (λ (n : ℕ). n < 2 ^ 64) (sym are.as_many) h.count;
        fits = are.fits;
        rising = are.rising;
      };
      after = rest;
      parts = sym (take-append-drop 49 bytes) ∙ (λ t. first t ++ later t) ∙ sym (in-parts (snapshot_of head list) rest);
    }

-- ---- What a snapshot that the bytes hold has in common with what was read

-- the bytes after the head of a snapshot that they hold
rest-of : (bytes : List ℕ) (s : Snapshot) (holds : Holds bytes s) → drop 49 bytes ≡ rows_bytes s.rows ++ holds.after
rest-of bytes s holds =
    ap (drop 49) (holds.parts ∙ in-parts s holds.after)
    ∙ drop_at (head_of s) (rows_bytes s.rows ++ holds.after) 49 (head-length s.number s.tip s.hash (length s.rows) holds.form.hash)

long-enough : (bytes : List ℕ) (s : Snapshot) → Holds bytes s → 49 + 161 * length s.rows ≤ length bytes
long-enough bytes s holds = omega (
  arith,
  ap length (holds.parts ∙ in-parts s holds.after),
  length-append (head_of s) (rows_bytes s.rows ++ holds.after),
  length-append (rows_bytes s.rows) holds.after,
  head-length s.number s.tip s.hash (length s.rows) holds.form.hash,
  rows-length s.rows holds.form.fits,
)

record IsOfHead (head : Head) (s : Snapshot) : Type 0 where
  tips : head.tip ≡ s.tip
  hashes : head.hash ≡ s.hash
  counts : head.count ≡ length s.rows

of-head : (bytes : List ℕ) (head : Head) (s : Snapshot) → IsHead bytes head → Holds bytes s → IsOfHead head s
of-head bytes head s h holds =
    let first : take 49 bytes ≡ head_of s =
    ap (take 49) (holds.parts ∙ in-parts s holds.after)
    ∙ take_at (head_of s) (rows_bytes s.rows ++ holds.after) 49 (head-length s.number s.tip s.hash (length s.rows) holds.form.hash) in
    let same = same-head head.number head.tip head.hash head.count s.number s.tip s.hash (length s.rows) h.number h.tip h.hash h.count
    holds.form.number holds.form.tip holds.form.hash holds.form.few (sym h.parts ∙ first) in
    record { tips = same.tips; hashes = same.hashes; counts = same.counts }

true-false : true ≡ false → ⊥
true-false is = cc

-- ---- Damage

-- too short for what stands before the rows
pub short-head : (entries : List Entry) (bytes : List ℕ) → has_open_gate bytes ≡ true → length bytes < 49 → IsDamaged entries bytes
short-head entries bytes gate short = record {
  gate = gate;
  none = λ s holds of_tree. absurd (omega (arith, short, long-enough bytes s holds));
}

other-tip : (entries : List Entry) (bytes : List ℕ) (head : Head) → IsHead bytes head → has_tip entries head.tip head.hash ≡ false → IsDamaged entries bytes
other-tip entries bytes head h none = record {
  gate = gate-open bytes head h;
  none = λ s holds of_tree.
      let same = of-head bytes head s h holds in
      true-false (sym of_tree.tip ∙ sym (λ t. has_tip entries (same.tips t) (same.hashes t)) ∙ none);
}

too-short : (entries : List Entry) (bytes : List ℕ) (head : Head) → IsHead bytes head → length bytes < 49 + 161 * head.count → IsDamaged entries bytes
too-short entries bytes head h short = record {
  gate = gate-open bytes head h;
  none = λ s holds of_tree. absurd (omega (arith, short, long-enough bytes s holds, (of-head bytes head s h holds).counts));
}

no-rows : (entries : List Entry) (bytes found : List ℕ) (head : Head) → IsHead bytes head → AreRowBytes head.count bytes found
    → ((list : List (OutPoint × Row)) → AreRows (length entries) head.count found list → ⊥) → IsDamaged entries bytes
no-rows entries bytes found head h there refused = record {
  gate = gate-open bytes head h;
  none = λ s holds of_tree. refused s.rows (rows-of s holds of_tree);
}
  where
    rows-of : (s : Snapshot) → Holds bytes s → IsOfTree entries s → AreRows (length entries) head.count found s.rows
    rows-of s holds of_tree =
        let same = of-head bytes head s h holds in
        let size : length (rows_bytes s.rows) ≡ 161 * head.count = rows-length s.rows holds.form.fits ∙ ap (λ (n : ℕ). 161 * n) (sym same.counts) in
        record {
          are = sym (there.1 ∙ ap (take (161 * head.count)) (rest-of bytes s holds) ∙ take_at (rows_bytes s.rows) holds.after (161 * head.count) size);
          as_many = sym same.counts;
          fits = holds.form.fits;
          rising = holds.form.rising;
          held = of_tree.rows;
        }

-- ---- Answers

no-steps : (bytes : List ℕ) (before : ℕ) → FewSteps bytes before before
no-steps bytes before = (omega arith, omega arith)

damaged-as : (area : Area) (entries : List Entry) (bytes : List ℕ) (before after : ℕ) (stop : ReadStop) → stop ≡ Damaged (damage_in area)
    → IsDamaged entries bytes → FewSteps bytes before after → AnswersSnapshot area entries bytes before after (Err stop)
damaged-as area entries bytes before after stop is damaged few =
    subst (λ (s : ReadStop). AnswersSnapshot area entries bytes before after (Err s)) (sym is) (damaged, refl, few)

pub told-other-tip : (area : Area) (entries : List Entry) (reads : Option Image) (head : Head) (before : ℕ) (stop : ReadStop) → stop ≡ Damaged (damage_in area)
    → IfSome reads (λ image. IsHead (content area image) head) → has_tip entries head.tip head.hash ≡ false
    → IfSome reads (λ image. AnswersSnapshot area entries (content area image) before before (Err stop))
told-other-tip area entries None head before stop is h none = tt
told-other-tip area entries (Some image) head before stop is h none =
    damaged-as area entries (content area image) before before stop is (other-tip entries (content area image) head h none) (no-steps (content area image) before)

pub told-no-rows : (area : Area) (entries : List Entry) (reads mid : Option Image) (head : Head) (found : List ℕ) (before after : ℕ) (stop : ReadStop)
    → stop ≡ Damaged (damage_in area) → mid ≡ reads → IfSome reads (λ image. IsHead (content area image) head)
    → IfSome mid (λ image. AreRowBytes head.count (content area image) found)
    → ((list : List (OutPoint × Row)) → AreRows (length entries) head.count found list → ⊥) → before ≤ after → after ≤ before + head.count
    → IfSome reads (λ image. AnswersSnapshot area entries (content area image) before after (Err stop))
told-no-rows area entries None mid head found before after stop is same h there refused later most = tt
told-no-rows area entries (Some image) mid head found before after stop is same h there refused later most =
    let here : AreRowBytes head.count (content area image) found = subst (λ (o : Option Image). IfSome o (λ i. AreRowBytes head.count (content area i) found)) same there in
    damaged-as area entries (content area image) before after stop is (no-rows entries (content area image) found head h here refused)
    (later, omega (arith, most, here.0))

-- no step
pub none-taken : (reads : Option Image) (area : Area) (before : ℕ) → IfSome reads (λ image. before ≤ before + row_count (content area image))
none-taken None area before = tt
none-taken (Some image) area before = omega arith

-- no more steps than were counted
pub few-taken : (reads : Option Image) (area : Area) (head : Head) (before after : ℕ) → IfSome reads (λ image. IsHead (content area image) head)
    → after ≤ before + head.count → IfSome reads (λ image. after ≤ before + row_count (content area image))
few-taken None area head before after h most = tt
few-taken (Some image) area head before after h most = subst (λ (n : ℕ). after ≤ before + n) h.counted most

with-space : (bytes : List ℕ) (head : Head) → IsHead bytes head → HasSpaceFor head.count bytes → HasSpaceFor (row_count bytes) bytes
with-space bytes head h space = subst (λ (n : ℕ). HasSpaceFor n bytes) h.counted space

pub told-short : (area : Area) (entries : List Entry) (reads mid : Option Image) (head : Head) (before : ℕ) (stop : ReadStop) → mid ≡ reads
    → IfSome reads (λ image. IsHead (content area image) head) → IfSome mid (λ image. AnswersShort area head.count (content area image) stop)
    → IfSome reads (λ image. AnswersSnapshot area entries (content area image) before before (Err stop))
told-short area entries None mid head before stop same h short = tt
told-short area entries (Some image) mid head before stop same h short =
    by stop (subst (λ (o : Option Image). IfSome o (λ i. AnswersShort area head.count (content area i) stop)) same short)
  where
    by : (s : ReadStop) → AnswersShort area head.count (content area image) s → AnswersSnapshot area entries (content area image) before before (Err s)
    by DiskFault is = refl
    by NoMemory is = (gate-open (content area image) head h, with-space (content area image) head h is, refl)
    by (Damaged damage) is = (too-short entries (content area image) head h is.0, is.1, no-steps (content area image) before)

pub told-no-head : (area : Area) (entries : List Entry) (reads : Option Image) (before : ℕ) (stop : ReadStop)
    → IfSome reads (λ image. AnswersHead area (content area image) (Err stop))
    → IfSome reads (λ image. AnswersSnapshot area entries (content area image) before before (Err stop))
told-no-head area entries None before stop tells = tt
told-no-head area entries (Some image) before stop tells = by stop tells
  where
    by : (s : ReadStop) → AnswersHead area (content area image) (Err s) → AnswersSnapshot area entries (content area image) before before (Err s)
    by DiskFault is = refl
    by NoMemory is = absurd is
    by (Damaged damage) is = (short-head entries (content area image) is.0 is.1, is.2, no-steps (content area image) before)

pub told-all : (area : Area) (entries : List Entry) (reads mid : Option Image) (head : Head) (found : List ℕ) (state : StateValue) (before after : ℕ) → mid ≡ reads
    → IfSome reads (λ image. IsHead (content area image) head) → has_tip entries head.tip head.hash ≡ true
    → IfSome mid (λ image. AreRowBytes head.count (content area image) found) → HasRows (length entries) head.count found (rows state) → after ≡ before + head.count
    → IfSome reads (λ image. (s : Snapshot) × IsRead entries (content area image) before after head.number head.tip state s)
told-all area entries None mid head found state before after same h tip there loaded steps = tt
told-all area entries (Some image) mid head found state before after same h tip there loaded steps =
    let here : AreRowBytes head.count (content area image) found = subst (λ (o : Option Image). IfSome o (λ i. AreRowBytes head.count (content area i) found)) same there in (
      snapshot_of head loaded.list,
      record {
        holds = whole-read (content area image) found head loaded.list (length entries) h here loaded.are;
        of_tree = record { tip = tip; rows = loaded.are.held };
        number_is = refl;
        tip_is = refl;
        rows = loaded.lists;
        counted = sym h.counted ∙ sym loaded.are.as_many;
        steps = steps ∙ ap (λ (n : ℕ). before + n) (sym loaded.are.as_many);
      },
    )

-- ---- What is so whatever the disk tells

some-hash : (entries : List Entry) (tip : ℕ) (hash : List ℕ) (found : Option Entry) → entry_at entries tip ≡ found → has_hash found hash ≡ true → tip < length entries
some-hash entries tip hash None is has = absurd (true-false (sym has))
some-hash entries tip hash (Some entry) is has = slice_get_within entries tip entry is

pub within : (entries : List Entry) (tip : ℕ) (hash found : List ℕ) (count : ℕ) (state : StateValue) → has_tip entries tip hash ≡ true
    → HasRows (length entries) count found (rows state) → AreWithin entries tip state
within entries tip hash found count state has loaded = record {
  tip_is = some-hash entries tip hash (entry_at entries tip) refl has;
  rows = λ o row held.
      let place = (loaded.lists.each o row).1 held in
      subst (IsHeld (length entries)) place.2 (loaded.are.held place.0 (o, row) place.1);
}

-- an area that is long enough gives all that is read of it
pub not-fewer : (P : Image → Type 0) (area : Area) (reads mid : Option Image) (len size n : ℕ) (into : List ℕ) → mid ≡ reads
    → IfSome reads (λ image. len ≡ length (content area image)) → 49 + size ≤ len → length into ≡ size → n < size
    → IfSome mid (λ image. take n into ≡ take (length into) (drop 49 (content area image))) → IfSome reads P
not-fewer P area None mid len size n into same long there space few read = tt
not-fewer P area (Some image) mid len size n into same long there space few read =
    let bytes : take n into ≡ take (length into) (drop 49 (content area image)) =
    subst (λ (o : Option Image). IfSome o (λ i. take n into ≡ take (length into) (drop 49 (content area i)))) same read in
    absurd (omega (
      arith,
      long,
      there,
      space,
      few,
      ap length bytes,
      length-take n into,
      length-take (length into) (drop 49 (content area image)),
      length-drop 49 (content area image),
    ))

pub its-head : (area : Area) (reads : Option Image) (found : Option Head) (head : Head) → found ≡ Some head
    → IfSome reads (λ image. AnswersHead area (content area image) (Ok found)) → IfSome reads (λ image. IsHead (content area image) head)
its-head area reads found head is tells = subst (λ (f : Option Head). IfSome reads (λ image. AnswersHead area (content area image) (Ok f))) is tells
