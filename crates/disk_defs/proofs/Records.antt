-- What the bytes of a log hold, by their prefix.
use Rattle.std.proofs.Common.{◌≡◌, ℕ, zero, suc, ◌+◌, ◌-◌, ◌<◌, ◌≤◌, Bool, true, false, cond, eqb, ltb, List, [], ◌∷◌, ◌++◌, length, take, drop, get_or, Option, Some, None, refl, sym, ap, ◌∙◌, subst, arith}
use Rattle.std.specs.Prelude.{slice_index, ◌&&◌, All}
use Rattle.std.specs.Int.{w32, to_le_bytes, from_le_bytes}
use Rattle.std.proofs.lemmas.Bool.{ltb-true, eqb-true, lt-ltb, eq-eqb, and_parts, and_from}
use Rattle.std.proofs.lemmas.List.{append-nil, append_assoc, length-append, length-take-le, length-drop, take-take, take_at, drop_at, drop-drop, drop-take, get_or-take}
use Rattle.std.proofs.lemmas.Nat.{from_le_bytes-to_le_bytes_4}
use Rattle.chain_defs.specs.Ext.{count_at}
use Rattle.disk_defs.specs.Log.{Record, record_at, record_bytes, all_record_bytes, records_within, records_of}
use Rattle.disk_defs.specs.LogLaws.{HasFittingBody, ReadsTheRecords, KeepsTheRecords, EndsTheRecords}

-- ---- One record

pub record_length : (r : Record) → length (record_bytes r) ≡ 6 + length r.body
record_length r = length-append (1 ∷ r.kind ∷ to_le_bytes w32 (length r.body)) r.body

-- a whole record at the start, by its parts
pub record IsRecordAt (r : Record) (bytes : List ℕ) : Type 0 where
  pub open_gate : slice_index bytes 0 ≡ 1
  pub kind : slice_index bytes 1 ≡ r.kind
  pub size : count_at bytes 2 ≡ length r.body
  pub body : take (length r.body) (drop 6 bytes) ≡ r.body
  pub whole : 6 + length r.body < length bytes

pub found_at : (bytes : List ℕ) (r : Record) → IsRecordAt r bytes → record_at bytes ≡ Some r
unfolding record_at
found_at bytes r is =
    let size : count_at bytes 2 ≡ length r.body = is.size in
    let whole : 6 + count_at bytes 2 < length bytes = omega (arith, size, is.whole) in
    let test : (eqb (slice_index bytes 0) 1 && ltb (6 + count_at bytes 2) (length bytes)) ≡ true =
    and_from (eqb (slice_index bytes 0) 1) (ltb (6 + count_at bytes 2) (length bytes)) (eq-eqb (slice_index bytes 0) 1 is.open_gate) (lt-ltb (6 + count_at bytes 2) (length bytes) whole) in
    let body : take (count_at bytes 2) (drop 6 bytes) ≡ r.body = ap (λ (n : ℕ). take n (drop 6 bytes)) size ∙ is.body in
    ap (λ (b : Bool). cond b (Some (record { kind = slice_index bytes 1; body = take (count_at bytes 2) (drop 6 bytes) })) None) test
    ∙ (λ i. Some (record { kind = is.kind i; body = body i }))

pub parts_at : (bytes : List ℕ) (r : Record) → record_at bytes ≡ Some r → IsRecordAt r bytes
unfolding record_at
parts_at bytes r is = by_test (eqb (slice_index bytes 0) 1 && ltb (6 + count_at bytes 2) (length bytes)) refl is
  where
    made : Record
    made = record { kind = slice_index bytes 1; body = take (count_at bytes 2) (drop 6 bytes) }

    by_test : (b : Bool) → (eqb (slice_index bytes 0) 1 && ltb (6 + count_at bytes 2) (length bytes)) ≡ b → cond b (Some made) None ≡ Some r → IsRecordAt r bytes
    by_test false test is = absurd (cc)
    by_test true test is =
        let both = and_parts (eqb (slice_index bytes 0) 1) (ltb (6 + count_at bytes 2) (length bytes)) test in
        let whole : 6 + count_at bytes 2 < length bytes = ltb-true (6 + count_at bytes 2) (length bytes) both.1 in
        let size : length (take (count_at bytes 2) (drop 6 bytes)) ≡ count_at bytes 2 =
        length-take-le (count_at bytes 2) (drop 6 bytes) (omega (arith, whole, length-drop 6 bytes)) in
        let parts : IsRecordAt made bytes = record {
          open_gate = eqb-true (slice_index bytes 0) 1 both.0;
          kind = refl;
          size = sym size;
          body = ap (λ (n : ℕ). take n (drop 6 bytes)) size;
          whole = omega (arith, whole, size);
        } in
        subst (λ (x : Record). IsRecordAt x bytes) (cc) parts

-- bytes with the same prefix have the same record there
pub prefix_kept : (bytes other : List ℕ) (r : Record) → record_at bytes ≡ Some r → take (length (record_bytes r)) other ≡ take (length (record_bytes r)) bytes
    → length (record_bytes r) < length other → record_at other ≡ Some r
prefix_kept bytes other r there same more =
    let k : ℕ = length r.body in
    let n : ℕ = length (record_bytes r) in
    let long : n ≡ 6 + k = record_length r in
    let at : IsRecordAt r bytes = parts_at bytes r there in
    let each : (i : ℕ) → i < n → get_or other i 0 ≡ get_or bytes i 0 =
    λ i below. sym (get_or-take n other i 0 below) ∙ ap (λ (l : List ℕ). get_or l i 0) same ∙ get_or-take n bytes i 0 below in
    let six : take 6 other ≡ take 6 bytes = sym (take-take 6 n other (omega (arith, long))) ∙ ap (take 6) same ∙ take-take 6 n bytes (omega (arith, long)) in
    let count : take 4 (drop 2 other) ≡ take 4 (drop 2 bytes) = sym (drop-take 2 4 other) ∙ ap (drop 2) six ∙ drop-take 2 4 bytes in
    let all : take (6 + k) other ≡ take (6 + k) bytes = subst (λ (m : ℕ). take m other ≡ take m bytes) long same in
    let body : take k (drop 6 other) ≡ take k (drop 6 bytes) = sym (drop-take 6 k other) ∙ ap (drop 6) all ∙ drop-take 6 k bytes in
    found_at other r (record {
      open_gate = each 0 (omega (arith, long)) ∙ at.open_gate;
      kind = each 1 (omega (arith, long)) ∙ at.kind;
      size = ap (from_le_bytes w32) count ∙ at.size;
      body = body ∙ at.body;
      whole = omega (arith, long, more);
    })

-- a record and something after it
pub record_made : (r : Record) (end : List ℕ) → HasFittingBody r → 0 < length end → record_at (record_bytes r ++ end) ≡ Some r
record_made r end fits some = found_at (record_bytes r ++ end) r (record {
  open_gate = refl;
  kind = refl;
  size = from_le_bytes-to_le_bytes_4 (length r.body) fits;
  body = take_at r.body end (length r.body) refl;
  whole = omega (arith, length-append (record_bytes r) end, record_length r, some);
})

-- no record without an open gate, and none in so few bytes
pub closed_none : (bytes : List ℕ) → (slice_index bytes 0 ≡ 1 → ⊥) → record_at bytes ≡ None
closed_none bytes closed = by_found (record_at bytes) refl
  where
    by_found : (o : Option Record) → record_at bytes ≡ o → record_at bytes ≡ None
    by_found None is = is
    by_found (Some r) is = absurd (closed (parts_at bytes r is).open_gate)

short_none : (bytes : List ℕ) → length bytes ≤ 6 → record_at bytes ≡ None
short_none bytes short = by_found (record_at bytes) refl
  where
    by_found : (o : Option Record) → record_at bytes ≡ o → record_at bytes ≡ None
    by_found None is = is
    by_found (Some r) is = let at = parts_at bytes r is in absurd (omega (arith, at.whole, short))

-- ---- Records, one after the other

abbrev then_within : ℕ → List ℕ → Option Record → List Record
then_within most bytes o = elim o [
  | None ↦ []
  | Some r ↦ r ∷ records_within most (drop (length (record_bytes r)) bytes)
]

within_none : (most : ℕ) (bytes : List ℕ) → record_at bytes ≡ None → records_within most bytes ≡ []
within_none zero bytes none = refl
within_none (suc most) bytes none = ap (then_within most bytes) none

within_some : (most : ℕ) (bytes : List ℕ) (r : Record) → record_at bytes ≡ Some r
    → records_within (suc most) bytes ≡ r ∷ records_within most (drop (length (record_bytes r)) bytes)
within_some most bytes r there = ap (then_within most bytes) there

-- more than as many as there are bytes is enough
within_same : (most more : ℕ) (bytes : List ℕ) → length bytes ≤ most → length bytes ≤ more → records_within most bytes ≡ records_within more bytes
within_same zero more bytes le also = sym (within_none more bytes (short_none bytes (omega (arith, le))))
within_same (suc most) zero bytes le also = within_none (suc most) bytes (short_none bytes (omega (arith, also)))
within_same (suc most) (suc more) bytes le also = by_found (λ rest. within_same most more rest) (record_at bytes) refl
  where
    by_found : ((rest : List ℕ) → length rest ≤ most → length rest ≤ more → records_within most rest ≡ records_within more rest)
        → (o : Option Record) → record_at bytes ≡ o → records_within (suc most) bytes ≡ records_within (suc more) bytes
    by_found again None is = within_none (suc most) bytes is ∙ sym (within_none (suc more) bytes is)
    by_found again (Some r) is =
        let n : ℕ = length (record_bytes r) in
        let long : n ≡ 6 + length r.body = record_length r in
        let rest : length (drop n bytes) ≡ length bytes - n = length-drop n bytes in
        within_some most bytes r is
        ∙ ap (λ (l : List Record). r ∷ l) (again (drop n bytes) (omega (arith, long, rest, le)) (omega (arith, long, rest, also)))
        ∙ sym (within_some more bytes r is)

pub records_of_none : (bytes : List ℕ) → record_at bytes ≡ None → records_of bytes ≡ []
unfolding records_of
records_of_none bytes none = within_none (length bytes) bytes none

pub records_of_some : (bytes : List ℕ) (r : Record) → record_at bytes ≡ Some r → records_of bytes ≡ r ∷ records_of (drop (length (record_bytes r)) bytes)
unfolding records_of
records_of_some bytes r there =
    let n : ℕ = length (record_bytes r) in
    let rest : length (drop n bytes) ≡ length bytes - n = length-drop n bytes in
    within_same (length bytes) (suc (length bytes)) bytes (omega arith) (omega arith)
    ∙ within_some (length bytes) bytes r there
    ∙ ap (λ (l : List Record). r ∷ l) (within_same (length bytes) (length (drop n bytes)) (drop n bytes) (omega (arith, rest)) (omega arith))

-- how long records are
abbrev pub size_of_all : List Record → ℕ
size_of_all records = length (all_record_bytes records)

abbrev Keeps : List ℕ → List ℕ → List Record → Type 0
Keeps bytes other records = take (size_of_all records) other ≡ take (size_of_all records) bytes → size_of_all records < length other
    → records_of other ≡ records ++ records_of (drop (size_of_all records) other)

keeps_within : (most : ℕ) (bytes other : List ℕ) → Keeps bytes other (records_within most bytes)
keeps_within zero bytes other = λ same more. refl
keeps_within (suc most) bytes other = by_found (λ here there. keeps_within most here there) (record_at bytes) refl
  where
    by_found : ((here there : List ℕ) → Keeps here there (records_within most here)) → (o : Option Record) → record_at bytes ≡ o
        → Keeps bytes other (then_within most bytes o)
    by_found again None is = λ same more. refl
    by_found again (Some r) is = λ same more.
        let n : ℕ = length (record_bytes r) in
        let rest : List Record = records_within most (drop n bytes) in
        let m : ℕ = size_of_all rest in
        let sum : size_of_all (r ∷ rest) ≡ n + m = length-append (record_bytes r) (all_record_bytes rest) in
        let both : take (n + m) other ≡ take (n + m) bytes = subst (λ (k : ℕ). take k other ≡ take k bytes) sum same in
        let first : take n other ≡ take n bytes = sym (take-take n (n + m) other (omega arith)) ∙ ap (take n) both ∙ take-take n (n + m) bytes (omega arith) in
        let later : take m (drop n other) ≡ take m (drop n bytes) = sym (drop-take n m other) ∙ ap (drop n) both ∙ drop-take n m bytes in
        let there : record_at other ≡ Some r = prefix_kept bytes other r is first (omega (arith, sum, more)) in
        let behind : records_of (drop n other) ≡ rest ++ records_of (drop m (drop n other)) =
        again (drop n bytes) (drop n other) later (omega (arith, length-drop n other, sum, more)) in
        let place : drop m (drop n other) ≡ drop (size_of_all (r ∷ rest)) other = drop-drop m n other ∙ ap (λ (k : ℕ). drop k other) (sym sum) in
        records_of_some other r there ∙ ap (λ (l : List Record). r ∷ l) (behind ∙ ap (λ (l : List ℕ). rest ++ records_of l) place)

pub keeps_the_records : KeepsTheRecords
unfolding records_of
keeps_the_records bytes other same more = keeps_within (length bytes) bytes other same more

abbrev Ends : List ℕ → List Record → Type 0
Ends bytes records = record_at (drop (size_of_all records) bytes) ≡ None

ends_within : (most : ℕ) (bytes : List ℕ) → length bytes ≤ most → Ends bytes (records_within most bytes)
ends_within zero bytes le = short_none bytes (omega (arith, le))
ends_within (suc most) bytes le = by_found (λ rest. ends_within most rest) (record_at bytes) refl
  where
    by_found : ((rest : List ℕ) → length rest ≤ most → Ends rest (records_within most rest)) → (o : Option Record) → record_at bytes ≡ o
        → Ends bytes (then_within most bytes o)
    by_found again None is = is
    by_found again (Some r) is =
        let n : ℕ = length (record_bytes r) in
        let rest : List Record = records_within most (drop n bytes) in
        let m : ℕ = size_of_all rest in
        let sum : size_of_all (r ∷ rest) ≡ n + m = length-append (record_bytes r) (all_record_bytes rest) in
        let place : drop m (drop n bytes) ≡ drop (size_of_all (r ∷ rest)) bytes = drop-drop m n bytes ∙ ap (λ (k : ℕ). drop k bytes) (sym sum) in
        ap record_at (sym place) ∙ again (drop n bytes) (omega (arith, length-drop n bytes, record_length r, le))

pub ends_the_records : EndsTheRecords
unfolding records_of
ends_the_records bytes = ends_within (length bytes) bytes (omega arith)

pub reads_the_records : ReadsTheRecords
reads_the_records [] end fit some none = records_of_none end none
reads_the_records (r ∷ records) end fit some none =
    let tail : List ℕ = all_record_bytes records ++ end in
    let assoc : all_record_bytes (r ∷ records) ++ end ≡ record_bytes r ++ tail = append_assoc (record_bytes r) (all_record_bytes records) end in
    let there : record_at (record_bytes r ++ tail) ≡ Some r = record_made r tail (fit 0 r (omega arith)) (omega (arith, length-append (all_record_bytes records) end, some)) in
    let later : All HasFittingBody records = λ k d below. fit (suc k) d (omega (arith, below)) in
    ap records_of assoc ∙ records_of_some (record_bytes r ++ tail) r there
    ∙ ap (λ (l : List ℕ). r ∷ records_of l) (drop_at (record_bytes r) tail (length (record_bytes r)) refl)
    ∙ ap (λ (l : List Record). r ∷ l) (reads_the_records records end later some none)

pub size-push : (records : List Record) (r : Record) → size_of_all (records ++ r ∷ []) ≡ size_of_all records + length (record_bytes r)
size-push [] r = omega (arith, ap length (append-nil (record_bytes r)))
size-push (first ∷ records) r =
    omega (arith, length-append (record_bytes first) (all_record_bytes (records ++ r ∷ [])), length-append (record_bytes first) (all_record_bytes records), size-push records r)
