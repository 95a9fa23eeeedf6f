-- A log at rest stays so while its prefix does, and with one record more it is at rest after that one.
use Rattle.std.proofs.Common.{◌≡◌, ◌⊎◌, inl, inr, ℕ, ◌+◌, ◌<◌, ◌≤◌, List, [], ◌∷◌, ◌++◌, length, take, drop, get_or, Some, None, refl, sym, ap, ◌∙◌, subst, arith}
use Rattle.std.specs.Prelude.{slice_index, All}
use Rattle.std.proofs.lemmas.Bool.{cases_eq}
use Rattle.std.proofs.lemmas.List.{append_assoc, append-nil, length-take-le, drop_more, length-append, length-drop, take-take, drop_at, drop-drop, drop-take, get_or-drop, get_or_at, get_or-append-add}
use Rattle.outside.specs.Disk.{written, Torn}
use Rattle.outside.proofs.Torn.{tears_to_the_written}
use Rattle.disk_defs.specs.Log.{Record, record_at, record_bytes, all_record_bytes, records_of, end_of_log, magic}
use Rattle.disk_defs.specs.LogLaws.{HasFittingBody}
use Rattle.disk_defs.specs.Rest.{EndsAt, IsAtRest}
use Rattle.disk_defs.proofs.Records.{record_made, closed_none, records_of_none, records_of_some, size_of_all, keeps_the_records, ends_the_records, reads_the_records, size-push}

pub ends_at : (place : ℕ) (records : List Record) (bytes : List ℕ) → IsAtRest place records bytes → EndsAt place records bytes
ends_at place records bytes rest = record { begins = rest.begins; holds = rest.holds; ends = rest.ends; there = rest.there }

pub place_is : (place : ℕ) (records : List Record) (bytes : List ℕ) → EndsAt place records bytes → place ≡ 8 + size_of_all records
unfolding end_of_log
place_is place records bytes rest = sym rest.ends ∙ ap (λ (l : List Record). 8 + size_of_all l) rest.holds

end_is : (records : List Record) (bytes : List ℕ) → records_of (drop 8 bytes) ≡ records → end_of_log bytes ≡ 8 + size_of_all records
unfolding end_of_log
end_is records bytes holds = ap (λ (l : List Record). 8 + size_of_all l) holds

-- bytes with the same prefix hold the records, and then what stands after them
holds_more : (place : ℕ) (records : List Record) (bytes other : List ℕ) → EndsAt place records bytes → take place other ≡ take place bytes
    → place < length other → records_of (drop 8 other) ≡ records ++ records_of (drop place other)
holds_more place records bytes other rest same more =
    let m : ℕ = size_of_all records in
    let is : place ≡ 8 + m = place_is place records bytes rest in
    let front : size_of_all (records_of (drop 8 bytes)) ≡ m = ap size_of_all rest.holds in
    let both : take (8 + m) other ≡ take (8 + m) bytes = subst (λ (k : ℕ). take k other ≡ take k bytes) is same in
    let later : take m (drop 8 other) ≡ take m (drop 8 bytes) = sym (drop-take 8 m other) ∙ ap (drop 8) both ∙ drop-take 8 m bytes in
    let kept : records_of (drop 8 other) ≡ records_of (drop 8 bytes) ++ records_of (drop (size_of_all (records_of (drop 8 bytes))) (drop 8 other)) =
    keeps_the_records (drop 8 bytes) (drop 8 other) (subst (λ (k : ℕ). take k (drop 8 other) ≡ take k (drop 8 bytes)) (sym front) later)
    (omega (arith, front, is, more, length-drop 8 other)) in
    let behind : drop (size_of_all (records_of (drop 8 bytes))) (drop 8 other) ≡ drop place other =
    ap (λ (k : ℕ). drop k (drop 8 other)) front ∙ drop-drop m 8 other ∙ ap (λ (k : ℕ). drop k other) (sym is) in
    kept ∙ (λ i. rest.holds i ++ records_of (behind i))

begins_too : (place : ℕ) (records : List Record) (bytes other : List ℕ) → EndsAt place records bytes → take place other ≡ take place bytes → take 8 other ≡ magic
begins_too place records bytes other rest same =
    let le : 8 ≤ place = omega (arith, place_is place records bytes rest) in
    sym (take-take 8 place other le) ∙ ap (take 8) same ∙ take-take 8 place bytes le ∙ rest.begins

-- the prefix up to a place stays, and no record stands there
pub ends_kept : (place : ℕ) (records : List Record) (bytes other : List ℕ) → EndsAt place records bytes → take place other ≡ take place bytes
    → place < length other → record_at (drop place other) ≡ None → EndsAt place records other
ends_kept place records bytes other rest same more none =
    let holds : records_of (drop 8 other) ≡ records =
    holds_more place records bytes other rest same more ∙ ap (λ (l : List Record). records ++ l) (records_of_none (drop place other) none) ∙ append-nil records in
    record {
      begins = begins_too place records bytes other rest same;
      holds = holds;
      ends = end_is records other holds ∙ sym (place_is place records bytes rest);
      there = more;
    }

pub gate_there : (place : ℕ) (bytes : List ℕ) → slice_index (drop place bytes) 0 ≡ slice_index bytes place
gate_there place bytes = get_or-drop place bytes 0 0 ∙ ap (λ (k : ℕ). get_or bytes k 0) (omega arith)

-- the byte at the end is no open gate
pub closed_rest : (place : ℕ) (records : List Record) (bytes : List ℕ) → EndsAt place records bytes → (slice_index bytes place ≡ 1 → ⊥) → IsAtRest place records bytes
closed_rest place records bytes end closed = record { begins = end.begins; holds = end.holds; ends = end.ends; there = end.there; closed = closed }

-- the prefix up to a place and the byte there stay
pub rest_kept : (place : ℕ) (records : List Record) (bytes other : List ℕ) → IsAtRest place records bytes → take place other ≡ take place bytes
    → place < length other → (slice_index other place ≡ 1 → ⊥) → IsAtRest place records other
rest_kept place records bytes other rest same more closed =
    let none : record_at (drop place other) ≡ None = closed_none (drop place other) (λ is. closed (sym (gate_there place other) ∙ is)) in
    closed_rest place records other (ends_kept place records bytes other (ends_at place records bytes rest) same more none) closed

-- a record stands after the others, and after it a gate that is not open
pub rest_grown : (place : ℕ) (records : List Record) (r : Record) (bytes other tail : List ℕ) → IsAtRest place records bytes → HasFittingBody r
    → take place other ≡ take place bytes → drop place other ≡ record_bytes r ++ 0 ∷ tail
    → IsAtRest (place + length (record_bytes r)) (records ++ r ∷ []) other
rest_grown place records r bytes other tail rest fits same new =
    let n : ℕ = length (record_bytes r) in
    let end : List ℕ = 0 ∷ tail in
    let long : length (drop place other) ≡ n + length end = ap length new ∙ length-append (record_bytes r) end in
    let size : length other ≡ place + n + length end = omega (arith, long, length-drop place other) in
    let there : record_at (record_bytes r ++ end) ≡ Some r = record_made r end fits (omega arith) in
    let behind : records_of (drop n (record_bytes r ++ end)) ≡ [] =
    ap records_of (drop_at (record_bytes r) end n refl) ∙ records_of_none end (closed_none end (λ is. absurd (cc))) in
    let one : records_of (drop place other) ≡ r ∷ [] =
    ap records_of new ∙ records_of_some (record_bytes r ++ end) r there ∙ ap (λ (l : List Record). r ∷ l) behind in
    let holds : records_of (drop 8 other) ≡ records ++ r ∷ [] =
    holds_more place records bytes other (ends_at place records bytes rest) same (omega (arith, size)) ∙ ap (λ (l : List Record). records ++ l) one in
    let gate : slice_index other (place + n) ≡ 0 =
    sym (get_or-drop place other n 0) ∙ ap (λ (l : List ℕ). get_or l n 0) new ∙ get_or_at (record_bytes r) 0 tail 0 n refl in
    record {
      begins = begins_too place records bytes other (ends_at place records bytes rest) same;
      holds = holds;
      ends = end_is (records ++ r ∷ []) other holds ∙ omega (arith, size-push records r, place_is place records bytes (ends_at place records bytes rest));
      there = omega (arith, size);
      closed = λ is. absurd (cc);
    }

zero_not_one : {n : ℕ} → n ≡ 0 → n ≡ 1 → ⊥
zero_not_one none one = absurd (cc)

-- a log that is made of records
pub rest_made : (records : List Record) (tail : List ℕ) → All HasFittingBody records → IsAtRest (8 + size_of_all records) records (magic ++ (all_record_bytes records ++ 0 ∷ tail))
rest_made records tail fit =
    let m : ℕ = size_of_all records in
    let bytes : List ℕ = magic ++ (all_record_bytes records ++ 0 ∷ tail) in
    let holds : records_of (drop 8 bytes) ≡ records = reads_the_records records (0 ∷ tail) fit (omega arith) (closed_none (0 ∷ tail) (λ is. absurd (cc))) in
    let gate : slice_index bytes (8 + m) ≡ 0 =
    get_or-append-add magic (all_record_bytes records ++ 0 ∷ tail) m 0 ∙ get_or_at (all_record_bytes records) 0 tail 0 m refl in
    record {
      begins = refl;
      holds = holds;
      ends = end_is records bytes holds;
      there = omega (arith, length-append magic (all_record_bytes records ++ 0 ∷ tail), length-append (all_record_bytes records) (0 ∷ tail));
      closed = λ is. zero_not_one gate is;
    }

-- ---- A gate that stands open at the end

-- no record stands where the records end
ended : (place : ℕ) (records : List Record) (bytes : List ℕ) → EndsAt place records bytes → record_at (drop place bytes) ≡ None
ended place records bytes end =
    let all : List Record = records_of (drop 8 bytes) in
    let is : 8 + size_of_all all ≡ place = ap (λ (l : List Record). 8 + size_of_all l) end.holds ∙ sym (place_is place records bytes end) in
    ap record_at (ap (λ (n : ℕ). drop n bytes) (sym is) ∙ sym (drop-drop (size_of_all all) 8 bytes)) ∙ ends_the_records (drop 8 bytes)

-- while the gate closes, the log has the same records
pub ends_torn : (place : ℕ) (records : List Record) (bytes other : List ℕ) → EndsAt place records bytes → slice_index bytes place ≡ 1 → Torn place 1 bytes other
    → EndsAt place records other
ends_torn place records bytes other end gate torn = ends_kept place records bytes other end torn.before more (by_gate (cases_eq (slice_index other place) 1))
  where
    more : place < length other
    more = omega (arith, end.there, torn.no_shorter)

    by_gate : ((slice_index other place ≡ 1) ⊎ (slice_index other place ≡ 1 → ⊥)) → record_at (drop place other) ≡ None
    by_gate (inl still) =
        let same : drop place other ≡ drop place bytes =
        drop_more other place 0 more ∙ (λ i. (still ∙ sym gate) i ∷ torn.after i) ∙ sym (drop_more bytes place 0 end.there) in
        ap record_at same ∙ ended place records bytes end
    by_gate (inr closed) = closed_none (drop place other) (λ is. closed (sym (gate_there place other) ∙ is))

-- the closed gate
pub rest_mended : (place : ℕ) (records : List Record) (bytes : List ℕ) → EndsAt place records bytes → slice_index bytes place ≡ 1
    → IsAtRest place records (written place (0 ∷ []) bytes)
rest_mended place records bytes end gate =
    let within : place ≤ length bytes = omega (arith, end.there) in
    let now : List ℕ = written place (0 ∷ []) bytes in
    let shape : now ≡ take place bytes ++ (0 ∷ drop (place + 1) bytes) = append_assoc (take place bytes) (0 ∷ []) (drop (place + 1) bytes) in
    let closed : slice_index now place ≡ 0 =
    ap (λ (l : List ℕ). get_or l place 0) shape ∙ get_or_at (take place bytes) 0 (drop (place + 1) bytes) 0 place (length-take-le place bytes within) in
    closed_rest place records now (ends_torn place records bytes now end gate (tears_to_the_written place 0 (0 ∷ []) bytes within)) (λ is. zero_not_one closed is)
