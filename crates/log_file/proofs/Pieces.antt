-- A log that is read from start to end, in pieces.
use Rattle.std.proofs.Common.{◌≡◌, ℕ, ◌+◌, ◌-◌, ◌<◌, ◌≤◌, Bool, true, false, cond, eqb, ltb, List, ◌++◌, length, take, drop, get_or, Option, Some, None, refl, sym, ap, ◌∙◌, subst, arith, length-append}
use Rattle.std.specs.Prelude.{IfSome, slice_index, ◌&&◌}
use Rattle.std.specs.Str.{bytes_eq}
use Rattle.std.specs.Cmp.Lexicographic.{bytes_decides}
use Rattle.std.specs.Int.{w32, from_le_bytes}
use Rattle.std.proofs.lemmas.Bool.{and_from, eq-eqb, lt-ltb}
use Rattle.std.proofs.Math.Seq.{take-add, take-append-add}
use Rattle.std.proofs.lemmas.List.{take_at, take-append-le, take_rest, take-take, drop-drop, drop-take, get_or-take, length-take, length-drop}
use borrow.Rule.Slice.PartMut.{put_mid, post_of}
use Rattle.outside.specs.Image.{Image}
use Rattle.chain_defs.specs.Ext.{count_at}
use Rattle.chain_defs.specs.Schema.{Block}
use Rattle.disk_defs.specs.Log.{Record, record_at, record_bytes, magic}
use Rattle.disk_defs.proofs.Records.{record_length, IsRecordAt, parts_at, prefix_kept}
use Rattle.log_file.specs.Grammar.{record_of, IsMisplaced}
use Rattle.log_file.specs.Reading.{ReaderValue, IsReading, IsAt, HasPassed, IsOther, IsOtherHere, IsWrongHere}

-- bytes of which the prefix was there, and the next n were read after it
front_read : (log items front part : List ℕ) (at n : ℕ) → take (length front) items ≡ front → length front ≤ length items
    → front ≡ take (length front) (drop at log) → length part ≡ length items - length front → n ≤ length part
    → take n part ≡ take (length part) (drop (at + length front) log)
    → let whole = put_mid (length front) (length items - length front) items part in take (length front + n) whole ≡ take (length whole) (drop at log)
front_read log items front part at n is within was room fits read =
    let m : ℕ = length front in
    let k : ℕ = length items - m in
    let post : List ℕ = post_of m k items in
    let whole : List ℕ = put_mid m k items part in
    let begins : whole ≡ front ++ (part ++ post) = ap (λ (l : List ℕ). l ++ (part ++ post)) is in
    let next : drop (at + m) log ≡ drop m (drop at log) = ap (λ (j : ℕ). drop j log) (omega arith) ∙ sym (drop-drop m at log) in
    let none : length post ≡ 0 = omega (arith, length-drop k (drop m items), length-drop m items) in
    let sum : m + k ≡ length whole = omega (arith, within, ap length begins, length-append front (part ++ post), length-append part post, none, room) in
    ap (take (m + n)) begins ∙ take-append-add front (part ++ post) n
    ∙ ap (λ (l : List ℕ). front ++ l) (take-append-le n part post fits ∙ read ∙ (λ i. take (room i) (next i)))
    ∙ ap (λ (l : List ℕ). l ++ take k (drop m (drop at log))) was
    ∙ sym (take-add m k (drop at log)) ∙ ap (λ (j : ℕ). take j (drop at log)) sum

pub told_front : (reads : Option Image) (into given front part : List ℕ) (at n : ℕ) → given ≡ front → length front ≤ length into
    → let items = given ++ drop (length front) into in
    length part ≡ length (take (length items - length front) (drop (length front) items)) → n ≤ length part
    → IfSome reads (λ image. take n part ≡ take (length part) (drop (at + length front) image.log))
    → let whole = put_mid (length front) (length items - length front) items part in
    IfSome reads (λ image. front ≡ take (length front) (drop at image.log) → take (length front + n) whole ≡ take (length whole) (drop at image.log))
told_front None into given front part at n is long room fits read = tt
told_front (Some image) into given front part at n is long room fits read =
    let m : ℕ = length front in
    let rest : List ℕ = drop m into in
    let size : length part ≡ length (given ++ rest) - m = room ∙ ap length (take_rest (given ++ rest) m) ∙ length-drop m (given ++ rest) in
    let within : m ≤ length (given ++ rest) = omega (arith, length-append given rest, ap length is) in
    λ was. front_read image.log (given ++ rest) front part at n (take_at given rest m (ap length is) ∙ is) within was size fits read

-- more bytes from the same place on, of which a reader had the prefix
pub told_filled : (reads : Option Image) (old now : ReaderValue) (front bytes : List ℕ) (need size : ℕ) → old ≡ now → front ≡ old.ahead → need ≤ size → old.at + size ≤ old.len
    → IfSome reads (λ image. front ≡ take (length front) (drop old.at image.log) → bytes ≡ take size (drop old.at image.log))
    → IfSome reads (λ image. IsReading image.log now → IsReading image.log (record { len = old.len; at = old.at; ahead = bytes }) × (need ≤ length bytes))
told_filled None old now front bytes need size same is fits within read = tt
told_filled (Some image) old now front bytes need size same is fits within read = λ here.
    let reading : IsReading image.log old = subst (IsReading image.log) (sym same) here in
    let rest : List ℕ = drop old.at image.log in
    let piece : bytes ≡ take size rest = read (is ∙ reading.ahead ∙ ap (λ (l : List ℕ). take (length l) rest) (sym is)) in
    let long : length bytes ≡ size = omega (arith, ap length piece, length-take size rest, length-drop old.at image.log, reading.len, within) in
    (record { len = reading.len; ahead = piece ∙ ap (λ (n : ℕ). take n rest) (sym long) }, omega (arith, long, fits))

-- ---- The record that stands where a reader is

-- bytes that are the start of others have the same record there, if they are long enough for it
same_record : (ahead rest : List ℕ) → ahead ≡ take (length ahead) rest → ((r : Record) → record_at rest ≡ Some r → length (record_bytes r) < length ahead)
    → record_at ahead ≡ record_at rest
same_record ahead rest front enough = by_found (record_at rest) refl
  where
    short : length ahead ≤ length rest
    short = omega (arith, ap length front, length-take (length ahead) rest)

    same : (n : ℕ) → n ≤ length ahead → take n ahead ≡ take n rest
    same n le = ap (take n) front ∙ take-take n (length ahead) rest le

    none : record_at rest ≡ None → (o : Option Record) → record_at ahead ≡ o → record_at ahead ≡ None
    none nothing None is = is
    none nothing (Some r) is =
        let n : ℕ = length (record_bytes r) in
        let whole : n < length ahead = omega (arith, (parts_at ahead r is).whole, record_length r) in
        let there : record_at rest ≡ Some r = prefix_kept ahead rest r is (sym (same n (omega (arith, whole)))) (omega (arith, whole, short)) in
        absurd (cc)

    by_found : (o : Option Record) → record_at rest ≡ o → record_at ahead ≡ record_at rest
    by_found None is = none is (record_at ahead) refl ∙ sym is
    by_found (Some r) is =
        let whole : length (record_bytes r) < length ahead = enough r is in
        prefix_kept rest ahead r is (same (length (record_bytes r)) (omega (arith, whole))) whole ∙ sym is

-- the size that the record here says to have
says_its_size : (ahead rest : List ℕ) (size : ℕ) (r : Record) → ahead ≡ take (length ahead) rest → 7 ≤ length ahead → record_at rest ≡ Some r
    → (7 ≤ length ahead → slice_index ahead 0 ≡ 1 → size ≡ 6 + count_at ahead 2) → size ≡ length (record_bytes r)
says_its_size ahead rest size r front long there says =
    let is : IsRecordAt r rest = parts_at rest r there in
    let six : take 6 ahead ≡ take 6 rest = ap (take 6) front ∙ take-take 6 (length ahead) rest (omega (arith, long)) in
    let gate : slice_index ahead 0 ≡ slice_index rest 0 =
    sym (get_or-take 6 ahead 0 0 (omega arith)) ∙ ap (λ (l : List ℕ). get_or l 0 0) six ∙ get_or-take 6 rest 0 0 (omega arith) in
    let four : take 4 (drop 2 ahead) ≡ take 4 (drop 2 rest) = sym (drop-take 2 4 ahead) ∙ ap (drop 2) six ∙ drop-take 2 4 rest in
    says long (gate ∙ is.open_gate) ∙ ap (λ (n : ℕ). 6 + n) (ap (from_le_bytes w32) four ∙ is.size) ∙ sym (record_length r)

-- what a reader knows of a record where it is: as many bytes are ahead as it said, or seven if they are there
module _ (log : List ℕ) (old mid : ReaderValue) (left need size : ℕ) (at_end : old.at + left ≡ old.len) (at : IsAt old.len old.at mid) (reading : IsReading log mid)
    (seven : 7 ≤ left → 7 ≤ need) (read : need ≤ length mid.ahead) (says : 7 ≤ length mid.ahead → slice_index mid.ahead 0 ≡ 1 → size ≡ 6 + count_at mid.ahead 2) where
  rest : List ℕ
  rest = drop old.at log

  left_is : left ≡ length rest
  unfolding rest
  left_is = omega (arith, at_end, at.len, reading.len, length-drop old.at log)

  front : mid.ahead ≡ take (length mid.ahead) rest
  unfolding rest
  front = reading.ahead ∙ ap (λ (n : ℕ). take (length mid.ahead) (drop n log)) at.at

  size_is : (r : Record) → record_at rest ≡ Some r → size ≡ length (record_bytes r)
  size_is r there =
      let whole : 6 + length r.body < length rest = (parts_at rest r there).whole in
      let long : 7 ≤ length mid.ahead = omega (arith, seven (omega (arith, whole, left_is)), read) in
      says_its_size mid.ahead rest size r front long there says

  pub none_so_long : left ≤ size → record_at mid.ahead ≡ record_at (drop old.at log)
  unfolding rest
  none_so_long over = same_record mid.ahead rest front (λ r there. absurd (omega (
    arith,
    size_is r there,
    record_length r,
    (parts_at rest r there).whole,
    left_is,
    over,
  )))

  pub as_long : (new : ReaderValue) → IsAt mid.len mid.at new → IsReading log new → size + 1 ≤ length new.ahead → record_at new.ahead ≡ record_at (drop old.at log)
  unfolding rest
  as_long new at_new reading_new long =
      let ahead : new.ahead ≡ take (length new.ahead) rest = reading_new.ahead ∙ ap (λ (n : ℕ). take (length new.ahead) (drop n log)) (at_new.at ∙ at.at) in
      same_record new.ahead rest ahead (λ r there. omega (arith, size_is r there, long))

pub told_none : (reads : Option Image) (old mid : ReaderValue) (left need size : ℕ) → old.at + left ≡ old.len → IsAt old.len old.at mid → (7 ≤ left → 7 ≤ need)
    → (7 ≤ length mid.ahead → slice_index mid.ahead 0 ≡ 1 → size ≡ 6 + count_at mid.ahead 2) → left ≤ size
    → IfSome reads (λ image. IsReading image.log old → IsReading image.log mid × (need ≤ length mid.ahead))
    → IfSome reads (λ image. IsReading image.log old → record_at mid.ahead ≡ record_at (drop old.at image.log))
told_none None old mid left need size at_end at seven says over read = tt
told_none (Some image) old mid left need size at_end at seven says over read =
    λ reading. none_so_long image.log old mid left need size at_end at (read reading).0 seven (read reading).1 says over

pub told_whole : (reads later : Option Image) (old mid new : ReaderValue) (left need size : ℕ) → old.at + left ≡ old.len → IsAt old.len old.at mid → (7 ≤ left → 7 ≤ need)
    → (7 ≤ length mid.ahead → slice_index mid.ahead 0 ≡ 1 → size ≡ 6 + count_at mid.ahead 2) → later ≡ reads → IsAt mid.len mid.at new
    → IfSome reads (λ image. IsReading image.log old → IsReading image.log mid × (need ≤ length mid.ahead))
    → IfSome later (λ image. IsReading image.log mid → IsReading image.log new × (size + 1 ≤ length new.ahead))
    → IfSome reads (λ image. IsReading image.log old → record_at new.ahead ≡ record_at (drop old.at image.log))
told_whole None later old mid new left need size at_end at seven says same at_new read more = tt
told_whole (Some image) later old mid new left need size at_end at seven says same at_new read more =
    let again : IsReading image.log mid → IsReading image.log new × (size + 1 ≤ length new.ahead) =
    subst (λ (o : Option Image). IfSome o (λ image. IsReading image.log mid → IsReading image.log new × (size + 1 ≤ length new.ahead))) same more in
    λ reading. as_long image.log old mid left need size at_end at (read reading).0 seven (read reading).1 says new at_new (again (read reading).0).0 (again (read reading).0).1

-- ---- The record at the start of bytes

pub none_unless : (bytes : List ℕ) → ((r : Record) → IsRecordAt r bytes → ⊥) → record_at bytes ≡ None
none_unless bytes never = by_found (record_at bytes) refl
  where
    by_found : (o : Option Record) → record_at bytes ≡ o → record_at bytes ≡ None
    by_found None is = is
    by_found (Some r) is = absurd (never r (parts_at bytes r is))

pub whole_there : (bytes : List ℕ) (end : ℕ) → slice_index bytes 0 ≡ 1 → end ≡ 6 + count_at bytes 2 → end < length bytes
    → record_at bytes ≡ Some (record_of (slice_index bytes 1) (take (end - 6) (drop 6 bytes)))
unfolding record_at
whole_there bytes end gate is more =
    let size : ℕ = count_at bytes 2 in
    let whole : 6 + size < length bytes = omega (arith, is, more) in
    let test : (eqb (slice_index bytes 0) 1 && ltb (6 + size) (length bytes)) ≡ true =
    and_from (eqb (slice_index bytes 0) 1) (ltb (6 + size) (length bytes)) (eq-eqb (slice_index bytes 0) 1 gate) (lt-ltb (6 + size) (length bytes) whole) in
    let same : size ≡ end - 6 = omega (arith, is) in
    ap (λ (b : Bool). cond b (Some (record_of (slice_index bytes 1) (take size (drop 6 bytes)))) None) test
    ∙ ap (λ (n : ℕ). Some (record_of (slice_index bytes 1) (take n (drop 6 bytes)))) same

-- ---- A reader goes on

pub gone_over : (log : List ℕ) (old new : ReaderValue) (count : ℕ) → count ≤ length old.ahead → IsAt old.len (old.at + count) new → new.ahead ≡ drop count old.ahead
    → IsReading log old → IsReading log new
gone_over log old new count within at ahead reading =
    let k : ℕ = length old.ahead in
    let j : ℕ = k - count in
    let sum : k ≡ count + j = omega (arith, within) in
    let size : j ≡ length new.ahead = omega (arith, ap length ahead, length-drop count old.ahead) in
    record {
      len = at.len ∙ reading.len;
      ahead = ahead ∙ ap (drop count) (reading.ahead ∙ ap (λ (n : ℕ). take n (drop old.at log)) sum) ∙ drop-take count j (drop old.at log)
          ∙ ap (take j) (drop-drop count old.at log) ∙ ap (λ (n : ℕ). take n (drop (old.at + count) log)) size ∙ ap (λ (n : ℕ). take (length new.ahead) (drop n log)) (sym at.at);
    }

-- the first bytes of a log
start_same : (log : List ℕ) (old mid : ReaderValue) → IsAt old.len old.at mid → old.at ≡ 0 → IsReading log mid → 8 ≤ length mid.ahead → take 8 mid.ahead ≡ take 8 log
start_same log old mid at start reading long =
    let front : mid.ahead ≡ take (length mid.ahead) log = reading.ahead ∙ ap (λ (n : ℕ). take (length mid.ahead) (drop n log)) (at.at ∙ start) in
    ap (take 8) front ∙ take-take 8 (length mid.ahead) log long

pub told_start : (reads : Option Image) (old mid : ReaderValue) (bytes : List ℕ) → IsAt old.len old.at mid → old.at ≡ 0 → bytes ≡ mid.ahead
    → bytes_eq (take 8 bytes) magic ≡ true → IfSome reads (λ image. IsReading image.log old → IsReading image.log mid × (8 ≤ length mid.ahead))
    → IfSome reads (λ image. IsReading image.log old → take 8 image.log ≡ magic)
told_start None old mid bytes at start is begins read = tt
told_start (Some image) old mid bytes at start is begins read = λ reading.
    sym (start_same image.log old mid at start (read reading).0 (read reading).1) ∙ ap (take 8) (sym is) ∙ (bytes_decides (take 8 bytes) magic).0 begins

pub told_no_start : (reads : Option Image) (old mid : ReaderValue) (bytes : List ℕ) → IsAt old.len old.at mid → old.at ≡ 0 → bytes ≡ mid.ahead
    → bytes_eq (take 8 bytes) magic ≡ false → IfSome reads (λ image. IsReading image.log old → IsReading image.log mid × (8 ≤ length mid.ahead))
    → IfSome reads (λ image. IsReading image.log old → (take 8 image.log ≡ magic → ⊥) × ◌≡◌ {A = ℕ} 0 0)
told_no_start None old mid bytes at start is other read = tt
told_no_start (Some image) old mid bytes at start is other read = λ reading. (
  λ begins.
      let same : take 8 bytes ≡ magic = ap (take 8) is ∙ start_same image.log old mid at start (read reading).0 (read reading).1 ∙ begins in
      let both : true ≡ false = sym ((bytes_decides (take 8 bytes) magic).1 same) ∙ other in
      absurd (cc),
  refl,
)

-- and none where there are fewer of them
pub told_short_start : (reads : Option Image) (old : ReaderValue) (left : ℕ) → old.at ≡ 0 → old.at + left ≡ old.len → left < 8
    → IfSome reads (λ image. IsReading image.log old → (take 8 image.log ≡ magic → ⊥) × ◌≡◌ {A = ℕ} 0 0)
told_short_start None old left start end short = tt
told_short_start (Some image) old left start end short = λ reading. (
  λ begins.
      let eight : length (take 8 image.log) ≡ 8 = ap length begins in
      absurd (omega (arith, eight, length-take 8 image.log, reading.len, start, end, short)),
  refl,
)

-- the record that was found
found_is : (log : List ℕ) (old mid : ReaderValue) (r : Record) (bytes : List ℕ) → bytes ≡ mid.ahead → Some r ≡ record_at bytes
    → record_at mid.ahead ≡ record_at (drop old.at log) → record_at (drop old.at log) ≡ Some r
found_is log old mid r bytes is found same = sym same ∙ ap record_at (sym is) ∙ sym found

pub told_passed : (reads : Option Image) (P : Record → Type 0) (old mid new : ReaderValue) (r : Record) (bytes : List ℕ) → IsAt old.len old.at mid
    → IsAt mid.len (mid.at + (6 + length r.body)) new → bytes ≡ mid.ahead → Some r ≡ record_at bytes → P r
    → IfSome reads (λ image. IsReading image.log old → record_at mid.ahead ≡ record_at (drop old.at image.log))
    → IfSome reads (λ image. IsReading image.log old → HasPassed image.log P old new)
told_passed None P old mid new r bytes at over is found holds same = tt
told_passed (Some image) P old mid new r bytes at over is found holds same = λ reading. record {
  r = r;
  there = found_is image.log old mid r bytes is found (same reading);
  is = holds;
  at = record { len = over.len ∙ at.len; at = over.at ∙ omega (arith, at.at, record_length r) };
}

-- another record than should be, or none
pub told_other : (reads : Option Image) (test : Record → Bool) (old mid : ReaderValue) (r : Record) (bytes : List ℕ) (place : ℕ) → bytes ≡ mid.ahead → Some r ≡ record_at bytes
    → test r ≡ false → place ≡ old.at → IfSome reads (λ image. IsReading image.log old → record_at mid.ahead ≡ record_at (drop old.at image.log))
    → IfSome reads (λ image. IsReading image.log old → IsOtherHere image.log test old (place + 6))
told_other None test old mid r bytes place is found wrong at same = tt
told_other (Some image) test old mid r bytes place is found wrong at same = λ reading.
    subst (IsOther test old.at (place + 6)) (sym (found_is image.log old mid r bytes is found (same reading))) (wrong, omega (arith, at))

pub told_missing : (reads : Option Image) (test : Record → Bool) (old mid : ReaderValue) (bytes : List ℕ) (place : ℕ) → bytes ≡ mid.ahead → None ≡ record_at bytes
    → place ≡ old.at → IfSome reads (λ image. IsReading image.log old → record_at mid.ahead ≡ record_at (drop old.at image.log))
    → IfSome reads (λ image. IsReading image.log old → IsOtherHere image.log test old place)
told_missing None test old mid bytes place is found at same = tt
told_missing (Some image) test old mid bytes place is found at same = λ reading.
    subst (IsOther test old.at place) (found ∙ ap record_at is ∙ same reading) at

-- the same of a record after the genesis, where one was found
pub told_passed_later : (E : Type 0) (reads : Option Image) (P : Record → Type 0) (old mid new : ReaderValue) (r : Record) (bytes : List ℕ) → IsAt old.len old.at mid
    → IsAt mid.len (mid.at + (6 + length r.body)) new → bytes ≡ mid.ahead → Some r ≡ record_at bytes → P r
    → IfSome reads (λ image. IsReading image.log old → record_at mid.ahead ≡ record_at (drop old.at image.log))
    → IfSome reads (λ image. IsReading image.log old → E → HasPassed image.log P old new)
told_passed_later E None P old mid new r bytes at over is found holds same = tt
told_passed_later E (Some image) P old mid new r bytes at over is found holds same = λ reading _. told_passed (Some image) P old mid new r bytes at over is found holds same reading

pub told_misplaced : (reads : Option Image) (kept : List Block) (edition : Option ℕ) (old mid : ReaderValue) (r : Record) (bytes : List ℕ) (place : ℕ) → bytes ≡ mid.ahead
    → Some r ≡ record_at bytes → IsMisplaced kept edition r → place ≡ old.at
    → IfSome reads (λ image. IsReading image.log old → record_at mid.ahead ≡ record_at (drop old.at image.log))
    → IfSome reads (λ image. IsReading image.log old → IsWrongHere image.log kept edition old (place + 6))
told_misplaced None kept edition old mid r bytes place is found wrong at same = tt
told_misplaced (Some image) kept edition old mid r bytes place is found wrong at same =
    λ reading. record { r = r; there = found_is image.log old mid r bytes is found (same reading); wrong = wrong; at = omega (arith, at) }

-- a reader that reads this log still does
pub still_reading : (reads : Option Image) (old mid new : ReaderValue) → IfSome reads (λ image. IsReading image.log old → IsReading image.log mid)
    → ((log : List ℕ) → IsReading log mid → IsReading log new) → IfSome reads (λ image. IsReading image.log old → IsReading image.log new)
still_reading None old mid new first on = tt
still_reading (Some image) old mid new first on = λ reading. on image.log (first reading)
