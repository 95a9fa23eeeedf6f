-- What stands before the rows of a snapshot.
use Rattle.std.proofs.Common.{lit≤, ◌≡◌, ℕ, suc, ◌+◌, ◌<◌, ◌≤◌, Bool, true, eqb, ltb, List, [], ◌∷◌, ◌++◌, length, take, drop, refl, sym, ap, ◌∙◌, subst, append_assoc, arith}
use Rattle.std.specs.Prelude.{◌&&◌, Option, Some, None, Err, IfSome}
use Rattle.std.specs.List.{slice_range}
use Rattle.std.specs.Int.{w32, w64, to_le_bytes, from_le_bytes}
use Rattle.std.proofs.lemmas.Bool.{lt-ltb, and_parts, eqb-true}
use Rattle.std.proofs.lemmas.List.{length-take, take-take, drop-take}
use Rattle.cell_state.proofs.RowByteLemmas.{next, whole}
use Rattle.outside.specs.declared.disk.Area.{Area}
use Rattle.outside.specs.declared.disk.ReadStop.{ReadStop}
use Rattle.outside.specs.declared.disk.ReadStop.TheVariants.{Damaged}
use Rattle.outside.specs.Image.{Image, content}
use Rattle.disk_defs.specs.Snapshot.{has_open_gate}
use Rattle.snapshots.specs.Reading.{AnswersHead, row_count, damage_in}

-- the first two bytes tell whether the gate is open
pub open-by : (n : ℕ) (bytes : List ℕ) → has_open_gate (take (suc (suc n)) bytes) ≡ has_open_gate bytes
open-by n [] = refl
open-by n (a ∷ []) = refl
open-by n (a ∷ (b ∷ rest)) =
    let one : ltb 1 (length (a ∷ (b ∷ take n rest))) ≡ true = lt-ltb 1 (length (a ∷ (b ∷ take n rest))) (omega arith) in
    let other : ltb 1 (length (a ∷ (b ∷ rest))) ≡ true = lt-ltb 1 (length (a ∷ (b ∷ rest))) (omega arith) in
    ap (λ (c : Bool). eqb a 1 && c) (one ∙ sym other)

pub gate-of : (n : ℕ) (bytes first : List ℕ) (gate : Bool) → first ≡ take (suc (suc n)) bytes → gate ≡ has_open_gate first → has_open_gate bytes ≡ gate
gate-of n bytes first gate is by = sym (open-by n bytes) ∙ ap has_open_gate (sym is) ∙ sym by

pub short-of : (n : ℕ) (bytes first : List ℕ) → first ≡ take n bytes → length first < n → length bytes < n
short-of n bytes first is short = omega (arith, short, ap length is, length-take n bytes)

pub long-of : (n : ℕ) (bytes first : List ℕ) → first ≡ take n bytes → n ≤ length first → n ≤ length bytes
long-of n bytes first is long = omega (arith, long, ap length is, length-take n bytes)

regroup : (gate : ℕ) (a b c d : List ℕ) → (((gate ∷ [] ++ a) ++ b) ++ c) ++ d ≡ gate ∷ (a ++ (b ++ (c ++ d)))
regroup gate a b c d = simp append_assoc

open-byte : (bytes : List ℕ) → has_open_gate bytes ≡ true → 1 ∷ [] ≡ slice_range bytes 0 1
open-byte [] opened = absurd (cc)
open-byte (a ∷ rest) opened =
    let gate : eqb a 1 ≡ true = (and_parts (eqb a 1) (ltb 1 (length (a ∷ rest))) opened).0 in
    ap (λ (n : ℕ). n ∷ []) (sym (eqb-true a 1 gate))

-- the fields of 49 bytes, one after the other
pub head-of : (bytes first hash : List ℕ) (number tip count : ℕ) → first ≡ take 49 bytes → 49 ≤ length first → has_open_gate first ≡ true
    → to_le_bytes w32 number ≡ slice_range first 1 (1 + 4) → to_le_bytes w32 tip ≡ slice_range first 5 (5 + 4) → hash ≡ slice_range first 9 (9 + 32)
    → to_le_bytes w64 count ≡ slice_range first 41 (41 + 8)
    → take 49 bytes ≡ 1 ∷ (to_le_bytes w32 number ++ (to_le_bytes w32 tip ++ (hash ++ to_le_bytes w64 count)))
head-of bytes first hash number tip count is long opened n t h c =
    let size : length first ≡ 49 = omega (arith, long, ap length is, length-take 49 bytes) in
    let one = next first (1 ∷ []) (to_le_bytes w32 number) 1 5 (lit≤ tt) n (open-byte first opened) in
    let two = next first _ (to_le_bytes w32 tip) 5 9 (lit≤ tt) t one in
    let three = next first _ hash 9 41 (lit≤ tt) h two in
    let four = next first _ (to_le_bytes w64 count) 41 49 (lit≤ tt) c three in
    sym is ∙ sym (whole first _ 49 size four) ∙ regroup 1 (to_le_bytes w32 number) (to_le_bytes w32 tip) hash (to_le_bytes w64 count)

-- the count stands in the first 49 bytes
pub counted-of : (bytes first : List ℕ) (count : ℕ) → first ≡ take 49 bytes → count ≡ from_le_bytes w64 (slice_range first 41 (41 + 8)) → count ≡ row_count bytes
counted-of bytes first count is by =
    let part : take 8 (drop 41 (take 49 bytes)) ≡ take 8 (drop 41 bytes) = ap (take 8) (drop-take 41 8 bytes) ∙ take-take 8 8 (drop 41 bytes) (omega arith) in
    by ∙ ap (λ (l : List ℕ). from_le_bytes w64 (take 8 (drop 41 l))) is ∙ ap (from_le_bytes w64) part

-- ---- Answers

pub damaged-head : (area : Area) (bytes : List ℕ) (stop : ReadStop) → stop ≡ Damaged (damage_in area) → has_open_gate bytes ≡ true → length bytes < 49
    → AnswersHead area bytes (Err stop)
damaged-head area bytes stop is opened short = subst (λ (s : ReadStop). AnswersHead area bytes (Err s)) (sym is) (opened, short, refl)

-- what holds of all bytes that begin so, of those of the area
pub as-read : (P : List ℕ → Type 0) (area : Area) (reads : Option Image) (first : List ℕ) (len size : ℕ) → len ≡ size
    → IfSome reads (λ image. first ≡ take len (drop 0 (content area image))) → ((bytes : List ℕ) → first ≡ take size bytes → P bytes)
    → IfSome reads (λ image. P (content area image))
as-read P area None first len size same read each = tt
as-read P area (Some image) first len size same read each = each (content area image) (read ∙ ap (λ (n : ℕ). take n (content area image)) same)
