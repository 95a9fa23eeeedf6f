-- Bytes in pages of n: where a byte of the whole lies in its page.
use Rattle.std.proofs.Common.{◌≡◌, ℕ, zero, suc, ◌+◌, ◌-◌, ◌*◌, ◌<◌, ◌≤◌, List, [], ◌∷◌, ◌++◌, length, take, drop, set, get_or, slice_range, refl, sym, arith}
use Rattle.std.specs.List.{concat}
use Rattle.std.proofs.lemmas.List.{drop-append-le, take-append-le, set_split, append_assoc, length-drop, length-append}
use Rattle.std.proofs.lemmas.List.Folds.{concat-append}
use Rattle.std.proofs.Math.Seq.{drop-append-add, take-append-add}
use Rattle.machine_defs.specs.Memory.{overwritten}

abbrev pub AreOfLength : ℕ → List (List ℕ) → Type 0
AreOfLength n [] = Unit {0}
AreOfLength n (page ∷ pages) = (length page ≡ n) × AreOfLength n pages

pub AreOfLength-get_or : (n : ℕ) (pages : List (List ℕ)) (i : ℕ) → AreOfLength n pages → i < length pages → length (get_or pages i []) ≡ n
AreOfLength-get_or n [] i all h = absurd (omega arith)
AreOfLength-get_or n (page ∷ pages) zero all h = all.0
AreOfLength-get_or n (page ∷ pages) (suc i) all h = AreOfLength-get_or n pages i all.1 (omega arith)

room-after : (xs : List ℕ) (o count n : ℕ) → length xs ≡ n → o + count ≤ n → count ≤ length (drop o xs)
room-after xs o count n is le = rw (length-drop o xs) (omega (arith, is, le))

-- what stands from a byte on: the rest of its page, and the pages after
pub drop-concat : (n : ℕ) (pages : List (List ℕ)) (i o : ℕ) → AreOfLength n pages → i < length pages → o ≤ n
    → drop (n * i + o) (concat pages) ≡ drop o (get_or pages i []) ++ concat (drop (suc i) pages)
drop-concat n [] i o all h le = absurd (omega arith)
drop-concat n (page ∷ pages) zero o all h le =
    let place : n * zero + o ≡ o = omega arith in
    rw place (drop-append-le o page (concat pages) (rw all.0 le))
drop-concat n (page ∷ pages) (suc i) o all h le =
    let place : n * suc i + o ≡ length page + (n * i + o) = rw all.0 (grind arith) in
    rw (place, drop-append-add page (concat pages) (n * i + o)) (drop-concat n pages i o all.1 (omega arith) le)

-- what stands before a byte: the pages before, and the start of its page
pub take-concat : (n : ℕ) (pages : List (List ℕ)) (i o : ℕ) → AreOfLength n pages → i < length pages → o ≤ n
    → take (n * i + o) (concat pages) ≡ concat (take i pages) ++ take o (get_or pages i [])
take-concat n [] i o all h le = absurd (omega arith)
take-concat n (page ∷ pages) zero o all h le =
    let place : n * zero + o ≡ o = omega arith in
    rw place (take-append-le o page (concat pages) (rw all.0 le))
take-concat n (page ∷ pages) (suc i) o all h le =
    let place : n * suc i + o ≡ length page + (n * i + o) = rw all.0 (grind arith) in
    rw (place, take-append-add page (concat pages) (n * i + o), take-concat n pages i o all.1 (omega arith) le)
    (sym (append_assoc page (concat (take i pages)) (take o (get_or pages i []))))

pub length-concat : (n : ℕ) (pages : List (List ℕ)) → AreOfLength n pages → length (concat pages) ≡ n * length pages
length-concat n [] all = omega arith
length-concat n (page ∷ pages) all =
    rw (length-append page (concat pages), all.0, length-concat n pages all.1) (grind arith)

-- a range within a page
pub range-concat : (n : ℕ) (pages : List (List ℕ)) (i o count : ℕ) → AreOfLength n pages → i < length pages → o + count ≤ n
    → slice_range (concat pages) (n * i + o) (n * i + o + count) ≡ slice_range (get_or pages i []) o (o + count)
range-concat n pages i o count all h le =
    let size : n * i + o + count - (n * i + o) ≡ count = omega arith in
    let size' : o + count - o ≡ count = omega arith in
    let room = room-after (get_or pages i []) o count n (AreOfLength-get_or n pages i all h) le in
    rw (size, size', drop-concat n pages i o all h (omega arith))
    (take-append-le count (drop o (get_or pages i [])) (concat (drop (suc i) pages)) room)

regrouped : (a b c d e : List ℕ) → a ++ b ++ c ++ (d ++ e) ≡ a ++ (b ++ c ++ d ++ e)
regrouped a b c d e = simp (append_assoc) refl

-- and a write within a page
pub write-concat : (n : ℕ) (pages : List (List ℕ)) (i o : ℕ) (bytes : List ℕ) → AreOfLength n pages → i < length pages
    → o + length bytes ≤ n
    → overwritten (concat pages) (n * i + o) bytes ≡ concat (set pages i (overwritten (get_or pages i []) o bytes))
write-concat n pages i o bytes all h le =
    let place : n * i + o + length bytes ≡ n * i + (o + length bytes) = omega arith in
    let page = get_or pages i [] in
    rw (
      place,
      drop-concat n pages i (o + length bytes) all h le,
      take-concat n pages i o all h (omega arith),
      set_split pages i (overwritten page o bytes) h,
      concat-append (take i pages) (overwritten page o bytes ∷ drop (suc i) pages),
    )
    (regrouped (concat (take i pages)) (take o page) bytes (drop (o + length bytes) page) (concat (drop (suc i) pages)))
