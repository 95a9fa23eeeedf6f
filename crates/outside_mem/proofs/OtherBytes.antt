-- Runs of bytes with another byte at one place, and prefixes of them.
use Rattle.std.proofs.Common.{◌≡◌, ℕ, ◌+◌, ◌-◌, ◌<◌, ◌≤◌, min, max, List, [], ◌++◌, length, take, drop, slice_set, inl, inr, sym, ◌∙◌, ap, arith, length-append, length-set}
use Rattle.std.proofs.lemmas.List.{take_all, take-take, take_min, length-take, length-take-le, take-set-le, drop-set-lt, drop-set-add, set_past, drop-take, drop_all}
use Rattle.std.proofs.Math.Seq.{take-set-lt, take-append-add}
use Rattle.std.proofs.lemmas.Bool.{cases_lt}
use Rattle.outside.specs.Disk.{written, Torn, Cut}

-- ---- Another byte at one place

take_set : (n i byte : ℕ) (old new : List ℕ) → take n new ≡ take n old → take n (slice_set new i byte) ≡ take n (slice_set old i byte)
take_set n i byte old new same = elim (cases_lt i n) [
  | inl in_prefix ↦ take-set-lt n new i byte in_prefix ∙ ap (λ (l : List ℕ). slice_set l i byte) same ∙ sym (take-set-lt n old i byte in_prefix)
  | inr past ↦ take-set-le n new i byte past ∙ same ∙ sym (take-set-le n old i byte past)
]

drop_set : (n i byte : ℕ) (old new : List ℕ) → drop n new ≡ drop n old → drop n (slice_set new i byte) ≡ drop n (slice_set old i byte)
drop_set n i byte old new same = elim (cases_lt i n) [
  | inl in_prefix ↦ drop-set-lt n new i byte in_prefix ∙ same ∙ sym (drop-set-lt n old i byte in_prefix)
  | inr past ↦ let sum : i ≡ n + (i - n) = omega (arith, past) in
      ap (λ (k : ℕ). drop n (slice_set new k byte)) sum ∙ drop-set-add n new (i - n) byte ∙ ap (λ (l : List ℕ). slice_set l (i - n) byte) same
      ∙ sym (drop-set-add n old (i - n) byte) ∙ ap (λ (k : ℕ). drop n (slice_set old k byte)) (sym sum)
]

-- a torn write stays one where the byte is another in both
pub torn_both : (at size i byte : ℕ) (old new : List ℕ) → Torn at size old new → Torn at size (slice_set old i byte) (slice_set new i byte)
torn_both at size i byte old new torn = record {
  before = take_set at i byte old new torn.before;
  after = drop_set (at + size) i byte old new torn.after;
  no_shorter = omega (arith, torn.no_shorter, length-set old i byte, length-set new i byte);
  no_longer = omega (arith, torn.no_longer, length-set old i byte, length-set new i byte);
}

-- and where the byte is in its range
pub torn_again : (at size i byte : ℕ) (old new : List ℕ) → at ≤ i → i < at + size → Torn at size old new → Torn at size old (slice_set new i byte)
torn_again at size i byte old new from to torn = record {
  before = take-set-le at new i byte from ∙ torn.before;
  after = drop-set-lt (at + size) new i byte to ∙ torn.after;
  no_shorter = omega (arith, torn.no_shorter, length-set new i byte);
  no_longer = omega (arith, torn.no_longer, length-set new i byte);
}

-- a cut stays one
pub cut_both : (len i byte : ℕ) (old new : List ℕ) → Cut len old new → Cut len (slice_set old i byte) (slice_set new i byte)
cut_both len i byte old new cut =
    let size : length (slice_set new i byte) ≡ length new = length-set new i byte in
    let front : slice_set new i byte ≡ take (length new) (slice_set old i byte) = elim (cases_lt i (length new)) [
      | inl in_prefix ↦ ap (λ (l : List ℕ). slice_set l i byte) cut.prefix ∙ sym (take-set-lt (length new) old i byte in_prefix)
      | inr past ↦ set_past new i byte past ∙ cut.prefix ∙ sym (take-set-le (length new) old i byte past)
    ] in
    record {
      no_shorter = omega (arith, cut.no_shorter, length-set old i byte, size);
      prefix = front ∙ ap (λ (n : ℕ). take n (slice_set old i byte)) (sym size);
    }

-- ---- Prefixes

take_swap : (m n : ℕ) (l : List ℕ) → take m (take n l) ≡ take n (take m l)
take_swap m n l = elim (cases_lt m n) [
  | inl less ↦ take-take m n l (omega (arith, less)) ∙ sym (take_all n (take m l) (omega (arith, less, length-take m l)))
  | inr more ↦ take_all m (take n l) (omega (arith, more, length-take n l)) ∙ sym (take-take n m l more)
]

cut_away : (m n : ℕ) (l : List ℕ) → n < m → drop m (take n l) ≡ []
cut_away m n l less = drop_all m (take n l) (omega (arith, less, length-take n l))

drop_front : (m n : ℕ) (old new : List ℕ) → drop m new ≡ drop m old → drop m (take n new) ≡ drop m (take n old)
drop_front m n old new same = elim (cases_lt n m) [
  | inl less ↦ cut_away m n new less ∙ sym (cut_away m n old less)
  | inr more ↦ let sum : n ≡ m + (n - m) = omega (arith, more) in
      ap (λ (k : ℕ). drop m (take k new)) sum ∙ drop-take m (n - m) new ∙ ap (take (n - m)) same ∙ sym (drop-take m (n - m) old)
      ∙ ap (λ (k : ℕ). drop m (take k old)) (sym sum)
]

-- each prefix of what a write may leave is what it may leave of that prefix
pub torn_prefix : (at size kept : ℕ) (old new : List ℕ) → Torn at size old new → Torn at size (take kept old) (take kept new)
torn_prefix at size kept old new torn = record {
  before = take_swap at kept new ∙ ap (take kept) torn.before ∙ sym (take_swap at kept old);
  after = drop_front (at + size) kept old new torn.after;
  no_shorter = omega (arith, torn.no_shorter, length-take kept old, length-take kept new);
  no_longer = omega (arith, torn.no_longer, length-take kept old, length-take kept new);
}

-- a prefix that is long enough is left by a cut of a longer one
pub cut_front : (len least kept : ℕ) (bytes : List ℕ) → min least len ≤ kept → Cut len (take (max least kept) bytes) (take kept bytes)
cut_front len least kept bytes enough =
    let is_min : length (take kept bytes) ≡ min kept (length bytes) = length-take kept bytes in
    record {
      no_shorter = omega (arith, enough, is_min, length-take (max least kept) bytes);
      prefix = sym (ap (λ (n : ℕ). take n (take (max least kept) bytes)) is_min
          ∙ take-take (min kept (length bytes)) (max least kept) bytes (omega arith) ∙ take_min kept bytes);
    }

-- a prefix of a prefix
pub take_take : (m n : ℕ) (l : List ℕ) → take (min n m) l ≡ take m (take n l)
take_take m n l = elim (cases_lt n m) [
  | inl less ↦ let is : min n m ≡ n = omega (arith, less) in ap (λ (k : ℕ). take k l) is ∙ sym (take_all m (take n l) (omega (arith, less, length-take n l)))
  | inr more ↦ let is : min n m ≡ m = omega (arith, more) in ap (λ (k : ℕ). take k l) is ∙ sym (take-take m n l more)
]

shown_rest : (k len : ℕ) (bytes : List ℕ) → take (len - k) (drop k bytes) ≡ drop k (take len bytes)
shown_rest k len bytes = elim (cases_lt len k) [
  | inl less ↦ let none : len - k ≡ 0 = omega (arith, less) in ap (λ (n : ℕ). take n (drop k bytes)) none ∙ sym (cut_away k len bytes less)
  | inr more ↦ let sum : len ≡ k + (len - k) = omega (arith, more) in sym (drop-take k (len - k) bytes) ∙ ap (λ (n : ℕ). drop k (take n bytes)) (sym sum)
]

-- what a write leaves of what is shown of an area, and of all that is there
pub shown_written : (at len : ℕ) (piece bytes : List ℕ) → at ≤ len → len ≤ length bytes
    → take (max len (at + length piece)) (written at piece bytes) ≡ written at piece (take len bytes)
shown_written at len piece bytes in_shown within =
    let front : List ℕ = take at bytes ++ piece in
    let size : length front ≡ at + length piece = omega (arith, length-append (take at bytes) piece, length-take-le at bytes (omega (arith, in_shown, within))) in
    let rest : ℕ = len - (at + length piece) in
    let sum : max len (at + length piece) ≡ length front + rest = omega (arith, size) in
    let cut : take rest (drop (at + length piece) bytes) ≡ drop (at + length piece) (take len bytes) = shown_rest (at + length piece) len bytes in
    let same : take at bytes ≡ take at (take len bytes) = sym (take-take at len bytes in_shown) in
    ap (λ (n : ℕ). take n (front ++ drop (at + length piece) bytes)) sum ∙ take-append-add front (drop (at + length piece) bytes) rest
    ∙ ap (λ (l : List ℕ). front ++ l) cut ∙ ap (λ (l : List ℕ). l ++ piece ++ drop (at + length piece) (take len bytes)) same
