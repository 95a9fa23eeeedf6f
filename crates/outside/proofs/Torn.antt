-- What a write or a cut that no sync has followed may leave of a run of bytes.
use Rattle.std.proofs.Common.{◌≡◌, ℕ, ◌+◌, ◌-◌, ◌≤◌, max, List, ◌++◌, length, take, drop, refl, sym, ◌∙◌, ap, arith, append_assoc, length-append, length-drop, take-append-drop}
use Rattle.std.proofs.lemmas.List.{take_at, drop_at, take_all, drop-drop, length-take, length-take-le, take_min}
use Rattle.std.proofs.Math.Seq.{take-append-add}
use Rattle.outside.specs.declared.disk.Area.TheVariants.{Log, SnapA, SnapB}
use Rattle.outside.specs.Disk.{written, Torn, Cut}
use Rattle.outside.specs.DiskLaws.{TearsOnePart, TearsTheEnd, CutsTheEnd, TearsToTheWritten, CutsToAnyLength, KeepsOthers}

-- nothing of a write may be there
pub torn_same : (at size : ℕ) (bytes : List ℕ) → Torn at size bytes bytes
torn_same at size bytes = record { before = refl; after = refl; no_shorter = omega arith; no_longer = omega arith }

-- nothing may be cut
pub cut_same : (len : ℕ) (bytes : List ℕ) → Cut len bytes bytes
cut_same len bytes = record { no_shorter = omega arith; prefix = sym (take_all (length bytes) bytes (omega arith)) }

-- a write after a prefix leaves the prefix
torn_prefix : (at size : ℕ) (front old torn : List ℕ) → length front ≡ at → take at old ≡ front → Torn at size old torn → torn ≡ front ++ drop at torn
torn_prefix at size front old torn len is h = sym (take-append-drop at torn) ∙ ap (λ (l : List ℕ). l ++ drop at torn) (h.before ∙ is)

pub tears_one_part : TearsOnePart
tears_one_part front part rest torn h =
    let at : ℕ = length front in
    let n : ℕ = length part in
    let old : List ℕ = front ++ part ++ rest in
    let old_len : length old ≡ at + n + length rest = omega (arith, length-append (front ++ part) rest, length-append front part) in
    let is_front : take at old ≡ front = ap (take at) (append_assoc front part rest) ∙ take_at front (part ++ rest) at refl in
    let is_rest : drop (at + n) old ≡ rest = drop_at (front ++ part) rest (at + n) (length-append front part) in
    let whole : torn ≡ front ++ drop at torn = torn_prefix at n front old torn refl is_front h in
    let tail : drop n (drop at torn) ≡ rest = drop-drop n at torn ∙ h.after ∙ is_rest in
    let long : length torn ≡ at + n + length rest = omega (arith, h.no_shorter, h.no_longer, old_len) in
    let size : length (take n (drop at torn)) ≡ n = length-take-le n (drop at torn) (omega (arith, length-drop at torn)) in
    let parts : drop at torn ≡ take n (drop at torn) ++ rest = sym (take-append-drop n (drop at torn)) ∙ ap (λ (l : List ℕ). take n (drop at torn) ++ l) tail in
    (take n (drop at torn), size, whole ∙ ap (λ (l : List ℕ). front ++ l) parts ∙ sym (append_assoc front (take n (drop at torn)) rest))

pub tears_the_end : TearsTheEnd
tears_the_end front torn size h =
    let at : ℕ = length front in
    let short : length (drop at torn) ≤ size = omega (arith, length-drop at torn, h.no_longer) in
    (drop at torn, short, torn_prefix at size front front torn refl (take_all at front (omega arith)) h)

pub cuts_the_end : CutsTheEnd
cuts_the_end front end left h =
    let count : ℕ = length left - length front in
    let long : length front ≤ length left = omega (arith, h.no_shorter, length-append front end) in
    let sum : length left ≡ length front + count = omega arith in
    (count, h.prefix ∙ ap (λ (k : ℕ). take k (front ++ end)) sum ∙ take-append-add front end count)

written_prefix : (at : ℕ) (piece bytes : List ℕ) → at ≤ length bytes → take at (written at piece bytes) ≡ take at bytes
written_prefix at piece bytes within =
    ap (take at) (append_assoc (take at bytes) piece (drop (at + length piece) bytes)) ∙ take_at (take at bytes) (piece ++ drop (at + length piece) bytes) at (length-take-le at bytes within)

written_length : (at : ℕ) (piece bytes : List ℕ) → at ≤ length bytes → length (written at piece bytes) ≡ max (length bytes) (at + length piece)
written_length at piece bytes within = omega (
  arith,
  length-append (take at bytes ++ piece) (drop (at + length piece) bytes),
  length-append (take at bytes) piece,
  length-take-le at bytes within,
  length-drop (at + length piece) bytes,
)

written_after : (at lost : ℕ) (piece bytes : List ℕ) → at ≤ length bytes → drop (at + (length piece + lost)) (written at piece bytes) ≡ drop (at + (length piece + lost)) bytes
written_after at lost piece bytes within =
    let front : List ℕ = take at bytes ++ piece in
    let len : length front ≡ at + length piece = omega (arith, length-append (take at bytes) piece, length-take-le at bytes within) in
    let rest : drop (at + length piece) (written at piece bytes) ≡ drop (at + length piece) bytes = drop_at front (drop (at + length piece) bytes) (at + length piece) len in
    let sum : at + (length piece + lost) ≡ at + length piece + lost = omega arith in
    ap (λ (k : ℕ). drop k (written at piece bytes)) sum ∙ sym (drop-drop lost (at + length piece) (written at piece bytes)) ∙ ap (drop lost) rest
    ∙ drop-drop lost (at + length piece) bytes ∙ ap (λ (k : ℕ). drop k bytes) (sym sum)

pub tears_to_the_written : TearsToTheWritten
tears_to_the_written at lost piece bytes within = record {
  before = written_prefix at piece bytes within;
  after = written_after at lost piece bytes within;
  no_shorter = omega (arith, written_length at piece bytes within);
  no_longer = omega (arith, written_length at piece bytes within);
}

pub cuts_to_any_length : CutsToAnyLength
cuts_to_any_length len count bytes long = record {
  no_shorter = omega (arith, length-take count bytes);
  prefix = sym (ap (λ (n : ℕ). take n bytes) (length-take count bytes) ∙ take_min count bytes);
}

pub keeps_others : KeepsOthers
keeps_others Log Log bytes image apart = absurd (apart refl)
keeps_others Log SnapA bytes image apart = refl
keeps_others Log SnapB bytes image apart = refl
keeps_others SnapA Log bytes image apart = refl
keeps_others SnapA SnapA bytes image apart = absurd (apart refl)
keeps_others SnapA SnapB bytes image apart = refl
keeps_others SnapB Log bytes image apart = refl
keeps_others SnapB SnapA bytes image apart = refl
keeps_others SnapB SnapB bytes image apart = absurd (apart refl)
