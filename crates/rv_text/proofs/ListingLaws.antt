-- The steps of a listing.
use Rattle.std.proofs.Common.{◌≡◌, ℕ, zero, suc, ◌+◌, ◌%◌, ◌^◌, ◌<◌, ◌≤◌, ◌==◌, Bool, true, false, cond, List, [], ◌∷◌, ◌++◌, drop, length, Option, Some, None, refl, sym, ap, ◌∙◌, subst, arith, append-nil, append_assoc, length-drop}
use Rattle.std.specs.Prelude.{codes, slice_index}
use Rattle.std.specs.Option.{option_map}
use Rattle.std.proofs.lemmas.List.{drop-drop, drop_all}
use Rattle.std.proofs.lemmas.Bool.{eq-eqb}
use Rattle.machine_defs.proofs.RowLaws.{not_equal}
use Rattle.machine_defs.specs.declared.ins.Ins.{Ins}
use Rattle.machine_defs.specs.Row.{encoded_in}
use Rattle.machine_defs.specs.Table.{full_forms}
use Rattle.machine_defs.specs.Compressed.{compressed_forms}
use Rattle.machine_defs.specs.Decode.{decode, with_length}
use Rattle.machine_defs.specs.Listing.{data_of, hex_byte, first_part, line, lines_from, dis}

mapped : (n : ℕ) (o : Option Ins) (d : Ins × ℕ) → 0 < n → option_map (with_length n) o ≡ Some d → 0 < d.1
mapped n None d some e = absurd (cc)
mapped n (Some i) d some e = let same : (i, n) ≡ d = cc in let P : Ins × ℕ → Type 0 = λ x. 0 < x.1 in subst P same some

either : (b : Bool) (full short : Option Ins) (d : Ins × ℕ) → cond b (option_map (with_length 4) full) (option_map (with_length 2) short) ≡ Some d → 0 < d.1
either true full short d e = mapped 4 full d (omega arith) e
either false full short d e = mapped 2 short d (omega arith) e

pub decode-length : (word : ℕ) (d : Ins × ℕ) → decode word ≡ Some d → 0 < d.1
unfolding decode
decode-length word d e = either (word % 4 == 3) (encoded_in full_forms word) (encoded_in compressed_forms (word % 2 ^ 16)) d e

-- ---- bytes that are no instruction

pub one-byte : (code old middle new : List ℕ) → length code ≡ 1 → middle ≡ old ++ codes ".byte 0x" → new ≡ middle ++ hex_byte (slice_index code 0)
    → new ≡ old ++ (data_of code).0
one-byte code old middle new one m e =
    let test : (length code == 1) ≡ true = eq-eqb (length code) 1 one in
    rw test (e ∙ ap (λ x. x ++ hex_byte (slice_index code 0)) m ∙ append_assoc old (codes ".byte 0x") (hex_byte (slice_index code 0)))

pub two-bytes : (code old middle high new : List ℕ) → ¬ (length code ≡ 1) → middle ≡ old ++ codes ".half 0x" → high ≡ middle ++ hex_byte (slice_index code 1)
    → new ≡ high ++ hex_byte (slice_index code 0) → new ≡ old ++ (data_of code).0
two-bytes code old middle high new more m h e =
    let test : (length code == 1) ≡ false = not_equal (length code) 1 more in
    let a : List ℕ = hex_byte (slice_index code 1) in
    let b : List ℕ = hex_byte (slice_index code 0) in
    rw test (e ∙ ap (λ x. x ++ b) (h ∙ ap (λ x. x ++ a) m) ∙ ap (λ x. x ++ b) (append_assoc old (codes ".half 0x") a)
    ∙ append_assoc old (codes ".half 0x" ++ a) b ∙ ap (λ x. old ++ x) (append_assoc (codes ".half 0x") a b))

-- ---- the lines

one-line : (most at : ℕ) (code : List ℕ) → 0 < length code
    → lines_from (suc most) at code ≡ line at (first_part code).0 ++ lines_from most (at + (first_part code).1) (drop (first_part code).1 code)
unfolding lines_from
one-line most at [] some = absurd (omega arith)
one-line most at (c ∷ cs) some = refl

no-line : (most at : ℕ) → lines_from most at [] ≡ []
unfolding lines_from
no-line zero at = refl
no-line (suc most) at = refl

pub begun : (code : List ℕ) → (most : ℕ) × (length code ≤ 0 + most) × (dis code ≡ [] ++ lines_from most 0 code)
unfolding dis
begun code = (length code, omega arith, refl)

pub gone-on : (code out text out' : List ℕ) (at most n : ℕ) → at < length code → length code ≤ at + most
    → dis code ≡ out ++ lines_from most at (drop at code) → text ≡ line at (first_part (drop at code)).0 → n ≡ (first_part (drop at code)).1 → 0 < n
    → out' ≡ out ++ text → (m : ℕ) × (length code ≤ at + n + m) × (dis code ≡ out' ++ lines_from m (at + n) (drop (at + n) code))
gone-on code out text out' at zero n more enough so t l some o = absurd (omega arith)
gone-on code out text out' at (suc m) n more enough so t l some o =
    let left : 0 < length (drop at code) = omega (arith, length-drop at code) in
    let rest : List ℕ = drop at code in
    let step : lines_from (suc m) at rest ≡ text ++ lines_from m (at + n) (drop (at + n) code) =
    one-line m at rest left
    ∙ ap (λ x. x ++ lines_from m (at + (first_part rest).1) (drop (first_part rest).1 rest)) (sym t)
    ∙ ap (λ k. text ++ lines_from m (at + k) (drop k rest)) (sym l)
    ∙ ap (λ x. text ++ lines_from m (at + n) x) (drop-drop n at code) in (
      m,
      omega arith,
      so ∙ ap (λ x. out ++ x) step ∙ sym (append_assoc out text (lines_from m (at + n) (drop (at + n) code)))
          ∙ ap (λ x. x ++ lines_from m (at + n) (drop (at + n) code)) (sym o),
    )

pub ended : (code out : List ℕ) (at most : ℕ) → length code ≤ at → dis code ≡ out ++ lines_from most at (drop at code) → out ≡ dis code
ended code out at most past so =
    sym (so ∙ ap (λ x. out ++ lines_from most at x) (drop_all at code past) ∙ ap (λ x. out ++ x) (no-line most at) ∙ append-nil out)
