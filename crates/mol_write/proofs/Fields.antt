-- The fields of a content, by their lengths: what a builder holds, and the encodings that it makes of it.
use Rattle.std.proofs.Common.{◌≡◌, ℕ, ◌+◌, ◌*◌, ◌^◌, ◌<◌, ◌≤◌, List, [], ◌∷◌, ◌++◌, length, map, take, drop, refl, sym, ap, ◌∙◌, arith}
use Rattle.std.specs.Prelude.{sum}
use Rattle.std.specs.Int.{w32, to_le_bytes}
use Rattle.std.specs.List.{concat}
use Rattle.std.proofs.lemmas.List.{take_all, take-append-le, drop-append-le, take-append-drop, length-append, length-take-le, length-drop}
use Rattle.std.proofs.lemmas.List.Sums.{sum_by-cons, sum_by-append}
use Rattle.chain_defs.specs.Molecule.{fixvec, offsets, header_size, full_size, dynvec, IsFixvec, IsDynvec}
use Rattle.chain_defs.proofs.MoleculeLaws.{concat-append, length-dynvec}
use Rattle.mol_write.specs.Builder.{fields_by_lengths, AllHaveSize}

pub sum-cons : (size : ℕ) (sizes : List ℕ) → sum (size ∷ sizes) ≡ size + sum sizes
sum-cons size sizes = sum_by-cons (λ (n : ℕ). n) size sizes

pub sum-push : (sizes : List ℕ) (size : ℕ) → sum (sizes ++ size ∷ []) ≡ sum sizes + size
sum-push sizes size = omega (arith, sum_by-append (λ (n : ℕ). n) sizes (size ∷ []))

none : (content : List ℕ) → length content ≡ 0 → content ≡ []
none [] empty = refl
none (b ∷ content) empty = absurd (omega arith)

-- what is left after the first field
rest_fits : (n : ℕ) (sizes content : List ℕ) → sum (n ∷ sizes) ≡ length content → sum sizes ≡ length (drop n content)
rest_fits n sizes content fits = omega (arith, length-drop n content, sum-cons n sizes)

-- ---- the fields

pub length-fields_by_lengths : (sizes content : List ℕ) → length (fields_by_lengths sizes content) ≡ length sizes
unfolding fields_by_lengths
length-fields_by_lengths [] content = refl
length-fields_by_lengths (n ∷ sizes) content = omega (arith, length-fields_by_lengths sizes (drop n content))

pub concat-fields_by_lengths : (sizes content : List ℕ) → sum sizes ≡ length content → concat (fields_by_lengths sizes content) ≡ content
unfolding fields_by_lengths
concat-fields_by_lengths [] content fits = sym (none content (omega arith))
concat-fields_by_lengths (n ∷ sizes) content fits =
    ap (λ (l : List ℕ). take n content ++ l) (concat-fields_by_lengths sizes (drop n content) (rest_fits n sizes content fits)) ∙ take-append-drop n content

pub lengths-fields_by_lengths : (sizes content : List ℕ) → sum sizes ≡ length content → map length (fields_by_lengths sizes content) ≡ sizes
unfolding fields_by_lengths
lengths-fields_by_lengths [] content fits = refl
lengths-fields_by_lengths (n ∷ sizes) content fits =
    let first : length (take n content) ≡ n = length-take-le n content (omega (arith, sum-cons n sizes)) in
    rw (first, lengths-fields_by_lengths sizes (drop n content) (rest_fits n sizes content fits)) refl

-- a field more
pub fields_by_lengths-push : (sizes content field : List ℕ) → sum sizes ≡ length content
    → fields_by_lengths (sizes ++ length field ∷ []) (content ++ field) ≡ fields_by_lengths sizes content ++ field ∷ []
unfolding fields_by_lengths
fields_by_lengths-push [] content field fits =
    ap (λ (l : List ℕ). take (length field) (l ++ field) ∷ []) (none content (omega arith)) ∙ ap (λ (l : List ℕ). l ∷ []) (take_all (length field) field (omega arith))
fields_by_lengths-push (n ∷ sizes) content field fits =
    let within : n ≤ length content = omega (arith, sum-cons n sizes) in
    rw (take-append-le n content field within, drop-append-le n content field within, fields_by_lengths-push sizes (drop n content) field (rest_fits n sizes content fits)) refl

-- ---- sizes

pub full_size-fields_by_lengths : (sizes content : List ℕ) → sum sizes ≡ length content → full_size (fields_by_lengths sizes content) ≡ 4 + 4 * length sizes + length content
unfolding full_size header_size
full_size-fields_by_lengths sizes content fits = omega (arith, length-fields_by_lengths sizes content, ap length (concat-fields_by_lengths sizes content fits))

pub full_size-push : (fields : List (List ℕ)) (field : List ℕ) → full_size (fields ++ field ∷ []) ≡ full_size fields + 4 + length field
unfolding full_size header_size
full_size-push fields field =
    let bytes : length (concat (fields ++ field ∷ [])) ≡ length (concat fields) + length (field ++ []) = ap length (concat-append fields (field ∷ [])) ∙ length-append (concat fields) (field ++ []) in
    omega (arith, length-append fields (field ∷ []), length-append field [])

-- ---- offsets, by the lengths of the parts

unfoldable pub offsets_by : ℕ → List ℕ → List ℕ
offsets_by start [] = []
offsets_by start (size ∷ sizes) = to_le_bytes w32 start ++ offsets_by (start + size) sizes

pub offsets-lengths : (start : ℕ) (parts : List (List ℕ)) → offsets start parts ≡ offsets_by start (map length parts)
unfolding offsets offsets_by
offsets-lengths start [] = refl
offsets-lengths start (part ∷ parts) = ap (λ (l : List ℕ). to_le_bytes w32 start ++ l) (offsets-lengths (start + length part) parts)

-- ---- the encodings

pub is_dynvec : (sizes content bytes : List ℕ) → sum sizes ≡ length content → 4 + 4 * length sizes + length content < 2 ^ 32
    → bytes ≡ (to_le_bytes w32 (4 + 4 * length sizes + length content) ++ offsets (4 + 4 * length sizes) (fields_by_lengths sizes content)) ++ content
    → IsDynvec bytes (fields_by_lengths sizes content)
unfolding dynvec header_size
is_dynvec sizes content bytes sums fits is =
    let fields = fields_by_lengths sizes content in
    let full : full_size fields ≡ 4 + 4 * length sizes + length content = full_size-fields_by_lengths sizes content sums in
    let header : header_size fields ≡ 4 + 4 * length sizes = ap (λ (n : ℕ). 4 + 4 * n) (length-fields_by_lengths sizes content) in
    let items : concat fields ≡ content = concat-fields_by_lengths sizes content sums in
    let encoding : bytes ≡ dynvec fields = is
    ∙ ap (λ (l : List ℕ). (to_le_bytes w32 (4 + 4 * length sizes + length content) ++ offsets (4 + 4 * length sizes) fields) ++ l) (sym items)
    ∙ ap (λ (n : ℕ). (to_le_bytes w32 (4 + 4 * length sizes + length content) ++ offsets n fields) ++ concat fields) (sym header)
    ∙ ap (λ (n : ℕ). (to_le_bytes w32 n ++ offsets (header_size fields) fields) ++ concat fields) (sym full) in
    record { encoding = encoding; size = omega (arith, ap length encoding, length-dynvec fields) }

pub is_fixvec : (sizes content bytes : List ℕ) → sum sizes ≡ length content → length sizes < 2 ^ 32 → bytes ≡ to_le_bytes w32 (length sizes) ++ content
    → (size : ℕ) → AllHaveSize size (fields_by_lengths sizes content) → IsFixvec size bytes (fields_by_lengths sizes content)
unfolding fixvec
is_fixvec sizes content bytes sums fits is size each =
    let fields = fields_by_lengths sizes content in
    let count : length fields ≡ length sizes = length-fields_by_lengths sizes content in
    let encoding : bytes ≡ fixvec fields = is
    ∙ ap (λ (l : List ℕ). to_le_bytes w32 (length sizes) ++ l) (sym (concat-fields_by_lengths sizes content sums))
    ∙ ap (λ (n : ℕ). to_le_bytes w32 n ++ concat fields) (sym count) in
    record { encoding = encoding; sizes = each; count = omega (arith, count) }
