-- The rule: a header's parent by its number, and each uncle in its place.
use Rattle.std.proofs.Common.{◌≡◌, ℕ, ◌+◌, ◌-◌, ◌<◌, ◌≤◌, Bool, true, false, eqb, List, [], ◌∷◌, length, take, get_or, Some, refl, sym, ap, ap₂, ◌∙◌, arith}
use Rattle.std.specs.Prelude.{◌&&◌, ◌||◌, slice_get}
use Rattle.std.specs.List.{list_any, list_all, enumerate_from}
use Rattle.std.specs.Str.{bytes_eq}
use Rattle.std.proofs.lemmas.Bool.{ne_eqb, eq-eqb, eqb-true, eqb-false, or_from, and_right, and_from}
use Rattle.std.proofs.lemmas.List.{take_all}
use Rattle.std.proofs.lemmas.List.Folds.{list_all_more, list_all_at}
use Rattle.std.proofs.lemmas.List.FromFn.{length-enumerate_from, get_or-enumerate_from}
use Rattle.std.proofs.lemmas.Option.{slice_get_within, get_or_from_slice_get}
use Rattle.chain_defs.specs.Schema.{Header, UncleBlock, Block}
use Rattle.chain_defs.specs.Specification.{Specification}
use Rattle.chain_defs.specs.Kept.{header_hash}
use Rattle.rule_defs.specs.Uncles.{stands_on, is_new, is_beside, proposes_well, known_headers, is_uncle, has_uncles}
use Rattle.uncle_rules.specs.Known.{is_named}

-- ---- The parent

-- no header's number is one below zero
pub stands-nowhere : (known : List Header) (header : Header) → header.number ≡ 0 → false ≡ stands_on known header
stands-nowhere known header none = sym (never known)
  where
    never : (headers : List Header) → stands_on headers header ≡ false
    never [] = refl
    never (parent ∷ later) = or_from _ _
        (and_right (bytes_eq (header_hash parent) header.parent_hash) (eqb header.number (parent.number + 1))
        (ne_eqb header.number (parent.number + 1) (λ same. omega (arith, same, none)))) (never later)

next-same : (number own : ℕ) → 0 < number → eqb own (number - 1) ≡ eqb number (own + 1)
next-same number own some = by_test (eqb own (number - 1)) refl
  where
    by_test : (is : Bool) → eqb own (number - 1) ≡ is → is ≡ eqb number (own + 1)
    by_test true is =
        let same : own ≡ number - 1 = eqb-true own (number - 1) is in
        sym (eq-eqb number (own + 1) (omega (arith, same, some)))
    by_test false is = sym (ne_eqb number (own + 1) (λ same. eqb-false own (number - 1) is (omega (arith, same))))

pub stands-same : (known : List Header) (header : Header) → 0 < header.number
    → list_any (is_named header.parent_hash (Some (header.number - 1))) known ≡ stands_on known header
stands-same [] header some = refl
stands-same (parent ∷ later) header some =
    ap (λ (b : Bool). (bytes_eq (header_hash parent) header.parent_hash && b) || list_any (is_named header.parent_hash (Some (header.number - 1))) later)
    (next-same header.number parent.number some)
    ∙ ap (λ (rest : Bool). (bytes_eq (header_hash parent) header.parent_hash && eqb header.number (parent.number + 1)) || rest) (stands-same later header some)

-- ---- Each uncle

-- an uncle of a block with its place
abbrev pub is_uncle_at : Specification → List Block → Block → ℕ × UncleBlock → Bool
is_uncle_at spec branch b it = is_uncle spec branch b (take it.0 b.uncles) it.1

at-place : (uncles : List UncleBlock) (i : ℕ) (uncle : UncleBlock) → slice_get uncles i ≡ Some uncle
    → get_or (enumerate_from 0 uncles) i (0, uncle) ≡ (i, uncle)
at-place uncles i uncle there =
    let zeroth : 0 + i ≡ i = omega arith in
    get_or-enumerate_from 0 uncles i (0, uncle) (slice_get_within uncles i uncle there)
    ∙ ap₂ (λ (n : ℕ) (u : UncleBlock). (n, u)) zeroth (get_or_from_slice_get uncles i uncle uncle there)

within-places : (uncles : List UncleBlock) (i : ℕ) (uncle : UncleBlock) → slice_get uncles i ≡ Some uncle → i < length (enumerate_from 0 uncles)
within-places uncles i uncle there =
    let long = length-enumerate_from 0 uncles in
    let within = slice_get_within uncles i uncle there in
    omega (arith, long, within)

-- the place and the proposals of one, and whether it is an uncle
abbrev pub is_placed : List Block → Block → List UncleBlock → Header → Bool
is_placed branch b earlier header =
    is_beside b.header header && (stands_on (known_headers branch earlier) header && is_new (known_headers branch earlier) header)

apart : (a b c d : Bool) → (((a && b) && c) && d) ≡ ((a && (b && c)) && d)
apart true b c d = refl
apart false b c d = refl

parts : (spec : Specification) (branch : List Block) (b : Block) (earlier : List UncleBlock) (uncle : UncleBlock)
    → is_uncle spec branch b earlier uncle ≡ (is_placed branch b earlier uncle.header && proposes_well spec uncle)
parts spec branch b earlier uncle =
    apart (is_beside b.header uncle.header) (stands_on (known_headers branch earlier) uncle.header) (is_new (known_headers branch earlier) uncle.header)
    (proposes_well spec uncle)

fails : (spec : Specification) (branch : List Block) (b : Block) (i : ℕ) (uncle : UncleBlock) → slice_get b.uncles i ≡ Some uncle
    → is_uncle spec branch b (take i b.uncles) uncle ≡ false → false ≡ has_uncles spec branch b
unfolding has_uncles
fails spec branch b i uncle there is =
    sym (list_all_at (is_uncle_at spec branch b) (enumerate_from 0 b.uncles) i (0, uncle) (within-places b.uncles i uncle there)
    (ap (is_uncle_at spec branch b) (at-place b.uncles i uncle there) ∙ is))

pub unplaced : (spec : Specification) (branch : List Block) (b : Block) (i : ℕ) (uncle : UncleBlock) → slice_get b.uncles i ≡ Some uncle
    → is_placed branch b (take i b.uncles) uncle.header ≡ false → false ≡ has_uncles spec branch b
unplaced spec branch b i uncle there is =
    fails spec branch b i uncle there (parts spec branch b (take i b.uncles) uncle ∙ ap (λ (t : Bool). t && proposes_well spec uncle) is)

pub ill-proposing : (spec : Specification) (branch : List Block) (b : Block) (i : ℕ) (uncle : UncleBlock) → slice_get b.uncles i ≡ Some uncle
    → proposes_well spec uncle ≡ false → false ≡ has_uncles spec branch b
ill-proposing spec branch b i uncle there is =
    fails spec branch b i uncle there (parts spec branch b (take i b.uncles) uncle
    ∙ and_right (is_placed branch b (take i b.uncles) uncle.header) (proposes_well spec uncle) is)

pub one-more : (spec : Specification) (branch : List Block) (b : Block) (i : ℕ) (uncle : UncleBlock) → slice_get b.uncles i ≡ Some uncle
    → list_all (is_uncle_at spec branch b) (take i (enumerate_from 0 b.uncles)) ≡ true
    → is_placed branch b (take i b.uncles) uncle.header ≡ true → proposes_well spec uncle ≡ true
    → list_all (is_uncle_at spec branch b) (take (i + 1) (enumerate_from 0 b.uncles)) ≡ true
one-more spec branch b i uncle there before placed well =
    list_all_more (is_uncle_at spec branch b) (enumerate_from 0 b.uncles) i (0, uncle) (within-places b.uncles i uncle there)
    ∙ and_from _ _ before (ap (is_uncle_at spec branch b) (at-place b.uncles i uncle there) ∙ parts spec branch b (take i b.uncles) uncle
    ∙ and_from _ _ placed well)

pub all-are : (spec : Specification) (branch : List Block) (b : Block) (i : ℕ) → length b.uncles ≤ i
    → list_all (is_uncle_at spec branch b) (take i (enumerate_from 0 b.uncles)) ≡ true → true ≡ has_uncles spec branch b
unfolding has_uncles
all-are spec branch b i all are =
    let long = length-enumerate_from 0 b.uncles in
    sym (ap (list_all (is_uncle_at spec branch b)) (sym (take_all i (enumerate_from 0 b.uncles) (omega (arith, long, all)))) ∙ are)
