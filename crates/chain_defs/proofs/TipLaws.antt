-- The tip is the earliest of the blocks with the greatest number.
use Rattle.std.proofs.Common.{◌≡◌, ℕ, zero, suc, ◌<◌, ◌≤◌, Bool, true, false, cond, eqb, ltb, List, [], ◌∷◌, ◌++◌, length, Option, Some, None, refl, sym, ap, ◌∙◌, subst, inl, inr, ◌⊎◌, arith}
use Rattle.std.specs.Prelude.{option_map, slice_get, IfSome, nat_lt, if◌then◌else◌}
use Rattle.std.proofs.lemmas.Bool.Decides.{nat_tests}
use Rattle.std.proofs.lemmas.Bool.{cases_lt}
use Rattle.std.proofs.lemmas.Option.{slice_get_within}
use Rattle.chain_defs.specs.Schema.{Block}
use Rattle.chain_defs.specs.Kept.{block_at}
use Rattle.chain_defs.proofs.KeptLaws.{slice_get-before, slice_get-push, suc_of}
use Rattle.chain_defs.specs.Tip.{greatest_number, place_of_number, tip_place, IsTip, TipsAreTips}

-- no number is above this one
abbrev AreAtMost : List Block → ℕ → Type 0
AreAtMost kept n = (i : ℕ) → IfSome (block_at kept i) (λ block. block.header.number ≤ n)

-- before this place no number is this one
abbrev AreOthersBefore : List Block → ℕ → ℕ → Type 0
AreOthersBefore kept n place = (i : ℕ) → i < place → IfSome (block_at kept i) (λ block. eqb block.header.number n ≡ false)

raise : (found : Option Block) (n m : ℕ) → n ≤ m → IfSome found (λ block. block.header.number ≤ n) → IfSome found (λ block. block.header.number ≤ m)
raise None n m above most = tt
raise (Some block) n m above most = omega (arith, above, most)

-- the greatest number bounds each, and is the least that does
greatest-bounds : (kept : List Block) → AreAtMost kept (greatest_number kept)
greatest-bounds [] i = tt
greatest-bounds (block ∷ later) zero = grind arith
greatest-bounds (block ∷ later) (suc i) =
    raise (block_at later i) (greatest_number later) (greatest_number (block ∷ later)) (grind arith) (greatest-bounds later i)

greatest-least : (kept : List Block) (n : ℕ) → AreAtMost kept n → greatest_number kept ≤ n
greatest-least [] n most = omega arith
greatest-least (block ∷ later) n most =
    let first : block.header.number ≤ n = most 0 in
    let rest : greatest_number later ≤ n = greatest-least later n (λ i. most (suc i)) in
    grind arith

-- It is the number of a block, where there is one.
greatest-there : (block : Block) (later : List Block)
    → (place : ℕ) × (top : Block) × (block_at (block ∷ later) place ≡ Some top) × (top.header.number ≡ greatest_number (block ∷ later))
greatest-there block [] = (0, block, refl, grind arith)
greatest-there block (next ∷ later) = by_number (cases_lt block.header.number (greatest_number (next ∷ later))) (greatest-there next later)
  where
    by_number : (block.header.number < greatest_number (next ∷ later)) ⊎ (greatest_number (next ∷ later) ≤ block.header.number)
        → (place : ℕ) × (top : Block) × (block_at (next ∷ later) place ≡ Some top) × (top.header.number ≡ greatest_number (next ∷ later))
        → (place : ℕ) × (top : Block) × (block_at (block ∷ next ∷ later) place ≡ Some top) × (top.header.number ≡ greatest_number (block ∷ next ∷ later))
    by_number (inl above) rest = let is = rest.3 in (suc rest.0, rest.1, rest.2, grind arith)
    by_number (inr below) rest = (0, block, refl, grind arith)

-- A place of a number has it, and no earlier one does; and such a place is the one that is found.
record HasFirst (kept : List Block) (number place : ℕ) : Type 0 where
  top : Block
  there : block_at kept place ≡ Some top
  is : top.header.number ≡ number
  others : AreOthersBefore kept number place

first-there : (kept : List Block) (number place : ℕ) → place_of_number kept number ≡ Some place → HasFirst kept number place
first-there [] number place found = absurd (cc)
first-there (block ∷ later) number place found =
    by_test (eqb block.header.number number) refl found (first-there later number)
  where
    by_test : (b : Bool) → eqb block.header.number number ≡ b → cond b (Some 0) (option_map suc (place_of_number later number)) ≡ Some place
        → ((i : ℕ) → place_of_number later number ≡ Some i → HasFirst later number i) → HasFirst (block ∷ later) number place
    by_test true is found rest =
        let here : 0 ≡ place = grind arith in
        record {
          top = block;
          there = ap (slice_get (block ∷ later)) (sym here);
          is = grind (arith, nat_tests);
          others = λ i below. absurd (omega (arith, here, below));
        }
    by_test false is found rest = behind (suc_of (place_of_number later number) place found)
      where
        behind : (i : ℕ) × (suc i ≡ place) × (place_of_number later number ≡ Some i) → HasFirst (block ∷ later) number place
        behind at =
            let first = rest at.0 at.2 in
            record {
              top = first.top;
              there = ap (slice_get (block ∷ later)) (sym at.1) ∙ first.there;
              is = first.is;
              others = before;
            }
          where
            before : (i : ℕ) → i < place → IfSome (block_at (block ∷ later) i) (λ (b : Block). eqb b.header.number number ≡ false)
            before zero below = is
            before (suc i) below = (rest at.0 at.2).others i (omega (arith, below, at.1))

first-found : (kept : List Block) (number place : ℕ) (top : Block) → block_at kept place ≡ Some top → top.header.number ≡ number
    → AreOthersBefore kept number place → place_of_number kept number ≡ Some place
first-found [] number place top there is others = absurd (cc)
first-found (block ∷ later) number zero top there is others =
    let same : block ≡ top = grind arith in
    let number_is : block.header.number ≡ number = ap (λ (b : Block). b.header.number) same ∙ is in
    let test : eqb block.header.number number ≡ true = grind (arith, nat_tests) in
    ap (λ (b : Bool). cond b (Some zero) (option_map suc (place_of_number later number))) test
first-found (block ∷ later) number (suc place) top there is others =
    ap (λ (b : Bool). cond b (Some zero) (option_map suc (place_of_number later number))) (others 0 (omega arith))
    ∙ ap (option_map suc) (first-found later number place top there is (λ i below. others (suc i) (omega (arith, below))))

first-some : (kept : List Block) (number i : ℕ) (block : Block) → block_at kept i ≡ Some block → block.header.number ≡ number
    → (place : ℕ) × (place_of_number kept number ≡ Some place)
first-some [] number i block there is = absurd (cc)
first-some (first ∷ later) number zero block there is =
    let same : first ≡ block = grind arith in
    let number_is : first.header.number ≡ number = ap (λ (b : Block). b.header.number) same ∙ is in
    (0, first-found (first ∷ later) number 0 first refl number_is (λ i below. absurd (omega (arith, below))))
first-some (first ∷ later) number (suc i) block there is =
    by_test (eqb first.header.number number) (first-some later number i block there is)
  where
    by_test : (b : Bool) → (place : ℕ) × (place_of_number later number ≡ Some place)
        → (place : ℕ) × (cond b (Some 0) (option_map suc (place_of_number later number)) ≡ Some place)
    by_test true rest = (0, refl)
    by_test false rest = (suc rest.0, ap (option_map suc) rest.1)

-- A place is the tip's exactly where its number is the greatest and each before it is below.
pub tips-are-tips : TipsAreTips
tips-are-tips kept place = (is_tip, finds)
  where
    is_tip : tip_place kept ≡ Some place → IsTip kept place
    is_tip found =
        let first = first-there kept (greatest_number kept) place found in
        record {
          top = first.top;
          there = first.there;
          greatest = λ other. raise (block_at kept other) (greatest_number kept) first.top.header.number (omega (arith, first.is)) (greatest-bounds kept other);
          earliest = λ other below. strict (block_at kept other) first.top.header.number first.is (greatest-bounds kept other) (first.others other below);
        }
      where
        strict : (found : Option Block) (n : ℕ) → n ≡ greatest_number kept → IfSome found (λ block. block.header.number ≤ greatest_number kept)
            → IfSome found (λ block. eqb block.header.number (greatest_number kept) ≡ false) → IfSome found (λ block. block.header.number < n)
        strict None n is most other = tt
        strict (Some block) n is most other = grind (arith, nat_tests)

    finds : IsTip kept place → tip_place kept ≡ Some place
    finds is =
        let most : greatest_number kept ≤ is.top.header.number = greatest-least kept is.top.header.number is.greatest in
        let least : IfSome (Some is.top) (λ block. block.header.number ≤ greatest_number kept) =
        subst (λ (found : Option Block). IfSome found (λ block. block.header.number ≤ greatest_number kept)) is.there (greatest-bounds kept place) in
        let number : is.top.header.number ≡ greatest_number kept = omega (arith, most, least) in
        first-found kept (greatest_number kept) place is.top is.there number (λ i below. other (block_at kept i) is.top.header.number number (is.earliest i below))
      where
        other : (found : Option Block) (n : ℕ) → n ≡ greatest_number kept → IfSome found (λ block. block.header.number < n)
            → IfSome found (λ block. eqb block.header.number (greatest_number kept) ≡ false)
        other None n is below = tt
        other (Some block) n is below = grind (arith, nat_tests)

-- Kept blocks have a tip.
pub tip_place-there : (kept : List Block) → 0 < length kept → (place : ℕ) × (tip_place kept ≡ Some place)
tip_place-there [] some = absurd (omega arith)
tip_place-there (block ∷ later) some =
    let top = greatest-there block later in
    first-some (block ∷ later) (greatest_number (block ∷ later)) top.0 top.1 top.2 top.3

-- Its place is below the length.
pub tip_place-below : (kept : List Block) (place : ℕ) → tip_place kept ≡ Some place → place < length kept
tip_place-below kept place found =
    let is = (tips-are-tips kept place).0 found in
    slice_get_within kept place is.top is.there

-- what holds of each block, with one more at the end
each-pushed : (kept : List Block) (block : Block) (P : Block → Type 0) → ((i : ℕ) → IfSome (block_at kept i) P) → P block
    → (i : ℕ) → IfSome (block_at (kept ++ block ∷ []) i) P
each-pushed [] block P each last zero = last
each-pushed [] block P each last (suc i) = tt
each-pushed (first ∷ later) block P each last zero = each 0
each-pushed (first ∷ later) block P each last (suc i) = each-pushed later block P (λ j. each (suc j)) last i

-- One more block: the tip moves there exactly where its number is greater than the tip's.
pub tip_place-push : (kept : List Block) (block : Block) (place : ℕ) (top : Block) → tip_place kept ≡ Some place → block_at kept place ≡ Some top
    → tip_place (kept ++ block ∷ []) ≡ Some (if nat_lt top.header.number block.header.number then length kept else place)
tip_place-push kept block place top found there = by_test (ltb top.header.number block.header.number) refl
  where
    is : IsTip kept place
    is = (tips-are-tips kept place).0 found

    number : is.top.header.number ≡ top.header.number
    number = let first : block_at kept place ≡ Some is.top = is.there in let same : is.top ≡ top = grind arith in ap (λ (b : Block). b.header.number) same

    under : (found : Option Block) → is.top.header.number < block.header.number → IfSome found (λ b. b.header.number ≤ is.top.header.number)
        → IfSome found (λ b. b.header.number < block.header.number)
    under None above most = tt
    under (Some other) above most = omega (arith, above, most)

    by_test : (b : Bool) → ltb top.header.number block.header.number ≡ b
        → tip_place (kept ++ block ∷ []) ≡ Some (cond b (length kept) place)
    by_test true test =
        let above : top.header.number < block.header.number = grind (arith, nat_tests) in
        (tips-are-tips (kept ++ block ∷ []) (length kept)).1 (record {
          top = block;
          there = slice_get-push kept block;
          greatest = each-pushed kept block (λ b. b.header.number ≤ block.header.number)
              (λ i. raise (block_at kept i) is.top.header.number block.header.number (omega (arith, above, number)) (is.greatest i)) (omega arith);
          earliest = λ i below. subst (λ (found : Option Block). IfSome found (λ b. b.header.number < block.header.number))
              (sym (slice_get-before kept (block ∷ []) i below)) (under (block_at kept i) (omega (arith, above, number)) (is.greatest i));
        })
    by_test false test =
        let below : block.header.number ≤ top.header.number = grind (arith, nat_tests) in
        let within : place < length kept = slice_get_within kept place top there in
        (tips-are-tips (kept ++ block ∷ []) place).1 (record {
          top = is.top;
          there = slice_get-before kept (block ∷ []) place within ∙ is.there;
          greatest = each-pushed kept block (λ b. b.header.number ≤ is.top.header.number) is.greatest (omega (arith, below, number));
          earliest = λ i before. subst (λ (found : Option Block). IfSome found (λ b. b.header.number < is.top.header.number))
              (sym (slice_get-before kept (block ∷ []) i (omega (arith, before, within)))) (is.earliest i before);
        })
