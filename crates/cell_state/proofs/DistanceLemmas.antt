-- The parent of the later of two places is one step nearer to the other.
use Rattle.std.proofs.Common.{◌≡◌, ℕ, zero, suc, ◌+◌, ◌<◌, ◌==◌, Bool, true, false, cond, List, [], ◌∷◌, ◌++◌, length, Option, Some, None, refl, sym, ap, ◌∙◌, inl, inr, ◌⊎◌, arith}
use Rattle.std.specs.Prelude.{not, ◌||◌}
use Rattle.std.specs.List.{filter, list_any}
use Rattle.std.proofs.lemmas.List.{length_push}
use Rattle.std.proofs.lemmas.List.Folds.{list_any-append}
use Rattle.std.proofs.lemmas.List.Elements.{filter-append}
use Rattle.std.proofs.lemmas.Bool.{false≢true, eqb-true, eq-eqb, ne_eqb, false_from_ne_true}
use Rattle.chain_defs.specs.Schema.{Block}
use Rattle.chain_defs.specs.Kept.{parent_place}
use Rattle.chain_defs.specs.Branch.{branch_places, count_outside, distance}
use Rattle.chain_defs.proofs.BranchLaws.{places_on, places_within-enough, parent_place-below}

-- a place is among these
abbrev pub has : List ℕ → ℕ → Bool
has places place = list_any (λ other. other == place) places

-- ---- The places of a branch by those of its parent's

pub places-step : (kept : List Block) (place parent : ℕ) → parent_place kept place ≡ Some parent
    → branch_places kept place ≡ branch_places kept parent ++ place ∷ []
unfolding branch_places
places-step kept place parent is =
    let below : parent < place = parent_place-below kept place parent is in
    ap (places_on place kept place) is
    ∙ ap (λ (places : List ℕ). places ++ place ∷ []) (places_within-enough place (suc parent) kept parent below (omega arith))

pub places-first : (kept : List Block) (place : ℕ) → parent_place kept place ≡ None → branch_places kept place ≡ place ∷ []
unfolding branch_places
places-first kept place is = ap (places_on place kept place) is

has-last : (places : List ℕ) (last place : ℕ) → has (places ++ last ∷ []) place ≡ true → (has places place ≡ true) ⊎ (last ≡ place)
has-last places last place e = by_or (has places place) (sym (list_any-append (λ (other : ℕ). other == place) places (last ∷ [])) ∙ e) refl
  where
    by_one : (b : Bool) → (last == place) ≡ b → (b || false) ≡ true → last ≡ place
    by_one true is e = eqb-true last place is
    by_one false is e = absurd (cc)

    by_or : (b : Bool) → (b || ((last == place) || false)) ≡ true → has places place ≡ b → (has places place ≡ true) ⊎ (last ≡ place)
    by_or true e is = inl is
    by_or false e is = inr (by_one (last == place) refl e)

-- No place of a branch is after its own.
pub within-own : (most : ℕ) (kept : List Block) (place other : ℕ) → place < most → has (branch_places kept place) other ≡ true → other < suc place
within-own zero kept place other few e = absurd (omega (arith, few))
within-own (suc most) kept place other few e = by_parent (parent_place kept place) refl (within-own most kept)
  where
    by_parent : (found : Option ℕ) → parent_place kept place ≡ found
        → ((parent p : ℕ) → parent < most → has (branch_places kept parent) p ≡ true → p < suc parent) → other < suc place
    by_parent None is rest =
        by_side (has-last [] place other (sym (ap (λ (places : List ℕ). has places other) (places-first kept place is)) ∙ e))
      where
        by_side : (has [] other ≡ true) ⊎ (place ≡ other) → other < suc place
        by_side (inl never) = absurd (cc)
        by_side (inr own) = omega (arith, own)
    by_parent (Some parent) is rest =
        by_side (has-last (branch_places kept parent) place other (sym (ap (λ (places : List ℕ). has places other) (places-step kept place parent is)) ∙ e))
      where
        below : parent < place
        below = parent_place-below kept place parent is

        by_side : (has (branch_places kept parent) other ≡ true) ⊎ (place ≡ other) → other < suc place
        by_side (inl before) =
            let under : other < suc parent = rest parent other (omega (arith, below, few)) before in omega (arith, under, below)
        by_side (inr own) = omega (arith, own)

pub not-later : (kept : List Block) (low high : ℕ) → low < high → has (branch_places kept low) high ≡ false
not-later kept low high less =
    false_from_ne_true (has (branch_places kept low) high)
    (λ there. let under = within-own (suc low) kept low high (omega arith) there in omega (arith, under, less))

-- ---- Counting

-- one more that is not among the others
outside-more : (these those : List ℕ) (place : ℕ) → has those place ≡ false → count_outside (these ++ place ∷ []) those ≡ count_outside these those + 1
outside-more these those place off =
    let outside : ℕ → Bool = λ (p : ℕ). not (has those p) in
    let kept : filter outside (place ∷ []) ≡ place ∷ [] = ap (λ (b : Bool). cond (not b) (place ∷ []) []) off in
    ap length (filter-append outside these (place ∷ []) ∙ ap (λ (l : List ℕ). filter outside these ++ l) kept) ∙ length_push (filter outside these) place

-- one more of the others, that is not among these
outside-of-more : (these those : List ℕ) (place : ℕ) → has these place ≡ false → count_outside these (those ++ place ∷ []) ≡ count_outside these those
outside-of-more [] those place off = refl
outside-of-more (first ∷ these) those place off =
    let test : has (those ++ place ∷ []) first ≡ has those first = list_any-append (λ (other : ℕ). other == first) those (place ∷ []) ∙ beside (has those first) in
    let rest : count_outside these (those ++ place ∷ []) ≡ count_outside these those = outside-of-more these those place (off_rest (first == place) off) in
    ap (λ (b : Bool). length (cond (not b) (first ∷ filter (λ p. not (has (those ++ place ∷ []) p)) these) (filter (λ p. not (has (those ++ place ∷ []) p)) these))) test
    ∙ by_test (has those first) rest
  where
    off_rest : (b : Bool) → (b || has these place) ≡ false → has these place ≡ false
    off_rest true e = absurd (cc)
    off_rest false e = e

    off_first : (b : Bool) → (b || has these place) ≡ false → b ≡ false
    off_first true e = absurd (cc)
    off_first false e = refl

    differ : (place == first) ≡ false
    differ = ne_eqb place first (λ same. false≢true (sym (off_first (first == place) off) ∙ eq-eqb first place (sym same)))

    beside : (b : Bool) → (b || ((place == first) || false)) ≡ b
    beside true = refl
    beside false = ap (λ (c : Bool). c || false) differ

    by_test : (b : Bool) → count_outside these (those ++ place ∷ []) ≡ count_outside these those
        → length (cond (not b) (first ∷ filter (λ p. not (has (those ++ place ∷ []) p)) these) (filter (λ p. not (has (those ++ place ∷ []) p)) these))
        ≡ length (cond (not b) (first ∷ filter (λ p. not (has those p)) these) (filter (λ p. not (has those p)) these))
    by_test true same = same
    by_test false same = ap suc same

none-outside : (these those : List ℕ) → ((place : ℕ) → has these place ≡ true → has those place ≡ true) → count_outside these those ≡ 0
none-outside [] those each = refl
none-outside (first ∷ these) those each =
    ap (λ (b : Bool). length (cond (not b) (first ∷ filter (λ p. not (has those p)) these) (filter (λ p. not (has those p)) these))) (each first (here (first == first) (eq-eqb first first refl)))
    ∙ none-outside these those (λ place there. each place (later place (first == place) there))
  where
    here : (b : Bool) → b ≡ true → (b || has these first) ≡ true
    here true is = refl
    here false is = absurd (cc)

    later : (place : ℕ) (b : Bool) → has these place ≡ true → (b || has these place) ≡ true
    later place true there = refl
    later place false there = there

-- ---- Distances

pub none-away : (kept : List Block) (place : ℕ) → distance kept place place ≡ 0
none-away kept place =
    let none = none-outside (branch_places kept place) (branch_places kept place) (λ other there. there) in
    (λ t. none t + none t)

pub high-nearer : (kept : List Block) (low high parent : ℕ) → low < high → parent_place kept high ≡ Some parent
    → distance kept low high ≡ distance kept low parent + 1
high-nearer kept low high parent less is =
    let step = places-step kept high parent is in
    let off = not-later kept low high less in
    let of_low : count_outside (branch_places kept low) (branch_places kept high) ≡ count_outside (branch_places kept low) (branch_places kept parent) =
    ap (count_outside (branch_places kept low)) step ∙ outside-of-more (branch_places kept low) (branch_places kept parent) high off in
    let of_high : count_outside (branch_places kept high) (branch_places kept low) ≡ count_outside (branch_places kept parent) (branch_places kept low) + 1 =
    ap (λ (places : List ℕ). count_outside places (branch_places kept low)) step ∙ outside-more (branch_places kept parent) (branch_places kept low) high off in
    omega (arith, of_low, of_high)

pub low-nearer : (kept : List Block) (low high parent : ℕ) → high < low → parent_place kept low ≡ Some parent
    → distance kept low high ≡ distance kept parent high + 1
low-nearer kept low high parent less is =
    let turned : distance kept high low ≡ distance kept high parent + 1 = high-nearer kept high low parent less is in
    omega (arith, turned)
