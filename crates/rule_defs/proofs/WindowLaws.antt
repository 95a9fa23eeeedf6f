-- The first of some heights that passes a test, and the law of the proposal window.
use Rattle.std.proofs.Common.{◌≡◌, ℕ, zero, suc, ◌+◌, ◌-◌, ◌<◌, ◌≤◌, Bool, true, false, cond, List, [], Some, None, refl, sym, ap, ◌∙◌, inl, inr, ◌⊎◌, arith}
use Rattle.std.specs.Prelude.{◌∷◌, ◌++◌, ◌||◌, length, nat_lt, is_some, slice_get, if◌then◌else◌}
use Rattle.std.specs.List.{find, range_with_len, list_any, flat_map}
use Rattle.std.specs.Str.{bytes_eq}
use Rattle.std.proofs.lemmas.List.{append-nil, append_assoc}
use Rattle.std.proofs.lemmas.Bool.{cases_lt, cases_eq}
use Rattle.std.proofs.lemmas.Bool.Decides.{nat_tests}
use Rattle.std.proofs.lemmas.Option.{same_Some}
use Rattle.chain_defs.specs.Schema.{UncleBlock, Block}
use Rattle.chain_defs.specs.Specification.{Specification}
use Rattle.chain_defs.proofs.KeptLaws.{slice_get-before}
use Rattle.rule_defs.specs.Window.{proposes_at, window, earliest, proposed_ids, proposes, with_uncle, IsEarliest, EarliestIsEarliest, UnclesOnlyAdd, EarliestStays}

-- ---- The first of a range

-- the first of some numbers from low on that passes a test
pub record IsFirst (test : ℕ → Bool) (low count found : ℕ) : Type 0 where
  pub from : low ≤ found
  pub below : found < low + count
  pub passes : test found ≡ true
  pub first : (n : ℕ) → low ≤ n → n < found → test n ≡ false

pub find-first : (test : ℕ → Bool) (low count found : ℕ) → find test (range_with_len low count) ≡ Some found → IsFirst test low count found
find-first test low zero found is = absurd (cc)
find-first test low (suc count) found is = by_test (test low) refl (find-first test (low + 1) count found) is
  where
    by_test : (b : Bool) → test low ≡ b → (find test (range_with_len (low + 1) count) ≡ Some found → IsFirst test (low + 1) count found)
        → cond b (Some low) (find test (range_with_len (low + 1) count)) ≡ Some found → IsFirst test low (suc count) found
    by_test true passes onward here =
        let same : low ≡ found = same_Some low found here in
        record {
          from = omega (arith, same);
          below = omega (arith, same);
          passes = ap test (sym same) ∙ passes;
          first = λ n from below. absurd (omega (arith, same, from, below));
        }
    by_test false fails onward later =
        let rest : IsFirst test (low + 1) count found = onward later in
        let from = rest.from in
        let below = rest.below in
        record {
          from = omega (arith, from);
          below = omega (arith, below);
          passes = rest.passes;
          first = λ n at_least before. by_place n (cases_eq n low) at_least before rest;
        }
      where
        by_place : (n : ℕ) → (n ≡ low) ⊎ (n ≡ low → ⊥) → low ≤ n → n < found → IsFirst test (low + 1) count found → test n ≡ false
        by_place n (inl same) at_least before rest = ap test same ∙ fails
        by_place n (inr differ) at_least before rest = rest.first n (omega (arith, at_least, differ)) before

pub first-found : (test : ℕ → Bool) (low count found : ℕ) → IsFirst test low count found → find test (range_with_len low count) ≡ Some found
first-found test low zero found is = let from = is.from in let below = is.below in absurd (omega (arith, from, below))
first-found test low (suc count) found is = by_place (cases_eq found low) (first-found test (low + 1) count found)
  where
    by_place : (found ≡ low) ⊎ (found ≡ low → ⊥) → (IsFirst test (low + 1) count found → find test (range_with_len (low + 1) count) ≡ Some found)
        → cond (test low) (Some low) (find test (range_with_len (low + 1) count)) ≡ Some found
    by_place (inl same) onward =
        ap (λ b. cond b (Some low) (find test (range_with_len (low + 1) count))) (ap test (sym same) ∙ is.passes) ∙ ap Some (sym same)
    by_place (inr differ) onward =
        let from = is.from in
        let below = is.below in
        ap (λ b. cond b (Some low) (find test (range_with_len (low + 1) count))) (is.first low (omega arith) (omega (arith, from, differ)))
        ∙ onward (record {
          from = omega (arith, from, differ);
          below = omega (arith, below);
          passes = is.passes;
          first = λ n at_least before. is.first n (omega (arith, at_least)) before;
        })

pub none-found : (test : ℕ → Bool) (low count : ℕ) → ((n : ℕ) → low ≤ n → n < low + count → test n ≡ false) → find test (range_with_len low count) ≡ None
none-found test low zero fails = refl
none-found test low (suc count) fails =
    ap (λ b. cond b (Some low) (find test (range_with_len (low + 1) count))) (fails low (omega arith) (omega arith))
    ∙ none-found test (low + 1) count (λ n at_least below. fails n (omega (arith, at_least)) (omega (arith, below)))

-- ---- The window

-- the window goes from its lowest height up to where its end is no lower
pub window-range : (spec : Specification) (height low end : ℕ) → low ≡ height - spec.w_far → end ≡ height + 1 - spec.w_close
    → window spec height ≡ range_with_len low (end - low)
unfolding window
window-range spec height low end from to = by_close (cases_lt height spec.w_close)
  where
    by_close : (height < spec.w_close) ⊎ (spec.w_close ≤ height)
        → (if nat_lt height spec.w_close then [] else range_with_len (height - spec.w_far) (height - spec.w_close + 1 - (height - spec.w_far)))
        ≡ range_with_len low (end - low)
    by_close (inl less) =
        let test : nat_lt height spec.w_close ≡ true = grind (arith, nat_tests, less) in
        let none : 0 ≡ end - low = omega (arith, less, to) in
        rw test (ap (range_with_len low) none)
    by_close (inr at_least) =
        let test : nat_lt height spec.w_close ≡ false = grind (arith, nat_tests, at_least) in
        let count : height - spec.w_close + 1 - (height - spec.w_far) ≡ end - low = omega (arith, at_least, from, to) in
        rw test (ap (λ n. range_with_len n (height - spec.w_close + 1 - (height - spec.w_far))) (sym from) ∙ ap (range_with_len low) count)

pub earliest-range : (spec : Specification) (branch : List Block) (id : List ℕ) (height low end : ℕ) → low ≡ height - spec.w_far
    → end ≡ height + 1 - spec.w_close → earliest spec branch id height ≡ find (proposes_at branch id) (range_with_len low (end - low))
unfolding earliest
earliest-range spec branch id height low end from to = ap (find (proposes_at branch id)) (window-range spec height low end from to)

-- ---- The law

pub earliest-is-earliest : EarliestIsEarliest
earliest-is-earliest spec branch id height proposer = (is, found)
  where
    low : ℕ
    low = height - spec.w_far

    count : ℕ
    count = height + 1 - spec.w_close - low

    range : earliest spec branch id height ≡ find (proposes_at branch id) (range_with_len low count)
    range = earliest-range spec branch id height low (height + 1 - spec.w_close) refl refl

    is : earliest spec branch id height ≡ Some proposer → IsEarliest spec branch id height proposer
    is answer =
        let first : IsFirst (proposes_at branch id) low count proposer = find-first (proposes_at branch id) low count proposer (sym range ∙ answer) in
        let from = first.from in
        let below = first.below in
        record {
          close = omega (arith, from, below);
          far = omega (arith, from);
          proposed = first.passes;
          lowest = λ other before far. first.first other (omega (arith, far)) before;
        }

    found : IsEarliest spec branch id height proposer → earliest spec branch id height ≡ Some proposer
    found earliest_is =
        let close = earliest_is.close in
        let far = earliest_is.far in
        range ∙ first-found (proposes_at branch id) low count proposer (record {
          from = omega (arith, far);
          below = omega (arith, close, far);
          passes = earliest_is.proposed;
          first = λ n at_least before. earliest_is.lowest n before (omega (arith, at_least));
        })

-- ---- An uncle more

-- where a test passes at least where another does, it is found at least where that is
find-more : (one other : ℕ → Bool) → ((n : ℕ) → one n ≡ true → other n ≡ true) → (heights : List ℕ)
    → is_some (find one heights) ≡ true → is_some (find other heights) ≡ true
find-more one other more [] is = is
find-more one other more (n ∷ later) is = by_tests (find-more one other more later) (one n) (other n) refl refl is
  where
    by_tests : (is_some (find one later) ≡ true → is_some (find other later) ≡ true) → (a b : Bool) → one n ≡ a → other n ≡ b
        → is_some (cond a (Some n) (find one later)) ≡ true → is_some (cond b (Some n) (find other later)) ≡ true
    by_tests onward a true here there is = refl
    by_tests onward true false here there is = let passes = more n here in cc
    by_tests onward false false here there is = onward is

any-front : {X : Type 0} (test : X → Bool) (xs ys : List X) → list_any test xs ≡ true → list_any test (xs ++ ys) ≡ true
any-front test [] ys is = absurd (cc)
any-front test (x ∷ xs) ys is = by_test (any-front test xs ys) (test x) is
  where
    by_test : (list_any test xs ≡ true → list_any test (xs ++ ys) ≡ true) → (b : Bool) → (b || list_any test xs) ≡ true → (b || list_any test (xs ++ ys)) ≡ true
    by_test onward true is = refl
    by_test onward false is = onward is

proposals-push : (uncles : List UncleBlock) (uncle : UncleBlock)
    → flat_map (λ u. u.proposals) (uncles ++ uncle ∷ []) ≡ flat_map (λ u. u.proposals) uncles ++ uncle.proposals
proposals-push [] uncle = append-nil uncle.proposals
proposals-push (first ∷ later) uncle =
    ap (λ (ids : List (List ℕ)). first.proposals ++ ids) (proposals-push later uncle)
    ∙ sym (append_assoc first.proposals (flat_map (λ u. u.proposals) later) uncle.proposals)

ids-more : (b : Block) (uncle : UncleBlock) → proposed_ids (with_uncle b uncle) ≡ proposed_ids b ++ uncle.proposals
ids-more b uncle =
    ap (λ (ids : List (List ℕ)). b.proposals ++ ids) (proposals-push b.uncles uncle)
    ∙ sym (append_assoc b.proposals (flat_map (λ u. u.proposals) b.uncles) uncle.proposals)

proposes-more : (before later : List Block) (b : Block) (uncle : UncleBlock) (id : List ℕ) (height : ℕ)
    → proposes id (slice_get (before ++ b ∷ later) height) ≡ true → proposes id (slice_get (before ++ with_uncle b uncle ∷ later) height) ≡ true
proposes-more [] later b uncle id zero is =
    ap (list_any (λ other. bytes_eq other id)) (ids-more b uncle) ∙ any-front (λ other. bytes_eq other id) (proposed_ids b) uncle.proposals is
proposes-more [] later b uncle id (suc height) is = is
proposes-more (first ∷ before) later b uncle id zero is = is
proposes-more (first ∷ before) later b uncle id (suc height) is = proposes-more before later b uncle id height is

at-more : (before later : List Block) (b : Block) (uncle : UncleBlock) (id : List ℕ) (height : ℕ)
    → proposes_at (before ++ b ∷ later) id height ≡ true → proposes_at (before ++ with_uncle b uncle ∷ later) id height ≡ true
unfolding proposes_at
at-more before later b uncle id height is = proposes-more before later b uncle id height is

pub uncles-only-add : UnclesOnlyAdd
unfolding earliest
uncles-only-add spec before later b uncle id height is =
    find-more (proposes_at (before ++ b ∷ later) id) (proposes_at (before ++ with_uncle b uncle ∷ later) id) (at-more before later b uncle id) (window spec height) is

-- ---- A longer branch

-- tests that agree on a range have the same first there
pub find-agree : (one other : ℕ → Bool) (low count : ℕ) → ((n : ℕ) → low ≤ n → n < low + count → one n ≡ other n)
    → find one (range_with_len low count) ≡ find other (range_with_len low count)
find-agree one other low zero agree = refl
find-agree one other low (suc count) agree =
    (λ i. cond (agree low (omega arith) (omega arith) i) (Some low)
    (find-agree one other (low + 1) count (λ n from below. agree n (omega (arith, from)) (omega (arith, below))) i))

proposes-longer : (branch more : List Block) (id : List ℕ) (height : ℕ) → height < length branch
    → proposes_at (branch ++ more) id height ≡ proposes_at branch id height
unfolding proposes_at
proposes-longer branch more id height within = ap (proposes id) (slice_get-before branch more height within)

pub earliest-stays : EarliestStays
earliest-stays spec branch more id height close stands =
    let low : ℕ = height - spec.w_far in
    let end : ℕ = height + 1 - spec.w_close in
    earliest-range spec (branch ++ more) id height low end refl refl
    ∙ find-agree (proposes_at (branch ++ more) id) (proposes_at branch id) low (end - low)
    (λ n from below. proposes-longer branch more id n (omega (arith, below, from, close, stands)))
    ∙ sym (earliest-range spec branch id height low end refl refl)
