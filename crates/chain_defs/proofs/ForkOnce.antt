-- What two branches share is the branch of its last place, and there is one such place.
use Rattle.std.proofs.Common.{◌≡◌, ℕ, zero, suc, ◌+◌, ◌-◌, ◌<◌, List, [], ◌∷◌, ◌++◌, length, take, Option, Some, None, refl, sym, ap, ◌∙◌, subst, inl, inr, ◌⊎◌, append_assoc, arith}
use Rattle.std.specs.Prelude.{slice_get}
use Rattle.std.specs.Option.{option_and_then}
use Rattle.std.proofs.lemmas.List.{append-nil, length_push, take_at, length-append}
use Rattle.std.proofs.lemmas.Bool.{cases_order}
use Rattle.std.proofs.lemmas.Option.{slice_get_within, same_Some}
use Rattle.chain_defs.specs.Schema.{Block}
use Rattle.chain_defs.specs.Kept.{place_of, parent_place, StandsOn, IsKept}
use Rattle.chain_defs.specs.Branch.{branch_places, IsFork}
use Rattle.chain_defs.proofs.KeptLaws.{slice_get-below, slice_get-before, slice_get-push}
use Rattle.chain_defs.proofs.BranchLaws.{places_on, places_within-enough, parent_place-below}
use Rattle.chain_defs.proofs.ForkLaws.{distance-is-off-the-fork}
use Rattle.chain_defs.specs.ForkLaws.{IsForkAt, AnyTwoForkOnce}

-- ---- Lists by their last

-- a list that is not empty, as the places before the last and the last
record HasLast (xs : List ℕ) : Type 0 where
  before : List ℕ
  last : ℕ
  is : xs ≡ before ++ last ∷ []

has-last : (x : ℕ) (xs : List ℕ) → HasLast (x ∷ xs)
has-last x [] = record { before = []; last = x; is = refl }
has-last x (y ∷ ys) =
    let rest = has-last y ys in
    record { before = x ∷ rest.before; last = rest.last; is = ap (λ (l : List ℕ). x ∷ l) rest.is }

same-before : (xs ys : List ℕ) (x y : ℕ) → xs ++ x ∷ [] ≡ ys ++ y ∷ [] → xs ≡ ys
same-before xs ys x y same =
    let one = length_push xs x in
    let other = length_push ys y in
    let long : length (xs ++ x ∷ []) ≡ length (ys ++ y ∷ []) = ap length same in
    sym (take_at xs (x ∷ []) (length ys) (omega (arith, one, other, long))) ∙ ap (take (length ys)) same ∙ take_at ys (y ∷ []) (length ys) refl

same-last : (xs ys : List ℕ) (x y : ℕ) → xs ++ x ∷ [] ≡ ys ++ y ∷ [] → x ≡ y
same-last xs ys x y same =
    same_Some x y (sym (slice_get-push xs x) ∙ ap (λ (l : List ℕ). slice_get l (length xs)) same
    ∙ ap (λ (l : List ℕ). slice_get (ys ++ y ∷ []) (length l)) (same-before xs ys x y same) ∙ slice_get-push ys y)

slice_get-after : (xs ys : List ℕ) (i : ℕ) → slice_get (xs ++ ys) (length xs + i) ≡ slice_get ys i
slice_get-after [] ys i = ap (slice_get ys) (let at : 0 + i ≡ i = omega arith in at)
slice_get-after (x ∷ xs) ys i =
    let at : length (x ∷ xs) + i ≡ suc (length xs + i) = omega arith in
    ap (slice_get ((x ∷ xs) ++ ys)) at ∙ slice_get-after xs ys i

-- ---- Branches by their last

places-step : (kept : List Block) (place parent : ℕ) → parent_place kept place ≡ Some parent
    → branch_places kept place ≡ branch_places kept parent ++ place ∷ []
unfolding branch_places
places-step kept place parent is =
    let below : parent < place = parent_place-below kept place parent is in
    ap (places_on place kept place) is
    ∙ ap (λ (places : List ℕ). places ++ place ∷ []) (places_within-enough place (suc parent) kept parent below (omega arith))

places-first : (kept : List Block) (place : ℕ) → parent_place kept place ≡ None → branch_places kept place ≡ place ∷ []
unfolding branch_places
places-first kept place is = ap (places_on place kept place) is

ends : (kept : List Block) (place : ℕ) → (before : List ℕ) × (branch_places kept place ≡ before ++ place ∷ [])
ends kept place = by_parent (parent_place kept place) refl
  where
    by_parent : (found : Option ℕ) → parent_place kept place ≡ found → (before : List ℕ) × (branch_places kept place ≡ before ++ place ∷ [])
    by_parent None is = ([], places-first kept place is)
    by_parent (Some parent) is = (branch_places kept parent, places-step kept place parent is)

-- The first places of a branch, up to one of them, are the branch of that one.
first-places : (most : ℕ) (kept : List Block) (place : ℕ) (before : List ℕ) (last : ℕ) (later : List ℕ) → place < most
    → branch_places kept place ≡ (before ++ last ∷ []) ++ later → branch_places kept last ≡ before ++ last ∷ []
first-places zero kept place before last later few is = absurd (omega (arith, few))
first-places (suc most) kept place before last [] few is =
    let own = ends kept place in
    let whole : branch_places kept place ≡ before ++ last ∷ [] = is ∙ append-nil (before ++ last ∷ []) in
    let same : place ≡ last = same-last own.0 before place last (sym own.1 ∙ whole) in
    ap (branch_places kept) (sym same) ∙ whole
first-places (suc most) kept place before last (next ∷ later) few is = by_parent (parent_place kept place) refl (first-places most kept)
  where
    more : HasLast (next ∷ later)
    more = has-last next later

    whole : branch_places kept place ≡ ((before ++ last ∷ []) ++ more.before) ++ more.last ∷ []
    whole = is ∙ ap (λ (l : List ℕ). (before ++ last ∷ []) ++ l) more.is ∙ sym (append_assoc (before ++ last ∷ []) more.before (more.last ∷ []))

    by_parent : (found : Option ℕ) → parent_place kept place ≡ found
        → ((p : ℕ) (f : List ℕ) (l : ℕ) (rest : List ℕ) → p < most → branch_places kept p ≡ (f ++ l ∷ []) ++ rest → branch_places kept l ≡ f ++ l ∷ [])
        → branch_places kept last ≡ before ++ last ∷ []
    by_parent None alone rest =
        let one : length (branch_places kept place) ≡ 1 = ap length (places-first kept place alone) in
        let two : length (branch_places kept place) ≡ length (before ++ last ∷ []) + length (next ∷ later) =
        ap length is ∙ length-append (before ++ last ∷ []) (next ∷ later) in
        let some = length_push before last in
        absurd (omega (arith, one, two, some))
    by_parent (Some parent) on rest =
        let below : parent < place = parent_place-below kept place parent on in
        rest parent before last more.before (omega (arith, below, few))
        (same-before (branch_places kept parent) ((before ++ last ∷ []) ++ more.before) place more.last (sym (places-step kept place parent on) ∙ whole))

-- ---- It begins with the genesis

first-within : (most : ℕ) (kept : List Block) (place : ℕ) → IsKept kept → place < most → place < length kept
    → slice_get (branch_places kept place) 0 ≡ Some 0
first-within zero kept place is_kept few below = absurd (omega (arith, few))
first-within (suc most) kept zero is_kept few below =
    let here = slice_get-below kept 0 below in
    let alone : parent_place kept 0 ≡ None = ap (option_and_then (λ (b : Block). place_of [] b.header.parent_hash)) here.1 in
    ap (λ (places : List ℕ). slice_get places 0) (places-first kept 0 alone)
first-within (suc most) kept (suc place) is_kept few below =
    let here = slice_get-below kept (suc place) below in
    let stands : StandsOn (take (suc place) kept) here.0 = is_kept.stands (suc place) here.0 (omega arith) here.1 in
    let is : parent_place kept (suc place) ≡ Some stands.place =
    ap (option_and_then (λ (b : Block). place_of (take (suc place) kept) b.header.parent_hash)) here.1 ∙ stands.named in
    let earlier : stands.place < suc place = parent_place-below kept (suc place) stands.place is in
    let rest : slice_get (branch_places kept stands.place) 0 ≡ Some 0 =
    first-within most kept stands.place is_kept (omega (arith, earlier, few)) (omega (arith, earlier, below)) in
    ap (λ (places : List ℕ). slice_get places 0) (places-step kept (suc place) stands.place is)
    ∙ slice_get-before (branch_places kept stands.place) (suc place ∷ []) 0 (slice_get_within (branch_places kept stands.place) 0 0 rest)
    ∙ rest

-- ---- The fork

fork-there : (kept : List Block) (from to : ℕ) → IsKept kept → from < length kept → to < length kept → (fork : ℕ) × IsForkAt kept from to fork
fork-there kept from to is_kept below there =
    let found = distance-is-off-the-fork kept from to in
    by_common found.0 found.1 found.2 found.3.0
  where
    by_common : (common only_from only_to : List ℕ) → IsFork kept from to common only_from only_to → (fork : ℕ) × IsForkAt kept from to fork
    by_common [] only_from only_to fork =
        absurd (fork.apart 0 0 0
        (ap (λ (places : List ℕ). slice_get places 0) (sym fork.of_from) ∙ first-within (suc from) kept from is_kept (omega arith) below)
        (ap (λ (places : List ℕ). slice_get places 0) (sym fork.of_to) ∙ first-within (suc to) kept to is_kept (omega arith) there))
    by_common (x ∷ xs) only_from only_to fork =
        let end = has-last x xs in
        let own : branch_places kept end.last ≡ end.before ++ end.last ∷ [] =
        first-places (suc from) kept from end.before end.last only_from (omega arith) (fork.of_from ∙ ap (λ (l : List ℕ). l ++ only_from) end.is) in (
          end.last,
          record {
            only_from = only_from;
            only_to = only_to;
            is = subst (λ (l : List ℕ). IsFork kept from to l only_from only_to) (end.is ∙ sym own) fork;
          },
        )

-- A fork cannot be below another: the place after it would be on both branches.
not-below : (kept : List Block) (from to low high : ℕ) → IsForkAt kept from to low → IsForkAt kept from to high
    → length (branch_places kept low) < length (branch_places kept high) → ⊥
not-below kept from to low high one other less =
    one.is.apart 0 0 next.0
    (beside (branch_places kept from) one.only_from other.only_from one.is.of_from other.is.of_from)
    (beside (branch_places kept to) one.only_to other.only_to one.is.of_to other.is.of_to)
  where
    next : (place : ℕ) × (slice_get (branch_places kept high) (length (branch_places kept low)) ≡ Some place)
    next = slice_get-below (branch_places kept high) (length (branch_places kept low)) less

    beside : (places after later : List ℕ) → places ≡ branch_places kept low ++ after → places ≡ branch_places kept high ++ later
        → slice_get after 0 ≡ Some next.0
    beside places after later of_low of_high =
        let at : length (branch_places kept low) + 0 ≡ length (branch_places kept low) = omega arith in
        sym (slice_get-after (branch_places kept low) after 0) ∙ ap (λ (l : List ℕ). slice_get l (length (branch_places kept low) + 0)) (sym of_low ∙ of_high)
        ∙ ap (slice_get (branch_places kept high ++ later)) at
        ∙ slice_get-before (branch_places kept high) later (length (branch_places kept low)) less ∙ next.1

one-fork : (kept : List Block) (from to one other : ℕ) → IsForkAt kept from to one → IsForkAt kept from to other → one ≡ other
one-fork kept from to one other first second =
    by_order (cases_order (length (branch_places kept one)) (length (branch_places kept other)))
  where
    by_order : (length (branch_places kept one) ≡ length (branch_places kept other))
        ⊎ ((length (branch_places kept one) < length (branch_places kept other)) ⊎ (length (branch_places kept other) < length (branch_places kept one)))
        → one ≡ other
    by_order (inr (inl less)) = absurd (not-below kept from to one other first second less)
    by_order (inr (inr less)) = absurd (not-below kept from to other one second first less)
    by_order (inl same) =
        let places : branch_places kept one ≡ branch_places kept other =
        sym (take_at (branch_places kept one) first.only_from (length (branch_places kept other)) same)
        ∙ ap (take (length (branch_places kept other))) (sym first.is.of_from ∙ second.is.of_from)
        ∙ take_at (branch_places kept other) second.only_from (length (branch_places kept other)) refl in
        let own = ends kept one in
        let its = ends kept other in
        same-last own.0 its.0 one other (sym own.1 ∙ places ∙ its.1)

pub any-two-fork-once : AnyTwoForkOnce
any-two-fork-once kept from to is_kept below there =
    let fork = fork-there kept from to is_kept below there in
    (fork.0, fork.1, λ other it. one-fork kept from to other fork.0 it fork.1)
