-- Two branches fork once, and their distance counts what stands after the fork.
use Rattle.std.proofs.Common.{◌≡◌, ℕ, zero, suc, ◌+◌, ◌<◌, ◌==◌, Bool, true, false, cond, List, [], ◌∷◌, ◌++◌, length, Option, Some, None, refl, sym, ap, ◌∙◌, inl, inr, ◌⊎◌, arith}
use Rattle.std.specs.Prelude.{slice_get, not, ◌||◌}
use Rattle.std.specs.List.{filter, list_any}
use Rattle.std.proofs.lemmas.List.{append-nil, append_assoc}
use Rattle.std.proofs.lemmas.List.Folds.{list_any-append}
use Rattle.std.proofs.lemmas.List.Elements.{filter-append}
use Rattle.std.proofs.lemmas.Bool.{cases_order, eqb-true, eq-eqb, false_from_ne_true}
use Rattle.chain_defs.specs.Schema.{Block}
use Rattle.chain_defs.specs.Kept.{parent_place}
use Rattle.chain_defs.specs.Branch.{branch_places, count_outside, distance, IsFork, DistanceIsOffTheFork}
use Rattle.chain_defs.proofs.BranchLaws.{places_on, places_within-enough, parent_place-below}

-- a place is among these
abbrev has : List ℕ → ℕ → Bool
has places place = list_any (λ other. other == place) places

-- no place is among both
abbrev Apart : List ℕ → List ℕ → Type 0
Apart xs ys = (place : ℕ) → has xs place ≡ true → has ys place ≡ true → ⊥

-- all places are below a bound
abbrev Below : List ℕ → ℕ → Type 0
Below places bound = (place : ℕ) → has places place ≡ true → place < bound

either : (x y : Bool) → (x || y) ≡ true → (x ≡ true) ⊎ (y ≡ true)
either true y e = inl refl
either false y e = inr e

left : (x y : Bool) → x ≡ true → (x || y) ≡ true
left true y e = refl
left false y e = absurd (cc)

right : (x y : Bool) → y ≡ true → (x || y) ≡ true
right true y e = refl
right false y e = e

has-either : (xs ys : List ℕ) (place : ℕ) → has (xs ++ ys) place ≡ true → (has xs place ≡ true) ⊎ (has ys place ≡ true)
has-either xs ys place e = either (has xs place) (has ys place) (sym (list_any-append (λ (other : ℕ). other == place) xs ys) ∙ e)

has-left : (xs ys : List ℕ) (place : ℕ) → has xs place ≡ true → has (xs ++ ys) place ≡ true
has-left xs ys place e = list_any-append (λ (other : ℕ). other == place) xs ys ∙ left (has xs place) (has ys place) e

has-right : (xs ys : List ℕ) (place : ℕ) → has ys place ≡ true → has (xs ++ ys) place ≡ true
has-right xs ys place e = list_any-append (λ (other : ℕ). other == place) xs ys ∙ right (has xs place) (has ys place) e

has-one : (one place : ℕ) → has (one ∷ []) place ≡ true → one ≡ place
has-one one place e = by_or (either (one == place) false e)
  where
    by_or : ((one == place) ≡ true) ⊎ (false ≡ true) → one ≡ place
    by_or (inl same) = eqb-true one place same
    by_or (inr never) = absurd (cc)

has_at : (xs : List ℕ) (i place : ℕ) → slice_get xs i ≡ Some place → has xs place ≡ true
has_at [] i place e = absurd (cc)
has_at (x ∷ xs) zero place e = left (x == place) (has xs place) (eq-eqb x place (let same : x ≡ place = cc in same))
has_at (x ∷ xs) (suc i) place e = right (x == place) (has xs place) (has_at xs i place e)

-- filters that keep all, or nothing
keeps_all : (test : ℕ → Bool) (xs : List ℕ) → ((place : ℕ) → has xs place ≡ true → test place ≡ true) → filter test xs ≡ xs
keeps_all test [] each = refl
keeps_all test (x ∷ xs) each =
    by_test (test x) (each x (left (x == x) (has xs x) (eq-eqb x x refl)))
    (keeps_all test xs (λ place e. each place (right (x == place) (has xs place) e)))
  where
    by_test : (b : Bool) → b ≡ true → filter test xs ≡ xs → cond b (x ∷ filter test xs) (filter test xs) ≡ x ∷ xs
    by_test true is rest = ap (λ (l : List ℕ). x ∷ l) rest
    by_test false is rest = absurd (cc)

keeps_none : (test : ℕ → Bool) (xs : List ℕ) → ((place : ℕ) → has xs place ≡ true → test place ≡ false) → filter test xs ≡ []
keeps_none test [] each = refl
keeps_none test (x ∷ xs) each =
    by_test (test x) (each x (left (x == x) (has xs x) (eq-eqb x x refl)))
    (keeps_none test xs (λ place e. each place (right (x == place) (has xs place) e)))
  where
    by_test : (b : Bool) → b ≡ false → filter test xs ≡ [] → cond b (x ∷ filter test xs) (filter test xs) ≡ []
    by_test false is rest = rest
    by_test true is rest = absurd (cc)

-- After what two lists share, all is outside of the other.
outside-behind : (common these those : List ℕ) → Apart common these → Apart these those → count_outside (common ++ these) (common ++ those) ≡ length these
outside-behind common these those off apart =
    ap length (filter-append outside common these ∙ ap (λ (l : List ℕ). l ++ filter outside these) (keeps_none outside common within) ∙ keeps_all outside these alone)
  where
    outside : ℕ → Bool
    outside place = not (has (common ++ those) place)

    within : (place : ℕ) → has common place ≡ true → outside place ≡ false
    within place e = ap not (has-left common those place e)

    never : (place : ℕ) → has these place ≡ true → (has common place ≡ true) ⊎ (has those place ≡ true) → ⊥
    never place e (inl before) = off place before e
    never place e (inr other) = apart place e other

    alone : (place : ℕ) → has these place ≡ true → outside place ≡ true
    alone place e =
        ap not (false_from_ne_true (has (common ++ those) place) (λ there. never place e (has-either common those place there)))

-- Two branches with what they share and what they do not.
record Fork (kept : List Block) (from to : ℕ) : Type 0 where
  common : List ℕ
  only_from : List ℕ
  only_to : List ℕ
  of_from : branch_places kept from ≡ common ++ only_from
  of_to : branch_places kept to ≡ common ++ only_to
  off_from : Apart common only_from
  off_to : Apart common only_to
  apart : Apart only_from only_to

swapped : (kept : List Block) (from to : ℕ) → Fork kept from to → Fork kept to from
swapped kept from to fork = record {
  common = fork.common;
  only_from = fork.only_to;
  only_to = fork.only_from;
  of_from = fork.of_to;
  of_to = fork.of_from;
  off_from = fork.off_to;
  off_to = fork.off_from;
  apart = λ place there here. fork.apart place here there;
}

-- the places of a branch are those of its parent's and its own
branch_places-step : (kept : List Block) (place : ℕ) (found : Option ℕ) → parent_place kept place ≡ found
    → branch_places kept place ≡ (elim found [ None ↦ [] | Some parent ↦ branch_places kept parent ]) ++ place ∷ []
unfolding branch_places
branch_places-step kept place None is = ap (places_on place kept place) is
branch_places-step kept place (Some parent) is =
    let below : parent < place = parent_place-below kept place parent is in
    ap (places_on place kept place) is
    ∙ ap (λ (places : List ℕ). places ++ place ∷ []) (places_within-enough place (suc parent) kept parent below (omega arith))

-- No place of a branch is above its own.
branch_places-below : (most : ℕ) (kept : List Block) (place : ℕ) → place < most → Below (branch_places kept place) (suc place)
branch_places-below zero kept place few = absurd (omega arith)
branch_places-below (suc most) kept place few = by_parent (parent_place kept place) refl (branch_places-below most kept)
  where
    by_parent : (found : Option ℕ) → parent_place kept place ≡ found → ((parent : ℕ) → parent < most → Below (branch_places kept parent) (suc parent))
        → Below (branch_places kept place) (suc place)
    by_parent None is rest other e =
        let same : place ≡ other = has-one place other (sym (ap (λ (places : List ℕ). has places other) (branch_places-step kept place None is)) ∙ e) in
        omega (arith, same)
    by_parent (Some parent) is rest other e =
        by_side (has-either (branch_places kept parent) (place ∷ []) other
        (sym (ap (λ (places : List ℕ). has places other) (branch_places-step kept place (Some parent) is)) ∙ e))
      where
        below : parent < place
        below = parent_place-below kept place parent is

        by_side : (has (branch_places kept parent) other ≡ true) ⊎ (has (place ∷ []) other ≡ true) → other < suc place
        by_side (inl before) = let under : other < suc parent = rest parent (omega (arith, below, few)) other before in omega (arith, under, below)
        by_side (inr own) = let same : place ≡ other = has-one place other own in omega (arith, same)

-- A later place forks where its parent does.
fork-later : (kept : List Block) (from to : ℕ) → from < to → ((parent : ℕ) → parent < to → Fork kept from parent) → Fork kept from to
fork-later kept from to above rest = by_parent (parent_place kept to) refl
  where
    under : Below (branch_places kept from) (suc from)
    under = branch_places-below (suc from) kept from (omega arith)

    not_to : (places : List ℕ) → ((place : ℕ) → has places place ≡ true → has (branch_places kept from) place ≡ true) → Apart places (to ∷ [])
    not_to places among place e own =
        let low : place < suc from = under place (among place e) in
        let same : to ≡ place = has-one to place own in omega (arith, low, same, above)

    by_parent : (found : Option ℕ) → parent_place kept to ≡ found → Fork kept from to
    by_parent None is = record {
      common = [];
      only_from = branch_places kept from;
      only_to = to ∷ [];
      of_from = refl;
      of_to = branch_places-step kept to None is;
      off_from = λ place here there. absurd (cc);
      off_to = λ place here there. absurd (cc);
      apart = not_to (branch_places kept from) (λ place e. e);
    }
    by_parent (Some parent) is = on (rest parent (parent_place-below kept to parent is))
      where
        on : Fork kept from parent → Fork kept from to
        on fork = record {
          common = fork.common;
          only_from = fork.only_from;
          only_to = fork.only_to ++ to ∷ [];
          of_from = fork.of_from;
          of_to = branch_places-step kept to (Some parent) is ∙ ap (λ (places : List ℕ). places ++ to ∷ []) fork.of_to
              ∙ append_assoc fork.common fork.only_to (to ∷ []);
          off_from = fork.off_from;
          off_to = λ place here there. either_off place here (has-either fork.only_to (to ∷ []) place there);
          apart = λ place here there. either_apart place here (has-either fork.only_to (to ∷ []) place there);
        }
          where
            of_common : (place : ℕ) → has fork.common place ≡ true → has (branch_places kept from) place ≡ true
            of_common place e = ap (λ (places : List ℕ). has places place) fork.of_from ∙ has-left fork.common fork.only_from place e

            of_only : (place : ℕ) → has fork.only_from place ≡ true → has (branch_places kept from) place ≡ true
            of_only place e = ap (λ (places : List ℕ). has places place) fork.of_from ∙ has-right fork.common fork.only_from place e

            either_off : (place : ℕ) → has fork.common place ≡ true → (has fork.only_to place ≡ true) ⊎ (has (to ∷ []) place ≡ true) → ⊥
            either_off place here (inl before) = fork.off_to place here before
            either_off place here (inr own) = not_to fork.common of_common place here own

            either_apart : (place : ℕ) → has fork.only_from place ≡ true → (has fork.only_to place ≡ true) ⊎ (has (to ∷ []) place ≡ true) → ⊥
            either_apart place here (inl before) = fork.apart place here before
            either_apart place here (inr own) = not_to fork.only_from of_only place here own

fork-same : (kept : List Block) (from to : ℕ) → from ≡ to → Fork kept from to
fork-same kept from to same = record {
  common = branch_places kept from;
  only_from = [];
  only_to = [];
  of_from = sym (append-nil (branch_places kept from));
  of_to = ap (branch_places kept) (sym same) ∙ sym (append-nil (branch_places kept from));
  off_from = λ place here there. absurd (cc);
  off_to = λ place here there. absurd (cc);
  apart = λ place here there. absurd (cc);
}

-- Any two places fork: the later one goes down to its parent.
forks : (most : ℕ) (kept : List Block) (from to : ℕ) → from + to < most → Fork kept from to
forks zero kept from to few = absurd (omega arith)
forks (suc most) kept from to few = by_order (cases_order from to) (forks most kept)
  where
    by_order : (from ≡ to) ⊎ ((from < to) ⊎ (to < from)) → ((one other : ℕ) → one + other < most → Fork kept one other) → Fork kept from to
    by_order (inl same) rest = fork-same kept from to same
    by_order (inr (inl above)) rest = fork-later kept from to above (λ parent below. rest from parent (omega (arith, below, few)))
    by_order (inr (inr above)) rest =
        swapped kept to from (fork-later kept to from above (λ parent below. rest to parent (omega (arith, below, few))))

-- the distance of two places whose branches are these
distance-of : (kept : List Block) (from to : ℕ) (fork : Fork kept from to) → distance kept from to ≡ length fork.only_from + length fork.only_to
distance-of kept from to fork =
    ap (λ (places : List ℕ). count_outside places (branch_places kept to) + count_outside (branch_places kept to) places) fork.of_from
    ∙ ap (λ (places : List ℕ). count_outside (fork.common ++ fork.only_from) places + count_outside places (fork.common ++ fork.only_from)) fork.of_to
    ∙ ap (λ (count : ℕ). count + count_outside (fork.common ++ fork.only_to) (fork.common ++ fork.only_from))
    (outside-behind fork.common fork.only_from fork.only_to fork.off_from fork.apart)
    ∙ ap (λ (count : ℕ). length fork.only_from + count)
    (outside-behind fork.common fork.only_to fork.only_from fork.off_to (λ place there here. fork.apart place here there))

is-fork : (kept : List Block) (from to : ℕ) (fork : Fork kept from to) → IsFork kept from to fork.common fork.only_from fork.only_to
is-fork kept from to fork = record {
  of_from = fork.of_from;
  of_to = fork.of_to;
  apart = λ i j place here there. fork.apart place (has_at fork.only_from i place here) (has_at fork.only_to j place there);
}

pub distance-is-off-the-fork : DistanceIsOffTheFork
distance-is-off-the-fork kept from to =
    let fork = forks (suc (from + to)) kept from to (omega arith) in
    (fork.common, fork.only_from, fork.only_to, (is-fork kept from to fork, distance-of kept from to fork))
