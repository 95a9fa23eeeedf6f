-- Kept blocks by their places and by their hashes.
use Rattle.std.proofs.Common.{◌≡◌, ℕ, zero, suc, ◌<◌, ◌≤◌, Bool, true, false, cond, List, [], ◌∷◌, ◌++◌, length, take, Option, Some, None, refl, sym, ap, ◌∙◌, subst, inl, inr, ⊎_elim, ◌⊎◌, arith}
use Rattle.std.specs.Prelude.{option_map, slice_get}
use Rattle.std.specs.Option.{option_or}
use Rattle.std.specs.Str.{bytes_eq}
use Rattle.std.proofs.lemmas.Bool.{false≢true}
use Rattle.std.proofs.lemmas.Slice.Eq.{bytes_eq-Decides}
use Rattle.std.proofs.lemmas.List.{take-append-le, take_at}
use Rattle.std.proofs.lemmas.Option.{slice_get_within}
use Rattle.chain_defs.specs.Schema.{Block}
use Rattle.chain_defs.specs.Kept.{block_hash, block_at, place_of, StandsOn, IsKept, HashesDiffer}

-- an element by its place, in a list, in its prefix, and with more after
pub slice_get-below : {X : Type 0} (xs : List X) (i : ℕ) → i < length xs → (x : X) × (slice_get xs i ≡ Some x)
slice_get-below [] i below = absurd (omega arith)
slice_get-below (x ∷ xs) zero below = (x, refl)
slice_get-below (x ∷ xs) (suc i) below = slice_get-below xs i (omega arith)

pub slice_get-take : {X : Type 0} (n : ℕ) (xs : List X) (i : ℕ) → i < n → slice_get (take n xs) i ≡ slice_get xs i
slice_get-take zero xs i below = absurd (omega arith)
slice_get-take (suc n) [] i below = refl
slice_get-take (suc n) (x ∷ xs) zero below = refl
slice_get-take (suc n) (x ∷ xs) (suc i) below = slice_get-take n xs i (omega arith)

pub slice_get-before : {X : Type 0} (xs ys : List X) (i : ℕ) → i < length xs → slice_get (xs ++ ys) i ≡ slice_get xs i
slice_get-before [] ys i below = absurd (omega arith)
slice_get-before (x ∷ xs) ys zero below = refl
slice_get-before (x ∷ xs) ys (suc i) below = slice_get-before xs ys i (omega arith)

pub slice_get-push : {X : Type 0} (xs : List X) (x : X) → slice_get (xs ++ x ∷ []) (length xs) ≡ Some x
slice_get-push [] x = refl
slice_get-push (y ∷ ys) x = slice_get-push ys x

pub slice_get-pushed : {X : Type 0} (xs : List X) (x : X) (i : ℕ) (y : X) → slice_get (xs ++ x ∷ []) i ≡ Some y
    → ((i < length xs) × (slice_get xs i ≡ Some y)) ⊎ ((i ≡ length xs) × (x ≡ y))
slice_get-pushed [] x zero y there = inr (refl, grind arith)
slice_get-pushed [] x (suc i) y there = absurd (cc)
slice_get-pushed (first ∷ xs) x zero y there = inl (omega arith, there)
slice_get-pushed (first ∷ xs) x (suc i) y there =
    ⊎_elim (λ before. inl (omega (arith, before.0), before.1)) (λ last. inr (omega (arith, last.0), last.1)) (slice_get-pushed xs x i y there)

-- a place after one more block before it
pub suc_of : (found : Option ℕ) (place : ℕ) → option_map suc found ≡ Some place → (i : ℕ) × (suc i ≡ place) × (found ≡ Some i)
suc_of None place is = absurd (cc)
suc_of (Some i) place is = (i, grind arith, refl)

front_of : (here : Bool) (found : Option ℕ) → cond here (Some 0) (option_map suc found) ≡ None → (here ≡ false) × (found ≡ None)
front_of true found none = absurd (cc)
front_of false None none = (refl, refl)
front_of false (Some i) none = absurd (cc)

-- A place that is found has a block with this hash.
pub place_of-there : (kept : List Block) (hash : List ℕ) (place : ℕ) → place_of kept hash ≡ Some place
    → (block : Block) × (block_at kept place ≡ Some block) × (block_hash block ≡ hash)
place_of-there [] hash place found = absurd (cc)
place_of-there (block ∷ later) hash place found =
    by_test (bytes_eq (block_hash block) hash) refl found (place_of-there later hash)
  where
    by_test : (b : Bool) → bytes_eq (block_hash block) hash ≡ b → cond b (Some 0) (option_map suc (place_of later hash)) ≡ Some place
        → ((i : ℕ) → place_of later hash ≡ Some i → (other : Block) × (block_at later i ≡ Some other) × (block_hash other ≡ hash))
        → (other : Block) × (block_at (block ∷ later) place ≡ Some other) × (block_hash other ≡ hash)
    by_test true is found rest =
        let here : 0 ≡ place = grind arith in
        (block, ap (slice_get (block ∷ later)) (sym here), (bytes_eq-Decides (block_hash block) hash).0 is)
    by_test false is found rest =
        let behind = suc_of (place_of later hash) place found in
        let other = rest behind.0 behind.2 in
        (other.0, ap (slice_get (block ∷ later)) (sym behind.1) ∙ other.1, other.2)

-- It is below the length.
pub place_of-below : (kept : List Block) (hash : List ℕ) (place : ℕ) → place_of kept hash ≡ Some place → place < length kept
place_of-below kept hash place found =
    let there = place_of-there kept hash place found in
    slice_get_within kept place there.0 there.1

-- Where none is found no block has this hash.
pub place_of-none : (kept : List Block) (hash : List ℕ) (i : ℕ) (block : Block) → place_of kept hash ≡ None → block_at kept i ≡ Some block
    → block_hash block ≡ hash → ⊥
place_of-none [] hash i block none there same = absurd (cc)
place_of-none (first ∷ later) hash zero block none there same =
    let here : first ≡ block = grind arith in
    let test : bytes_eq (block_hash first) hash ≡ true = (bytes_eq-Decides (block_hash first) hash).1 (ap block_hash here ∙ same) in
    let front = front_of (bytes_eq (block_hash first) hash) (place_of later hash) none in
    false≢true (sym front.0 ∙ test)
place_of-none (first ∷ later) hash (suc i) block none there same =
    place_of-none later hash i block (front_of (bytes_eq (block_hash first) hash) (place_of later hash) none).1 there same

-- one more block at the end
pub place_of-push : (kept : List Block) (block : Block) (hash : List ℕ)
    → place_of (kept ++ block ∷ []) hash
    ≡ option_or (place_of kept hash) (cond (bytes_eq (block_hash block) hash) (Some (length kept)) None)
place_of-push [] block hash = refl
place_of-push (first ∷ later) block hash =
    by_test (bytes_eq (block_hash first) hash) (bytes_eq (block_hash block) hash) (place_of later hash) (place_of-push later block hash)
  where
    by_test : (here last : Bool) (found : Option ℕ) → place_of (later ++ block ∷ []) hash ≡ option_or found (cond last (Some (length later)) None)
        → cond here (Some 0) (option_map suc (place_of (later ++ block ∷ []) hash))
        ≡ option_or (cond here (Some 0) (option_map suc found)) (cond last (Some (suc (length later))) None)
    by_test true last found after = refl
    by_test false true None after = ap (option_map suc) after
    by_test false false None after = ap (option_map suc) after
    by_test false last (Some i) after = ap (option_map suc) after

-- The hashes of kept blocks all differ.
pub hashes-differ : HashesDiffer
hashes-differ kept i j one other is_kept below here there same =
    place_of-none (take j kept) (block_hash other) i one (is_kept.new j other there) (slice_get-take j kept i below ∙ here) same

-- A genesis alone is kept.
pub IsKept-one : (genesis : Block) → IsKept (genesis ∷ [])
IsKept-one genesis = record {
  stands = λ place block above there. absurd (behind place block above there);
  new = first;
}
  where
    behind : (place : ℕ) (block : Block) → 0 < place → block_at (genesis ∷ []) place ≡ Some block → ⊥
    behind zero block above there = omega arith
    behind (suc place) block above there = cc

    first : (place : ℕ) (block : Block) → block_at (genesis ∷ []) place ≡ Some block → place_of (take place (genesis ∷ [])) (block_hash block) ≡ None
    first zero block there = refl
    first (suc place) block there = absurd (cc)

-- One more block is kept where it stands on a kept one and its hash is new.
pub IsKept-push : (kept : List Block) (block : Block) → IsKept kept → StandsOn kept block → place_of kept (block_hash block) ≡ None
    → IsKept (kept ++ block ∷ [])
IsKept-push kept block is_kept stands new = record {
  stands = λ place other above there. stands_at place other above (slice_get-pushed kept block place other there);
  new = λ place other there. new_at place other (slice_get-pushed kept block place other there);
}
  where
    front : (place : ℕ) → place ≤ length kept → take place kept ≡ take place (kept ++ block ∷ [])
    front place within = sym (take-append-le place kept (block ∷ []) within)

    whole : (place : ℕ) → place ≡ length kept → kept ≡ take place (kept ++ block ∷ [])
    whole place is = sym (take_at kept (block ∷ []) place (sym is))

    stands_at : (place : ℕ) (other : Block) → 0 < place → ((place < length kept) × (block_at kept place ≡ Some other)) ⊎ ((place ≡ length kept) × (block ≡ other))
        → StandsOn (take place (kept ++ block ∷ [])) other
    stands_at place other above (inl before) =
        subst (λ (earlier : List Block). StandsOn earlier other) (front place (omega (arith, before.0))) (is_kept.stands place other above before.1)
    stands_at place other above (inr last) =
        subst (λ (earlier : List Block). StandsOn earlier other) (whole place last.0) (subst (StandsOn kept) last.1 stands)

    new_at : (place : ℕ) (other : Block) → ((place < length kept) × (block_at kept place ≡ Some other)) ⊎ ((place ≡ length kept) × (block ≡ other))
        → place_of (take place (kept ++ block ∷ [])) (block_hash other) ≡ None
    new_at place other (inl before) =
        ap (λ (earlier : List Block). place_of earlier (block_hash other)) (sym (front place (omega (arith, before.0)))) ∙ is_kept.new place other before.1
    new_at place other (inr last) =
        ap (λ (earlier : List Block). place_of earlier (block_hash other)) (sym (whole place last.0))
        ∙ ap (λ (b : Block). place_of kept (block_hash b)) (sym last.1) ∙ new
