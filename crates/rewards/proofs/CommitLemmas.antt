-- Ids that are committed, put together and looked for.
use Rattle.std.proofs.Common.{◌≡◌, ℕ, ◌+◌, ◌<◌, ◌≤◌, Bool, true, false, cond, ◌||◌, ◌&&◌, List, [], ◌∷◌, ◌++◌, length, map, take, get_or, Some, refl, sym, ap, subst, ◌∙◌, inl, inr, ◌⊎◌, arith}
use Rattle.std.specs.Prelude.{slice_get}
use Rattle.std.specs.Option.{option_map}
use Rattle.std.specs.List.{list_any, Contains}
use Rattle.std.specs.Str.{bytes_eq}
use Rattle.std.specs.Cmp.Lexicographic.{nat_list_eq_equiv, same_text}
use Rattle.std.proofs.lemmas.Bool.{cases_lt}
use Rattle.std.proofs.lemmas.List.{take_all, take_more, get_or-map, length-map}
use Rattle.std.proofs.lemmas.List.Folds.{list_any_more, list_any-append, list_any_at}
use Rattle.std.proofs.lemmas.Option.{slice_get_within, get_or_from_slice_get}
use Rattle.chain_defs.specs.Schema.{Block}
use Rattle.chain_defs.specs.Kept.{block_at}
use Rattle.rule_defs.specs.Fees.{Paid}
use Rattle.rule_defs.specs.Window.{proposed_ids, proposes_at}
use Rattle.rewards.specs.Paid.{ArePaid}
use Rattle.rewards.proofs.StartLemmas.{among, proposes-among}

or-none : (b : Bool) → b ≡ (b || false)
or-none true = refl
or-none false = refl

pub or-nothing : (b c : Bool) → c ≡ false → b ≡ (b || c)
or-nothing b c fails = or-none b ∙ ap (λ (d : Bool). b || d) (sym fails)

or-swap : (b c : Bool) → cond b true c ≡ (c || b)
or-swap true true = refl
or-swap true false = refl
or-swap false true = refl
or-swap false false = refl

or-moved : (a b c : Bool) → ((a || b) || c) ≡ (a || (b || c))
or-moved true b c = refl
or-moved false b c = refl

among-more : (ids : List (List ℕ)) (i : ℕ) (id other : List ℕ) → slice_get ids i ≡ Some other → (among (take i ids) id || bytes_eq other id) ≡ among (take (i + 1) ids) id
among-more ids i id other there =
    ap (λ (it : List ℕ). among (take i ids) id || bytes_eq it id) (sym (get_or_from_slice_get ids i other other there))
    ∙ sym (list_any_more (λ it. bytes_eq it id) ids i other (slice_get_within ids i other there))

-- one id more
pub one-more-id : (ids : List (List ℕ)) (i : ℕ) (id other : List ℕ) (old before : Bool) → slice_get ids i ≡ Some other
    → before ≡ (old || among (take i ids) id) → cond (bytes_eq other id) true before ≡ (old || among (take (i + 1) ids) id)
one-more-id ids i id other old before there so_far =
    or-swap (bytes_eq other id) before ∙ ap (λ (b : Bool). b || bytes_eq other id) so_far ∙ or-moved old (among (take i ids) id) (bytes_eq other id)
    ∙ ap (λ (b : Bool). old || b) (among-more ids i id other there)

pub all-ids : (ids : List (List ℕ)) (i : ℕ) (id : List ℕ) (old before : Bool) → length ids ≤ i → before ≡ (old || among (take i ids) id) → before ≡ (old || among ids id)
all-ids ids i id old before all so_far = so_far ∙ ap (λ (l : List (List ℕ)). old || among l id) (take_all i ids all)

-- what was there stays
pub or-kept : (old new more : Bool) → new ≡ (old || more) → old ≡ true → new ≡ true
or-kept old new more is was = is ∙ ap (λ (b : Bool). b || more) was

-- the id of what is paid is among them
pub paid-among : (ext : List ℕ) (ids : List (List ℕ)) (paids : List Paid) (paid : Paid) (old new : Bool) → ArePaid ext ids paids → Contains paids paid
    → new ≡ (old || among ids paid.id) → new ≡ true
paid-among ext ids paids paid old new are there is =
    is ∙ ap (λ (b : Bool). old || b) (ap (λ (l : List (List ℕ)). among l paid.id) are.named ∙ found) ∙ or-true old
  where
    or-true : (b : Bool) → (b || true) ≡ true
    or-true true = refl
    or-true false = refl

    within : there.0 < length (map (λ (p : Paid). p.id) paids)
    within = let lt = there.1 in omega (arith, lt, length-map paids (λ (p : Paid). p.id))

    found : among (map (λ (p : Paid). p.id) paids) paid.id ≡ true
    found = list_any_at (λ other. bytes_eq other paid.id) (map (λ (p : Paid). p.id) paids) there.0 [] within
        (ap (λ (id : List ℕ). bytes_eq id paid.id) (get_or-map (λ (p : Paid). p.id) paids there.0 paid [] there.1 ∙ ap (λ (p : Paid). p.id) there.2)
        ∙ nat_list_eq_equiv.refl paid.id)

-- ---- Those of some ids that pass a test

push-any : (wanted : List (List ℕ)) (key id : List ℕ) → among (wanted ++ key ∷ []) id ≡ (among wanted id || bytes_eq key id)
push-any wanted key id =
    list_any-append (λ other. bytes_eq other id) wanted (key ∷ []) ∙ ap (λ (b : Bool). among wanted id || b) (sym (or-none (bytes_eq key id)))

-- one that passes
pub wanted-more : (ids wanted after : List (List ℕ)) (asked : List ℕ → Bool) (i : ℕ) (key id : List ℕ) → slice_get ids i ≡ Some key → asked key ≡ true
    → after ≡ wanted ++ key ∷ [] → among wanted id ≡ (among (take i ids) id && asked id) → among after id ≡ (among (take (i + 1) ids) id && asked id)
wanted-more ids wanted after asked i key id there passes is so_far =
    ap (λ (l : List (List ℕ)). among l id) is ∙ push-any wanted key id
    ∙ ap (λ (b : Bool). b || bytes_eq key id) so_far
    ∙ by_test (among (take i ids) id) (bytes_eq key id) (asked id) (λ same. ap asked (sym (same_text key id (sym same))) ∙ passes)
    ∙ ap (λ (b : Bool). b && asked id) (among-more ids i id key there)
  where
    by_test : (a b c : Bool) → (b ≡ true → c ≡ true) → ((a && c) || b) ≡ ((a || b) && c)
    by_test true true true has = refl
    by_test true true false has = sym (has refl)
    by_test true false true has = refl
    by_test true false false has = refl
    by_test false true true has = refl
    by_test false true false has = sym (has refl)
    by_test false false c has = refl

-- one that does not
pub wanted-same : (ids wanted : List (List ℕ)) (asked : List ℕ → Bool) (i : ℕ) (key id : List ℕ) → slice_get ids i ≡ Some key → asked key ≡ false
    → among wanted id ≡ (among (take i ids) id && asked id) → among wanted id ≡ (among (take (i + 1) ids) id && asked id)
wanted-same ids wanted asked i key id there fails so_far =
    so_far ∙ by_test (among (take i ids) id) (bytes_eq key id) (asked id) (λ same. ap asked (sym (same_text key id (sym same))) ∙ fails)
    ∙ ap (λ (b : Bool). b && asked id) (among-more ids i id key there)
  where
    by_test : (a b c : Bool) → (b ≡ true → c ≡ false) → (a && c) ≡ ((a || b) && c)
    by_test true b c has = refl
    by_test false true c has = sym (has refl)
    by_test false false c has = refl

pub wanted-all : (ids wanted : List (List ℕ)) (asked : List ℕ → Bool) (i : ℕ) (id : List ℕ) → length ids ≤ i
    → among wanted id ≡ (among (take i ids) id && asked id) → among wanted id ≡ (among ids id && asked id)
wanted-all ids wanted asked i id all so_far = so_far ∙ ap (λ (l : List (List ℕ)). among l id && asked id) (take_all i ids all)

-- ---- One height more

pub one-height : (paids : ℕ → List Paid) (old new : List ℕ → Bool) (height commit : ℕ) (paid : Paid) → ((id : List ℕ) → old id ≡ true → new id ≡ true)
    → ((p : Paid) → Contains (paids height) p → new p.id ≡ true) → (commit < height → old paid.id ≡ true) → commit < height + 1 → Contains (paids commit) paid
    → new paid.id ≡ true
one-height paids old new height commit paid kept added before below there = by_order (cases_lt commit height)
  where
    by_order : (commit < height) ⊎ (height ≤ commit) → new paid.id ≡ true
    by_order (inl less) = kept paid.id (before less)
    by_order (inr more) = let same : commit ≡ height = omega (arith, more, below) in added paid (subst (λ (n : ℕ). Contains (paids n) paid) same there)

-- the ids of a proposer of which all are asked for that are wanted
pub wanted-ids : (branch : List Block) (asked : List ℕ → Bool) (height : ℕ) (id : List ℕ) (ids wanted : List (List ℕ))
    → among wanted id ≡ (among ids id && asked id) → option_map proposed_ids (block_at branch height) ≡ Some ids
    → among wanted id ≡ (proposes_at branch id height && asked id)
wanted-ids branch asked height id ids wanted is are = is ∙ ap (λ (b : Bool). b && asked id) (proposes-among branch id height ids are)
