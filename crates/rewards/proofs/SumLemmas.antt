-- Sums of what transactions pay, one more at a time, as far as a u64 goes.
use Rattle.std.proofs.Common.{◌≡◌, ℕ, ◌+◌, ◌^◌, ◌<◌, ◌≤◌, pos, Bool, true, false, cond, List, [], ◌∷◌, ◌++◌, length, take, Option, Some, None, sym, ap, ◌∙◌, arith}
use Rattle.std.specs.Prelude.{slice_get, nat_lt, if◌then◌else◌}
use Rattle.std.specs.Option.{option_map}
use Rattle.std.specs.List.{filter, sum_by}
use Rattle.std.proofs.lemmas.Bool.{lt-ltb}
use Rattle.std.proofs.lemmas.List.{take_more, take_all, length-map, append-nil}
use Rattle.std.proofs.lemmas.List.Sums.{sum_by_push}
use Rattle.std.proofs.lemmas.List.Elements.{filter-append}
use Rattle.std.proofs.lemmas.Option.{slice_get_within, get_or_from_slice_get, slice_get-map, same_Some}
use Rattle.chain_defs.specs.Dao.{as_u64}
use Rattle.chain_defs.proofs.KeptLaws.{slice_get-below}
use Rattle.chain_defs.specs.Ext.{fee_of}
use Rattle.rule_defs.specs.Fees.{Paid, proposer_share, committer_share}
use Rattle.rewards.specs.Paid.{ArePaid}

-- ---- Amounts

-- what a u64 holds
pub small : (n : ℕ) → n < 2 ^ 64 → Some n ≡ as_u64 (pos n)
small n fits = let test : nat_lt n (2 ^ 64) ≡ true = lt-ltb n (2 ^ 64) fits in ap (λ (b : Bool). if b then Some n else None) (sym test)

-- an answer that adds amounts
abbrev pub Adds : Option ℕ → Option ℕ → Option ℕ → Type 0
Adds one other both = (m n : ℕ) → one ≡ as_u64 (pos m) → other ≡ as_u64 (pos n) → both ≡ as_u64 (pos (m + n))

-- ---- One more

take-push : {X : Type 0} (xs : List X) (i : ℕ) (x : X) → slice_get xs i ≡ Some x → take (i + 1) xs ≡ take i xs ++ x ∷ []
take-push {X = X} xs i x there =
    take_more xs i x (slice_get_within xs i x there) ∙ ap (λ (y : X). take i xs ++ y ∷ []) (get_or_from_slice_get xs i x x there)

pub sum-push : {X : Type 0} (f : X → ℕ) (xs : List X) (i : ℕ) (x : X) → slice_get xs i ≡ Some x → sum_by f (take i xs) + f x ≡ sum_by f (take (i + 1) xs)
sum-push f xs i x there = sym (ap (sum_by f) (take-push xs i x there) ∙ sum_by_push f (take i xs) x)

-- one that passes a test, and one that does not
pub sum-passes : {X : Type 0} (f : X → ℕ) (test : X → Bool) (xs : List X) (i : ℕ) (x : X) → slice_get xs i ≡ Some x → test x ≡ true
    → sum_by f (filter test (take i xs)) + f x ≡ sum_by f (filter test (take (i + 1) xs))
sum-passes {X = X} f test xs i x there passes =
    sym (ap (λ (l : List X). sum_by f (filter test l)) (take-push xs i x there)
    ∙ ap (sum_by f) (filter-append test (take i xs) (x ∷ []) ∙ ap (λ (b : Bool). filter test (take i xs) ++ cond b (x ∷ []) []) passes)
    ∙ sum_by_push f (filter test (take i xs)) x)

pub sum-fails : {X : Type 0} (f : X → ℕ) (test : X → Bool) (xs : List X) (i : ℕ) (x : X) → slice_get xs i ≡ Some x → test x ≡ false
    → sum_by f (filter test (take i xs)) ≡ sum_by f (filter test (take (i + 1) xs))
sum-fails {X = X} f test xs i x there fails =
    sym (ap (λ (l : List X). sum_by f (filter test l)) (take-push xs i x there)
    ∙ ap (sum_by f) (filter-append test (take i xs) (x ∷ []) ∙ ap (λ (b : Bool). filter test (take i xs) ++ cond b (x ∷ []) []) fails
    ∙ append-nil (filter test (take i xs))))

-- ---- What transactions pay

-- what the i-th of some ids is paid
pub record PaysAt (ext : List ℕ) (ids : List (List ℕ)) (paids : List Paid) (i : ℕ) : Type 0 where
  pub paid : Paid
  pub there : slice_get paids i ≡ Some paid
  pub fee : fee_of ext (i + 1) ≡ paid.fee
  pub id : slice_get ids i ≡ Some paid.id

pub pays-at : (ext : List ℕ) (ids : List (List ℕ)) (paids : List Paid) (i : ℕ) → ArePaid ext ids paids → i < length ids → PaysAt ext ids paids i
pays-at ext ids paids i are within =
    let long : length ids ≡ length paids = ap length are.named ∙ length-map paids (λ paid. paid.id) in
    let here = slice_get-below paids i (omega (arith, within, long)) in
    record {
      paid = here.0;
      there = here.1;
      fee = are.fees i here.0 here.1;
      id = ap (λ (l : List (List ℕ)). slice_get l i) are.named ∙ slice_get-map (λ paid. paid.id) paids i ∙ ap (option_map (λ paid. paid.id)) here.1;
    }

pub committed-more : (ext : List ℕ) (ids : List (List ℕ)) (paids : List Paid) (i fee share : ℕ) (sum next : Option ℕ) → ArePaid ext ids paids → i < length ids
    → fee ≡ fee_of ext (i + 1) → share ≡ committer_share fee → share < 2 ^ 64 → sum ≡ as_u64 (pos (sum_by (λ paid. committer_share paid.fee) (take i paids)))
    → Adds sum (Some share) next → next ≡ as_u64 (pos (sum_by (λ paid. committer_share paid.fee) (take (i + 1) paids)))
committed-more ext ids paids i fee share sum next are within is share_is fits so_far adds =
    let here : PaysAt ext ids paids i = pays-at ext ids paids i are within in
    adds (sum_by (λ (paid : Paid). committer_share paid.fee) (take i paids)) share so_far (small share fits)
    ∙ ap (λ n. as_u64 (pos (sum_by (λ (paid : Paid). committer_share paid.fee) (take i paids) + n))) (share_is ∙ ap committer_share (is ∙ here.fee))
    ∙ ap (λ n. as_u64 (pos n)) (sum-push (λ (paid : Paid). committer_share paid.fee) paids i here.paid here.there)

pub proposed-more : (ext : List ℕ) (ids : List (List ℕ)) (paids : List Paid) (test : List ℕ → Bool) (i fee share : ℕ) (id : List ℕ) (sum next : Option ℕ)
    → ArePaid ext ids paids → i < length ids → slice_get ids i ≡ Some id → test id ≡ true
    → fee ≡ fee_of ext (i + 1) → share ≡ proposer_share fee → share < 2 ^ 64
    → sum ≡ as_u64 (pos (sum_by (λ paid. proposer_share paid.fee) (filter (λ paid. test paid.id) (take i paids))))
    → Adds sum (Some share) next → next ≡ as_u64 (pos (sum_by (λ paid. proposer_share paid.fee) (filter (λ paid. test paid.id) (take (i + 1) paids))))
proposed-more ext ids paids test i fee share id sum next are within named passes is share_is fits so_far adds =
    let here : PaysAt ext ids paids i = pays-at ext ids paids i are within in
    adds (sum_by (λ (paid : Paid). proposer_share paid.fee) (filter (λ (paid : Paid). test paid.id) (take i paids))) share so_far (small share fits)
    ∙ ap (λ n. as_u64 (pos (sum_by (λ (paid : Paid). proposer_share paid.fee) (filter (λ (paid : Paid). test paid.id) (take i paids)) + n)))
    (share_is ∙ ap proposer_share (is ∙ here.fee))
    ∙ ap (λ n. as_u64 (pos n)) (sum-passes (λ (paid : Paid). proposer_share paid.fee) (λ (paid : Paid). test paid.id) paids i here.paid here.there
    (ap test (same_Some here.paid.id id (sym here.id ∙ named)) ∙ passes))

pub proposed-same : (ext : List ℕ) (ids : List (List ℕ)) (paids : List Paid) (test : List ℕ → Bool) (i : ℕ) (id : List ℕ) (sum : Option ℕ)
    → ArePaid ext ids paids → i < length ids → slice_get ids i ≡ Some id → test id ≡ false
    → sum ≡ as_u64 (pos (sum_by (λ paid. proposer_share paid.fee) (filter (λ paid. test paid.id) (take i paids))))
    → sum ≡ as_u64 (pos (sum_by (λ paid. proposer_share paid.fee) (filter (λ paid. test paid.id) (take (i + 1) paids))))
proposed-same ext ids paids test i id sum are within named fails so_far =
    let here : PaysAt ext ids paids i = pays-at ext ids paids i are within in
    so_far ∙ ap (λ n. as_u64 (pos n)) (sum-fails (λ (paid : Paid). proposer_share paid.fee) (λ (paid : Paid). test paid.id) paids i here.paid here.there
    (ap test (same_Some here.paid.id id (sym here.id ∙ named)) ∙ fails))

-- all
pub all-paid : (ext : List ℕ) (ids : List (List ℕ)) (paids : List Paid) (i : ℕ) → ArePaid ext ids paids → length ids ≤ i → take i paids ≡ paids
all-paid ext ids paids i are all =
    let long : length ids ≡ length paids = ap length are.named ∙ length-map paids (λ paid. paid.id) in
    take_all i paids (omega (arith, all, long))
