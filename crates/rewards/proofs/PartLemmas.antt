-- The proposer's part of a reward, one height after another.
use Rattle.std.proofs.Common.{◌≡◌, ℕ, zero, suc, ◌+◌, ◌-◌, ◌≤◌, pos, Bool, false, cond, List, [], ◌∷◌, Option, Some, refl, sym, ap, ◌∙◌, arith}
use Rattle.std.specs.Option.{option_map}
use Rattle.std.specs.List.{Contains, filter, sum_by, range_with_len}
use Rattle.std.proofs.lemmas.List.Sums.{sum_by-cons}
use Rattle.chain_defs.specs.Schema.{Block}
use Rattle.chain_defs.specs.Specification.{Specification}
use Rattle.chain_defs.specs.Dao.{as_u64}
use Rattle.chain_defs.specs.Kept.{block_at}
use Rattle.rule_defs.specs.Window.{proposed_ids, proposes_at, earliest}
use Rattle.rule_defs.proofs.WindowLaws.{earliest-is-earliest}
use Rattle.rule_defs.specs.Fees.{Paid, paid_at, proposer_share}
use Rattle.rule_defs.specs.Reward.{is_first_proposed_at, proposer_part, commit_heights}
use Rattle.rewards.specs.Starts.{is_started, AreStarts, AsksForCommits}
use Rattle.rewards.proofs.SumLemmas.{Adds}
use Rattle.rewards.proofs.StartLemmas.{proposes-among, not-at}

-- ---- One height

filter-same : (f g : Paid → Bool) (paids : List Paid) → ((paid : Paid) → Contains paids paid → f paid ≡ g paid) → filter f paids ≡ filter g paids
filter-same f g [] same = refl
filter-same f g (first ∷ later) same =
    ap (λ (b : Bool). cond b (first ∷ filter f later) (filter f later)) (same first (0, omega arith, refl))
    ∙ ap (λ (l : List Paid). cond (g first) (first ∷ l) l) (filter-same f g later (λ paid there. same paid (suc there.0, (let lt = there.1 in omega (arith, lt)), there.2)))

-- what a height gives follows from the starts
proposed-part : (spec : Specification) (branch : List Block) (asked : List ℕ → Bool) (proposer height : ℕ) (start_of : List ℕ → Option ℕ)
    → AsksForCommits spec branch proposer asked → AreStarts spec branch proposer asked start_of
    → proposer + spec.w_close ≤ height → height ≤ proposer + spec.w_far
    → sum_by (λ (paid : Paid). proposer_share paid.fee) (filter (λ (paid : Paid). is_started (start_of paid.id) height) (paid_at spec branch height))
    ≡ proposer_part spec branch proposer height
unfolding proposer_part
proposed-part spec branch asked proposer height start_of asks starts close far =
    ap (sum_by (λ (paid : Paid). proposer_share paid.fee))
    (filter-same (λ (paid : Paid). is_started (start_of paid.id) height) (is_first_proposed_at spec branch proposer height) (paid_at spec branch height)
    (λ paid there. starts paid.id height (asks height paid close far there) close far))

sum-more : (f : ℕ → ℕ) (low count : ℕ) → sum_by f (range_with_len low (suc count)) ≡ sum_by f (range_with_len low count) + f (low + count)
sum-more f low zero = let here : low ≡ low + 0 = omega arith in sum_by-cons f low [] ∙ ap (λ n. f n + 0) here ∙ omega arith
sum-more f low (suc count) =
    let there : (low + 1) + count ≡ low + suc count = omega arith in
    sum_by-cons f low (range_with_len (low + 1) (suc count)) ∙ ap (λ n. f low + n) (sum-more f (low + 1) count)
    ∙ (λ i. f low + (sum_by f (range_with_len (low + 1) count) + f (there i)))
    ∙ omega arith
    ∙ ap (λ n. n + f (low + suc count)) (sym (sum_by-cons f low (range_with_len (low + 1) count)))

-- one height more
pub part-more : (spec : Specification) (branch : List Block) (asked : List ℕ → Bool) (proposer low height : ℕ) (start_of : List ℕ → Option ℕ) (sum more next : Option ℕ)
    → AsksForCommits spec branch proposer asked → AreStarts spec branch proposer asked start_of → low ≡ proposer + spec.w_close → low ≤ height → height ≤ proposer + spec.w_far
    → sum ≡ as_u64 (pos (sum_by (proposer_part spec branch proposer) (range_with_len low (height - low))))
    → more ≡ as_u64 (pos (sum_by (λ (paid : Paid). proposer_share paid.fee)
    (filter (λ (paid : Paid). is_started (start_of paid.id) height) (paid_at spec branch height))))
    → Adds sum more next → next ≡ as_u64 (pos (sum_by (proposer_part spec branch proposer) (range_with_len low (height + 1 - low))))
part-more spec branch asked proposer low height start_of sum more next asks starts first from far so_far gives adds =
    let here : low + (height - low) ≡ height = omega (arith, from) in
    let count : suc (height - low) ≡ height + 1 - low = omega (arith, from) in
    adds _ _ so_far gives
    ∙ ap (λ n. as_u64 (pos (sum_by (proposer_part spec branch proposer) (range_with_len low (height - low)) + n)))
    (proposed-part spec branch asked proposer height start_of asks starts (omega (arith, first, from)) far)
    ∙ ap (λ n. as_u64 (pos (sum_by (proposer_part spec branch proposer) (range_with_len low (height - low)) + proposer_part spec branch proposer n))) (sym here)
    ∙ ap (λ n. as_u64 (pos n)) (sym (sum-more (proposer_part spec branch proposer) low (height - low)))
    ∙ ap (λ n. as_u64 (pos (sum_by (proposer_part spec branch proposer) (range_with_len low n)))) count

-- ---- Where nothing is proposed

none-pass : (test : Paid → Bool) (paids : List Paid) → ((paid : Paid) → false ≡ test paid) → filter test paids ≡ []
none-pass test [] fails = refl
none-pass test (paid ∷ paids) fails = ap (λ (b : Bool). cond b (paid ∷ filter test paids) (filter test paids)) (sym (fails paid)) ∙ none-pass test paids fails

sum-zero : (f : ℕ → ℕ) (ns : List ℕ) → ((n : ℕ) → f n ≡ 0) → sum_by f ns ≡ 0
sum-zero f [] zero_at = refl
sum-zero f (n ∷ ns) zero_at = sum_by-cons f n ns ∙ (λ i. zero_at n i + sum-zero f ns zero_at i)

pub none-proposed : (spec : Specification) (branch : List Block) (height : ℕ) → option_map proposed_ids (block_at branch height) ≡ Some []
    → 0 ≡ sum_by (proposer_part spec branch height) (commit_heights spec height)
unfolding proposer_part
none-proposed spec branch height none = sym (sum-zero (proposer_part spec branch height) (commit_heights spec height) nothing)
  where
    never : (commit : ℕ) (paid : Paid) → false ≡ is_first_proposed_at spec branch height commit paid
    never commit paid = not-at height (earliest spec branch paid.id commit)
        (λ found. let proposed = ((earliest-is-earliest spec branch paid.id commit height).0 found).proposed in
        let fails : false ≡ proposes_at branch paid.id height = proposes-among branch paid.id height [] none in absurd (cc))

    nothing : (commit : ℕ) → sum_by (λ (paid : Paid). proposer_share paid.fee) (filter (is_first_proposed_at spec branch height commit) (paid_at spec branch commit)) ≡ 0
    nothing commit =
        ap (sum_by (λ (paid : Paid). proposer_share paid.fee)) (none-pass (is_first_proposed_at spec branch height commit) (paid_at spec branch commit) (never commit))

-- ---- All heights
pub part-whole : (spec : Specification) (branch : List Block) (proposer low height : ℕ) → low ≡ proposer + spec.w_close
    → height - low ≡ spec.w_far + 1 - spec.w_close
    → sum_by (proposer_part spec branch proposer) (range_with_len low (height - low)) ≡ sum_by (proposer_part spec branch proposer) (commit_heights spec proposer)
part-whole spec branch proposer low height first count =
    (λ i. sum_by (proposer_part spec branch proposer) (range_with_len (first i) (count i)))
