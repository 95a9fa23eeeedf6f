-- What a block is given stays the same on each longer branch.
use Rattle.std.proofs.Common.{◌≡◌, ℕ, zero, suc, ◌+◌, ◌-◌, ◌<◌, ◌≤◌, Bool, true, false, List, [], ◌∷◌, ◌++◌, length, take, refl, sym, ap, ◌∙◌, arith}
use Rattle.std.specs.Prelude.{IsTrue, nat_le, nat_lt, ◌==◌, ◌&&◌, ◌||◌, cond}
use Rattle.std.specs.List.{filter, list_any, sum_by, range_with_len}
use Rattle.std.proofs.lemmas.Bool.{and_parts, leb-true}
use Rattle.std.proofs.lemmas.Bool.Decides.{nat_tests}
use Rattle.std.proofs.lemmas.List.{take-append-le}
use Rattle.std.proofs.lemmas.List.Sums.{sum_by-cons}
use Rattle.chain_defs.specs.Schema.{Block}
use Rattle.chain_defs.specs.Specification.{Specification, keeps_s3}
use Rattle.chain_defs.specs.Dao.{miner_part, field_of_bytes}
use Rattle.chain_defs.specs.Kept.{block_at}
use Rattle.chain_defs.proofs.KeptLaws.{slice_get-before}
use Rattle.rule_defs.specs.Window.{earliest}
use Rattle.rule_defs.proofs.WindowLaws.{window-range, earliest-stays}
use Rattle.rule_defs.specs.Shares.{primary_at, secondary_at}
use Rattle.rule_defs.specs.Fees.{Paid, paid_in, paid_at, proposer_share, committer_share}
use Rattle.rule_defs.specs.Reward.{field_at, dao_of, is_at, is_first_proposed_at, proposer_part, part, commit_heights}
use Rattle.rule_defs.specs.RewardLaws.{CommitsInItsWindow, PartStays}

-- the window is not empty and begins after its block
window-parts : (spec : Specification) → IsTrue (keeps_s3 spec.w_close spec.w_far) → (1 ≤ spec.w_close) × (spec.w_close ≤ spec.w_far)
window-parts spec keeps =
    let both = and_parts (nat_le 1 spec.w_close && nat_le spec.w_close spec.w_far) (nat_le spec.w_far 100) keeps in
    let first = and_parts (nat_le 1 spec.w_close) (nat_le spec.w_close spec.w_far) both.0 in
    (leb-true 1 spec.w_close first.0, leb-true spec.w_close spec.w_far first.1)

-- ---- The heights that may commit

-- a number is among those of a range exactly where it is not below the first and below the end
among-range : (low count n : ℕ) → list_any (λ height. height == n) (range_with_len low count) ≡ nat_le low n && nat_lt n (low + count)
among-range low zero n = grind (arith, nat_tests)
among-range low (suc count) n = ap (λ b. (low == n) || b) (among-range (low + 1) count n) ∙ grind (arith, nat_tests)

pub commits-in-its-window : CommitsInItsWindow
commits-in-its-window spec proposer committed keeps =
    let parts = window-parts spec keeps in
    let close : 1 ≤ spec.w_close = parts.0 in
    let order : spec.w_close ≤ spec.w_far = parts.1 in
    among-range (proposer + spec.w_close) (spec.w_far + 1 - spec.w_close) committed
    ∙ grind (arith, nat_tests, close, order)
    ∙ sym (among-range (committed - spec.w_far) (committed + 1 - spec.w_close - (committed - spec.w_far)) proposer)
    ∙ ap (list_any (λ height. height == proposer)) (sym (window-range spec committed (committed - spec.w_far) (committed + 1 - spec.w_close) refl refl))

-- ---- What is committed

pub paid-longer : (spec : Specification) (branch more : List Block) (height : ℕ) → height < length branch
    → paid_at spec (branch ++ more) height ≡ paid_at spec branch height
unfolding paid_at
paid-longer spec branch more height within =
    (λ i. paid_in spec (take-append-le height branch more (omega (arith, within)) i) (slice_get-before branch more height within i))

field-longer : (branch more : List Block) (height : ℕ) → height < length branch → field_at (branch ++ more) height ≡ field_at branch height
field-longer branch more height within = ap (λ b. field_of_bytes (dao_of b)) (slice_get-before branch more height within)

-- ---- Sums over lists

-- what passes either of two tests that agree
filter-agree : (one other : Paid → Bool) (paids : List Paid) → ((paid : Paid) → one paid ≡ other paid) → filter one paids ≡ filter other paids
filter-agree one other [] agree = refl
filter-agree one other (paid ∷ paids) agree =
    (λ i. cond (agree paid i) (paid ∷ filter-agree one other paids agree i) (filter-agree one other paids agree i))

-- sums over a range on which two functions agree
pub sum-agree : (one other : ℕ → ℕ) (low count : ℕ) → ((n : ℕ) → low ≤ n → n < low + count → one n ≡ other n)
    → sum_by one (range_with_len low count) ≡ sum_by other (range_with_len low count)
sum-agree one other low zero agree = refl
sum-agree one other low (suc count) agree =
    sum_by-cons one low (range_with_len (low + 1) count)
    ∙ (λ i. agree low (omega arith) (omega arith) i
    + sum-agree one other (low + 1) count (λ n from below. agree n (omega (arith, from)) (omega (arith, below))) i)
    ∙ sym (sum_by-cons other low (range_with_len (low + 1) count))

-- ---- The parts

proposer-longer : (spec : Specification) (branch more : List Block) (proposer committed : ℕ) → 1 ≤ spec.w_close → committed < length branch
    → proposer_part spec (branch ++ more) proposer committed ≡ proposer_part spec branch proposer committed
unfolding proposer_part
proposer-longer spec branch more proposer committed close within =
    ap (λ (paids : List Paid). sum_by (λ paid. proposer_share paid.fee) (filter (is_first_proposed_at spec (branch ++ more) proposer committed) paids))
    (paid-longer spec branch more committed within)
    ∙ ap (sum_by (λ paid. proposer_share paid.fee))
    (filter-agree _ _ (paid_at spec branch committed)
    (λ paid. ap (is_at proposer) (earliest-stays spec branch more paid.id committed close (omega (arith, within)))))

pub part-stays : PartStays
unfolding part
part-stays spec branch more height keeps stands =
    let window = window-parts spec keeps in
    let close : 1 ≤ spec.w_close = window.0 in
    let order : spec.w_close ≤ spec.w_far = window.1 in
    (λ i. primary_at spec height
    + miner_part (field-longer branch more (height - 1) (omega (arith, stands)) i) (secondary_at spec height)
    + sum_by (λ paid. committer_share paid.fee) (paid-longer spec branch more height (omega (arith, stands)) i)
    + sum-agree (proposer_part spec (branch ++ more) height) (proposer_part spec branch height) (height + spec.w_close) (spec.w_far + 1 - spec.w_close)
    (λ n from below. proposer-longer spec branch more height n close (omega (arith, below, order, stands))) i)
