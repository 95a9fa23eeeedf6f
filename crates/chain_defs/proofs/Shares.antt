-- The shares of an epoch's blocks add up to its reward.
use Rattle.std.proofs.Common.{◌≡◌, ℕ, zero, suc, ◌+◌, ◌*◌, ◌/◌, ◌%◌, ◌<◌, min, map, ◌∙◌, ap, arith, suc-mul, add-one}
use Rattle.std.specs.Prelude.{sum, nat_lt, if◌then◌else◌}
use Rattle.std.specs.List.{range_with_len}
use Rattle.std.proofs.lemmas.Bool.Decides.{nat_tests}
use Rattle.std.proofs.lemmas.List.FromFn.{sum_by-map-range_with_len_more}
use Rattle.std.proofs.Math.Nat.{mod-lt}
use Rattle.chain_defs.specs.Epochs.{share_of_index}

one_more : (extra count : ℕ) → min count extra + (if nat_lt count extra then 1 else 0) ≡ min (suc count) extra
one_more extra count = grind (arith, nat_tests)

-- the shares of the first `count` blocks: each the whole part, and one more at each index below `extra`
first_shares : (whole extra count : ℕ) →
    sum (map (λ index. whole + (if nat_lt index extra then 1 else 0)) (range_with_len 0 count)) ≡ count * whole + min count extra
first_shares whole extra zero = omega arith
first_shares whole extra (suc count) =
    let one_of : ℕ → ℕ = λ index. whole + (if nat_lt index extra then 1 else 0) in
    let before : sum (map one_of (range_with_len 0 count)) ≡ count * whole + min count extra = first_shares whole extra count in
    let step : sum (map one_of (range_with_len 0 (count + 1))) ≡ sum (map one_of (range_with_len 0 count)) + one_of count =
    sum_by-map-range_with_len_more (λ x. x) one_of 0 count count (omega arith) in
    let same : sum (map one_of (range_with_len 0 (count + 1))) ≡ sum (map one_of (range_with_len 0 (suc count))) =
    ap (λ n. sum (map one_of (range_with_len 0 n))) (add-one count) in
    let here = one_more extra count in
    let more : suc count * whole ≡ count * whole + whole = suc-mul count whole in
    omega (arith, before, step, same, here, more)

pub shares-sum : (length reward : ℕ) → 0 < length →
    sum (map (λ index. share_of_index length index reward) (range_with_len 0 length)) ≡ reward
shares-sum length reward some =
    let sum_is = first_shares (reward / length) (reward % length) length in
    let rest : reward % length < length = mod-lt reward some in
    let parts : length * (reward / length) + reward % length ≡ reward = omega arith in
    let all : length * (reward / length) + min length (reward % length) ≡ reward = omega arith in
    sum_is ∙ all
