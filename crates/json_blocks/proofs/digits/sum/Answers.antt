use Rattle.std.proofs.Common.{◌≡◌, ◌+◌, ◌*◌, ◌<◌, ◌≤◌, ◌^◌, ℕ, ◌∙◌, sym, ap, arith, slice_index, drop, refl}
use Rattle.json_blocks.specs.Digits.{value_of, value_after}
use Rattle.json_blocks.proofs.DigitLemmas.{limit, value_of-below, limit-more, limit-fits, value_goes_on, value_ends}
use Rattle.json_blocks.proofs.digits.sum.Goals as goal

pub digits-init : goal.digits-init
unfolding limit
digits-init c = (omega arith, refl)

pub overflow_mul-n : goal.overflow_mul-n
overflow_mul-n c =
    let more : c.digits.n * 16 + 0 < limit (c.digits.digit-index + 1) = limit-more c.digits.digit-index c.digits.n 0 c.digits.invariant.0 (omega arith) in
    let top : limit (c.digits.digit-index + 1) ≤ 2 ^ 128 = limit-fits (c.digits.digit-index + 1) (omega (arith, c.digits-test.true, c.requires)) in
    omega (arith, more, top)

pub overflow_add-n : goal.overflow_add-n
overflow_add-n c =
    let digit = slice_index c.args.digits.now c.digits.digit-index in
    let more : c.digits.n * 16 + value_of digit < limit (c.digits.digit-index + 1) = limit-more c.digits.digit-index c.digits.n (value_of digit) c.digits.invariant.0 (value_of-below digit) in
    let top : limit (c.digits.digit-index + 1) ≤ 2 ^ 128 = limit-fits (c.digits.digit-index + 1) (omega (arith, c.digits-test.true, c.requires)) in
    let is : c.from.result ≡ value_of digit = c.from.ensures ∙ c.value.ensures in
    omega (arith, more, top, is)

pub digits-preserved : goal.digits-preserved
digits-preserved c =
    let digit = slice_index c.args.digits.now c.digits.digit-index in
    let more : c.digits.n * 16 + value_of digit < limit (c.digits.digit-index + 1) = limit-more c.digits.digit-index c.digits.n (value_of digit) c.digits.invariant.0 (value_of-below digit) in
    let is : c.from.result ≡ value_of digit = c.from.ensures ∙ c.value.ensures in (
      omega (arith, more, is),
      ap (λ (v : ℕ). value_after (c.digits.n * 16 + v) (drop (c.digits.digit-index + 1) c.args.digits.now)) is
          ∙ value_goes_on c.digits.n c.args.digits.now c.digits.digit-index c.digits-test.true
          ∙ c.digits.invariant.1,
    )

pub returns : goal.returns
returns c = sym (value_ends c.digits.n c.args.digits.now c.digits.digit-index (omega (arith, c.digits-test.false))) ∙ c.digits.invariant.1
