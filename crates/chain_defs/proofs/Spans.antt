-- When spans of epochs are over.
use Rattle.std.proofs.Common.{◌≡◌, inl, inr, ℕ, suc, ◌+◌, ◌-◌, ◌*◌, ◌/◌, ◌%◌, ◌^◌, ◌<◌, ◌≤◌, Bool, true, false, arith, refl, ◌∙◌, ap, suc-mul}
use Rattle.std.specs.Prelude.{IsTrue, nat_le, ◌==◌, if◌then◌else◌}
use Rattle.std.proofs.lemmas.Bool.{cases_lt}
use Rattle.std.proofs.lemmas.Bool.Decides.{nat_tests}
use Rattle.std.proofs.Math.Nat.{mod-lt, mul-le-mul_right, mul_comm}
use Rattle.chain_defs.specs.Epochs.{epoch_value, epoch_field, value_number, value_index, value_length, Fraction, is_at_least, epochs_in, is_span_over}
use Rattle.chain_defs.specs.Specification.{keeps_s2}
use Rattle.chain_defs.specs.TimeLaws.{SpansItsBlocks}
use Rattle.chain_defs.proofs.EpochLength.{keeps_s2-some}

value_number-epoch_value : (number index length : ℕ) → number < 2 ^ 24 → value_number (epoch_value number index length) ≡ number
value_number-epoch_value number index length n_fits = omega arith

value_index-epoch_value : (number index length : ℕ) → number < 2 ^ 24 → index < 2 ^ 16 → value_index (epoch_value number index length) ≡ index
value_index-epoch_value number index length n_fits i_fits = omega arith

value_length-epoch_value : (number index length : ℕ) → number < 2 ^ 24 → index < 2 ^ 16 → length < 2 ^ 16 → value_length (epoch_value number index length) ≡ length
value_length-epoch_value number index length n_fits i_fits l_fits = omega arith

keeps_s2-fits : (epoch_length : ℕ) → IsTrue (keeps_s2 epoch_length) → epoch_length < 2 ^ 16
keeps_s2-fits epoch_length keeps = grind (arith, nat_tests)

at_least : (blocks passed length : ℕ) → 0 < length → nat_le (blocks * length) (passed * length) ≡ nat_le blocks passed
at_least blocks passed length some = elim (cases_lt passed blocks) [
  | inl less ↦
      let below : suc passed ≤ blocks = less in
      let times : suc passed * length ≤ blocks * length = mul-le-mul_right length below in
      let more : suc passed * length ≡ passed * length + length = suc-mul passed length in
      let apart : passed * length < blocks * length = omega arith in
      grind (arith, nat_tests)
  | inr enough ↦
      let times : blocks * length ≤ passed * length = mul-le-mul_right length enough in
      grind (arith, nat_tests)
]

abbrev fraction : ℕ → ℕ → Fraction
fraction numerator denominator = record { numerator = numerator; denominator = denominator }

second : (test : Bool) (x y : Fraction) → test ≡ false → (if test then x else y) ≡ y
second true x y is = cc
second false x y is = refl

fraction_of : (number index length : ℕ) → 0 < length → number < 2 ^ 24 → index < 2 ^ 16 → length < 2 ^ 16
    → epochs_in (epoch_value number index length) ≡ fraction (number * length + index) length
fraction_of number index length some n_fits i_fits l_fits =
    let value : ℕ = epoch_value number index length in
    let number_is : value_number value ≡ number = value_number-epoch_value number index length n_fits in
    let index_is : value_index value ≡ index = value_index-epoch_value number index length n_fits i_fits in
    let length_is : value_length value ≡ length = value_length-epoch_value number index length n_fits i_fits l_fits in
    chosen (value_number value) (value_index value) (value_length value) number_is index_is length_is
  where
    chosen : (n i l : ℕ) → n ≡ number → i ≡ index → l ≡ length
        → (if l == 0 then fraction n 1 else fraction (n * l + i) l) ≡ fraction (number * length + index) length
    chosen n i l n_is i_is l_is =
        let none : (l == 0) ≡ false = grind (arith, nat_tests) in
        second (l == 0) (fraction n 1) (fraction (n * l + i) l) none ∙ (λ k. record { numerator = n_is k * l_is k + i_is k; denominator = l_is k })

pub spans_its_blocks : SpansItsBlocks
spans_its_blocks length blocks made now keeps fits later =
    let some : 0 < length = keeps_s2-some length keeps in
    let l_fits : length < 2 ^ 16 = keeps_s2-fits length keeps in
    let rest : blocks % length < length = mod-lt blocks some in
    let i_fits : blocks % length < 2 ^ 16 = omega arith in
    let parts : length * (blocks / length) + blocks % length ≡ blocks = omega arith in
    let whole : blocks / length * length + blocks % length ≡ blocks = ap (λ (n : ℕ). n + blocks % length) (mul_comm (blocks / length) length) ∙ parts in
    let is : epochs_in (epoch_field length blocks) ≡ fraction (blocks / length * length + blocks % length) length = fraction_of (blocks / length) (blocks % length) length some fits i_fits l_fits in
    let over : is_span_over (epoch_field length blocks) length made now ≡ nat_le ((blocks / length * length + blocks % length) * length) ((now - made) * length) = ap (λ (f : Fraction). is_at_least (record { numerator = now - made; denominator = length }) f) is in
    over ∙ ap (λ (n : ℕ). nat_le (n * length) ((now - made) * length)) whole ∙ at_least blocks (now - made) length some ∙ moved
  where
    moved : nat_le blocks (now - made) ≡ nat_le (made + blocks) now
    moved = grind (arith, nat_tests)
