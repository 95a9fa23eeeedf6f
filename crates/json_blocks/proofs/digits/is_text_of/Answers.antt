use Rattle.std.proofs.Common.{◌∙◌, sym, arith}
use Rattle.json_blocks.proofs.DigitLemmas.{eq_goes_on, eq_ends, eq_lengths}
use Rattle.json_blocks.proofs.digits.is_text_of.Goals as goal

pub returns-then-text-digits : goal.returns-then-text-digits
returns-then-text-digits c = sym (eq_lengths c.args.text.now c.args.digits.now c.if-text-digits.true)

pub digits-preserved : goal.digits-preserved
digits-preserved c =
    eq_goes_on c.args.text.now c.args.digits.now c.digits.i (omega (arith, c.digits-test.true)) (omega (arith, c.digits-test.true, c.if-text-digits.false)) (sym c.lower.ensures ∙ c.if-lower-digits.false)
    ∙ c.digits.invariant

pub returns : goal.returns
returns c =
    sym (eq_ends c.args.text.now c.args.digits.now c.digits.i (omega (arith, c.digits-test.false)) (omega (arith, c.digits-test.false, c.if-text-digits.false)))
    ∙ c.digits.invariant
