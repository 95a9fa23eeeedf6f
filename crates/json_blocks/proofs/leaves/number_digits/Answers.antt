use Rattle.std.proofs.Common.{◌-◌, ◌/◌, ◌%◌, drop, false, sym, ap, ◌∙◌, arith, length-set}
use Rattle.std.proofs.lemmas.List.{drop_all}
use Rattle.std.specs.Fmt.{digits_onto}
use Rattle.json_blocks.proofs.Plain.{glyph}
use Rattle.json_blocks.proofs.NumberText.{all_digits, digits_end, digits_go_on, drop-set-before}
use Rattle.json_blocks.proofs.leaves.number_digits.Goals as goal

pub loop-i-init : goal.loop-i-init
loop-i-init c = (
  omega arith,
  c.told-text,
  ap (digits_onto 64 16 false c.args.n) (drop_all 64 c.args.text.now (omega (arith, c.told-text))) ∙ all_digits _,
)

pub loop-i-preserved : goal.loop-i-preserved
loop-i-preserved c =
    let l = c.loop-i in
    let kept = length-set l.text (l.i - 1) _ ∙ l.invariant.1 in
    let written = ap (digits_onto (l.i - 1) 16 false (l.rest / 16)) (drop-set-before l.text l.i _ _ c.loop-i-test.true (omega arith) (glyph (l.rest % 16) (omega arith))) in
    (omega arith, kept, written ∙ sym (digits_go_on l.rest (drop l.i l.text) l.i c.loop-i-test.true c.if-rest-eq0.false) ∙ l.invariant.2)

pub returns-then-rest-eq0 : goal.returns-then-rest-eq0
returns-then-rest-eq0 c =
    let l = c.loop-i in
    let written = drop-set-before l.text l.i _ _ c.loop-i-test.true (omega arith) (glyph (l.rest % 16) (omega arith)) in
    record { bound = omega arith; value = written ∙ sym (digits_end l.rest (drop l.i l.text) l.i c.loop-i-test.true c.if-rest-eq0.true) ∙ l.invariant.2 }
