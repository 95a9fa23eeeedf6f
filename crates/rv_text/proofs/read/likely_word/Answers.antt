use Rattle.std.proofs.Common.{◌+◌, ◌%◌, sym, ap, ◌∙◌, subst}
use Rattle.machine_defs.specs.declared.operands.Operands.{Operands}
use Rattle.rv_text.specs.Reading.{filled}
use Rattle.rv_text.specs.Words.{FitsOperands, HasBits}
use Rattle.rv_text.proofs.WordLaws.{fits-is, word-is}
use Rattle.rv_text.proofs.Likely.{is-read, filled-is}
use Rattle.rv_text.proofs.read.likely_word.Goals as goal

pub returns-in_default : goal.returns-in_default
returns-in_default c = λ i fits text.
    let read = is-read i c.args.line.now c.split_name.result.0.now c.split_name.result.1.now fits text c.split_name.ensures.name c.split_name.ensures.rest in
    let found = read.found in
    let none = c.in_default.is in
    let is = c.named.ensures in
    cc

pub returns-in-Some-bits_of : goal.returns-in-Some-bits_of
returns-in-Some-bits_of c = λ i fits text.
    let read = is-read i c.args.line.now c.split_name.result.0.now c.split_name.result.1.now fits text c.split_name.ensures.name c.split_name.ensures.rest in
    let both = filled-is i c.split_name.result.0.now c.split_name.result.1.now c.in-Some.template c.form_of-fixed.result.0.now c.form_of-fixed.result.1
    c.form_of-fixed.result.2 c.filled.result read (sym c.named.ensures ∙ c.in-Some.is) c.form_of-fixed.ensures (c.filled.ensures ∙ ap (λ x. filled c.form_of-fixed.result.2 x) c.numbers_in.ensures) in
    let P : Operands → Type 0 = λ o. HasBits o c.in-Some-bits_of.bits in
    word-is i c.in-Some-bits_of.bits ((c.form_of-fixed.result.1 + c.in-Some-bits_of.bits) % 4294967296) (subst P both.1 c.in-Some-bits_of.ensures)
    (ap (λ x. (x + c.in-Some-bits_of.bits) % 4294967296) both.0)

pub returns-in-None : goal.returns-in-None
returns-in-None c = λ i fits text.
    let read = is-read i c.args.line.now c.split_name.result.0.now c.split_name.result.1.now fits text c.split_name.ensures.name c.split_name.ensures.rest in
    let both = filled-is i c.split_name.result.0.now c.split_name.result.1.now c.in-Some.template c.form_of-fixed.result.0.now c.form_of-fixed.result.1
    c.form_of-fixed.result.2 c.filled.result read (sym c.named.ensures ∙ c.in-Some.is) c.form_of-fixed.ensures (c.filled.ensures ∙ ap (λ x. filled c.form_of-fixed.result.2 x) c.numbers_in.ensures) in
    c.in-None.ensures (subst FitsOperands (sym both.1) (fits-is i fits))
