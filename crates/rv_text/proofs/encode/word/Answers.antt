use Rattle.std.proofs.Common.{◌+◌, ◌%◌, ap, subst}
use Rattle.machine_defs.specs.Text.{Form, form_of}
use Rattle.rv_text.specs.Words.{HasBits}
use Rattle.machine_defs.specs.declared.operands.Operands.{Operands}
use Rattle.rv_text.proofs.WordLaws.{word-is}
use Rattle.rv_text.proofs.encode.word.Goals as goal

pub returns-in-Some-clause-word : goal.returns-in-Some-clause-word
returns-in-Some-clause-word c =
    let f = c.form_of-fixed.ensures in
    let P : Operands → Type 0 = λ o. HasBits o c.in-Some.bits in
    let has : HasBits (form_of c.args.i.now).operands c.in-Some.bits = subst P (ap (λ (x : Form). x.operands) f) c.in-Some.ensures in
    word-is c.args.i.now c.in-Some.bits ((c.form_of-fixed.result.1 + c.in-Some.bits) % 4294967296) has
    (ap (λ (x : Form). (x.word + c.in-Some.bits) % 4294967296) f)
