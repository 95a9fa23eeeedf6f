use Rattle.std.proofs.Common.{◌≡◌, Option, Some, sym, subst, ◌∙◌}
use Rattle.std.specs.Prelude.{ℕ, IfSome}
use Rattle.machine_defs.specs.declared.ins.Ins.{Ins}
use Rattle.machine_defs.specs.Instruction.{FitsFormat}
use Rattle.report_laws.proofs.texts.decoded_texts.Goals as goal

pub returns : goal.returns
returns c i size is = record {
  fits = subst (λ (o : Option (Ins × ℕ)). IfSome o (λ it. FitsFormat it.0)) (c.decode.ensures.exact ∙ is) c.decode.ensures.fits;
  one = λ other fits same. c.text_laws.ensures.one_instruction other i fits
      (subst (λ (o : Option (Ins × ℕ)). IfSome o (λ it. FitsFormat it.0)) (c.decode.ensures.exact ∙ is) c.decode.ensures.fits) same;
}
