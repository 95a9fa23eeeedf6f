use Rattle.std.proofs.Common.{refl, sym, ◌∙◌, ◌∷◌, [], arith}
use Rattle.std.proofs.lemmas.Bool.Decides.{nat_tests}
use Rattle.machine_defs.specs.Compressed.{compressed_forms}
use Rattle.machine_defs.proofs.RowLaws.{narrowed, none_of}
use Rattle.rv_decode.proofs.compressed.instruction.Goals as goal

pub returns-in-0 : goal.returns-in-0
unfolding compressed_forms
returns-in-0 c =
    c.quadrant_0.ensures ∙ sym (narrowed compressed_forms c.args.half (record { mask = 3; value = 0 }) c.in-0.is)

pub returns-in-1 : goal.returns-in-1
unfolding compressed_forms
returns-in-1 c =
    c.quadrant_1.ensures ∙ sym (narrowed compressed_forms c.args.half (record { mask = 3; value = 1 }) c.in-1.is)

pub returns-in-2 : goal.returns-in-2
unfolding compressed_forms
returns-in-2 c =
    c.quadrant_2.ensures ∙ sym (narrowed compressed_forms c.args.half (record { mask = 3; value = 2 }) c.in-2.is)

pub returns-in_default : goal.returns-in_default
unfolding compressed_forms
returns-in_default c =
    sym (none_of compressed_forms c.args.half 3 (0 ∷ 1 ∷ 2 ∷ []) refl (grind (arith, nat_tests)))
