use Rattle.std.proofs.Common.{refl, sym, ◌∙◌, ◌∷◌, [], arith}
use Rattle.std.proofs.lemmas.Bool.Decides.{nat_tests}
use Rattle.machine_defs.specs.Compressed.{quadrant_2_forms, c_shift_and_stack_forms, c_register_forms}
use Rattle.machine_defs.proofs.RowLaws.{narrowed, none_of, encoded_in-before}
use Rattle.rv_decode.proofs.compressed.quadrant_2.Goals as goal

pub returns-in-32770 : goal.returns-in-32770
returns-in-32770 c =
    c.register.ensures ∙ sym (narrowed quadrant_2_forms c.args.half (record { mask = 0xe003; value = 0x8002 }) c.in-32770.is)

pub returns-in_default : goal.returns-in_default
returns-in_default c =
    c.shift_or_stack.ensures
    ∙ sym (encoded_in-before c_shift_and_stack_forms c_register_forms c.args.half
    (none_of c_register_forms c.args.half 0xe003 (0x8002 ∷ []) refl (grind (arith, nat_tests))))
