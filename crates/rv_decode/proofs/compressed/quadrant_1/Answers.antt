use Rattle.std.proofs.Common.{refl, sym, ◌∙◌, ◌∷◌, [], ◌++◌, arith}
use Rattle.std.proofs.lemmas.Bool.Decides.{nat_tests}
use Rattle.machine_defs.specs.Compressed.{quadrant_1_forms, c_immediate_and_jump_forms, c_upper_forms, c_arithmetic_forms, c_register_arithmetic_forms}
use Rattle.machine_defs.proofs.RowLaws.{narrowed, none_of, encoded_in-before}
use Rattle.rv_decode.proofs.compressed.quadrant_1.Goals as goal

pub returns-in-24577 : goal.returns-in-24577
returns-in-24577 c =
    c.upper.ensures ∙ sym (narrowed quadrant_1_forms c.args.half (record { mask = 0xe003; value = 0x6001 }) c.in-24577.is)

pub returns-in-32769 : goal.returns-in-32769
returns-in-32769 c =
    c.arithmetic.ensures ∙ sym (narrowed quadrant_1_forms c.args.half (record { mask = 0xe003; value = 0x8001 }) c.in-32769.is)

pub returns-in_default : goal.returns-in_default
returns-in_default c =
    c.immediate_or_jump.ensures
    ∙ sym (encoded_in-before c_immediate_and_jump_forms (c_upper_forms ++ c_arithmetic_forms ++ c_register_arithmetic_forms) c.args.half
    (none_of (c_upper_forms ++ c_arithmetic_forms ++ c_register_arithmetic_forms) c.args.half 0xe003 (0x6001 ∷ 0x8001 ∷ []) refl
    (grind (arith, nat_tests))))
