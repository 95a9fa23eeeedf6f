use Rattle.std.proofs.Common.{refl, sym, ap, Some, arith, ◌∙◌, ◌∷◌, []}
use Rattle.machine_defs.specs.Table.{full_forms, u_row, j_row}
use Rattle.machine_defs.proofs.RowLaws.{narrowed, none_of, hit}
use Rattle.machine_defs.specs.declared.ins.Ins.TheVariants.{Lui, Auipc, Jal}
use Rattle.std.proofs.lemmas.Bool.Decides.{nat_tests}
use Rattle.rv_decode.proofs.full.instruction.Goals as goal

pub returns-in-3 : goal.returns-in-3
unfolding full_forms
returns-in-3 c = c.load.ensures ∙ sym (narrowed full_forms c.args.word (record { mask = 127; value = 3 }) c.in-3.is)

pub returns-in-15 : goal.returns-in-15
unfolding full_forms
returns-in-15 c = c.fence.ensures ∙ sym (narrowed full_forms c.args.word (record { mask = 127; value = 15 }) c.in-15.is)

pub returns-in-19 : goal.returns-in-19
unfolding full_forms
returns-in-19 c = c.immediate.ensures ∙ sym (narrowed full_forms c.args.word (record { mask = 127; value = 19 }) c.in-19.is)

pub returns-in-23 : goal.returns-in-23
unfolding full_forms
returns-in-23 c =
    ap Some c.auipc.ensures ∙ sym (hit c.args.word (u_row 0b0010111 Auipc) refl c.in-23.is)
    ∙ sym (narrowed full_forms c.args.word (record { mask = 127; value = 23 }) c.in-23.is)

pub returns-in-27 : goal.returns-in-27
unfolding full_forms
returns-in-27 c = c.word_immediate.ensures ∙ sym (narrowed full_forms c.args.word (record { mask = 127; value = 27 }) c.in-27.is)

pub returns-in-35 : goal.returns-in-35
unfolding full_forms
returns-in-35 c = c.store.ensures ∙ sym (narrowed full_forms c.args.word (record { mask = 127; value = 35 }) c.in-35.is)

pub returns-in-51 : goal.returns-in-51
unfolding full_forms
returns-in-51 c = c.register.ensures ∙ sym (narrowed full_forms c.args.word (record { mask = 127; value = 51 }) c.in-51.is)

pub returns-in-55 : goal.returns-in-55
unfolding full_forms
returns-in-55 c =
    ap Some c.lui.ensures ∙ sym (hit c.args.word (u_row 0b0110111 Lui) refl c.in-55.is)
    ∙ sym (narrowed full_forms c.args.word (record { mask = 127; value = 55 }) c.in-55.is)

pub returns-in-59 : goal.returns-in-59
unfolding full_forms
returns-in-59 c = c.word_register.ensures ∙ sym (narrowed full_forms c.args.word (record { mask = 127; value = 59 }) c.in-59.is)

pub returns-in-99 : goal.returns-in-99
unfolding full_forms
returns-in-99 c = c.branch-word.ensures ∙ sym (narrowed full_forms c.args.word (record { mask = 127; value = 99 }) c.in-99.is)

pub returns-in-103 : goal.returns-in-103
unfolding full_forms
returns-in-103 c = c.jump_register.ensures ∙ sym (narrowed full_forms c.args.word (record { mask = 127; value = 103 }) c.in-103.is)

pub returns-in-111 : goal.returns-in-111
unfolding full_forms
returns-in-111 c =
    ap Some c.jal.ensures ∙ sym (hit c.args.word (j_row 0b1101111 Jal) refl c.in-111.is)
    ∙ sym (narrowed full_forms c.args.word (record { mask = 127; value = 111 }) c.in-111.is)

pub returns-in-115 : goal.returns-in-115
unfolding full_forms
returns-in-115 c = c.system.ensures ∙ sym (narrowed full_forms c.args.word (record { mask = 127; value = 115 }) c.in-115.is)

pub returns-in_default : goal.returns-in_default
unfolding full_forms
returns-in_default c =
    sym (none_of full_forms c.args.word 127 (3 ∷ 15 ∷ 19 ∷ 23 ∷ 27 ∷ 35 ∷ 51 ∷ 55 ∷ 59 ∷ 99 ∷ 103 ∷ 111 ∷ 115 ∷ []) refl (grind (arith, nat_tests)))
