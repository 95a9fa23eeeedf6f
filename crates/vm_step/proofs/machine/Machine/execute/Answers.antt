-- Each arm leaves what the kind of its instruction ensures. An immediate is a number of 32 bits, and reads as itself.
use Rattle.std.proofs.Common.{◌≡◌, rules, sym, w32}
use mir.Val.{of_z, to_z}
use Rattle.machine_defs.specs.Step.{effect, register}
use Rattle.vm_step.proofs.machine.Machine.execute.Goals as goal

pub returns-in-Lui : goal.returns-in-Lui
unfolding effect
returns-in-Lui _ c =
    let imm : to_z w32 (of_z w32 c.in-Lui.imm) ≡ c.in-Lui.imm = search rules in
    rw c.in-Lui.is (rw (c.wide.ensures, imm) at c.paid_write.ensures)

pub returns-in-Auipc : goal.returns-in-Auipc
unfolding effect
returns-in-Auipc _ c =
    let imm : to_z w32 (of_z w32 c.in-Auipc.imm) ≡ c.in-Auipc.imm = search rules in
    rw (c.in-Auipc.is, sym (rw imm at c.moved-value.ensures)) c.paid_write-in-Auipc.ensures

pub returns-in-Jal : goal.returns-in-Jal
unfolding effect
returns-in-Jal _ c =
    let imm : to_z w32 (of_z w32 c.in-Jal.imm) ≡ c.in-Jal.imm = search rules in
    rw (c.in-Jal.is, sym (rw imm at c.moved-target.ensures)) c.paid_jump.ensures

pub returns-in-Lb : goal.returns-in-Lb
unfolding effect
returns-in-Lb _ c =
    let imm : to_z w32 (of_z w32 c.in-Lb.imm) ≡ c.in-Lb.imm = search rules in
    rw c.in-Lb.is (rw imm at c.paid_load.ensures)

pub returns-in-Lh : goal.returns-in-Lh
unfolding effect
returns-in-Lh _ c =
    let imm : to_z w32 (of_z w32 c.in-Lh.imm) ≡ c.in-Lh.imm = search rules in
    rw c.in-Lh.is (rw imm at c.paid_load-in-Lh.ensures)

pub returns-in-Lw : goal.returns-in-Lw
unfolding effect
returns-in-Lw _ c =
    let imm : to_z w32 (of_z w32 c.in-Lw.imm) ≡ c.in-Lw.imm = search rules in
    rw c.in-Lw.is (rw imm at c.paid_load-in-Lw.ensures)

pub returns-in-Ld : goal.returns-in-Ld
unfolding effect
returns-in-Ld _ c =
    let imm : to_z w32 (of_z w32 c.in-Ld.imm) ≡ c.in-Ld.imm = search rules in
    rw c.in-Ld.is (rw imm at c.paid_load-in-Ld.ensures)

pub returns-in-Lbu : goal.returns-in-Lbu
unfolding effect
returns-in-Lbu _ c =
    let imm : to_z w32 (of_z w32 c.in-Lbu.imm) ≡ c.in-Lbu.imm = search rules in
    rw c.in-Lbu.is (rw imm at c.paid_load-in-Lbu.ensures)

pub returns-in-Lhu : goal.returns-in-Lhu
unfolding effect
returns-in-Lhu _ c =
    let imm : to_z w32 (of_z w32 c.in-Lhu.imm) ≡ c.in-Lhu.imm = search rules in
    rw c.in-Lhu.is (rw imm at c.paid_load-in-Lhu.ensures)

pub returns-in-Lwu : goal.returns-in-Lwu
unfolding effect
returns-in-Lwu _ c =
    let imm : to_z w32 (of_z w32 c.in-Lwu.imm) ≡ c.in-Lwu.imm = search rules in
    rw c.in-Lwu.is (rw imm at c.paid_load-in-Lwu.ensures)

pub returns-in-Sb : goal.returns-in-Sb
unfolding effect
returns-in-Sb _ c =
    let imm : to_z w32 (of_z w32 c.in-Sb.imm) ≡ c.in-Sb.imm = search rules in
    rw c.in-Sb.is (rw imm at c.paid_store.ensures)

pub returns-in-Sh : goal.returns-in-Sh
unfolding effect
returns-in-Sh _ c =
    let imm : to_z w32 (of_z w32 c.in-Sh.imm) ≡ c.in-Sh.imm = search rules in
    rw c.in-Sh.is (rw imm at c.paid_store-in-Sh.ensures)

pub returns-in-Sw : goal.returns-in-Sw
unfolding effect
returns-in-Sw _ c =
    let imm : to_z w32 (of_z w32 c.in-Sw.imm) ≡ c.in-Sw.imm = search rules in
    rw c.in-Sw.is (rw imm at c.paid_store-in-Sw.ensures)

pub returns-in-Sd : goal.returns-in-Sd
unfolding effect
returns-in-Sd _ c =
    let imm : to_z w32 (of_z w32 c.in-Sd.imm) ≡ c.in-Sd.imm = search rules in
    rw c.in-Sd.is (rw imm at c.paid_store-in-Sd.ensures)

pub returns-in-Addi : goal.returns-in-Addi
unfolding effect
returns-in-Addi _ c =
    let imm : to_z w32 (of_z w32 c.in-Addi.imm) ≡ c.in-Addi.imm = search rules in
    rw c.in-Addi.is (rw imm at c.by_immediate.ensures)

pub returns-in-Slti : goal.returns-in-Slti
unfolding effect
returns-in-Slti _ c =
    let imm : to_z w32 (of_z w32 c.in-Slti.imm) ≡ c.in-Slti.imm = search rules in
    rw c.in-Slti.is (rw imm at c.by_immediate-in-Slti.ensures)

pub returns-in-Sltiu : goal.returns-in-Sltiu
unfolding effect
returns-in-Sltiu _ c =
    let imm : to_z w32 (of_z w32 c.in-Sltiu.imm) ≡ c.in-Sltiu.imm = search rules in
    rw c.in-Sltiu.is (rw imm at c.by_immediate-in-Sltiu.ensures)

pub returns-in-Xori : goal.returns-in-Xori
unfolding effect
returns-in-Xori _ c =
    let imm : to_z w32 (of_z w32 c.in-Xori.imm) ≡ c.in-Xori.imm = search rules in
    rw c.in-Xori.is (rw imm at c.by_immediate-in-Xori.ensures)

pub returns-in-Ori : goal.returns-in-Ori
unfolding effect
returns-in-Ori _ c =
    let imm : to_z w32 (of_z w32 c.in-Ori.imm) ≡ c.in-Ori.imm = search rules in
    rw c.in-Ori.is (rw imm at c.by_immediate-in-Ori.ensures)

pub returns-in-Andi : goal.returns-in-Andi
unfolding effect
returns-in-Andi _ c =
    let imm : to_z w32 (of_z w32 c.in-Andi.imm) ≡ c.in-Andi.imm = search rules in
    rw c.in-Andi.is (rw imm at c.by_immediate-in-Andi.ensures)

pub returns-in-Slli : goal.returns-in-Slli
unfolding effect
returns-in-Slli _ c =
    let imm : to_z w32 (of_z w32 c.in-Slli.imm) ≡ c.in-Slli.imm = search rules in
    rw c.in-Slli.is (rw imm at c.by_immediate-in-Slli.ensures)

pub returns-in-Srli : goal.returns-in-Srli
unfolding effect
returns-in-Srli _ c =
    let imm : to_z w32 (of_z w32 c.in-Srli.imm) ≡ c.in-Srli.imm = search rules in
    rw c.in-Srli.is (rw imm at c.by_immediate-in-Srli.ensures)

pub returns-in-Srai : goal.returns-in-Srai
unfolding effect
returns-in-Srai _ c =
    let imm : to_z w32 (of_z w32 c.in-Srai.imm) ≡ c.in-Srai.imm = search rules in
    rw c.in-Srai.is (rw imm at c.by_immediate-in-Srai.ensures)

pub returns-in-Addiw : goal.returns-in-Addiw
unfolding effect
returns-in-Addiw _ c =
    let imm : to_z w32 (of_z w32 c.in-Addiw.imm) ≡ c.in-Addiw.imm = search rules in
    rw c.in-Addiw.is (rw imm at c.by_immediate-in-Addiw.ensures)

pub returns-in-Slliw : goal.returns-in-Slliw
unfolding effect
returns-in-Slliw _ c =
    let imm : to_z w32 (of_z w32 c.in-Slliw.imm) ≡ c.in-Slliw.imm = search rules in
    rw c.in-Slliw.is (rw imm at c.by_immediate-in-Slliw.ensures)

pub returns-in-Srliw : goal.returns-in-Srliw
unfolding effect
returns-in-Srliw _ c =
    let imm : to_z w32 (of_z w32 c.in-Srliw.imm) ≡ c.in-Srliw.imm = search rules in
    rw c.in-Srliw.is (rw imm at c.by_immediate-in-Srliw.ensures)

pub returns-in-Sraiw : goal.returns-in-Sraiw
unfolding effect
returns-in-Sraiw _ c =
    let imm : to_z w32 (of_z w32 c.in-Sraiw.imm) ≡ c.in-Sraiw.imm = search rules in
    rw c.in-Sraiw.is (rw imm at c.by_immediate-in-Sraiw.ensures)

pub returns-in-Add : goal.returns-in-Add
unfolding effect
returns-in-Add _ c = rw c.in-Add.is c.by_registers.ensures

pub returns-in-Sub : goal.returns-in-Sub
unfolding effect
returns-in-Sub _ c = rw c.in-Sub.is c.by_registers-in-Sub.ensures

pub returns-in-Sll : goal.returns-in-Sll
unfolding effect
returns-in-Sll _ c = rw c.in-Sll.is c.by_registers-in-Sll.ensures

pub returns-in-Slt : goal.returns-in-Slt
unfolding effect
returns-in-Slt _ c = rw c.in-Slt.is c.by_registers-in-Slt.ensures

pub returns-in-Sltu : goal.returns-in-Sltu
unfolding effect
returns-in-Sltu _ c = rw c.in-Sltu.is c.by_registers-in-Sltu.ensures

pub returns-in-Xor : goal.returns-in-Xor
unfolding effect
returns-in-Xor _ c = rw c.in-Xor.is c.by_registers-in-Xor.ensures

pub returns-in-Srl : goal.returns-in-Srl
unfolding effect
returns-in-Srl _ c = rw c.in-Srl.is c.by_registers-in-Srl.ensures

pub returns-in-Sra : goal.returns-in-Sra
unfolding effect
returns-in-Sra _ c = rw c.in-Sra.is c.by_registers-in-Sra.ensures

pub returns-in-Or : goal.returns-in-Or
unfolding effect
returns-in-Or _ c = rw c.in-Or.is c.by_registers-in-Or.ensures

pub returns-in-And : goal.returns-in-And
unfolding effect
returns-in-And _ c = rw c.in-And.is c.by_registers-in-And.ensures

pub returns-in-Mul : goal.returns-in-Mul
unfolding effect
returns-in-Mul _ c = rw c.in-Mul.is c.by_registers-in-Mul.ensures

pub returns-in-Mulh : goal.returns-in-Mulh
unfolding effect
returns-in-Mulh _ c = rw c.in-Mulh.is c.by_registers-in-Mulh.ensures

pub returns-in-Mulhsu : goal.returns-in-Mulhsu
unfolding effect
returns-in-Mulhsu _ c = rw c.in-Mulhsu.is c.by_registers-in-Mulhsu.ensures

pub returns-in-Mulhu : goal.returns-in-Mulhu
unfolding effect
returns-in-Mulhu _ c = rw c.in-Mulhu.is c.by_registers-in-Mulhu.ensures

pub returns-in-Div : goal.returns-in-Div
unfolding effect
returns-in-Div _ c = rw c.in-Div.is c.by_registers-in-Div.ensures

pub returns-in-Divu : goal.returns-in-Divu
unfolding effect
returns-in-Divu _ c = rw c.in-Divu.is c.by_registers-in-Divu.ensures

pub returns-in-Rem : goal.returns-in-Rem
unfolding effect
returns-in-Rem _ c = rw c.in-Rem.is c.by_registers-in-Rem.ensures

pub returns-in-Remu : goal.returns-in-Remu
unfolding effect
returns-in-Remu _ c = rw c.in-Remu.is c.by_registers-in-Remu.ensures

pub returns-in-Addw : goal.returns-in-Addw
unfolding effect
returns-in-Addw _ c = rw c.in-Addw.is c.by_registers-in-Addw.ensures

pub returns-in-Subw : goal.returns-in-Subw
unfolding effect
returns-in-Subw _ c = rw c.in-Subw.is c.by_registers-in-Subw.ensures

pub returns-in-Sllw : goal.returns-in-Sllw
unfolding effect
returns-in-Sllw _ c = rw c.in-Sllw.is c.by_registers-in-Sllw.ensures

pub returns-in-Srlw : goal.returns-in-Srlw
unfolding effect
returns-in-Srlw _ c = rw c.in-Srlw.is c.by_registers-in-Srlw.ensures

pub returns-in-Sraw : goal.returns-in-Sraw
unfolding effect
returns-in-Sraw _ c = rw c.in-Sraw.is c.by_registers-in-Sraw.ensures

pub returns-in-Mulw : goal.returns-in-Mulw
unfolding effect
returns-in-Mulw _ c = rw c.in-Mulw.is c.by_registers-in-Mulw.ensures

pub returns-in-Divw : goal.returns-in-Divw
unfolding effect
returns-in-Divw _ c = rw c.in-Divw.is c.by_registers-in-Divw.ensures

pub returns-in-Divuw : goal.returns-in-Divuw
unfolding effect
returns-in-Divuw _ c = rw c.in-Divuw.is c.by_registers-in-Divuw.ensures

pub returns-in-Remw : goal.returns-in-Remw
unfolding effect
returns-in-Remw _ c = rw c.in-Remw.is c.by_registers-in-Remw.ensures

pub returns-in-Remuw : goal.returns-in-Remuw
unfolding effect
returns-in-Remuw _ c = rw c.in-Remuw.is c.by_registers-in-Remuw.ensures

pub returns-in-Fence : goal.returns-in-Fence
unfolding effect
returns-in-Fence _ c = rw c.in-Fence.is c.paid_advance.ensures

pub returns-in-FenceI : goal.returns-in-FenceI
unfolding effect
returns-in-FenceI _ c = rw c.in-FenceI.is c.paid_advance-in-FenceI.ensures

pub returns-in-Ecall : goal.returns-in-Ecall
unfolding effect
returns-in-Ecall _ c = rw c.in-Ecall.is c.paid_ecall.ensures

pub returns-in-Ebreak : goal.returns-in-Ebreak
unfolding effect
returns-in-Ebreak _ c = rw c.in-Ebreak.is c.paid_advance-in-Ebreak.ensures

pub returns-in-Jalr : goal.returns-in-Jalr
unfolding effect register
returns-in-Jalr _ c = search rules

pub returns-in-Beq : goal.returns-in-Beq
unfolding effect register
returns-in-Beq _ c = search rules

pub returns-in-Bne : goal.returns-in-Bne
unfolding effect register
returns-in-Bne _ c = search rules

pub returns-in-Blt : goal.returns-in-Blt
unfolding effect register
returns-in-Blt _ c = search rules

pub returns-in-Bge : goal.returns-in-Bge
unfolding effect register
returns-in-Bge _ c = search rules

pub returns-in-Bltu : goal.returns-in-Bltu
unfolding effect register
returns-in-Bltu _ c = search rules

pub returns-in-Bgeu : goal.returns-in-Bgeu
unfolding effect register
returns-in-Bgeu _ c = search rules
