use Rattle.vm_mem.proofs.Short.{passed-12, passed-13, passed-21, passed-32}
use Rattle.vm_mem.proofs.kept.kept_form.Goals as goal

pub short-requires : goal.short-requires
short-requires c = passed-32 c.in-Lui.imm (rw c.in-Lui.is at c.requires.1)

pub short-requires-in-Auipc : goal.short-requires-in-Auipc
short-requires-in-Auipc c = passed-32 c.in-Auipc.imm (rw c.in-Auipc.is at c.requires.1)

pub short-requires-in-Jal : goal.short-requires-in-Jal
short-requires-in-Jal c = passed-21 c.in-Jal.imm (rw c.in-Jal.is at c.requires.1)

pub short-requires-in-Jalr : goal.short-requires-in-Jalr
short-requires-in-Jalr c = passed-12 c.in-Jalr.imm (rw c.in-Jalr.is at c.requires.1)

pub short-requires-in-Beq : goal.short-requires-in-Beq
short-requires-in-Beq c = passed-13 c.in-Beq.imm (rw c.in-Beq.is at c.requires.1)

pub short-requires-in-Bne : goal.short-requires-in-Bne
short-requires-in-Bne c = passed-13 c.in-Bne.imm (rw c.in-Bne.is at c.requires.1)

pub short-requires-in-Blt : goal.short-requires-in-Blt
short-requires-in-Blt c = passed-13 c.in-Blt.imm (rw c.in-Blt.is at c.requires.1)

pub short-requires-in-Bge : goal.short-requires-in-Bge
short-requires-in-Bge c = passed-13 c.in-Bge.imm (rw c.in-Bge.is at c.requires.1)

pub short-requires-in-Bltu : goal.short-requires-in-Bltu
short-requires-in-Bltu c = passed-13 c.in-Bltu.imm (rw c.in-Bltu.is at c.requires.1)

pub short-requires-in-Bgeu : goal.short-requires-in-Bgeu
short-requires-in-Bgeu c = passed-13 c.in-Bgeu.imm (rw c.in-Bgeu.is at c.requires.1)

pub short-requires-in-Lb : goal.short-requires-in-Lb
short-requires-in-Lb c = passed-12 c.in-Lb.imm (rw c.in-Lb.is at c.requires.1)

pub short-requires-in-Lh : goal.short-requires-in-Lh
short-requires-in-Lh c = passed-12 c.in-Lh.imm (rw c.in-Lh.is at c.requires.1)

pub short-requires-in-Lw : goal.short-requires-in-Lw
short-requires-in-Lw c = passed-12 c.in-Lw.imm (rw c.in-Lw.is at c.requires.1)

pub short-requires-in-Ld : goal.short-requires-in-Ld
short-requires-in-Ld c = passed-12 c.in-Ld.imm (rw c.in-Ld.is at c.requires.1)

pub short-requires-in-Lbu : goal.short-requires-in-Lbu
short-requires-in-Lbu c = passed-12 c.in-Lbu.imm (rw c.in-Lbu.is at c.requires.1)

pub short-requires-in-Lhu : goal.short-requires-in-Lhu
short-requires-in-Lhu c = passed-12 c.in-Lhu.imm (rw c.in-Lhu.is at c.requires.1)

pub short-requires-in-Lwu : goal.short-requires-in-Lwu
short-requires-in-Lwu c = passed-12 c.in-Lwu.imm (rw c.in-Lwu.is at c.requires.1)

pub short-requires-in-Sb : goal.short-requires-in-Sb
short-requires-in-Sb c = passed-12 c.in-Sb.imm (rw c.in-Sb.is at c.requires.1)

pub short-requires-in-Sh : goal.short-requires-in-Sh
short-requires-in-Sh c = passed-12 c.in-Sh.imm (rw c.in-Sh.is at c.requires.1)

pub short-requires-in-Sw : goal.short-requires-in-Sw
short-requires-in-Sw c = passed-12 c.in-Sw.imm (rw c.in-Sw.is at c.requires.1)

pub short-requires-in-Sd : goal.short-requires-in-Sd
short-requires-in-Sd c = passed-12 c.in-Sd.imm (rw c.in-Sd.is at c.requires.1)

pub short-requires-in-Addi : goal.short-requires-in-Addi
short-requires-in-Addi c = passed-12 c.in-Addi.imm (rw c.in-Addi.is at c.requires.1)

pub short-requires-in-Slti : goal.short-requires-in-Slti
short-requires-in-Slti c = passed-12 c.in-Slti.imm (rw c.in-Slti.is at c.requires.1)

pub short-requires-in-Sltiu : goal.short-requires-in-Sltiu
short-requires-in-Sltiu c = passed-12 c.in-Sltiu.imm (rw c.in-Sltiu.is at c.requires.1)

pub short-requires-in-Xori : goal.short-requires-in-Xori
short-requires-in-Xori c = passed-12 c.in-Xori.imm (rw c.in-Xori.is at c.requires.1)

pub short-requires-in-Ori : goal.short-requires-in-Ori
short-requires-in-Ori c = passed-12 c.in-Ori.imm (rw c.in-Ori.is at c.requires.1)

pub short-requires-in-Andi : goal.short-requires-in-Andi
short-requires-in-Andi c = passed-12 c.in-Andi.imm (rw c.in-Andi.is at c.requires.1)

pub short-requires-in-Addiw : goal.short-requires-in-Addiw
short-requires-in-Addiw c = passed-12 c.in-Addiw.imm (rw c.in-Addiw.is at c.requires.1)
