-- The text of an instruction (docs/MACHINE.md, "The text of an instruction"): a table with a row for each
-- instruction, which has its name, its word where all operands are zero, and its operands by form.
use Rattle.std.specs.Prelude.{◌≡◌, ℕ, ℤ, ◌^◌, ◌<◌, List, [], ◌++◌, codes, Some, bit_and}
use Rattle.std.specs.Int.{w64}
use Rattle.std.specs.Fmt.{decimal, signed_decimal}
use Rattle.machine_defs.specs.declared.ins.Ins.{Ins}
use Rattle.machine_defs.specs.declared.ins.Ins.TheVariants.{Lui, Auipc, Jal, Jalr, Beq, Bne, Blt, Bge, Bltu, Bgeu, Lb, Lh, Lw, Ld, Lbu, Lhu, Lwu, Sb, Sh, Sw, Sd, Addi, Slti, Sltiu, Xori, Ori, Andi, Slli, Srli, Srai, Addiw, Slliw, Srliw, Sraiw, Add, Sub, Sll, Slt, Sltu, Xor, Srl, Sra, Or, And, Mul, Mulh, Mulhsu, Mulhu, Div, Divu, Rem, Remu, Addw, Subw, Sllw, Srlw, Sraw, Mulw, Divw, Divuw, Remw, Remuw, Fence, FenceI, Ecall, Ebreak}
use Rattle.machine_defs.specs.Instruction.{bits}
use Rattle.machine_defs.specs.Alu.{bits_of}
use Rattle.machine_defs.specs.Decode.{decode}
use Rattle.machine_defs.specs.declared.operands.Operands.{Operands}
use Rattle.machine_defs.specs.declared.operands.Operands.TheVariants.{Registers, Immediate, Shift, WordShift, Address, Store, Branch, Jump, Upper, Bare}

pub record Form : Type 0 where
  pub name : List ℕ
  pub word : ℕ
  pub operands : Operands

abbrev pub form : List ℕ → ℕ → Operands → Form
form name word operands = record { name = name; word = word; operands = operands }

abbrev pub form_of : Ins → Form
form_of (Lui rd imm) = form (codes "lui") 0x00000037 (Upper rd imm)
form_of (Auipc rd imm) = form (codes "auipc") 0x00000017 (Upper rd imm)
form_of (Jal rd imm) = form (codes "jal") 0x0000006f (Jump rd imm)
form_of (Jalr rd rs1 imm) = form (codes "jalr") 0x00000067 (Address rd rs1 imm)
form_of (Beq rs1 rs2 imm) = form (codes "beq") 0x00000063 (Branch rs1 rs2 imm)
form_of (Bne rs1 rs2 imm) = form (codes "bne") 0x00001063 (Branch rs1 rs2 imm)
form_of (Blt rs1 rs2 imm) = form (codes "blt") 0x00004063 (Branch rs1 rs2 imm)
form_of (Bge rs1 rs2 imm) = form (codes "bge") 0x00005063 (Branch rs1 rs2 imm)
form_of (Bltu rs1 rs2 imm) = form (codes "bltu") 0x00006063 (Branch rs1 rs2 imm)
form_of (Bgeu rs1 rs2 imm) = form (codes "bgeu") 0x00007063 (Branch rs1 rs2 imm)
form_of (Lb rd rs1 imm) = form (codes "lb") 0x00000003 (Address rd rs1 imm)
form_of (Lh rd rs1 imm) = form (codes "lh") 0x00001003 (Address rd rs1 imm)
form_of (Lw rd rs1 imm) = form (codes "lw") 0x00002003 (Address rd rs1 imm)
form_of (Ld rd rs1 imm) = form (codes "ld") 0x00003003 (Address rd rs1 imm)
form_of (Lbu rd rs1 imm) = form (codes "lbu") 0x00004003 (Address rd rs1 imm)
form_of (Lhu rd rs1 imm) = form (codes "lhu") 0x00005003 (Address rd rs1 imm)
form_of (Lwu rd rs1 imm) = form (codes "lwu") 0x00006003 (Address rd rs1 imm)
form_of (Sb rs1 rs2 imm) = form (codes "sb") 0x00000023 (Store rs1 rs2 imm)
form_of (Sh rs1 rs2 imm) = form (codes "sh") 0x00001023 (Store rs1 rs2 imm)
form_of (Sw rs1 rs2 imm) = form (codes "sw") 0x00002023 (Store rs1 rs2 imm)
form_of (Sd rs1 rs2 imm) = form (codes "sd") 0x00003023 (Store rs1 rs2 imm)
form_of (Addi rd rs1 imm) = form (codes "addi") 0x00000013 (Immediate rd rs1 imm)
form_of (Slti rd rs1 imm) = form (codes "slti") 0x00002013 (Immediate rd rs1 imm)
form_of (Sltiu rd rs1 imm) = form (codes "sltiu") 0x00003013 (Immediate rd rs1 imm)
form_of (Xori rd rs1 imm) = form (codes "xori") 0x00004013 (Immediate rd rs1 imm)
form_of (Ori rd rs1 imm) = form (codes "ori") 0x00006013 (Immediate rd rs1 imm)
form_of (Andi rd rs1 imm) = form (codes "andi") 0x00007013 (Immediate rd rs1 imm)
form_of (Slli rd rs1 imm) = form (codes "slli") 0x00001013 (Shift rd rs1 imm)
form_of (Srli rd rs1 imm) = form (codes "srli") 0x00005013 (Shift rd rs1 imm)
form_of (Srai rd rs1 imm) = form (codes "srai") 0x40005013 (Shift rd rs1 imm)
form_of (Addiw rd rs1 imm) = form (codes "addiw") 0x0000001b (Immediate rd rs1 imm)
form_of (Slliw rd rs1 imm) = form (codes "slliw") 0x0000101b (WordShift rd rs1 imm)
form_of (Srliw rd rs1 imm) = form (codes "srliw") 0x0000501b (WordShift rd rs1 imm)
form_of (Sraiw rd rs1 imm) = form (codes "sraiw") 0x4000501b (WordShift rd rs1 imm)
form_of (Add rd rs1 rs2) = form (codes "add") 0x00000033 (Registers rd rs1 rs2)
form_of (Sub rd rs1 rs2) = form (codes "sub") 0x40000033 (Registers rd rs1 rs2)
form_of (Sll rd rs1 rs2) = form (codes "sll") 0x00001033 (Registers rd rs1 rs2)
form_of (Slt rd rs1 rs2) = form (codes "slt") 0x00002033 (Registers rd rs1 rs2)
form_of (Sltu rd rs1 rs2) = form (codes "sltu") 0x00003033 (Registers rd rs1 rs2)
form_of (Xor rd rs1 rs2) = form (codes "xor") 0x00004033 (Registers rd rs1 rs2)
form_of (Srl rd rs1 rs2) = form (codes "srl") 0x00005033 (Registers rd rs1 rs2)
form_of (Sra rd rs1 rs2) = form (codes "sra") 0x40005033 (Registers rd rs1 rs2)
form_of (Or rd rs1 rs2) = form (codes "or") 0x00006033 (Registers rd rs1 rs2)
form_of (And rd rs1 rs2) = form (codes "and") 0x00007033 (Registers rd rs1 rs2)
form_of (Mul rd rs1 rs2) = form (codes "mul") 0x02000033 (Registers rd rs1 rs2)
form_of (Mulh rd rs1 rs2) = form (codes "mulh") 0x02001033 (Registers rd rs1 rs2)
form_of (Mulhsu rd rs1 rs2) = form (codes "mulhsu") 0x02002033 (Registers rd rs1 rs2)
form_of (Mulhu rd rs1 rs2) = form (codes "mulhu") 0x02003033 (Registers rd rs1 rs2)
form_of (Div rd rs1 rs2) = form (codes "div") 0x02004033 (Registers rd rs1 rs2)
form_of (Divu rd rs1 rs2) = form (codes "divu") 0x02005033 (Registers rd rs1 rs2)
form_of (Rem rd rs1 rs2) = form (codes "rem") 0x02006033 (Registers rd rs1 rs2)
form_of (Remu rd rs1 rs2) = form (codes "remu") 0x02007033 (Registers rd rs1 rs2)
form_of (Addw rd rs1 rs2) = form (codes "addw") 0x0000003b (Registers rd rs1 rs2)
form_of (Subw rd rs1 rs2) = form (codes "subw") 0x4000003b (Registers rd rs1 rs2)
form_of (Sllw rd rs1 rs2) = form (codes "sllw") 0x0000103b (Registers rd rs1 rs2)
form_of (Srlw rd rs1 rs2) = form (codes "srlw") 0x0000503b (Registers rd rs1 rs2)
form_of (Sraw rd rs1 rs2) = form (codes "sraw") 0x4000503b (Registers rd rs1 rs2)
form_of (Mulw rd rs1 rs2) = form (codes "mulw") 0x0200003b (Registers rd rs1 rs2)
form_of (Divw rd rs1 rs2) = form (codes "divw") 0x0200403b (Registers rd rs1 rs2)
form_of (Divuw rd rs1 rs2) = form (codes "divuw") 0x0200503b (Registers rd rs1 rs2)
form_of (Remw rd rs1 rs2) = form (codes "remw") 0x0200603b (Registers rd rs1 rs2)
form_of (Remuw rd rs1 rs2) = form (codes "remuw") 0x0200703b (Registers rd rs1 rs2)
form_of Fence = form (codes "fence") 0x0000000f Bare
form_of FenceI = form (codes "fence.i") 0x0000100f Bare
form_of Ecall = form (codes "ecall") 0x00000073 Bare
form_of Ebreak = form (codes "ebreak") 0x00100073 Bare

-- ---- the text

abbrev pub register : ℕ → List ℕ
register n = codes "x" ++ decimal n

-- bits 31 to 12 of the number that is loaded or added
unfoldable pub upper : ℤ → ℕ
upper imm = bits 31 12 (bits_of w64 imm)

-- two registers and what follows
abbrev pub pair : ℕ → ℕ → List ℕ → List ℕ
pair a b rest = codes " " ++ (register a ++ (codes "," ++ (register b ++ (codes "," ++ rest))))

-- a register and what follows
abbrev pub single : ℕ → List ℕ → List ℕ
single a rest = codes " " ++ (register a ++ (codes "," ++ rest))

-- a number, and in parentheses the register that it is added to
abbrev pub based : ℤ → ℕ → List ℕ
based imm base = signed_decimal imm ++ (codes "(" ++ (register base ++ codes ")"))

-- the operands by form, with the space before them
unfoldable pub operands_text : Operands → List ℕ
operands_text (Registers rd rs1 rs2) = pair rd rs1 (register rs2)
operands_text (Immediate rd rs1 imm) = pair rd rs1 (signed_decimal imm)
operands_text (Shift rd rs1 imm) = pair rd rs1 (signed_decimal imm)
operands_text (WordShift rd rs1 imm) = pair rd rs1 (signed_decimal imm)
operands_text (Address rd rs1 imm) = single rd (based imm rs1)
operands_text (Store rs1 rs2 imm) = single rs2 (based imm rs1)
operands_text (Branch rs1 rs2 imm) = pair rs1 rs2 (signed_decimal imm)
operands_text (Jump rd imm) = single rd (signed_decimal imm)
operands_text (Upper rd imm) = single rd (decimal (upper imm))
operands_text Bare = []

unfoldable pub show : Ins → List ℕ
show instruction = (form_of instruction).name ++ operands_text (form_of instruction).operands

-- ---- the word

-- the bits that decoding does not look at are zero ("Memory Ordering Instructions")
abbrev pub IsZeroWhereUnread : Ins → ℕ → Type 0
IsZeroWhereUnread Fence word = bit_and word 0xffff8f80 ≡ 0
IsZeroWhereUnread FenceI word = bit_and word 0xffff8f80 ≡ 0
IsZeroWhereUnread _ word = Unit {0}

-- the full form that encodes the instruction
abbrev pub IsWord : Ins → ℕ → Type 0
IsWord instruction word =
    (word < 2 ^ 32) × (decode word ≡ Some (instruction, 4)) × IsZeroWhereUnread instruction word
