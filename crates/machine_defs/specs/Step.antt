-- One step of the machine (RFC 0003; RFC 0014 for the cycles).
use Rattle.std.specs.Prelude.{ℕ, ◌+◌, ◌*◌, ◌/◌, ◌%◌, ◌^◌, ◌==◌, nat_lt, ℤ, Bool, not, List, slice_index, slice_set, Option, Some, None, Result, Ok, Err, if◌then◌else◌}
use Rattle.std.specs.Int.{Width, w8, w16, w32, w64}
use mir.Val.{bits}
use Rattle.std.specs.Int.RustNames.{int_lt}
use Rattle.machine_defs.specs.declared.ins.Ins.{Ins}
use Rattle.machine_defs.specs.declared.ins.Ins.TheVariants.{Lui, Auipc, Jal, Jalr, Beq, Bne, Blt, Bge, Bltu, Bgeu, Lb, Lh, Lw, Ld, Lbu, Lhu, Lwu, Sb, Sh, Sw, Sd, Addi, Slti, Sltiu, Xori, Ori, Andi, Slli, Srli, Srai, Addiw, Slliw, Srliw, Sraiw, Add, Sub, Sll, Slt, Sltu, Xor, Srl, Sra, Or, And, Mul, Mulh, Mulhsu, Mulhu, Div, Divu, Rem, Remu, Addw, Subw, Sllw, Srlw, Sraw, Mulw, Divw, Divuw, Remw, Remuw, Fence, FenceI, Ecall, Ebreak}
use Rattle.machine_defs.specs.declared.alu.Alu.{Alu}
use Rattle.machine_defs.specs.declared.alu.Alu.TheVariants as alu
use Rattle.machine_defs.specs.declared.memory.MemFault.{MemFault}
use Rattle.machine_defs.specs.declared.memory.MemFault.TheVariants.{Range, WriteCode, RunData}
use Rattle.machine_defs.specs.declared.step.Step.{Step}
use Rattle.machine_defs.specs.declared.step.Step.TheVariants as step
use Rattle.machine_defs.specs.Alu.{bits_of, signed, value}
use Rattle.machine_defs.specs.Instruction.{cycles}
use Rattle.machine_defs.specs.Code.{instruction_at}
use Rattle.machine_defs.specs.Memory as memory
use Rattle.machine_defs.specs.Memory.{Memory}

-- the program counter, x0 to x31, memory, the cycles so far and the most that there may be
pub record Machine : Type 0 where
  pub pc : ℕ
  pub registers : List ℕ
  pub memory : Memory
  pub cycles : ℕ
  pub budget : ℕ

-- ---- registers and addresses, of 64 bits

-- x0 is always 0, and what is written to it is dropped
unfoldable pub register : Machine → ℕ → ℕ
register machine i = if i == 0 then 0 else slice_index machine.registers i

unfoldable pub with_register : Machine → ℕ → ℕ → Machine
with_register machine i n = if i == 0 then machine else (record machine { registers = slice_set machine.registers i n })

-- a sum of addresses wraps
unfoldable pub moved : ℕ → ℤ → ℕ
moved address offset = (address + bits_of w64 offset) % 2 ^ 64

unfoldable pub after : ℕ → ℕ → ℕ
after address length = (address + length) % 2 ^ 64

abbrev pub past_instruction : Machine → ℕ → Machine
past_instruction machine length = record machine { pc = after machine.pc length }

-- ---- what the kinds of instructions do

abbrev pub fault_number : MemFault → ℕ
fault_number Range = 1
fault_number WriteCode = 2
fault_number RunData = 3

-- a register is written, and the next instruction follows
abbrev pub write : Machine → ℕ → ℕ → ℕ → Step × Machine
write machine length rd n = (step.Went, past_instruction (with_register machine rd n) length)

abbrev pub operate : Machine → ℕ → Alu → ℕ → ℕ → ℕ → Step × Machine
operate machine length operation rd a b = write machine length rd (value operation a b)

-- an operation on two registers, and one on a register and an immediate
abbrev pub by_registers : Machine → ℕ → Alu → ℕ → ℕ → ℕ → Step × Machine
by_registers machine length operation rd rs1 rs2 =
    operate machine length operation rd (register machine rs1) (register machine rs2)

abbrev pub by_immediate : Machine → ℕ → Alu → ℕ → ℕ → ℤ → Step × Machine
by_immediate machine length operation rd rs1 imm =
    operate machine length operation rd (register machine rs1) (bits_of w64 imm)

-- The target is taken before the register is written, which may be the one that it came from.
abbrev pub jump : Machine → ℕ → ℕ → ℕ → Step × Machine
jump machine length rd target = (step.Went, record (with_register machine rd (after machine.pc length)) { pc = target })

abbrev pub branch : Machine → ℕ → Bool → ℤ → Step × Machine
branch machine length taken imm =
    (step.Went, if taken then (record machine { pc = moved machine.pc imm }) else past_instruction machine length)

-- the low bits of a number, as many as the width has, extended by their sign to 64, and by zeros
unfoldable pub extended_from : Width → ℕ → ℕ
extended_from width n = bits_of w64 (signed width (n % 2 ^ bits width))

abbrev pub zero_extended : ℕ → ℕ
zero_extended n = n

abbrev pub loaded : Machine → ℕ → ℕ → (ℕ → ℕ) → Result ℕ MemFault → Step × Machine
loaded machine length rd extend (Ok n) = write machine length rd (extend n)
loaded machine length rd extend (Err fault) = (step.Fault (fault_number fault), machine)

abbrev pub load : Machine → ℕ → ℕ → ℕ → ℤ → ℕ → (ℕ → ℕ) → Step × Machine
load machine length rd rs1 imm count extend =
    loaded machine length rd extend (memory.load machine.memory (moved (register machine rs1) imm) count)

abbrev pub stored : Machine → ℕ → Result Memory MemFault → Step × Machine
stored machine length (Ok memory) = (step.Went, past_instruction (record machine { memory = memory }) length)
stored machine length (Err fault) = (step.Fault (fault_number fault), machine)

abbrev pub store : Machine → ℕ → ℕ → ℕ → ℤ → ℕ → Step × Machine
store machine length rs1 rs2 imm count =
    stored machine length
    (memory.store machine.memory (moved (register machine rs1) imm) (memory.bytes_of count (register machine rs2)))

-- ---- instructions

unfoldable pub effect : Machine → ℕ → Ins → Step × Machine
effect machine length (Lui rd imm) = write machine length rd (bits_of w64 imm)
effect machine length (Auipc rd imm) = write machine length rd (moved machine.pc imm)
effect machine length (Jal rd imm) = jump machine length rd (moved machine.pc imm)
effect machine length (Jalr rd rs1 imm) = jump machine length rd (moved (register machine rs1) imm / 2 * 2)
effect machine length (Beq rs1 rs2 imm) = branch machine length (register machine rs1 == register machine rs2) imm
effect machine length (Bne rs1 rs2 imm) = branch machine length (not (register machine rs1 == register machine rs2)) imm
effect machine length (Blt rs1 rs2 imm) =
    branch machine length (int_lt (signed w64 (register machine rs1)) (signed w64 (register machine rs2))) imm
effect machine length (Bge rs1 rs2 imm) =
    branch machine length (not (int_lt (signed w64 (register machine rs1)) (signed w64 (register machine rs2)))) imm
effect machine length (Bltu rs1 rs2 imm) = branch machine length (nat_lt (register machine rs1) (register machine rs2)) imm
effect machine length (Bgeu rs1 rs2 imm) =
    branch machine length (not (nat_lt (register machine rs1) (register machine rs2))) imm
effect machine length (Lb rd rs1 imm) = load machine length rd rs1 imm 1 (extended_from w8)
effect machine length (Lh rd rs1 imm) = load machine length rd rs1 imm 2 (extended_from w16)
effect machine length (Lw rd rs1 imm) = load machine length rd rs1 imm 4 (extended_from w32)
effect machine length (Ld rd rs1 imm) = load machine length rd rs1 imm 8 zero_extended
effect machine length (Lbu rd rs1 imm) = load machine length rd rs1 imm 1 zero_extended
effect machine length (Lhu rd rs1 imm) = load machine length rd rs1 imm 2 zero_extended
effect machine length (Lwu rd rs1 imm) = load machine length rd rs1 imm 4 zero_extended
effect machine length (Sb rs1 rs2 imm) = store machine length rs1 rs2 imm 1
effect machine length (Sh rs1 rs2 imm) = store machine length rs1 rs2 imm 2
effect machine length (Sw rs1 rs2 imm) = store machine length rs1 rs2 imm 4
effect machine length (Sd rs1 rs2 imm) = store machine length rs1 rs2 imm 8
effect machine length (Addi rd rs1 imm) = by_immediate machine length alu.Add rd rs1 imm
effect machine length (Slti rd rs1 imm) = by_immediate machine length alu.Slt rd rs1 imm
effect machine length (Sltiu rd rs1 imm) = by_immediate machine length alu.Sltu rd rs1 imm
effect machine length (Xori rd rs1 imm) = by_immediate machine length alu.Xor rd rs1 imm
effect machine length (Ori rd rs1 imm) = by_immediate machine length alu.Or rd rs1 imm
effect machine length (Andi rd rs1 imm) = by_immediate machine length alu.And rd rs1 imm
effect machine length (Slli rd rs1 imm) = by_immediate machine length alu.Sll rd rs1 imm
effect machine length (Srli rd rs1 imm) = by_immediate machine length alu.Srl rd rs1 imm
effect machine length (Srai rd rs1 imm) = by_immediate machine length alu.Sra rd rs1 imm
effect machine length (Addiw rd rs1 imm) = by_immediate machine length alu.Addw rd rs1 imm
effect machine length (Slliw rd rs1 imm) = by_immediate machine length alu.Sllw rd rs1 imm
effect machine length (Srliw rd rs1 imm) = by_immediate machine length alu.Srlw rd rs1 imm
effect machine length (Sraiw rd rs1 imm) = by_immediate machine length alu.Sraw rd rs1 imm
effect machine length (Add rd rs1 rs2) = by_registers machine length alu.Add rd rs1 rs2
effect machine length (Sub rd rs1 rs2) = by_registers machine length alu.Sub rd rs1 rs2
effect machine length (Sll rd rs1 rs2) = by_registers machine length alu.Sll rd rs1 rs2
effect machine length (Slt rd rs1 rs2) = by_registers machine length alu.Slt rd rs1 rs2
effect machine length (Sltu rd rs1 rs2) = by_registers machine length alu.Sltu rd rs1 rs2
effect machine length (Xor rd rs1 rs2) = by_registers machine length alu.Xor rd rs1 rs2
effect machine length (Srl rd rs1 rs2) = by_registers machine length alu.Srl rd rs1 rs2
effect machine length (Sra rd rs1 rs2) = by_registers machine length alu.Sra rd rs1 rs2
effect machine length (Or rd rs1 rs2) = by_registers machine length alu.Or rd rs1 rs2
effect machine length (And rd rs1 rs2) = by_registers machine length alu.And rd rs1 rs2
effect machine length (Mul rd rs1 rs2) = by_registers machine length alu.Mul rd rs1 rs2
effect machine length (Mulh rd rs1 rs2) = by_registers machine length alu.Mulh rd rs1 rs2
effect machine length (Mulhsu rd rs1 rs2) = by_registers machine length alu.Mulhsu rd rs1 rs2
effect machine length (Mulhu rd rs1 rs2) = by_registers machine length alu.Mulhu rd rs1 rs2
effect machine length (Div rd rs1 rs2) = by_registers machine length alu.Div rd rs1 rs2
effect machine length (Divu rd rs1 rs2) = by_registers machine length alu.Divu rd rs1 rs2
effect machine length (Rem rd rs1 rs2) = by_registers machine length alu.Rem rd rs1 rs2
effect machine length (Remu rd rs1 rs2) = by_registers machine length alu.Remu rd rs1 rs2
effect machine length (Addw rd rs1 rs2) = by_registers machine length alu.Addw rd rs1 rs2
effect machine length (Subw rd rs1 rs2) = by_registers machine length alu.Subw rd rs1 rs2
effect machine length (Sllw rd rs1 rs2) = by_registers machine length alu.Sllw rd rs1 rs2
effect machine length (Srlw rd rs1 rs2) = by_registers machine length alu.Srlw rd rs1 rs2
effect machine length (Sraw rd rs1 rs2) = by_registers machine length alu.Sraw rd rs1 rs2
effect machine length (Mulw rd rs1 rs2) = by_registers machine length alu.Mulw rd rs1 rs2
effect machine length (Divw rd rs1 rs2) = by_registers machine length alu.Divw rd rs1 rs2
effect machine length (Divuw rd rs1 rs2) = by_registers machine length alu.Divuw rd rs1 rs2
effect machine length (Remw rd rs1 rs2) = by_registers machine length alu.Remw rd rs1 rs2
effect machine length (Remuw rd rs1 rs2) = by_registers machine length alu.Remuw rd rs1 rs2
effect machine length Fence = (step.Went, past_instruction machine length)
effect machine length FenceI = (step.Went, past_instruction machine length)
effect machine length Ecall = (step.Ecall, past_instruction machine length)
effect machine length Ebreak = (step.Went, past_instruction machine length)

-- ---- a step, in its order

-- The cost is added, the budget is looked at, and then the instruction has its effect.
abbrev pub charged : Machine → ℕ → Machine
charged machine cost = record machine { cycles = machine.cycles + cost }

abbrev pub is_spent : Machine → Bool
is_spent machine = nat_lt machine.budget machine.cycles

unfoldable pub execute : Machine → Option (Ins × ℕ) → Step × Machine
execute machine None = (step.Fault 4, machine)
execute machine (Some decoded) =
    let paid = charged machine (cycles decoded.0) in
    if is_spent paid then (step.Spent, paid) else effect paid decoded.1 decoded.0

abbrev pub with_instruction : Machine → Result (Option (Ins × ℕ)) MemFault → Step × Machine
with_instruction machine (Ok decoded) = execute machine decoded
with_instruction machine (Err fault) = (step.Fault (fault_number fault), machine)

-- An odd address holds no instruction.
unfoldable pub step_of : Machine → Step × Machine
step_of machine =
    if machine.pc % 2 == 1 then (step.Fault 4, machine)
    else with_instruction machine (instruction_at machine.memory machine.pc)
