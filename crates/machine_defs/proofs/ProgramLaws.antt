-- A run goes step by step, within its budget.
use Rattle.std.proofs.Common.{◌≡◌, ◌≢◌, ℕ, zero, suc, ◌+◌, ◌-◌, ◌%◌, ◌<◌, ◌≤◌, ◌==◌, Bool, true, false, cond, ℤ, Option, Some, None, Result, Ok, Err, refl, ap, ◌∙◌, lit≤, arith}
use Rattle.std.proofs.lemmas.Bool.Decides.{nat_tests}
use Rattle.machine_defs.specs.declared.ins.Ins.{Ins}
use Rattle.machine_defs.specs.declared.ins.Ins.TheVariants.{Jal, Jalr, Beq, Bne, Blt, Bge, Bltu, Bgeu, Lb, Lh, Lw, Ld, Lbu, Lhu, Lwu, Sb, Sh, Sw, Sd, Fence, FenceI, Ecall, Ebreak}
use Rattle.machine_defs.specs.declared.memory.MemFault.{MemFault}
use Rattle.machine_defs.specs.declared.outcome.Outcome.{Outcome}
use Rattle.machine_defs.specs.declared.step.Step.{Step}
use Rattle.machine_defs.specs.declared.step.Step.TheVariants as step
use Rattle.machine_defs.specs.Instruction.{cycles}
use Rattle.machine_defs.specs.Memory.{Memory}
use Rattle.machine_defs.specs.Code.{instruction_at}
use Rattle.machine_defs.specs.Step.{Machine, with_register, write, jump, branch, loaded, stored, effect, execute, with_instruction, step_of, charged, is_spent}
use Rattle.machine_defs.specs.Program.{Answer, answered, advance, followed, stop_within, stop_of, ended_or, run_for, run, Ended, KeepsAccount, StepHasMemory, StepKeepsAccount, GoesOnWithinBudget, HasStepsEnough, RunsStepByStep, RunsStopByStop, StopsStepByStep}
use Rattle.machine_defs.specs.Alone.{answer_ecall, syscall_number}

-- ---- no instruction touches the account

pub record SameAccount (old new : Machine) : Type 0 where
  pub cycles : new.cycles ≡ old.cycles
  pub budget : new.budget ≡ old.budget

chosen : (b : Bool) (old one other : Machine) → SameAccount old one → SameAccount old other → SameAccount old (cond b one other)
chosen true old one other keeps keeps' = keeps
chosen false old one other keeps keeps' = keeps'

with_register-keeps : (machine : Machine) (i n : ℕ) → SameAccount machine (with_register machine i n)
unfolding with_register
with_register-keeps machine i n =
    chosen (i == 0) machine machine _ (record { cycles = refl; budget = refl }) (record { cycles = refl; budget = refl })

write-keeps : (machine : Machine) (length rd n : ℕ) → SameAccount machine (write machine length rd n).1
write-keeps machine length rd n =
    let keeps = with_register-keeps machine rd n in record { cycles = keeps.cycles; budget = keeps.budget }

jump-keeps : (machine : Machine) (length rd target : ℕ) → SameAccount machine (jump machine length rd target).1
jump-keeps machine length rd target =
    let keeps = with_register-keeps machine rd _ in record { cycles = keeps.cycles; budget = keeps.budget }

branch-keeps : (machine : Machine) (length : ℕ) (taken : Bool) (imm : ℤ) → SameAccount machine (branch machine length taken imm).1
branch-keeps machine length taken imm =
    chosen taken machine _ _ (record { cycles = refl; budget = refl }) (record { cycles = refl; budget = refl })

loaded-keeps : (machine : Machine) (length rd : ℕ) (extend : ℕ → ℕ) (result : Result ℕ MemFault)
    → SameAccount machine (loaded machine length rd extend result).1
loaded-keeps machine length rd extend (Ok n) = write-keeps machine length rd (extend n)
loaded-keeps machine length rd extend (Err fault) = record { cycles = refl; budget = refl }

stored-keeps : (machine : Machine) (length : ℕ) (result : Result Memory MemFault)
    → SameAccount machine (stored machine length result).1
stored-keeps machine length (Ok memory) = record { cycles = refl; budget = refl }
stored-keeps machine length (Err fault) = record { cycles = refl; budget = refl }

effect-keeps : (machine : Machine) (length : ℕ) (ins : Ins) → SameAccount machine (effect machine length ins).1
unfolding effect
effect-keeps machine length (Jal rd imm) = jump-keeps machine length rd _
effect-keeps machine length (Jalr rd rs1 imm) = jump-keeps machine length rd _
effect-keeps machine length (Beq rs1 rs2 imm) = branch-keeps machine length _ imm
effect-keeps machine length (Bne rs1 rs2 imm) = branch-keeps machine length _ imm
effect-keeps machine length (Blt rs1 rs2 imm) = branch-keeps machine length _ imm
effect-keeps machine length (Bge rs1 rs2 imm) = branch-keeps machine length _ imm
effect-keeps machine length (Bltu rs1 rs2 imm) = branch-keeps machine length _ imm
effect-keeps machine length (Bgeu rs1 rs2 imm) = branch-keeps machine length _ imm
effect-keeps machine length (Lb rd rs1 imm) = loaded-keeps machine length rd _ _
effect-keeps machine length (Lh rd rs1 imm) = loaded-keeps machine length rd _ _
effect-keeps machine length (Lw rd rs1 imm) = loaded-keeps machine length rd _ _
effect-keeps machine length (Ld rd rs1 imm) = loaded-keeps machine length rd _ _
effect-keeps machine length (Lbu rd rs1 imm) = loaded-keeps machine length rd _ _
effect-keeps machine length (Lhu rd rs1 imm) = loaded-keeps machine length rd _ _
effect-keeps machine length (Lwu rd rs1 imm) = loaded-keeps machine length rd _ _
effect-keeps machine length (Sb rs1 rs2 imm) = stored-keeps machine length _
effect-keeps machine length (Sh rs1 rs2 imm) = stored-keeps machine length _
effect-keeps machine length (Sw rs1 rs2 imm) = stored-keeps machine length _
effect-keeps machine length (Sd rs1 rs2 imm) = stored-keeps machine length _
effect-keeps machine length Fence = record { cycles = refl; budget = refl }
effect-keeps machine length FenceI = record { cycles = refl; budget = refl }
effect-keeps machine length Ecall = record { cycles = refl; budget = refl }
effect-keeps machine length Ebreak = record { cycles = refl; budget = refl }
effect-keeps machine length _ = write-keeps machine length _ _

-- ---- a step

cost-positive : (ins : Ins) → 1 ≤ cycles ins
cost-positive (Ld rd rs1 imm) = lit≤ tt
cost-positive _ = lit≤ tt

-- the step ran an instruction to its end
abbrev pub WasRun : Step → Type 0
WasRun step.Went = Unit {0}
WasRun step.Ecall = Unit {0}
WasRun (step.Fault number) = ⊥
WasRun step.Spent = ⊥
WasRun step.NoMemory = ⊥

-- the account after a step: of any, and of one that was run
pub record Pays (machine : Machine) (result : Step) (next : Machine) : Type 0 where
  pub cycles : machine.cycles ≤ next.cycles
  pub budget : next.budget ≡ machine.budget
  pub rose : WasRun result → machine.cycles < next.cycles
  pub within : WasRun result → next.cycles ≤ next.budget

stopped-pays : (machine : Machine) (result : Step) → (WasRun result → ⊥) → Pays machine result machine
stopped-pays machine result stopped = record {
  cycles = omega arith;
  budget = refl;
  rose = λ was. absurd (stopped was);
  within = λ was. absurd (stopped was);
}

paid-pays : (machine : Machine) (length : ℕ) (ins : Ins) (spent : Bool) → is_spent (charged machine (cycles ins)) ≡ spent
    → let next = cond spent (step.Spent, charged machine (cycles ins)) (effect (charged machine (cycles ins)) length ins) in
    Pays machine next.0 next.1
paid-pays machine length ins true is-spent = record {
  cycles = omega arith;
  budget = refl;
  rose = λ was. absurd was;
  within = λ was. absurd was;
}
paid-pays machine length ins false within =
    let keeps = effect-keeps (charged machine (cycles ins)) length ins in
    let cost = cost-positive ins in
    let inside : machine.cycles + cycles ins ≤ machine.budget = grind (arith, nat_tests) in
    record {
      cycles = omega (arith, keeps.cycles);
      budget = keeps.budget;
      rose = λ was. omega (arith, keeps.cycles, cost);
      within = λ was. omega (arith, keeps.cycles, keeps.budget, inside);
    }

execute-pays : (machine : Machine) (decoded : Option (Ins × ℕ)) → let next = execute machine decoded in Pays machine next.0 next.1
unfolding execute
execute-pays machine None = stopped-pays machine (step.Fault 4) (λ was. was)
execute-pays machine (Some decoded) = paid-pays machine decoded.1 decoded.0 _ refl

with_instruction-pays : (machine : Machine) (found : Result (Option (Ins × ℕ)) MemFault)
    → let next = with_instruction machine found in Pays machine next.0 next.1
with_instruction-pays machine (Ok decoded) = execute-pays machine decoded
with_instruction-pays machine (Err fault) = stopped-pays machine (step.Fault _) (λ was. was)

even-pays : (machine : Machine) (odd : Bool)
    → let next = cond odd (step.Fault 4, machine) (with_instruction machine (instruction_at machine.memory machine.pc)) in Pays machine next.0 next.1
even-pays machine true = stopped-pays machine (step.Fault 4) (λ was. was)
even-pays machine false = with_instruction-pays machine (instruction_at machine.memory machine.pc)

pub step-pays : (machine : Machine) → let next = step_of machine in Pays machine next.0 next.1
unfolding step_of
step-pays machine = even-pays machine (machine.pc % 2 == 1)

pub step-keeps-account : StepKeepsAccount
step-keeps-account machine = let pays = step-pays machine in (pays.cycles, pays.budget)

-- ---- no step is out of memory

loaded-has-memory : (machine : Machine) (length rd : ℕ) (extend : ℕ → ℕ) (result : Result ℕ MemFault)
    → (loaded machine length rd extend result).0 ≢ step.NoMemory
loaded-has-memory machine length rd extend (Ok n) none = cc
loaded-has-memory machine length rd extend (Err fault) none = cc

stored-has-memory : (machine : Machine) (length : ℕ) (result : Result Memory MemFault)
    → (stored machine length result).0 ≢ step.NoMemory
stored-has-memory machine length (Ok memory) none = cc
stored-has-memory machine length (Err fault) none = cc

effect-has-memory : (machine : Machine) (length : ℕ) (ins : Ins) → (effect machine length ins).0 ≢ step.NoMemory
unfolding effect
effect-has-memory machine length (Lb rd rs1 imm) = loaded-has-memory machine length rd _ _
effect-has-memory machine length (Lh rd rs1 imm) = loaded-has-memory machine length rd _ _
effect-has-memory machine length (Lw rd rs1 imm) = loaded-has-memory machine length rd _ _
effect-has-memory machine length (Ld rd rs1 imm) = loaded-has-memory machine length rd _ _
effect-has-memory machine length (Lbu rd rs1 imm) = loaded-has-memory machine length rd _ _
effect-has-memory machine length (Lhu rd rs1 imm) = loaded-has-memory machine length rd _ _
effect-has-memory machine length (Lwu rd rs1 imm) = loaded-has-memory machine length rd _ _
effect-has-memory machine length (Sb rs1 rs2 imm) = stored-has-memory machine length _
effect-has-memory machine length (Sh rs1 rs2 imm) = stored-has-memory machine length _
effect-has-memory machine length (Sw rs1 rs2 imm) = stored-has-memory machine length _
effect-has-memory machine length (Sd rs1 rs2 imm) = stored-has-memory machine length _
effect-has-memory machine length Ecall = λ none. cc
effect-has-memory machine length _ = λ none. cc

paid-has-memory : (machine : Machine) (length : ℕ) (ins : Ins) (spent : Bool)
    → (cond spent (step.Spent, charged machine (cycles ins)) (effect (charged machine (cycles ins)) length ins)).0 ≢ step.NoMemory
paid-has-memory machine length ins true none = cc
paid-has-memory machine length ins false none = effect-has-memory (charged machine (cycles ins)) length ins none

execute-has-memory : (machine : Machine) (decoded : Option (Ins × ℕ)) → (execute machine decoded).0 ≢ step.NoMemory
unfolding execute
execute-has-memory machine None none = cc
execute-has-memory machine (Some decoded) none = paid-has-memory machine decoded.1 decoded.0 _ none

found-has-memory : (machine : Machine) (found : Result (Option (Ins × ℕ)) MemFault) → (with_instruction machine found).0 ≢ step.NoMemory
found-has-memory machine (Ok decoded) none = execute-has-memory machine decoded none
found-has-memory machine (Err fault) none = cc

even-has-memory : (machine : Machine) (odd : Bool)
    → (cond odd (step.Fault 4, machine) (with_instruction machine (instruction_at machine.memory machine.pc))).0 ≢ step.NoMemory
even-has-memory machine true none = cc
even-has-memory machine false none = found-has-memory machine (instruction_at machine.memory machine.pc) none

pub step-has-memory : StepHasMemory
unfolding step_of
step-has-memory machine = even-has-memory machine (machine.pc % 2 == 1)

-- ---- a step that is answered, after which the program goes on

-- what such a step says of the machine before and after
abbrev pub GoesOn : Machine → Option Outcome × Machine → Type 0
GoesOn machine next = next.0 ≡ None
    → (machine.cycles < next.1.cycles) × (next.1.cycles ≤ next.1.budget) × (next.1.budget ≡ machine.budget)

answered-goes-on : (answer : Answer) → KeepsAccount answer → (machine : Machine) (result : Step) (next : Machine) → Pays machine result next
    → GoesOn machine (answered answer result next)
answered-goes-on answer keeps machine step.Went next pays none = (pays.rose tt, pays.within tt, pays.budget)
answered-goes-on answer keeps machine step.Ecall next pays none =
    let within = keeps.within next (pays.within tt) none in
    let budget = keeps.budget next in
    (omega (arith, pays.rose tt, keeps.cycles next), omega (arith, within, budget), budget ∙ pays.budget)
answered-goes-on answer keeps machine (step.Fault number) next pays none = cc
answered-goes-on answer keeps machine step.Spent next pays none = cc
answered-goes-on answer keeps machine step.NoMemory next pays none = cc

pub goes-on-within-budget : (answer : Answer) → KeepsAccount answer → GoesOnWithinBudget answer
goes-on-within-budget answer keeps machine =
    let next = step_of machine in answered-goes-on answer keeps machine next.0 next.1 (step-pays machine)

-- ---- a run, step by step

ended_or-same : (one other : Machine → Ended) (outcome : Option Outcome) (machine : Machine)
    → (outcome ≡ None → one machine ≡ other machine) → ended_or one outcome machine ≡ ended_or other outcome machine
ended_or-same one other (Some outcome) machine same = refl
ended_or-same one other None machine same = same refl

-- more steps than enough give the same
pub enough : (answer : Answer) → KeepsAccount answer → (n m : ℕ) (machine : Machine) → machine.budget - machine.cycles < n
    → machine.budget - machine.cycles < m → run_for answer n machine ≡ run_for answer m machine
unfolding run_for
enough answer keeps zero m machine first second = absurd (omega arith)
enough answer keeps (suc n) zero machine first second = absurd (omega arith)
enough answer keeps (suc n) (suc m) machine first second =
    let next = advance answer machine in
    ended_or-same (run_for answer n) (run_for answer m) next.0 next.1 (λ none.
    let within = goes-on-within-budget answer keeps machine none in
    enough answer keeps n m next.1 (omega (arith, within.0, within.1, within.2)) (omega (arith, within.0, within.1, within.2)))

pub has-steps-enough : (answer : Answer) → KeepsAccount answer → HasStepsEnough answer
has-steps-enough answer keeps steps machine h =
    enough answer keeps steps (suc (machine.budget - machine.cycles)) machine h (omega arith)

pub runs-step-by-step : (answer : Answer) → KeepsAccount answer → RunsStepByStep answer
unfolding run_for
runs-step-by-step answer keeps machine =
    let next = advance answer machine in
    ended_or-same (run_for answer (machine.budget - machine.cycles)) (run answer) next.0 next.1 (λ none.
    let within = goes-on-within-budget answer keeps machine none in
    enough answer keeps (machine.budget - machine.cycles) (suc (next.1.budget - next.1.cycles)) next.1
    (omega (arith, within.0, within.1, within.2)) (omega arith))

-- ---- a run, stop by stop

followed-same : (one other : Machine → Step × Machine) (result : Step) (machine : Machine)
    → (result ≡ step.Went → one machine ≡ other machine) → followed one result machine ≡ followed other result machine
followed-same one other step.Went machine same = same refl
followed-same one other step.Ecall machine same = refl
followed-same one other (step.Fault number) machine same = refl
followed-same one other step.Spent machine same = refl
followed-same one other step.NoMemory machine same = refl

-- a step that went leaves fewer cycles
pub went-left : (machine : Machine) (result : Step) (next : Machine) (n : ℕ) → Pays machine result next → result ≡ step.Went
    → machine.budget - machine.cycles < suc n → next.budget - next.cycles < n
went-left machine result next n pays went h =
    let was : WasRun result = rw went tt in
    let rose = pays.rose was in
    let within = pays.within was in
    omega (arith, rose, within, pays.budget, h)

enough-to-stop : (n m : ℕ) (machine : Machine) → machine.budget - machine.cycles < n → machine.budget - machine.cycles < m
    → stop_within n machine ≡ stop_within m machine
unfolding stop_within
enough-to-stop zero m machine first second = absurd (omega arith)
enough-to-stop (suc n) zero machine first second = absurd (omega arith)
enough-to-stop (suc n) (suc m) machine first second =
    let next = step_of machine in
    let pays = step-pays machine in
    followed-same (stop_within n) (stop_within m) next.0 next.1 (λ went.
    enough-to-stop n m next.1 (went-left machine next.0 next.1 n pays went first) (went-left machine next.0 next.1 m pays went second))

pub stops-step-by-step : StopsStepByStep
unfolding stop_within
stops-step-by-step machine =
    let next = step_of machine in
    let pays = step-pays machine in
    followed-same (stop_within (machine.budget - machine.cycles)) stop_of next.0 next.1 (λ went.
    enough-to-stop (machine.budget - machine.cycles) (suc (next.1.budget - next.1.cycles)) next.1
    (went-left machine next.0 next.1 _ pays went (omega arith)) (omega arith))

-- what comes of a stop, and the run from there
abbrev resumed : Answer → Step × Machine → Ended
resumed answer stop = let next = answered answer stop.0 stop.1 in ended_or (run answer) next.0 next.1

followed-resumes : (answer : Answer) (stop : Machine → Step × Machine) (result : Step) (machine : Machine)
    → (result ≡ step.Went → run answer machine ≡ resumed answer (stop machine))
    → resumed answer (result, machine) ≡ resumed answer (followed stop result machine)
followed-resumes answer stop step.Went machine same = same refl
followed-resumes answer stop step.Ecall machine same = refl
followed-resumes answer stop (step.Fault number) machine same = refl
followed-resumes answer stop step.Spent machine same = refl
followed-resumes answer stop step.NoMemory machine same = refl

stop-resumes : (answer : Answer) → KeepsAccount answer → (n : ℕ) (machine : Machine) → machine.budget - machine.cycles < n
    → run answer machine ≡ resumed answer (stop_within n machine)
unfolding stop_within
stop-resumes answer keeps zero machine h = absurd (omega arith)
stop-resumes answer keeps (suc n) machine h =
    let next = step_of machine in
    runs-step-by-step answer keeps machine
    ∙ followed-resumes answer (stop_within n) next.0 next.1 (λ went.
    stop-resumes answer keeps n next.1 (went-left machine next.0 next.1 n (step-pays machine) went h))

pub runs-stop-by-stop : (answer : Answer) → KeepsAccount answer → RunsStopByStop answer
runs-stop-by-stop answer keeps machine = stop-resumes answer keeps (suc (machine.budget - machine.cycles)) machine (omega arith)

-- ---- a stop that is answered, after which the program goes on

went-pays : (machine next : Machine) (stop : Step × Machine) → Pays machine step.Went next → Pays next stop.0 stop.1 → Pays machine stop.0 stop.1
went-pays machine next stop first later =
    let rose = first.rose tt in
    record {
      cycles = omega (arith, first.cycles, later.cycles);
      budget = later.budget ∙ first.budget;
      rose = λ was. omega (arith, rose, later.cycles);
      within = later.within;
    }

followed-pays : (stop : Machine → Step × Machine) (machine : Machine) (result : Step) (next : Machine) → Pays machine result next
    → (result ≡ step.Went → Pays next (stop next).0 (stop next).1)
    → let last = followed stop result next in Pays machine last.0 last.1
followed-pays stop machine step.Went next pays later = went-pays machine next (stop next) pays (later refl)
followed-pays stop machine step.Ecall next pays later = pays
followed-pays stop machine (step.Fault number) next pays later = pays
followed-pays stop machine step.Spent next pays later = pays
followed-pays stop machine step.NoMemory next pays later = pays

stop-within-pays : (n : ℕ) (machine : Machine) → machine.budget - machine.cycles < n
    → let last = stop_within n machine in Pays machine last.0 last.1
unfolding stop_within
stop-within-pays zero machine h = absurd (omega arith)
stop-within-pays (suc n) machine h =
    let next = step_of machine in
    let pays = step-pays machine in
    followed-pays (stop_within n) machine next.0 next.1 pays (λ went. stop-within-pays n next.1 (went-left machine next.0 next.1 n pays went h))

pub stop-goes-on : (answer : Answer) → KeepsAccount answer → (machine : Machine)
    → let stop = stop_of machine in GoesOn machine (answered answer stop.0 stop.1)
stop-goes-on answer keeps machine =
    let stop = stop_of machine in
    answered-goes-on answer keeps machine stop.0 stop.1 (stop-within-pays (suc (machine.budget - machine.cycles)) machine (omega arith))

-- ---- the answer of a program that runs alone

chosen-keeps : (b : Bool) (machine : Machine) (one other : Option Outcome × Machine) → one.1 ≡ machine → other.1 ≡ machine
    → (cond b one other).1 ≡ machine
chosen-keeps true machine one other is is' = is
chosen-keeps false machine one other is is' = is'

answer_ecall-same : (machine : Machine) → (answer_ecall machine).1 ≡ machine
answer_ecall-same machine =
    chosen-keeps (syscall_number machine == 93) machine _ _ refl (chosen-keeps (syscall_number machine == 2177) machine _ _ refl refl)

pub answer_ecall-keeps : KeepsAccount answer_ecall
answer_ecall-keeps = record {
  budget = λ machine. ap (λ (m : Machine). m.budget) (answer_ecall-same machine);
  cycles = λ machine. rw (answer_ecall-same machine) (omega arith);
  within = λ machine within none. rw (answer_ecall-same machine) within;
}
