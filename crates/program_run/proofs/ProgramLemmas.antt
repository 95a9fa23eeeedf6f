-- The cost of loading, and a program that runs alone.
use Rattle.std.proofs.Common.{◌≡◌, ℕ, ◌+◌, ◌<◌, ◌≤◌, true, false, List, inl, inr, refl, ap, ◌∙◌, subst, arith}
use Rattle.std.proofs.Math.Path.{fun_ext}
use Rattle.std.specs.Prelude.{Option, Some, None, Result, Ok, Err, IfOk, OnErr, nat_lt}
use Rattle.std.proofs.lemmas.Bool.Decides.{nat_tests}
use Rattle.outside.specs.Causes.{CountsFault, Rose}
use Rattle.outside.specs.declared.disk.Damage.{Damage}
use Rattle.outside.specs.declared.disk.ReadStop.{ReadStop}
use Rattle.outside.specs.declared.disk.ReadStop.TheVariants as read_stop
use Rattle.machine_defs.specs.declared.outcome.Outcome.TheVariants.{Spent}
use Rattle.machine_defs.specs.Alone.{answer_ecall, syscall_number}
use Rattle.machine_defs.specs.Elf.{Program, Segment, load_elf, segments}
use Rattle.machine_defs.specs.Memory.{Memory}
use Rattle.machine_defs.specs.Step.{Machine, charged, step_of}
use Rattle.machine_defs.specs.Program.{Answer, Ended, execution, loading_cycles, new_machine, run, run_loaded}
use Rattle.machine_defs.specs.SyscallTable as table
use Rattle.machine_defs.specs.SyscallTable.{action_of}
use Rattle.machine_defs.specs.World.{Items, nothing}
use Rattle.machine_defs.specs.Answer.{syscall}
use Rattle.machine_defs.proofs.AloneLaws.{runs-alone}
use Rattle.vm_mem.specs.Pages.{IsAllocated}
use Rattle.vm_step.specs.Running.{RunningMachine}
use Rattle.elf_load.specs.Placing.{HoldsBytes}
use Rattle.vm_sys.specs.Running.{LoadsBy, RunWants, RunWantsPage}
use Rattle.vm_sys.proofs.RunLemmas.{wants-beyond}
use Rattle.program_run.specs.declared.program.Execution.{Execution}
use Rattle.program_run.specs.declared.program.Execution.TheVariants as executions
use Rattle.program_run.specs.declared.program.Started.TheVariants as started
use Rattle.program_run.specs.declared.program.Stopped.{Stopped}
use Rattle.program_run.specs.declared.program.Stopped.TheVariants.{Loading, Running}
use Rattle.program_run.specs.Program.{IsJudged, IsReady, IsStarted, KeepsBudget, PaysForLoading, ProgramWants, ProgramWantsPage, execution_of}

-- ---- the cost of loading

-- the loading alone spends the budget
pub spent-loading : (answer : Answer) (budget : ℕ) (file : List ℕ) (program : Program) (cost : ℕ) → Ok program ≡ load_elf file
    → cost ≡ loading_cycles program.file_bytes → budget < cost → Ok (Spent, cost) ≡ execution answer budget file
unfolding execution new_machine
spent-loading answer budget file program cost held is more =
    let sum : 0 + loading_cycles program.file_bytes ≡ cost = omega (arith, is) in
    let spent : nat_lt budget cost ≡ true = grind (arith, nat_tests, more) in
    rw (← held, sum, spent) refl

pub start-budget : (memory : Memory) (pc budget cost : ℕ) → (charged (new_machine memory pc budget) cost).budget ≡ budget
unfolding new_machine
start-budget memory pc budget cost = refl

-- the loading is within the budget, and the run follows
pub ran-loaded : (answer : Answer) (budget : ℕ) (program : Program) (cost : ℕ) (ended : Ended) → cost ≡ loading_cycles program.file_bytes → cost ≤ budget
    → ended ≡ run answer (charged (new_machine program.memory program.pc budget) cost) → ended ≡ run_loaded answer budget program
unfolding new_machine
ran-loaded answer budget program cost ended is within ran =
    let start = new_machine program.memory program.pc budget in
    let paid : nat_lt budget (0 + loading_cycles program.file_bytes) ≡ false = grind (arith, nat_tests, is, within) in
    rw paid (ran ∙ ap (λ (n : ℕ). run answer (charged start n)) is)

-- ---- what a file begins as

-- a file that begins as a machine holds the program of that machine
ready-program : (budget : ℕ) (segs : List Segment) (loaded : Result Program ℕ) (ready : RunningMachine)
    → IsStarted budget segs loaded (started.Ready ready) → (program : Program) × (loaded ≡ Ok program) × IsReady budget segs program ready
ready-program budget segs (Ok program) ready is = (program, refl, is)
ready-program budget segs (Err condition) ready is = absurd is

ready-execution : (answer : Answer) (budget : ℕ) (file : List ℕ) (ready : RunningMachine)
    → IsStarted budget (segments file) (load_elf file) (started.Ready ready) → Ok (run answer ready.machine) ≡ execution answer budget file
unfolding execution
ready-execution answer budget file ready is =
    let found = ready-program budget (segments file) (load_elf file) ready is in
    let ran : run answer ready.machine ≡ run_loaded answer budget found.0 =
    ran-loaded answer budget found.0 (loading_cycles found.0.file_bytes) (run answer ready.machine) refl found.2.paid
    (ap (run answer) found.2.machine) in
    rw (found.1) (ap Ok ran)

pub ready-came : (answer : Answer) (budget : ℕ) (file : List ℕ) (ready : RunningMachine)
    → IsStarted budget (segments file) (load_elf file) (started.Ready ready) → (result : Result Execution Stopped)
    → IfOk result (λ came. execution_of came ≡ Ok (run answer ready.machine))
    → IfOk result (λ came. execution_of came ≡ execution answer budget file)
ready-came answer budget file ready is (Ok came) ran = ran ∙ ready-execution answer budget file ready is
ready-came answer budget file ready is (Err stop) ran = tt

pub ready-judged : (budget : ℕ) (segs : List Segment) (loaded : Result Program ℕ) (ready : RunningMachine)
    → IsStarted budget segs loaded (started.Ready ready) → (result : Result Execution Stopped)
    → ((program : Program) → IfOk result (IsJudged (Ok program))) → IfOk result (IsJudged loaded)
ready-judged budget segs (Ok program) ready is result judged = judged program
ready-judged budget segs (Err condition) ready is result judged = absurd is

pub ready-within : (budget : ℕ) (segs : List Segment) (loaded : Result Program ℕ) (ready : RunningMachine)
    → IsStarted budget segs loaded (started.Ready ready) → (result : Result Execution Stopped)
    → IfOk result (KeepsBudget ready.machine.budget) → IfOk result (KeepsBudget budget)
ready-within budget segs (Ok program) ready is result within =
    let same : ready.machine.budget ≡ budget =
    ap (λ (machine : Machine). machine.budget) is.machine ∙ start-budget program.memory program.pc budget (loading_cycles program.file_bytes) in
    subst (λ (most : ℕ). IfOk result (KeepsBudget most)) same within
ready-within budget segs (Err condition) ready is result within = absurd is

pub ready-paid : (budget : ℕ) (segs : List Segment) (loaded : Result Program ℕ) (ready : RunningMachine)
    → IsStarted budget segs loaded (started.Ready ready) → PaysForLoading budget loaded
ready-paid budget segs (Ok program) ready is = is.paid
ready-paid budget segs (Err condition) ready is = absurd is

pub ready-wants : (items : Items) (budget : ℕ) (segs : List Segment) (loaded : Result Program ℕ) (ready : RunningMachine)
    → IsStarted budget segs loaded (started.Ready ready) → RunWants items (IsAllocated ready.allocated) ready.machine
    → ProgramWants items budget segs loaded
ready-wants items budget segs (Ok program) ready is wants =
    subst (RunWants items (λ page. HoldsBytes page segs)) is.machine
    (wants-beyond items (IsAllocated ready.allocated) (λ page. HoldsBytes page segs) ready.machine is.allocated wants)
ready-wants items budget segs (Err condition) ready is wants = absurd is

pub spent-came : (answer : Answer) (budget : ℕ) (file : List ℕ) (loaded : Result Program ℕ) (cycles : ℕ) → loaded ≡ load_elf file
    → IsStarted budget (segments file) loaded (started.Spent cycles) → Ok (Spent, cycles) ≡ execution answer budget file
spent-came answer budget file (Ok program) cycles held is = spent-loading answer budget file program cycles held is.0 is.1
spent-came answer budget file (Err condition) cycles held is = absurd is

pub spent-judged : (budget : ℕ) (segs : List Segment) (loaded : Result Program ℕ) (cycles : ℕ)
    → IsStarted budget segs loaded (started.Spent cycles) → IsJudged loaded (executions.Ended Spent cycles)
spent-judged budget segs (Ok program) cycles is = tt
spent-judged budget segs (Err condition) cycles is = absurd is

pub bad-elf-came : (answer : Answer) (budget : ℕ) (file : List ℕ) (loaded : Result Program ℕ) (condition : ℕ) → loaded ≡ load_elf file
    → IsStarted budget (segments file) loaded (started.BadElf condition) → Err condition ≡ execution answer budget file
unfolding execution
bad-elf-came answer budget file (Ok program) condition held is = absurd is
bad-elf-came answer budget file (Err expected) condition held is = rw (← held, is) refl

pub bad-elf-judged : (budget : ℕ) (segs : List Segment) (loaded : Result Program ℕ) (condition : ℕ)
    → IsStarted budget segs loaded (started.BadElf condition) → IsJudged loaded (executions.BadElf condition)
bad-elf-judged budget segs (Ok program) condition is = absurd is
bad-elf-judged budget segs (Err expected) condition is = is

pub on-err : {A B P : Type 0} (result : Result A B) → P → OnErr result P
on-err (Ok value) holds = tt
on-err (Err stop) holds = holds

-- ---- what a program did not end with

abbrev ended : Stopped → Result Execution Stopped
ended stop = Err stop

abbrev stopped : (T : Type 0) → ReadStop → Result T ReadStop
stopped T stop = Err stop

pub no-error : {A B : Type 0} (value : A) (stop : B) → Ok value ≡ Err stop → ⊥
no-error value stop is = absurd cc

pub not-running : (stop : ReadStop) → ended Loading ≡ ended (Running stop) → ⊥
not-running stop is = absurd cc

pub not-loading : (stop : ReadStop) → ended (Running stop) ≡ ended Loading → ⊥
not-loading stop is = absurd cc

pub same-stop : {T : Type 0} (stop other : ReadStop) → ended (Running stop) ≡ ended (Running other) → stopped T stop ≡ stopped T other
same-stop {T} stop other is = let same : stop ≡ other = cc in ap (stopped T) same

pub same-running : {T : Type 0} (stop other : ReadStop) → stopped T stop ≡ stopped T other → ended (Running stop) ≡ ended (Running other)
same-running stop other is = let same : stop ≡ other = cc in ap (λ (it : ReadStop). ended (Running it)) same

-- a count of faults that stood still, and one that goes by the run's
pub counts-none : (faults : ℕ) (Fault : Type 0) → (Fault → ⊥) → CountsFault faults faults Fault
counts-none faults Fault never = record { later = omega arith; rose = λ fault. absurd (never fault); unchanged = λ none. refl }

pub counts-as : {before now : ℕ} {Fault Other : Type 0} → (Fault → Other) → (Other → Fault) → CountsFault before now Fault → CountsFault before now Other
counts-as to from counts = record {
  later = counts.later;
  rose = λ other. counts.rose (from other);
  unchanged = λ none. counts.unchanged (λ fault. none (to fault));
}

-- ---- a program that runs alone

pub is-alone : syscall nothing ≡ answer_ecall
is-alone = fun_ext runs-alone

-- no syscall loads where nothing is shown
loads-nothing : (machine : Machine) (deed : Option table.Action) → LoadsBy nothing machine deed → ⊥
loads-nothing machine (Some table.Loads) loads = loads refl
loads-nothing machine (Some table.LoadsField) loads = loads refl
loads-nothing machine (Some table.LoadsCode) loads = loads refl
loads-nothing machine (Some table.Exits) loads = loads
loads-nothing machine (Some table.Debugs) loads = loads
loads-nothing machine None loads = loads

wants-alone : (HasMemory : ℕ → Type 0) (start : Machine) → RunWants nothing HasMemory start → RunWantsPage answer_ecall HasMemory start
wants-alone HasMemory start wants = elim wants [
  | inl page ↦ subst (λ (answer : Answer). RunWantsPage answer HasMemory start) is-alone page
  | inr loads ↦ absurd (loads-nothing (step_of loads.reached).1 (action_of (syscall_number (step_of loads.reached).1)) loads.item)
]

pub program-wants-alone : (budget : ℕ) (segments : List Segment) (program : Result Program ℕ) → ProgramWants nothing budget segments program
    → ProgramWantsPage budget segments program
program-wants-alone budget segments (Ok program) wants =
    wants-alone (λ page. HoldsBytes page segments)
    (charged (new_machine program.memory program.pc budget) (loading_cycles program.file_bytes)) wants
program-wants-alone budget segments (Err condition) wants = wants

never-rose : Rose 0 0 → ⊥
never-rose rose = omega (arith, rose)

-- it is stopped for want of memory alone
pub stopped-alone : (result : Result Execution Stopped) (stop : ReadStop) (Wants : Type 0) → result ≡ Err (Running stop)
    → (result ≡ Err (Running read_stop.NoMemory) → Wants) → CountsFault 0 0 (result ≡ Err (Running read_stop.DiskFault))
    → ((damage : Damage) → result ≡ Err (Running (read_stop.Damaged damage)) → ⊥) → Wants
stopped-alone result read_stop.NoMemory Wants is wants cause undamaged = wants is
stopped-alone result read_stop.DiskFault Wants is wants cause undamaged = absurd (never-rose (cause.rose is))
stopped-alone result (read_stop.Damaged damage) Wants is wants cause undamaged = absurd (undamaged damage is)
