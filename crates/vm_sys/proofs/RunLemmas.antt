-- A run, stop by stop: how it ends, that what is left of it ends as the whole does, and that it ends.
use Rattle.std.proofs.Common.{◌≡◌, ℕ, zero, suc, ◌+◌, ◌-◌, ◌<◌, ◌≤◌, ℤ, ◌⊎◌, inl, inr, refl, sym, ◌∙◌, ap, subst, arith}
use Rattle.std.proofs.lemmas.Bool.{cases_lt}
use Rattle.std.specs.Prelude.{Option, Some, None, Ok, Err}
use Rattle.outside.specs.declared.disk.ReadStop.{ReadStop}
use Rattle.machine_defs.specs.declared.outcome.Outcome.{Outcome}
use Rattle.machine_defs.specs.declared.outcome.Outcome.TheVariants.{Exit, Fault, Spent}
use Rattle.machine_defs.specs.declared.step.Step.{Step}
use Rattle.machine_defs.specs.declared.step.Step.TheVariants as step
use Rattle.machine_defs.specs.Step.{Machine, step_of}
use Rattle.machine_defs.specs.Program.{Answer, KeepsAccount, Leads, Reaches, advance, answered, ended_or, run, stop_of, Ended}
use Rattle.machine_defs.proofs.ProgramLaws.{Pays, runs-stop-by-stop, step-pays, stop-goes-on}
use Rattle.machine_defs.proofs.ReachLaws.{last-of, reaches-more, reached-on-the-way}
use Rattle.vm_step.specs.Running as steps
use Rattle.vm_step.specs.Running.{RunningMachine, HasRoom, LeavesRoom, Stops, WantsPage, next_range}
use Rattle.vm_step.proofs.Going.{has-room-later, touched}
use Rattle.vm_mem.specs.Pages.{IsAllocated}
use Rattle.machine_defs.specs.World.{Items}
use Rattle.machine_defs.specs.Answer.{syscall}
use Rattle.machine_defs.proofs.AccountLaws.{syscall-keeps, syscalls-keep-account}
use Rattle.vm_sys.specs.declared.syscall.Sys.{Sys}
use Rattle.vm_sys.specs.declared.syscall.Sys.TheVariants as sys
use Rattle.vm_sys.specs.Answering.{Answers, IsAnswerOfSome}
use Rattle.vm_sys.specs.Running.{Advances, AdvancesBySome, IsStoredBefore, IsWithin, RunLoadsItem, RunWants, RunWantsPage, StopLoadsItem, stopped}

-- ---- the end

-- what follows a stop: the end, or the run from there
abbrev after : Answer → Option Outcome × Machine → Ended
after answer next = ended_or (run answer) next.0 next.1

one-stop : (answer : Answer) → KeepsAccount answer → (machine : Machine) → run answer machine ≡ after answer (stopped answer machine)
one-stop answer keeps machine = runs-stop-by-stop answer keeps machine

ended-after : (answer : Answer) (next : Option Outcome × Machine) (outcome : Outcome) → next.0 ≡ Some outcome → after answer next ≡ (outcome, next.1.cycles)
ended-after answer next outcome is = rw is refl

on-after : (answer : Answer) (next : Option Outcome × Machine) → next.0 ≡ None → after answer next ≡ run answer next.1
on-after answer next is = rw is refl

-- it ended the program
pub run-ends : (answer : Answer) → KeepsAccount answer → (old new : RunningMachine) (end : Option Outcome) (outcome : Outcome)
    → Advances answer old new end → end ≡ Some outcome → (outcome, new.machine.cycles) ≡ run answer old.machine
run-ends answer keeps old new end outcome a is =
    ap (λ (n : ℕ). (outcome, n)) a.cycles
    ∙ sym (one-stop answer keeps old.machine ∙ ended-after answer (stopped answer old.machine) outcome (sym a.ended ∙ is))

-- it goes on
pub run-goes-on : (answer : Answer) → KeepsAccount answer → (old new : RunningMachine) (end : Option Outcome) → Advances answer old new end
    → end ≡ None → run answer new.machine ≡ run answer old.machine
run-goes-on answer keeps old new end a is =
    ap (run answer) (a.machine is)
    ∙ sym (one-stop answer keeps old.machine ∙ on-after answer (stopped answer old.machine) (sym a.ended ∙ is))

-- ---- the account

-- steps that went
leads-pays : (steps : ℕ) (from to : Machine) → Leads steps from to → (from.cycles ≤ to.cycles) × (to.budget ≡ from.budget)
leads-pays zero from to same = rw same (omega arith, refl)
leads-pays (suc steps) from to leads =
    let before = leads-pays steps from leads.0 leads.1 in
    let pays = step-pays leads.0 in
    let next : to ≡ (step_of leads.0).1 = ap (λ (next : Step × Machine). next.1) leads.2 in
    rw next (omega (arith, before.0, pays.cycles), pays.budget ∙ before.1)

-- those up to a stop, and the one that stopped
stop-pays : (machine : Machine) → let stop = stop_of machine in Pays machine stop.0 stop.1
stop-pays machine =
    let last = last-of machine in
    let before = leads-pays last.steps machine last.last last.leads in
    let pays = subst (λ (next : Step × Machine). Pays last.last next.0 next.1) last.is (step-pays last.last) in
    record {
      cycles = omega (arith, before.0, pays.cycles);
      budget = pays.budget ∙ before.1;
      rose = λ was. (let rose = pays.rose was in omega (arith, before.0, rose));
      within = pays.within;
    }

stopped-later : (machine : Machine) (result : Step) (new : Machine) → (result, new) ≡ stop_of machine → machine.cycles ≤ new.cycles
stopped-later machine result new is =
    let cycles : new.cycles ≡ (stop_of machine).1.cycles = ap (λ (next : Step × Machine). next.1.cycles) is in
    let pays = stop-pays machine in
    omega (arith, cycles, pays.cycles)

-- also where memory is wanted
pub stops-later : (old : RunningMachine) (new : Machine) (result : Step) → Stops old new result → old.machine.cycles ≤ new.cycles
stops-later old new step.Went stops = absurd stops
stops-later old new step.Ecall stops = stopped-later old.machine step.Ecall new stops
stops-later old new (step.Fault number) stops = stopped-later old.machine (step.Fault number) new stops
stops-later old new step.Spent stops = stopped-later old.machine step.Spent new stops
stops-later old new step.NoMemory wants =
    let before = leads-pays wants.steps old.machine wants.reached wants.leads in
    let pays = step-pays wants.reached in
    let cycles : new.cycles ≡ (step_of wants.reached).1.cycles = ap (λ (machine : Machine). machine.cycles) wants.stores.1 in
    omega (arith, before.0, pays.cycles, cycles)

-- ---- a stop that no syscall answers

ended-advances : (answer : Answer) (old new : RunningMachine) (end : Outcome) → (Some end, new.machine) ≡ stopped answer old.machine
    → Advances answer old new (Some end)
ended-advances answer old new end is = record {
  ended = ap (λ (next : Option Outcome × Machine). next.0) is;
  cycles = ap (λ (next : Option Outcome × Machine). next.1.cycles) is;
  machine = λ goes_on. absurd cc;
  goes_on = λ goes_on. absurd cc;
}

pub fault-advances : (answer : Answer) (old new : RunningMachine) (number : ℕ) → Stops old new.machine (step.Fault number)
    → Advances answer old new (Some (Fault number))
fault-advances answer old new number stops =
    ended-advances answer old new (Fault number) (ap (λ (next : Step × Machine). answered answer next.0 next.1) stops)

pub spent-advances : (answer : Answer) (old new : RunningMachine) → Stops old new.machine step.Spent → Advances answer old new (Some Spent)
spent-advances answer old new stops = ended-advances answer old new Spent (ap (λ (next : Step × Machine). answered answer next.0 next.1) stops)

-- the world is not asked
pub no-error : {A B : Type 0} (value : A) (stop : B) → Ok value ≡ Err stop → ⊥
no-error value stop is = absurd cc

-- the answer to a step, of a machine before the steps
record Account (machine : Machine) (next : Option Outcome × Machine) : Type 0 where
  pub cycles : machine.cycles ≤ next.1.cycles
  pub budget : next.1.budget ≡ machine.budget
  pub exits : (code : ℤ) → next.0 ≡ Some (Exit code) → next.1.cycles ≤ machine.budget

answered-account : (items : Items) (machine : Machine) (result : Step) (next : Machine) → Pays machine result next
    → Account machine (answered (syscall items) result next)
answered-account items machine step.Ecall next pays =
    let keeps = syscall-keeps items next in
    record {
      cycles = omega (arith, pays.cycles, keeps.cycles);
      budget = keeps.budget ∙ pays.budget;
      exits = λ code exit. (let same = keeps.exits code exit in let within = pays.within tt in omega (arith, same, within, pays.budget));
    }
answered-account items machine step.Went next pays = record { cycles = pays.cycles; budget = pays.budget; exits = λ code exit. cc }
answered-account items machine (step.Fault number) next pays = record { cycles = pays.cycles; budget = pays.budget; exits = λ code exit. cc }
answered-account items machine step.Spent next pays = record { cycles = pays.cycles; budget = pays.budget; exits = λ code exit. cc }
answered-account items machine step.NoMemory next pays = record { cycles = pays.cycles; budget = pays.budget; exits = λ code exit. cc }

stopped-account : (items : Items) (machine : Machine) → Account machine (stopped (syscall items) machine)
stopped-account items machine = let stop = stop_of machine in answered-account items machine stop.0 stop.1 (stop-pays machine)

-- a syscall that is answered, and one that was stopped
answers-cycles : (answer : Sys) (end : Option Outcome) (next new : Machine) → Answers answer end next new → ((stop : ReadStop) → answer ≡ sys.Stop stop → ⊥)
    → new.cycles ≡ next.cycles
answers-cycles sys.Done None next new is goes = ap (λ (machine : Machine). machine.cycles) is
answers-cycles sys.Done (Some end) next new is goes = absurd is
answers-cycles (sys.Exit code) None next new is goes = absurd is
answers-cycles (sys.Exit code) (Some (Exit expected)) next new is goes = ap (λ (machine : Machine). machine.cycles) is.1
answers-cycles (sys.Exit code) (Some (Fault number)) next new is goes = absurd is
answers-cycles (sys.Exit code) (Some Spent) next new is goes = absurd is
answers-cycles (sys.Fault number) None next new is goes = absurd is
answers-cycles (sys.Fault number) (Some (Exit code)) next new is goes = absurd is
answers-cycles (sys.Fault number) (Some (Fault expected)) next new is goes = ap (λ (machine : Machine). machine.cycles) is.1
answers-cycles (sys.Fault number) (Some Spent) next new is goes = absurd is
answers-cycles sys.Spent None next new is goes = absurd is
answers-cycles sys.Spent (Some (Exit code)) next new is goes = absurd is
answers-cycles sys.Spent (Some (Fault number)) next new is goes = absurd is
answers-cycles sys.Spent (Some Spent) next new is goes = ap (λ (machine : Machine). machine.cycles) is
answers-cycles (sys.Stop stop) end next new is goes = absurd (goes stop refl)

answered-later : (machine new : Machine) (answer : Sys) → IsAnswerOfSome (λ item. syscall (λ call. item) machine) new answer
    → ((stop : ReadStop) → answer ≡ sys.Stop stop → ⊥) → machine.cycles ≤ new.cycles
answered-later machine new answer is goes =
    let next = syscall (λ call. is.0) machine in
    let keeps = syscall-keeps (λ call. is.0) machine in
    let same = answers-cycles answer next.0 next.1 new is.1 goes in
    omega (arith, keeps.cycles, same)

pub handled-later : (machine new : Machine) (answer : Sys) → IsAnswerOfSome (λ item. syscall (λ call. item) machine) new answer
    → ((stop : ReadStop) → answer ≡ sys.Stop stop → new.cycles ≡ machine.cycles) → machine.cycles ≤ new.cycles
handled-later machine new (sys.Stop stop) is unpaid = rw (unpaid stop refl) (omega arith)
handled-later machine new sys.Done is unpaid = answered-later machine new sys.Done is (λ stop is. cc)
handled-later machine new (sys.Exit code) is unpaid = answered-later machine new (sys.Exit code) is (λ stop is. cc)
handled-later machine new (sys.Fault number) is unpaid = answered-later machine new (sys.Fault number) is (λ stop is. cc)
handled-later machine new sys.Spent is unpaid = answered-later machine new sys.Spent is (λ stop is. cc)

-- the cycles that are left
pub cycles-left : (old new : RunningMachine) (end : Option Outcome) → AdvancesBySome old new end → end ≡ None
    → new.machine.budget - new.machine.cycles < old.machine.budget - old.machine.cycles
cycles-left old new end a is =
    let answer = syscall (λ call. a.0) in
    let within = stop-goes-on answer (syscalls-keep-account (λ call. a.0)) old.machine (sym a.1.ended ∙ is) in
    rw (a.1.machine is) (omega (arith, within.0, within.1, within.2))

-- the machine at the start, and where it goes on, over any world
pub record Accounts (start now : Machine) : Type 0 where
  pub cycles : start.cycles ≤ now.cycles
  pub budget : now.budget ≡ start.budget

pub accounts-none : (start : Machine) → Accounts start start
accounts-none start = record { cycles = omega arith; budget = refl }

pub accounts-more : (start : Machine) (old new : RunningMachine) (end : Option Outcome) → Accounts start old.machine → AdvancesBySome old new end
    → end ≡ None → Accounts start new.machine
accounts-more start old new end so_far a is =
    let account = stopped-account (λ call. a.0) old.machine in
    rw (a.1.machine is) (record { cycles = omega (arith, so_far.cycles, account.cycles); budget = account.budget ∙ so_far.budget })

pub ends-within : (start : Machine) (old new : RunningMachine) (end : Option Outcome) (outcome : Outcome) → Accounts start old.machine
    → AdvancesBySome old new end → end ≡ Some outcome → IsWithin start.budget outcome new.machine.cycles
ends-within start old new end (Exit code) so_far a is =
    let account = stopped-account (λ call. a.0) old.machine in
    let within = account.exits code (sym a.1.ended ∙ is) in
    omega (arith, so_far.budget, within, a.1.cycles)
ends-within start old new end (Fault number) so_far a is = tt
ends-within start old new end Spent so_far a is = tt

-- ---- the loop of a run

-- the machine at the start, and where it goes on
pub record Runs (answer : Answer) (start now : RunningMachine) : Type 0 where
  pub same : run answer now.machine ≡ run answer start.machine
  pub steps : ℕ
  pub reaches : Reaches answer steps start.machine now.machine
  pub pages_kept : (page : ℕ) → IsAllocated start.allocated page → IsAllocated now.allocated page
  pub room : (before : ℕ) (reached : Machine) → before < steps → Reaches answer before start.machine reached
      → (step_of reached).0 ≡ step.Went → HasRoom now.allocated (next_range reached)

pub runs-none : (answer : Answer) (start : RunningMachine) → Runs answer start start
runs-none answer start = record {
  same = refl;
  steps = 0;
  reaches = refl;
  pages_kept = λ page allocated. allocated;
  room = λ before reached below. absurd (omega (arith, below));
}

-- the steps up to a stop, and the one that stopped
pub runs-more : (items : Items) (start old new : RunningMachine) (end : Option Outcome) → Runs (syscall items) start old
    → Advances (syscall items) old new end → end ≡ None → ((page : ℕ) → IsAllocated old.allocated page → IsAllocated new.allocated page)
    → LeavesRoom old.machine new.allocated → Runs (syscall items) start new
runs-more items start old new end runs a is pages_kept room =
    let answer = syscall items in
    let last = last-of old.machine in
    let all = reaches-more answer runs.steps last.steps start.machine old.machine last.last runs.reaches last.leads in
    let goes_on : (stopped answer old.machine).0 ≡ None = sym a.ended ∙ is in
    let step : (None, new.machine) ≡ advance answer last.last =
    rw (a.machine is) (ap (λ (end : Option Outcome). (end, (stopped answer old.machine).1)) (sym goes_on))
    ∙ ap (λ (next : Step × Machine). answered answer next.0 next.1) (sym last.is) in
    record {
      same = run-goes-on answer (syscalls-keep-account items) old new end a is ∙ runs.same;
      steps = suc all.0;
      reaches = (last.last, all.2, step);
      pages_kept = λ page allocated. pages_kept page (runs.pages_kept page allocated);
      room = λ before reached below reaches went. elim (cases_lt before runs.steps) [
        | inl fewer ↦ has-room-later old new (next_range reached) pages_kept (runs.room before reached fewer reaches went)
        | inr later ↦ room (before - runs.steps) reached
            (reached-on-the-way answer runs.steps last.steps before start.machine old.machine last.last reached runs.reaches last.leads
            later (omega (arith, below, all.1)) reaches) went
      ];
    }

-- ---- where it wants memory

-- what the run stored to before is allocated, or was stored to in the steps up to the stop
stored-since : (answer : Answer) (start old : RunningMachine) (new : Machine) (page end : ℕ) (runs : Runs answer start old) (wants : WantsPage old new)
    → end ≡ runs.steps + wants.steps → IsStoredBefore answer end start.machine page
    → IsAllocated old.allocated page ⊎ steps.IsStoredBefore wants.steps old.machine page
stored-since answer start old new page end runs wants is stored =
    elim (cases_lt stored.steps runs.steps) [
      | inl fewer ↦ inl (touched old.allocated (next_range stored.reached) page
          (runs.room stored.steps stored.reached fewer stored.reaches stored.goes) stored.touches)
      | inr later ↦ inr (record {
        steps = stored.steps - runs.steps;
        before = omega (arith, stored.before, is, later);
        reached = stored.reached;
        leads = reached-on-the-way answer runs.steps wants.steps stored.steps start.machine old.machine wants.reached stored.reached
            runs.reaches wants.leads later (omega (arith, stored.before, is)) stored.reaches;
        touches = stored.touches;
      })
    ]

run-wants-page : (answer : Answer) (start old : RunningMachine) (new : Machine) → Runs answer start old → WantsPage old new
    → RunWantsPage answer (IsAllocated start.allocated) start.machine
run-wants-page answer start old new runs wants =
    let all = reaches-more answer runs.steps wants.steps start.machine old.machine wants.reached runs.reaches wants.leads in
    record {
      steps = all.0;
      reached = wants.reached;
      reaches = all.2;
      goes = wants.stores.0;
      new_page = λ has. wants.new_page (λ page touches. elim (has page touches) [
        | inl allocated ↦ inl (runs.pages_kept page allocated)
        | inr stored ↦ stored-since answer start old new page all.0 runs wants all.1 stored
      ]);
    }

run-loads-item : (items : Items) (start old : RunningMachine) → Runs (syscall items) start old → StopLoadsItem items old.machine
    → RunLoadsItem items start.machine
run-loads-item items start old runs loads =
    let last = last-of old.machine in
    let all = reaches-more (syscall items) runs.steps last.steps start.machine old.machine last.last runs.reaches last.leads in
    record {
      steps = all.0;
      reached = last.last;
      reaches = all.2;
      calls = rw last.is loads.0;
      item = rw last.is loads.1;
    }

pub run-wants : (items : Items) (start old : RunningMachine) (new : Machine) → Runs (syscall items) start old
    → WantsPage old new ⊎ StopLoadsItem items old.machine → RunWants items (IsAllocated start.allocated) start.machine
run-wants items start old new runs wants = elim wants [
  | inl page ↦ inl (run-wants-page (syscall items) start old new runs page)
  | inr loads ↦ inr (run-loads-item items start old runs loads)
]

-- ---- the pages that have memory at the start

-- more pages that have memory
pub wants-page-beyond : (answer : Answer) (HasMore HasMemory : ℕ → Type 0) (start : Machine) → ((page : ℕ) → HasMemory page → HasMore page)
    → RunWantsPage answer HasMore start → RunWantsPage answer HasMemory start
wants-page-beyond answer HasMore HasMemory start more wants = record {
  steps = wants.steps;
  reached = wants.reached;
  reaches = wants.reaches;
  goes = wants.goes;
  new_page = λ has. wants.new_page (λ page touches. elim (has page touches) [
    | inl memory ↦ inl (more page memory)
    | inr stored ↦ inr stored
  ]);
}

pub wants-beyond : (items : Items) (HasMore HasMemory : ℕ → Type 0) (start : Machine) → ((page : ℕ) → HasMemory page → HasMore page)
    → RunWants items HasMore start → RunWants items HasMemory start
wants-beyond items HasMore HasMemory start more wants = elim wants [
  | inl page ↦ inl (wants-page-beyond (syscall items) HasMore HasMemory start more page)
  | inr loads ↦ inr loads
]
