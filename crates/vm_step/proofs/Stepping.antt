-- A step in its order.
use Rattle.std.proofs.Common.{◌≡◌, ◌≢◌, ◌⊎◌, inl, inr, arith, ℕ, Bool, true, false, ◌≤◌, ◌%◌, Option, Some, None, Result, Ok, Err, sym, ap, subst, ◌∙◌, eq-eqb, refl}
use Rattle.machine_defs.specs.declared.ins.Ins.{Ins}
use Rattle.machine_defs.specs.declared.memory.MemFault.{MemFault}
use Rattle.machine_defs.specs.declared.step.Step.{Step}
use Rattle.machine_defs.specs.declared.step.Step.TheVariants.{Went, Ecall, Fault, Spent, NoMemory}
use Rattle.machine_defs.proofs.ProgramLaws.{Pays, step-pays}
use Rattle.machine_defs.specs.Instruction.{cycles}
use Rattle.machine_defs.specs.Code.{instruction_at}
use Rattle.machine_defs.specs.Step.{Machine, charged, effect, execute, fault_number, step_of, with_instruction}
use Rattle.machine_defs.proofs.RowLaws.{not_equal}
use Rattle.vm_mem.specs.declared.slot.Slot.{Slot}
use Rattle.vm_mem.specs.Kept.{instruction_of}
use Rattle.vm_mem.specs.Pages.{IsAllocated}
use Rattle.vm_mem.specs.Slots.{IsKept}
use Rattle.vm_mem.specs.Paged.{PagedMemory}
use Rattle.vm_step.specs.declared.place.Place.{Place}
use Rattle.vm_step.specs.Lending.{with_memory}
use Rattle.vm_step.specs.Running.{RunningMachine, Executes, HasRoom, IsNext, IsOneStep, IsStep, Touches, found_range, goes_on_after, next_range, paying, stands_after, stored_range, with_place}

-- what is at the program counter, which is even
pub record Finds (machine : Machine) (found : Result (Option (Ins × ℕ)) MemFault) : Type 0 where
  pub even : machine.pc % 2 ≢ 1
  pub found_is : instruction_at machine.memory machine.pc ≡ found

pub finds : (old seen : RunningMachine) (found result : Result (Option (Ins × ℕ)) MemFault) → seen ≡ old → seen.machine.pc % 2 ≢ 1
    → result ≡ instruction_at seen.machine.memory seen.machine.pc → result ≡ found → Finds old.machine found
finds old seen found result same even exact is =
    subst (λ (running : RunningMachine). Finds running.machine found) same (record { even = even; found_is = sym exact ∙ is })

step-found : (machine : Machine) (found : Result (Option (Ins × ℕ)) MemFault) → Finds machine found → step_of machine ≡ with_instruction machine found
unfolding step_of
step-found machine found from = rw (not_equal (machine.pc % 2) 1 from.even) (ap (with_instruction machine) from.found_is)

-- ---- no instruction

faults : (old new : Machine) (number : ℕ) (result : Step) → result ≡ Fault number → new ≡ old
    → step_of old ≡ (Fault number, old) → IsStep (step_of old) old new result
faults old new number result answer same step = rw answer (ap (λ (machine : Machine). (Fault number, machine)) same ∙ sym step)

pub steps-odd : (old new : Machine) (result : Step) → result ≡ Fault 4 → new ≡ old → old.pc % 2 ≡ 1
    → IsStep (step_of old) old new result
unfolding step_of
steps-odd old new result answer same odd = faults old new 4 result answer same (rw (eq-eqb (old.pc % 2) 1 odd) refl)

pub steps-unfetched : (old new : Machine) (fault : MemFault) (result : Step) → result ≡ Fault (fault_number fault) → new ≡ old
    → Finds old (Err fault) → IsStep (step_of old) old new result
steps-unfetched old new fault result answer same from =
    faults old new (fault_number fault) result answer same (step-found old (Err fault) from)

pub steps-undecoded : (old new : Machine) (result : Step) → result ≡ Fault 4 → new ≡ old → Finds old (Ok None)
    → IsStep (step_of old) old new result
unfolding execute
steps-undecoded old new result answer same from = faults old new 4 result answer same (step-found old (Ok None) from)

-- ---- an instruction

-- an instruction that is found is paid for and has its effect
pub steps-executed : (old new : Machine) (decoded : Ins × ℕ) (length : ℕ) (result : Step) → Finds old (Ok (Some decoded)) → length ≡ decoded.1
    → IsStep (paying (cycles decoded.0) old (effect (charged old (cycles decoded.0)) length decoded.0)) old new result
    → IsStep (step_of old) old new result
unfolding execute
steps-executed old new decoded length result from same steps =
    let step : step_of old ≡ paying (cycles decoded.0) old (effect (charged old (cycles decoded.0)) decoded.1 decoded.0) =
    step-found old (Ok (Some decoded)) from in
    rw step (rw same at steps)

pub range-executed : (old : Machine) (decoded : Ins × ℕ) → Finds old (Ok (Some decoded)) → next_range old ≡ stored_range old decoded.0
unfolding next_range
range-executed old decoded from = ap (found_range old) from.found_is

-- An instruction is looked up without a change that is seen.
pub looked-up : (old seen : RunningMachine) (memory : PagedMemory) → seen ≡ old
    → memory ≡ record { memory = seen.machine.memory; allocated = seen.allocated } → with_memory seen memory ≡ old
looked-up old seen memory same unchanged = ap (with_memory seen) unchanged ∙ same

-- The instruction that was looked up is executed.
pub executed : (old seen new : RunningMachine) (ins : Ins) (length : ℕ) (answer : Step) (next : ℕ) → seen ≡ old
    → Executes (paying (cycles ins) seen.machine (effect (charged seen.machine (cycles ins)) length ins)) (stored_range seen.machine ins) seen new answer next
    → Executes (paying (cycles ins) old.machine (effect (charged old.machine (cycles ins)) length ins)) (stored_range old.machine ins) old new answer next
executed old seen new ins length answer next same executes =
    subst (λ (running : RunningMachine). Executes (paying (cycles ins) running.machine (effect (charged running.machine (cycles ins)) length ins))
    (stored_range running.machine ins) running new answer next) same executes

-- A step after which the machine goes on stays within the budget.
pub within-budget : (old new : Machine) (answer : Step) (on : Bool) → IsStep (step_of old) old new answer → on ≡ goes_on_after answer
    → on ≡ true → new.cycles ≤ new.budget
within-budget old new Went on steps is goes =
    let pays : Pays old Went new = subst (λ (next : Step × Machine). Pays old next.0 next.1) (sym steps) (step-pays old) in pays.within tt
within-budget old new Ecall on steps is goes =
    let pays : Pays old Ecall new = subst (λ (next : Step × Machine). Pays old next.0 next.1) (sym steps) (step-pays old) in pays.within tt
within-budget old new (Fault number) on steps is goes = cc
within-budget old new Spent on steps is goes = cc
within-budget old new NoMemory on steps is goes = cc

-- ---- an instruction that is kept

pub found-executed : (old new : RunningMachine) (decoded : Ins × ℕ) (length : ℕ) (answer : Step) (next : ℕ) → Finds old.machine (Ok (Some decoded)) → length ≡ decoded.1
    → Executes (paying (cycles decoded.0) old.machine (effect (charged old.machine (cycles decoded.0)) length decoded.0)) (stored_range old.machine decoded.0) old new answer next
    → IsOneStep old new answer next
found-executed old new decoded length answer next from length-is executes =
    let range = range-executed old.machine decoded from in
    let steps = steps-executed old.machine new.machine decoded length answer from length-is executes.machine in
    record {
      steps = steps;
      goes_on = executes.goes_on;
      within = λ goes. within-budget old.machine new.machine answer new.goes_on steps executes.goes_on goes;
      room = λ has-room. executes.room (rw (← range) has-room);
      allocated = λ went. rw range (executes.allocated went);
      pages_kept = executes.pages_kept;
      pages_added = λ page allocated. rw range (executes.pages_added page allocated);
      follows = executes.follows;
    }

pub kept-executed : (old new : RunningMachine) (slot : Slot) (length : ℕ) (answer : Step) (next : ℕ) → slot.at ≡ old.machine.pc
    → IsKept old.machine.memory slot → slot.length ≡ length
    → Executes (paying (cycles (instruction_of slot.kept)) old.machine (effect (charged old.machine (cycles (instruction_of slot.kept))) length (instruction_of slot.kept)))
    (stored_range old.machine (instruction_of slot.kept)) old new answer next
    → IsOneStep old new answer next
kept-executed old new slot length answer next at-is kept length-is executes =
    found-executed old new (instruction_of slot.kept, slot.length) length answer next (record {
      even = λ odd. absurd (omega (arith, kept.even, at-is, odd));
      found_is = rw at-is at kept.is;
    }) (sym length-is) executes

-- A fault leaves the machine as it was.
pub one-fault : (old new : RunningMachine) (number next : ℕ) → IsStep (step_of old.machine) old.machine new.machine (Fault number)
    → new ≡ record old { goes_on = false; last = Fault number } → next % 2 ≡ 1 → IsOneStep old new (Fault number) next
one-fault old new number next steps changed nowhere =
    let off : new.goes_on ≡ false = ap (λ (running : RunningMachine). running.goes_on) changed in
    record {
      steps = steps;
      goes_on = off;
      within = λ goes. absurd (let never : true ≡ false = sym goes ∙ off in cc);
      room = λ has-room none. cc;
      allocated = λ went. cc;
      pages_kept = λ page allocated. rw changed allocated;
      pages_added = λ page allocated. inl (rw changed at allocated);
      follows = nowhere;
    }

-- ---- a step that `step` makes

pub one-of : (old new : RunningMachine) (answer : Step) (next : ℕ) → IsStep (step_of old.machine) old.machine new.machine answer
    → new.goes_on ≡ goes_on_after answer → (HasRoom old.allocated (next_range old.machine) → answer ≢ NoMemory)
    → (answer ≡ Went → HasRoom new.allocated (next_range old.machine))
    → ((page : ℕ) → IsAllocated old.allocated page → IsAllocated new.allocated page)
    → ((page : ℕ) → IsAllocated new.allocated page → IsAllocated old.allocated page ⊎ Touches (next_range old.machine) page)
    → IsNext answer new next → IsOneStep old new answer next
one-of old new answer next steps goes_on room allocated pages_kept pages_added follows = record {
  steps = steps;
  goes_on = goes_on;
  within = λ goes. within-budget old.machine new.machine answer new.goes_on steps goes_on goes;
  room = room;
  allocated = allocated;
  pages_kept = pages_kept;
  pages_added = pages_added;
  follows = follows;
}

pub nowhere-next : (new : RunningMachine) (answer : Step) (next : ℕ) → answer ≢ Went → next % 2 ≡ 1 → IsNext answer new next
nowhere-next new Went next other nowhere = absurd (other refl)
nowhere-next new Ecall next other nowhere = nowhere
nowhere-next new (Fault number) next other nowhere = nowhere
nowhere-next new Spent next other nowhere = nowhere
nowhere-next new NoMemory next other nowhere = nowhere

-- It went, and the machine has its place again.
pub stepped-on : (old seen new full : RunningMachine) (place : Place) (next : ℕ) → seen ≡ old → full ≡ new → full.last ≡ Went
    → IsOneStep (record seen { last = Went }) (stands_after new.last new place) new.last next
    → IsOneStep (record old { last = Went }) (with_place full place) Went next
stepped-on old seen new full place next same is-new went one =
    let from : IsOneStep (record old { last = Went }) (stands_after new.last new place) new.last next =
    subst (λ (it : RunningMachine). IsOneStep (record it { last = Went }) (stands_after new.last new place) new.last next) same one in
    let of-full : IsOneStep (record old { last = Went }) (stands_after full.last full place) full.last next =
    subst (λ (it : RunningMachine). IsOneStep (record old { last = Went }) (stands_after it.last it place) it.last next) (sym is-new) from in
    subst (λ (it : Step). IsOneStep (record old { last = Went }) (stands_after it full place) it next) went of-full

has-place : (old new : RunningMachine) (place : Place) (answer : Step) (next : ℕ) → answer ≢ Went → IsOneStep old (stands_after answer new place) answer next
    → IsOneStep old new answer next
has-place old new place Went next other one = absurd (other refl)
has-place old new place Ecall next other one = one
has-place old new place (Fault number) next other one = one
has-place old new place Spent next other one = one
has-place old new place NoMemory next other one = one

-- It ended, and the machine has its place.
pub stepped-out : (old seen new : RunningMachine) (place : Place) (answer : Step) (next : ℕ) → seen ≡ old → new.last ≡ answer → answer ≢ Went
    → IsOneStep (record seen { last = Went }) (stands_after new.last new place) new.last next
    → IsOneStep (record old { last = Went }) new answer next
stepped-out old seen new place answer next same is other one =
    let from : IsOneStep (record old { last = Went }) (stands_after new.last new place) new.last next =
    subst (λ (it : RunningMachine). IsOneStep (record it { last = Went }) (stands_after new.last new place) new.last next) same one in
    has-place (record old { last = Went }) new place answer next other
    (subst (λ (it : Step). IsOneStep (record old { last = Went }) (stands_after it new place) it next) is from)

-- a length that is not 2
pub is-full : (length : ℕ) → (length ≡ 2) ⊎ (length ≡ 4) → length ≢ 2 → length ≡ 4
is-full length is other = elim is [ inl short ↦ absurd (other short) | inr full ↦ full ]
