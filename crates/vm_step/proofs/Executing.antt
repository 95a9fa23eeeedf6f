-- What an instruction does, from what the code did to the machine. The code sees the machine by its fields, as `seen`.
use Rattle.std.proofs.Common.{◌≡◌, ◌≢◌, ℕ, ◌%◌, ◌==◌, Bool, true, false, if◌then◌else◌, List, slice_set, refl, Option, None, Result, Ok, Err, ◌⊎◌, inl, ap, sym, subst, ◌∙◌}
use Rattle.machine_defs.specs.declared.memory.MemFault.{MemFault}
use Rattle.machine_defs.specs.declared.step.Step.{Step}
use Rattle.machine_defs.specs.declared.step.Step.TheVariants.{Went, Ecall, Fault, Spent, NoMemory}
use Rattle.machine_defs.specs.Memory.{Memory}
use Rattle.machine_defs.specs.Step.{Machine, after, past_instruction, stored, with_register}
use Rattle.vm_mem.specs.Pages.{IsAllocated}
use Rattle.vm_mem.specs.Paged.{PagedMemory, Stores}
use Rattle.vm_step.specs.declared.place.Place.{Place}
use Rattle.vm_step.specs.Running.{RunningMachine, ByteRange, Executes, HasRoom, Touches, machine_at, placed, stands_after, with_place}

abbrev pub machine_of : RunningMachine → Machine
machine_of running = running.machine

with_register-place : (b : Bool) (machine : Machine) (registers : List ℕ) (place : Place)
    → (if b then placed machine place else placed (record machine { registers = registers }) place)
    ≡ placed (if b then machine else (record machine { registers = registers })) place
with_register-place true machine registers place = refl
with_register-place false machine registers place = refl

-- a register is written, whatever the program counter and the cycles are
register-apart : (machine : Machine) (place : Place) (rd value : ℕ)
    → with_register (placed machine place) rd value ≡ placed (with_register machine rd value) place
unfolding with_register
register-apart machine place rd value =
    with_register-place (rd == 0) machine (slice_set machine.registers rd value) place

-- a register was written, and the program counter is the next
pub written : (old new : RunningMachine) (place : Place) (next rd value : ℕ) → new ≡ record old { machine = with_register old.machine rd value }
    → with_place new (record place { pc = next })
    ≡ record (with_place old place) { machine = record (with_register (machine_at old place) rd value) { pc = next } }
written old new place next rd value changed =
    rw (register-apart old.machine place rd value) (ap (λ (running : RunningMachine). with_place running (record place { pc = next })) changed)

pub written-past : (old new : RunningMachine) (place : Place) (length rd value : ℕ) → new ≡ record old { machine = with_register old.machine rd value }
    → with_place new (record place { pc = after place.pc length })
    ≡ record (with_place old place) { machine = past_instruction (with_register (machine_at old place) rd value) length }
written-past old new place length rd value changed =
    rw (register-apart old.machine place rd value) (ap (λ (running : RunningMachine). with_place running (record place { pc = after place.pc length })) changed)

-- It went, so that the place is apart from the machine.
pub went-on : (P : RunningMachine → Step → Type 0) (new : RunningMachine) (place : Place) (answer : Step) → answer ≡ Went
    → P (with_place new place) Went → P (stands_after answer new place) answer
went-on P new place Went went p = p
went-on P new place Ecall went p = cc
went-on P new place (Fault number) went p = cc
went-on P new place Spent went p = cc
went-on P new place NoMemory went p = cc

pub went-stands : (expected : Step × Machine) (range : Option ByteRange) (old new : RunningMachine) (place : Place) (answer : Step) → answer ≡ Went
    → Executes expected range old (with_place new place) Went place.pc → Executes expected range old (stands_after answer new place) answer place.pc
went-stands expected range old new place answer went executes =
    went-on (λ (it : RunningMachine) (said : Step). Executes expected range old it said place.pc) new place answer went executes

-- It ended, so that the machine has its place.
pub ended : (P : RunningMachine → Step → Type 0) (new : RunningMachine) (place : Place) (answer last : Step) → last ≡ answer → answer ≢ Went
    → P new answer → P (stands_after last new place) last
ended P new place answer Went is other p = absurd (other (sym is))
ended P new place answer Ecall is other p = subst (λ (it : Step). P new it) (sym is) p
ended P new place answer (Fault number) is other p = subst (λ (it : Step). P new it) (sym is) p
ended P new place answer Spent is other p = subst (λ (it : Step). P new it) (sym is) p
ended P new place answer NoMemory is other p = subst (λ (it : Step). P new it) (sym is) p

pub ended-stands : (expected : Step × Machine) (range : Option ByteRange) (old new : RunningMachine) (place : Place) (answer last : Step) → last ≡ answer → answer ≢ Went
    → Executes expected range old new answer place.pc → Executes expected range old (stands_after last new place) last place.pc
ended-stands expected range old new place answer last is other executes =
    ended (λ (it : RunningMachine) (said : Step). Executes expected range old it said place.pc) new place answer last is other executes

-- The machine changed, and it goes on.
pub executes-went : (old new : RunningMachine) (machine : Machine) → old.goes_on ≡ true
    → new ≡ record old { machine = machine } → Executes (Went, machine) None old new Went new.machine.pc
executes-went old new machine on changed = record {
  machine = ap (λ (running : RunningMachine). (Went, running.machine)) changed;
  room = λ has-room none. cc;
  allocated = λ went. tt;
  pages_kept = λ page allocated. rw changed allocated;
  pages_added = λ page allocated. inl (rw changed at allocated);
  goes_on = ap (λ (running : RunningMachine). running.goes_on) changed ∙ on;
  follows = refl;
}

-- The machine changed, and ECALL is left to the caller.
pub executes-ecall : (old new : RunningMachine) (machine : Machine) (next : ℕ) → old.goes_on ≡ true
    → new ≡ record old { machine = machine; last = Ecall } → next % 2 ≡ 1 → Executes (Ecall, machine) None old new Ecall next
executes-ecall old new machine next on changed nowhere = record {
  machine = ap (λ (running : RunningMachine). (Ecall, running.machine)) changed;
  room = λ has-room none. cc;
  allocated = λ went. cc;
  pages_kept = λ page allocated. rw changed allocated;
  pages_added = λ page allocated. inl (rw changed at allocated);
  goes_on = ap (λ (running : RunningMachine). running.goes_on) changed ∙ on;
  follows = nowhere;
}

-- The bytes were stored, and the next instruction follows.
pub executes-stored : (expected : Result Memory MemFault) (range : Option ByteRange) (old seen : RunningMachine) (memory : PagedMemory) (length : ℕ)
    → seen ≡ old → old.goes_on ≡ true → Stores expected old.machine.memory memory.memory (Ok tt)
    → HasRoom memory.allocated range → ((page : ℕ) → IsAllocated seen.allocated page → IsAllocated memory.allocated page)
    → ((page : ℕ) → IsAllocated memory.allocated page → IsAllocated seen.allocated page ⊎ Touches range page)
    → Executes (stored old.machine length expected) range old
    (record seen { machine = past_instruction (record seen.machine { memory = memory.memory }) length; allocated = memory.allocated }) Went (after seen.machine.pc length)
executes-stored (Ok changed) range old seen memory length same on is-stored allocated pages_kept pages_added = record {
  machine =
      ap (λ (memory : Memory). (Went, past_instruction (record seen.machine { memory = memory }) length)) is-stored
      ∙ ap (λ (running : RunningMachine). (Went, past_instruction (record running.machine { memory = changed }) length)) same;
  room = λ has-room none. cc;
  allocated = λ went. allocated;
  pages_kept = λ page allocated. pages_kept page (rw same allocated);
  pages_added = λ page allocated. rw same at pages_added page allocated;
  goes_on = ap (λ (running : RunningMachine). running.goes_on) same ∙ on;
  follows = refl;
}
executes-stored (Err fault) range old seen memory length same on never allocated pages_kept pages_added = absurd never
