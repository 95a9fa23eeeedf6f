-- Steps up to one that does not go.
use Rattle.std.proofs.Common.{◌≡◌, ◌≢◌, ℕ, zero, suc, ◌+◌, ◌-◌, ◌/◌, ◌%◌, ◌<◌, ◌≤◌, Bool, true, List, ◌⊎◌, inl, inr, Option, Some, None, refl, sym, ap, subst, ◌∙◌, arith}
use Rattle.std.proofs.lemmas.Bool.{cases_lt}
use Rattle.machine_defs.specs.declared.step.Step.{Step}
use Rattle.machine_defs.specs.declared.step.Step.TheVariants.{Went, Ecall, Fault, Spent, NoMemory}
use Rattle.machine_defs.specs.Memory.{page_size}
use Rattle.machine_defs.specs.Program.{Leads, followed, stop_of}
use Rattle.machine_defs.specs.Step.{Machine, step_of}
use Rattle.machine_defs.proofs.ProgramLaws.{Pays, step-pays, stops-step-by-step}
use Rattle.machine_defs.proofs.ReachLaws.{leads-prefix, leads-same}
use Rattle.vm_mem.specs.declared.slot.Slot.{Slot}
use Rattle.vm_mem.specs.Pages.{IsAllocated}
use Rattle.vm_mem.specs.Slots.{IsKept}
use Rattle.vm_step.specs.declared.place.Place.{Place}
use Rattle.vm_step.specs.Running.{RunningMachine, ByteRange, HasRoom, IsOneStep, IsStep, IsStoredBefore, IsStoredTo, LeavesRoom, Stops, Touches, goes_on_after, machine_at, next_range, stands_after, with_place}

-- the machine at the start, and after some steps that went
pub record Going (start now : RunningMachine) : Type 0 where
  pub steps : ℕ
  pub leads : Leads steps start.machine now.machine
  pub stop : stop_of now.machine ≡ stop_of start.machine
  pub pages_kept : (page : ℕ) → IsAllocated start.allocated page → IsAllocated now.allocated page
  pub pages_added : (page : ℕ) → IsAllocated now.allocated page → IsAllocated start.allocated page ⊎ IsStoredTo start.machine page
  pub room : (before : ℕ) (reached : Machine) → before < steps → Leads before start.machine reached → HasRoom now.allocated (next_range reached)
  pub goes_on : now.goes_on ≡ true

-- a run begins
pub going-starts : (start seen : RunningMachine) → seen ≡ start → start.goes_on ≡ true → Going start (record seen { last = Went })
going-starts start seen same on =
    subst (λ (running : RunningMachine). Going running (record seen { last = Went })) same (record {
      steps = zero;
      leads = refl;
      stop = refl;
      pages_kept = λ page allocated. allocated;
      pages_added = λ page allocated. inl allocated;
      room = λ before reached below. absurd (omega (arith, below));
      goes_on = ap (λ (running : RunningMachine). running.goes_on) same ∙ on;
    })

-- ---- the pages that were stored to

pub has-room-later : (old now : RunningMachine) (range : Option ByteRange) → ((page : ℕ) → IsAllocated old.allocated page → IsAllocated now.allocated page)
    → HasRoom old.allocated range → HasRoom now.allocated range
has-room-later old now (Some bytes) pages_kept has = λ i below. pages_kept _ (has i below)
has-room-later old now None pages_kept has = tt

pub touched : (allocated : List Bool) (range : Option ByteRange) (page : ℕ) → HasRoom allocated range → Touches range page
    → IsAllocated allocated page
touched allocated (Some bytes) page room touches = subst (λ p. IsAllocated allocated p) touches.2 (room touches.0 touches.1)
touched allocated None page room touches = absurd touches

-- there is room for a store to pages that were allocated or stored to
room-now : (start now : RunningMachine) (range : Option ByteRange) (going : Going start now)
    → ((page : ℕ) → Touches range page → IsAllocated start.allocated page ⊎ IsStoredBefore going.steps start.machine page)
    → HasRoom now.allocated range
room-now start now (Some bytes) going has = λ i below.
    elim (has ((bytes.at + i) / page_size) (i, below, refl)) [
      | inl before ↦ going.pages_kept _ before
      | inr stored ↦ touched now.allocated (next_range stored.reached) _ (going.room stored.steps stored.reached stored.before stored.leads) stored.touches
    ]
room-now start now None going has = tt

-- after one more step that went
room-more : (start now new : RunningMachine) (going : Going start now) → ((page : ℕ) → IsAllocated now.allocated page → IsAllocated new.allocated page)
    → HasRoom new.allocated (next_range now.machine) → (before : ℕ) (reached : Machine) → before < suc going.steps
    → Leads before start.machine reached → HasRoom new.allocated (next_range reached)
room-more start now new going pages_kept room before reached below leads =
    elim (cases_lt before going.steps) [
      | inl fewer ↦ has-room-later now new (next_range reached) pages_kept (going.room before reached fewer leads)
      | inr all ↦ (
          let count : before ≡ going.steps = omega (arith, below, all) in
          let same = leads-same going.steps start.machine now.machine reached going.leads (subst (λ n. Leads n start.machine reached) count leads) in
          subst (λ (machine : Machine). HasRoom new.allocated (next_range machine)) same room)
    ]

-- no step of the machine went that stopped
not-went : (now new : Machine) (answer : Step) → answer ≢ Went → answer ≢ NoMemory → IsStep (step_of now) now new answer
    → (step_of now).0 ≡ Went → ⊥
not-went now new Went other some step went = other refl
not-went now new Ecall other some step went = let differ : Ecall ≡ Went = ap (λ (next : Step × Machine). next.0) step ∙ went in cc
not-went now new (Fault number) other some step went =
    let differ : Fault number ≡ Went = ap (λ (next : Step × Machine). next.0) step ∙ went in cc
not-went now new Spent other some step went = let differ : Spent ≡ Went = ap (λ (next : Step × Machine). next.0) step ∙ went in cc
not-went now new NoMemory other some step went = some refl

went-to : (machine : Machine) → (step_of machine).0 ≡ Went → (Went, (step_of machine).1) ≡ step_of machine
went-to machine went = ap (λ (answer : Step). (answer, (step_of machine).1)) (sym went)

pub leaves-room : (start now new : RunningMachine) (answer : Step) → Going start now → answer ≢ Went → answer ≢ NoMemory
    → IsStep (step_of now.machine) now.machine new.machine answer → ((page : ℕ) → IsAllocated now.allocated page → IsAllocated new.allocated page)
    → LeavesRoom start.machine new.allocated
leaves-room start now new answer going other some step pages_kept steps last leads went =
    elim (cases_lt steps going.steps) [
      | inl fewer ↦ has-room-later now new (next_range last) pages_kept (going.room steps last fewer leads)
      | inr more ↦ (
          let all : Leads (suc steps) start.machine (step_of last).1 = (last, leads, went-to last went) in
          let next = leads-prefix (suc going.steps) (suc steps) start.machine (step_of last).1 (omega (arith, more)) all in
          let same = leads-same going.steps start.machine next.1.0 now.machine next.1.1 going.leads in
          let step-went : (step_of now.machine).0 ≡ Went =
          ap (λ (machine : Machine). (step_of machine).0) (sym same) ∙ ap (λ (next : Step × Machine). next.0) (sym next.1.2) in
          absurd (not-went now.machine new.machine answer other some step step-went))
    ]

-- ---- one more step

-- what one more step may add
pub added-more : (start now new : RunningMachine) → Going start now
    → ((page : ℕ) → IsAllocated new.allocated page → IsAllocated now.allocated page ⊎ Touches (next_range now.machine) page)
    → (page : ℕ) → IsAllocated new.allocated page → IsAllocated start.allocated page ⊎ IsStoredTo start.machine page
added-more start now new going added page allocated =
    elim (added page allocated) [
      | inl before ↦ going.pages_added page before
      | inr touched ↦ inr (record { steps = going.steps; reached = now.machine; leads = going.leads; touches = touched })
    ]

-- what the stop is, from the step before it
stop-from : (machine : Machine) (answer : Step) (next : Machine) → (answer, next) ≡ step_of machine → stop_of machine ≡ followed stop_of answer next
stop-from machine answer next is =
    stops-step-by-step machine ∙ ap (λ (one : Step × Machine). followed stop_of one.0 one.1) (sym is)

pub going-more : (start now new : RunningMachine) (answer : Step) → Going start now → answer ≡ Went
    → IsStep (step_of now.machine) now.machine new.machine answer → ((page : ℕ) → IsAllocated now.allocated page → IsAllocated new.allocated page)
    → ((page : ℕ) → IsAllocated new.allocated page → IsAllocated now.allocated page ⊎ Touches (next_range now.machine) page)
    → (answer ≡ Went → HasRoom new.allocated (next_range now.machine)) → new.goes_on ≡ true → Going start new
going-more start now new Went going went steps pages_kept pages_added room on = record {
  steps = suc going.steps;
  leads = (now.machine, going.leads, steps);
  stop = sym (stop-from now.machine Went new.machine steps) ∙ going.stop;
  pages_kept = λ page allocated. pages_kept page (going.pages_kept page allocated);
  pages_added = added-more start now new going pages_added;
  room = room-more start now new going pages_kept (room refl);
  goes_on = on;
}
going-more start now new Ecall going went steps pages_kept pages_added room on = cc
going-more start now new (Fault number) going went steps pages_kept pages_added room on = cc
going-more start now new Spent going went steps pages_kept pages_added room on = cc
going-more start now new NoMemory going went steps pages_kept pages_added room on = cc

pub fewer-left : (old new : Machine) (answer : Step) → answer ≡ Went → IsStep (step_of old) old new answer
    → new.budget - new.cycles < old.budget - old.cycles
fewer-left old new Went went steps =
    let pays : Pays old Went new = subst (λ (next : Step × Machine). Pays old next.0 next.1) (sym steps) (step-pays old) in
    let rose = pays.rose tt in
    let within = pays.within tt in
    omega (arith, rose, within, pays.budget)
fewer-left old new Ecall went steps = cc
fewer-left old new (Fault number) went steps = cc
fewer-left old new Spent went steps = cc
fewer-left old new NoMemory went steps = cc

pub stops : (start now new : RunningMachine) (answer : Step) → Going start now → answer ≢ Went
    → IsStep (step_of now.machine) now.machine new.machine answer
    → (HasRoom now.allocated (next_range now.machine) → answer ≢ NoMemory) → Stops start new.machine answer
stops start now new Went going other steps room = absurd (other refl)
stops start now new Ecall going other steps room = sym (sym going.stop ∙ stop-from now.machine Ecall new.machine steps)
stops start now new (Fault number) going other steps room = sym (sym going.stop ∙ stop-from now.machine (Fault number) new.machine steps)
stops start now new Spent going other steps room = sym (sym going.stop ∙ stop-from now.machine Spent new.machine steps)
stops start now new NoMemory going other steps room = record {
  steps = going.steps;
  reached = now.machine;
  leads = going.leads;
  stores = steps;
  new_page = λ has. room (room-now start now (next_range now.machine) going has) refl;
}

-- ---- what a run has come to

-- a run that ended
pub record Ended (start now : RunningMachine) (answer : Step) : Type 0 where
  pub stops : Stops start now.machine answer
  pub goes_on : now.goes_on ≡ goes_on_after answer
  pub room : answer ≢ NoMemory → LeavesRoom start.machine now.allocated
  pub pages_kept : (page : ℕ) → IsAllocated start.allocated page → IsAllocated now.allocated page
  pub pages_added : (page : ℕ) → IsAllocated now.allocated page → IsAllocated start.allocated page ⊎ IsStoredTo start.machine page

-- As long as its steps went, its place is apart from the machine.
abbrev pub HasCome : Step → RunningMachine → RunningMachine → Place → Type 0
HasCome Went start now place = Going start (with_place now place) × ((machine_at now place).cycles ≤ now.machine.budget)
HasCome Ecall start now place = Ended start now Ecall × (place.pc % 2 ≡ 1)
HasCome (Fault number) start now place = Ended start now (Fault number) × (place.pc % 2 ≡ 1)
HasCome Spent start now place = Ended start now Spent × (place.pc % 2 ≡ 1)
HasCome NoMemory start now place = Ended start now NoMemory × (place.pc % 2 ≡ 1)

-- what is left of it
abbrev pub left_after : Step → RunningMachine → Place → ℕ
left_after Went now place = suc (now.machine.budget - (machine_at now place).cycles)
left_after Ecall now place = 0
left_after (Fault number) now place = 0
left_after Spent now place = 0
left_after NoMemory now place = 0

has-ended : (start now new : RunningMachine) (answer : Step) (next : ℕ) → Going start now → answer ≢ Went → IsOneStep now new answer next → Ended start new answer
has-ended start now new answer next going other one = record {
  stops = stops start now new answer going other one.steps one.room;
  goes_on = one.goes_on;
  room = λ some. leaves-room start now new answer going other some one.steps one.pages_kept;
  pages_kept = λ page allocated. one.pages_kept page (going.pages_kept page allocated);
  pages_added = added-more start now new going one.pages_added;
}

-- one more step
pub comes-on : (start now new : RunningMachine) (place : Place) (answer : Step) → Going start now → IsOneStep now (stands_after answer new place) answer place.pc
    → HasCome answer start new place
comes-on start now new place Went going one =
    (going-more start now (with_place new place) Went going refl one.steps one.pages_kept one.pages_added one.allocated one.goes_on, one.within one.goes_on)
comes-on start now new place Ecall going one = (has-ended start now new Ecall place.pc going (λ went. cc) one, one.follows)
comes-on start now new place (Fault number) going one = (has-ended start now new (Fault number) place.pc going (λ went. cc) one, one.follows)
comes-on start now new place Spent going one = (has-ended start now new Spent place.pc going (λ went. cc) one, one.follows)
comes-on start now new place NoMemory going one = (has-ended start now new NoMemory place.pc going (λ went. cc) one, one.follows)

pub less-left : (now new : RunningMachine) (old place : Place) (last answer : Step) → last ≡ Went
    → IsOneStep (with_place now old) (stands_after answer new place) answer place.pc → left_after answer new place < left_after last now old
less-left now new old place Went Went went one =
    let fewer = fewer-left (with_place now old).machine (with_place new place).machine Went refl one.steps in omega (arith, fewer)
less-left now new old place Went Ecall went one = omega arith
less-left now new old place Went (Fault number) went one = omega arith
less-left now new old place Went Spent went one = omega arith
less-left now new old place Went NoMemory went one = omega arith
less-left now new old place Ecall answer went one = cc
less-left now new old place (Fault number) answer went one = cc
less-left now new old place Spent answer went one = cc
less-left now new old place NoMemory answer went one = cc

-- A run that has come to a slot's address goes on.
pub finds-slot : (start now : RunningMachine) (place : Place) (slot : Slot) (answer : Step) → slot.at ≡ place.pc → IsKept now.machine.memory slot
    → HasCome answer start now place → answer ≡ Went
finds-slot start now place slot Went at-is kept come = refl
finds-slot start now place slot Ecall at-is kept come = let odd = come.1 in let even = kept.even in absurd (omega (arith, odd, even, at-is))
finds-slot start now place slot (Fault number) at-is kept come = let odd = come.1 in let even = kept.even in absurd (omega (arith, odd, even, at-is))
finds-slot start now place slot Spent at-is kept come = let odd = come.1 in let even = kept.even in absurd (omega (arith, odd, even, at-is))
finds-slot start now place slot NoMemory at-is kept come = let odd = come.1 in let even = kept.even in absurd (omega (arith, odd, even, at-is))

pub still-goes : (start now : RunningMachine) (place : Place) (answer : Step) → answer ≡ Went → HasCome answer start now place → HasCome Went start now place
still-goes start now place answer went come = subst (λ (it : Step). HasCome it start now place) went come

pub is-ended : (start now : RunningMachine) (place : Place) (answer : Step) → answer ≢ Went → HasCome answer start now place → Ended start now answer
is-ended start now place Went other come = absurd (other refl)
is-ended start now place Ecall other come = come.0
is-ended start now place (Fault number) other come = come.0
is-ended start now place Spent other come = come.0
is-ended start now place NoMemory other come = come.0
