-- An instruction that is paid for.
use Rattle.std.proofs.Common.{◌≡◌, ℕ, ◌%◌, Bool, true, false, not, Option, inl, refl, sym, ap, ◌∙◌}
use Rattle.machine_defs.specs.declared.step.Step.{Step}
use Rattle.machine_defs.specs.declared.step.Step.TheVariants.{Went, Ecall, Fault, Spent, NoMemory}
use Rattle.machine_defs.specs.Step.{Machine, charged, is_spent}
use Rattle.vm_step.specs.Running.{RunningMachine, ByteRange, IsStep, Executes, paying}

was_false : (b : Bool) → not b ≡ true → b ≡ false
was_false true e = sym e
was_false false e = refl

-- the cycles that were paid are those of the whole
steps-paid : (expected : Step × Machine) (old new : Machine) (cost : ℕ) (result : Step)
    → IsStep expected (charged old cost) new result → IsStep expected old new result
steps-paid expected old new cost Went steps = steps
steps-paid expected old new cost Ecall steps = steps
steps-paid expected old new cost (Fault number) steps = steps
steps-paid expected old new cost Spent steps = steps
steps-paid expected old new cost NoMemory steps = steps

-- The budget lasts, and the instruction has its effect.
pub executes-paid : (expected_of : Machine → Step × Machine) (range_of : Machine → Option ByteRange) (cost : ℕ) (old paid new : RunningMachine)
    (answer : Step) (next : ℕ) → paid.machine ≡ charged old.machine cost → paid.allocated ≡ old.allocated → not (is_spent paid.machine) ≡ true
    → range_of (charged old.machine cost) ≡ range_of old.machine
    → Executes (expected_of paid.machine) (range_of paid.machine) paid new answer next
    → Executes (paying cost old.machine (expected_of (charged old.machine cost))) (range_of old.machine) old new answer next
executes-paid expected_of range_of cost old paid new answer next is-paid allocated within same executes =
    let is-within : is_spent (charged old.machine cost) ≡ false = ap is_spent (sym is-paid) ∙ was_false _ within in
    let range : range_of paid.machine ≡ range_of old.machine = ap range_of is-paid ∙ same in
    rw is-within (record {
      machine = steps-paid _ old.machine new.machine cost answer (rw is-paid at executes.machine);
      room = λ has-room. executes.room (rw (allocated, range) has-room);
      allocated = λ went. rw (← range) (executes.allocated went);
      pages_kept = λ page is-allocated. executes.pages_kept page (rw allocated is-allocated);
      pages_added = λ page is-allocated. rw (allocated, range) at executes.pages_added page is-allocated;
      goes_on = executes.goes_on;
      follows = executes.follows;
    })

was_true : (b : Bool) → not b ≡ false → b ≡ true
was_true true e = refl
was_true false e = sym e

-- The budget does not last, and the instruction has no effect.
pub executes-spent : (expected : Step × Machine) (range : Option ByteRange) (cost : ℕ) (old paid new : RunningMachine) (next : ℕ)
    → paid.machine ≡ charged old.machine cost → paid.allocated ≡ old.allocated → not (is_spent paid.machine) ≡ false
    → new ≡ record paid { goes_on = false; last = Spent } → next % 2 ≡ 1
    → Executes (paying cost old.machine expected) range old new Spent next
executes-spent expected range cost old paid new next is-paid allocated over stopped nowhere =
    let is-over : is_spent (charged old.machine cost) ≡ true = ap is_spent (sym is-paid) ∙ was_true _ over in
    let machine : new.machine ≡ charged old.machine cost = ap (λ (running : RunningMachine). running.machine) stopped ∙ is-paid in
    let pages : new.allocated ≡ old.allocated = ap (λ (running : RunningMachine). running.allocated) stopped ∙ allocated in
    rw is-over (record {
      machine = ap (λ (machine : Machine). (Spent, machine)) machine;
      room = λ has-room none. cc;
      allocated = λ went. cc;
      pages_kept = λ page is-allocated. rw pages is-allocated;
      pages_added = λ page is-allocated. inl (rw pages at is-allocated);
      goes_on = ap (λ (running : RunningMachine). running.goes_on) stopped;
      follows = nowhere;
    })
