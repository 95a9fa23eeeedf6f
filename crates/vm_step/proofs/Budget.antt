-- The cycles so far, and what is left of a budget.
use Rattle.std.proofs.Common.{◌≡◌, ℕ, ◌+◌, ◌-◌, ◌%◌, ◌^◌, ◌<◌, ◌≤◌, Bool, true, nat_lt, not, IsTrue, inl, inr, arith, refl, sym, ap, subst, ◌∙◌}
use Rattle.std.proofs.lemmas.Bool.{cases_lt, lt-ltb, le-ltb}
use Rattle.machine_defs.specs.Step.{Machine, charged, is_spent}
use Rattle.vm_step.specs.declared.place.Place.{Place}
use Rattle.vm_step.specs.Running.{RunningMachine, cycles_of, machine_at}

-- before the first cycle that is counted down
pub cycles-at-first : (budget cycles : ℕ) → budget ≤ 2 ^ 40 → cycles ≤ budget → cycles_of budget (budget - cycles) ≡ cycles
unfolding cycles_of
cycles-at-first budget cycles bound within = omega (arith, bound, within)

-- A cost is taken from what is left, which wraps where that is less.
pub cycles-paid : (budget left cost : ℕ) → budget ≤ 2 ^ 40 → cost ≤ 2 ^ 40 → cycles_of budget left ≤ budget
    → cycles_of budget ((left + (2 ^ 64 - cost)) % 2 ^ 64) ≡ cycles_of budget left + cost
unfolding cycles_of
cycles-paid budget left cost bound small within = omega (arith, bound, small, within)

-- So its sign says whether the budget lasts.
pub sign-lasts : (budget left cost : ℕ) → budget ≤ 2 ^ 40 → cost ≤ 2 ^ 40 → cycles_of budget left ≤ budget
    → nat_lt ((left + (2 ^ 64 - cost)) % 2 ^ 64) (2 ^ 63) ≡ not (nat_lt budget (cycles_of budget left + cost))
unfolding cycles_of
sign-lasts budget left cost bound small within =
    elim (cases_lt budget (cycles_of budget left + cost)) [
      | inl over ↦ rw (
        lt-ltb budget (cycles_of budget left + cost) over,
        le-ltb ((left + (2 ^ 64 - cost)) % 2 ^ 64) (2 ^ 63) (omega (arith, bound, small, within, over)),
      ) refl
      | inr lasts ↦ rw (
        le-ltb budget (cycles_of budget left + cost) lasts,
        lt-ltb ((left + (2 ^ 64 - cost)) % 2 ^ 64) (2 ^ 63) (omega (arith, bound, small, within, lasts)),
      ) refl
    ]

pub paid-is : (running : RunningMachine) (place : Place) (cost : ℕ) → running.machine.budget ≤ 2 ^ 40 → cost ≤ 2 ^ 40
    → (machine_at running place).cycles ≤ running.machine.budget
    → machine_at running (record place { left = (place.left + (2 ^ 64 - cost)) % 2 ^ 64 }) ≡ charged (machine_at running place) cost
paid-is running place cost bound small within =
    ap (λ (cycles : ℕ). record running.machine { pc = place.pc; cycles = cycles }) (cycles-paid running.machine.budget place.left cost bound small within)

pub paid-lasts : (running : RunningMachine) (place : Place) (cost : ℕ) → running.machine.budget ≤ 2 ^ 40 → cost ≤ 2 ^ 40
    → (machine_at running place).cycles ≤ running.machine.budget
    → nat_lt ((place.left + (2 ^ 64 - cost)) % 2 ^ 64) (2 ^ 63)
    ≡ not (is_spent (machine_at running (record place { left = (place.left + (2 ^ 64 - cost)) % 2 ^ 64 })))
paid-lasts running place cost bound small within =
    sign-lasts running.machine.budget place.left cost bound small within
    ∙ ap (λ (machine : Machine). not (is_spent machine)) (sym (paid-is running place cost bound small within))

not-over : (a b : ℕ) → IsTrue (not (nat_lt a b)) → b ≤ a
not-over a b lasts =
    elim (cases_lt a b) [
      | inl over ↦ absurd (let never : not true ≡ true = rw (lt-ltb a b over) at lasts in cc)
      | inr within ↦ within
    ]

pub paid-within : (running : RunningMachine) (place : Place) (cost : ℕ) → running.machine.budget ≤ 2 ^ 40 → cost ≤ 2 ^ 40
    → (machine_at running place).cycles ≤ running.machine.budget
    → IsTrue (nat_lt ((place.left + (2 ^ 64 - cost)) % 2 ^ 64) (2 ^ 63))
    → cycles_of running.machine.budget ((place.left + (2 ^ 64 - cost)) % 2 ^ 64) ≤ running.machine.budget
paid-within running place cost bound small within lasts =
    not-over running.machine.budget _ (subst (λ (b : Bool). IsTrue b) (paid-lasts running place cost bound small within) lasts)
