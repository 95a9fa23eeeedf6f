-- The machines that steps, and runs, come to.
use Rattle.std.proofs.Common.{◌≡◌, ℕ, zero, suc, ◌+◌, ◌-◌, ◌<◌, ◌≤◌, inl, inr, Option, refl, sym, ap, subst, ◌∙◌, arith}
use Rattle.std.proofs.lemmas.Bool.{cases_lt}
use Rattle.machine_defs.specs.declared.outcome.Outcome.{Outcome}
use Rattle.machine_defs.specs.declared.step.Step.{Step}
use Rattle.machine_defs.specs.declared.step.Step.TheVariants as step
use Rattle.machine_defs.specs.Step.{Machine, step_of}
use Rattle.machine_defs.specs.Program.{Answer, Leads, Reaches, advance, answered, followed, stop_of, stop_within}
use Rattle.machine_defs.proofs.ProgramLaws.{step-pays, went-left}

-- ---- the steps that lead to a stop

-- the machine whose step is the stop, and the steps that lead to it
pub record LastOf (machine : Machine) (stop : Step × Machine) : Type 0 where
  pub steps : ℕ
  pub last : Machine
  pub leads : Leads steps machine last
  pub is : step_of last ≡ stop

-- one step that went, and more of them
leads-after : (steps : ℕ) (machine next to : Machine) → (step.Went, next) ≡ step_of machine → Leads steps next to
    → Leads (suc steps) machine to
leads-after zero machine next to went same = (machine, refl, ap (λ (m : Machine). (step.Went, m)) same ∙ went)
leads-after (suc steps) machine next to went leads = (leads.0, leads-after steps machine next leads.0 went leads.1, leads.2)

followed-last : (n : ℕ) (machine : Machine) (result : Step) (next : Machine) → (result, next) ≡ step_of machine
    → (result ≡ step.Went → LastOf next (stop_within n next)) → LastOf machine (followed (stop_within n) result next)
followed-last n machine step.Went next is later =
    let last = later refl in
    record { steps = suc last.steps; last = last.last; leads = leads-after last.steps machine next last.last is last.leads; is = last.is }
followed-last n machine step.Ecall next is later = record { steps = zero; last = machine; leads = refl; is = sym is }
followed-last n machine (step.Fault number) next is later = record { steps = zero; last = machine; leads = refl; is = sym is }
followed-last n machine step.Spent next is later = record { steps = zero; last = machine; leads = refl; is = sym is }
followed-last n machine step.NoMemory next is later = record { steps = zero; last = machine; leads = refl; is = sym is }

last-within : (n : ℕ) (machine : Machine) → machine.budget - machine.cycles < n → LastOf machine (stop_within n machine)
unfolding stop_within
last-within zero machine h = absurd (omega arith)
last-within (suc n) machine h =
    let next = step_of machine in
    followed-last n machine next.0 next.1 refl (λ went. last-within n next.1 (went-left machine next.0 next.1 n (step-pays machine) went h))

pub last-of : (machine : Machine) → LastOf machine (stop_of machine)
last-of machine = last-within (suc (machine.budget - machine.cycles)) machine (omega arith)

-- ---- steps lead to one machine

pub leads-same : (steps : ℕ) (from one other : Machine) → Leads steps from one → Leads steps from other → one ≡ other
leads-same zero from one other leads leads' = leads ∙ sym leads'
leads-same (suc steps) from one other leads leads' =
    let same : leads.0 ≡ leads'.0 = leads-same steps from leads.0 leads'.0 leads.1 leads'.1 in
    ap (λ (next : Step × Machine). next.1) (leads.2 ∙ ap step_of same ∙ sym leads'.2)

-- what fewer steps lead to
pub leads-prefix : (steps more : ℕ) (from to : Machine) → steps ≤ more → Leads more from to → (last : Machine) × Leads steps from last
leads-prefix zero more from to within leads = (from, refl)
leads-prefix (suc steps) zero from to within leads = absurd (omega (arith, within))
leads-prefix (suc steps) (suc more) from to within leads =
    elim (cases_lt steps more) [
      | inl fewer ↦ leads-prefix (suc steps) more from leads.0 (omega (arith, fewer)) leads.1
      | inr all ↦ (let same : more ≡ steps = omega (arith, within, all) in (to, subst (λ n. Leads (suc n) from to) same leads))
    ]

-- ---- so do the steps of a run

reaches-same : (answer : Answer) (steps : ℕ) (from one other : Machine) → Reaches answer steps from one → Reaches answer steps from other
    → one ≡ other
reaches-same answer zero from one other reaches reaches' = reaches ∙ sym reaches'
reaches-same answer (suc steps) from one other reaches reaches' =
    let same : reaches.0 ≡ reaches'.0 = reaches-same answer steps from reaches.0 reaches'.0 reaches.1 reaches'.1 in
    ap (λ (next : Option Outcome × Machine). next.1) (reaches.2 ∙ ap (advance answer) same ∙ sym reaches'.2)

-- steps that went lead a run on
pub reaches-more : (answer : Answer) (steps more : ℕ) (from middle to : Machine) → Reaches answer steps from middle → Leads more middle to
    → (all : ℕ) × (all ≡ steps + more) × Reaches answer all from to
reaches-more answer steps zero from middle to reaches same =
    (steps, omega arith, subst (λ (machine : Machine). Reaches answer steps from machine) (sym same) reaches)
reaches-more answer steps (suc more) from middle to reaches leads =
    let before = reaches-more answer steps more from middle leads.0 reaches leads.1 in (
      suc before.0,
      omega (arith, before.1),
      (leads.0, before.2, ap (λ (next : Step × Machine). answered answer next.0 next.1) leads.2),
    )

-- and what a run reaches on the way is what they lead to
pub reached-on-the-way : (answer : Answer) (steps more between : ℕ) (from middle to machine : Machine) → Reaches answer steps from middle
    → Leads more middle to → steps ≤ between → between ≤ steps + more → Reaches answer between from machine
    → Leads (between - steps) middle machine
reached-on-the-way answer steps more between from middle to machine reaches leads low high reaches' =
    let last = leads-prefix (between - steps) more middle to (omega (arith, low, high)) leads in
    let all = reaches-more answer steps (between - steps) from middle last.0 reaches last.1 in
    let count : all.0 ≡ between = omega (arith, all.1, low) in
    let again : Reaches answer between from last.0 = subst (λ n. Reaches answer n from last.0) count all.2 in
    let same = reaches-same answer between from last.0 machine again reaches' in
    subst (λ (reached : Machine). Leads (between - steps) middle reached) same last.1
