use Rattle.std.proofs.Common.{inl, refl, sym, ap, ◌∙◌, arith, rules}
use Rattle.outside.specs.declared.disk.ReadStop.TheVariants.{Damaged}
use Rattle.machine_defs.specs.declared.step.Step.TheVariants.{Ecall, Fault, NoMemory, Spent}
use Rattle.machine_defs.specs.World.{Unknown}
use Rattle.machine_defs.specs.Answer.{syscall}
use Rattle.vm_sys.specs.Running.{outcome_of}
use Rattle.vm_sys.proofs.Exits.{counts-none, finds-as, finds-none, outcome-stop}
use Rattle.vm_sys.proofs.RunLemmas.{fault-advances, handled-later, no-error, spent-advances, stops-later}
use Rattle.vm_sys.proofs.running.advance.Goals as goal

pub returns-in-Ecall-clause-later : goal.returns-in-Ecall-clause-later
returns-in-Ecall-clause-later g c =
    let stops = stops-later c.args.machine.now c.run.new.self.machine Ecall c.in-Ecall.ensures.stops in
    let answered = handled-later c.run.new.self.machine c.handle.new.machine.machine c.handle.result c.handle.ensures.some c.handle.ensures.unpaid in
    omega (arith, stops, answered)

pub returns-in-Fault : goal.returns-in-Fault
returns-in-Fault g c =
    let old = c.args.machine.now in
    let new = c.run.new.self in
    record {
      told = refl;
      loans = refl;
      some = (Unknown, fault-advances (syscall (λ call. Unknown)) old new c.in-Fault.number c.in-Fault.ensures.stops);
      exact = λ items told. fault-advances (syscall items) old new c.in-Fault.number c.in-Fault.ensures.stops;
      later = stops-later old new.machine (Fault c.in-Fault.number) c.in-Fault.ensures.stops;
      wants = λ items told is. absurd (no-error _ _ is);
      cause = counts-none _ _ (no-error _ _);
      answered = finds-none _ (λ damage. no-error _ _);
      undamaged = λ sound damage. no-error _ _;
      damage = λ damage is. absurd (no-error _ _ is);
      room = c.in-Fault.ensures.room (λ is. absurd cc);
      pages_kept = c.run.ensures.pages_kept;
    }

pub returns-in-Spent : goal.returns-in-Spent
returns-in-Spent g c =
    let old = c.args.machine.now in
    let new = c.run.new.self in
    record {
      told = refl;
      loans = refl;
      some = (Unknown, spent-advances (syscall (λ call. Unknown)) old new c.in-Spent.ensures.stops);
      exact = λ items told. spent-advances (syscall items) old new c.in-Spent.ensures.stops;
      later = stops-later old new.machine Spent c.in-Spent.ensures.stops;
      wants = λ items told is. absurd (no-error _ _ is);
      cause = counts-none _ _ (no-error _ _);
      answered = finds-none _ (λ damage. no-error _ _);
      undamaged = λ sound damage. no-error _ _;
      damage = λ damage is. absurd (no-error _ _ is);
      room = c.in-Spent.ensures.room (λ is. absurd cc);
      pages_kept = c.run.ensures.pages_kept;
    }

pub returns-in-NoMemory : goal.returns-in-NoMemory
returns-in-NoMemory g c = record {
  told = refl;
  loans = refl;
  some = tt;
  exact = λ items told. tt;
  later = stops-later c.args.machine.now c.run.new.self.machine NoMemory c.in-NoMemory.ensures.stops;
  wants = λ items told is. inl c.in-NoMemory.ensures.stops;
  cause = counts-none _ _ (λ is. absurd cc);
  answered = finds-none _ (λ damage is. absurd cc);
  undamaged = λ sound damage is. absurd cc;
  damage = λ damage is. absurd cc;
  room = tt;
  pages_kept = c.run.ensures.pages_kept;
}

pub returns-in-Ecall-clause-some : goal.returns-in-Ecall-clause-some
returns-in-Ecall-clause-some g c = search rules

pub returns-in-Ecall-clause-exact : goal.returns-in-Ecall-clause-exact
returns-in-Ecall-clause-exact g c = search rules

pub returns-in-Ecall-clause-cause : goal.returns-in-Ecall-clause-cause
returns-in-Ecall-clause-cause g c = search rules

pub returns-in-Ecall-clause-answered : goal.returns-in-Ecall-clause-answered
returns-in-Ecall-clause-answered g c =
    finds-as (λ damage is. c.outcome_of.ensures ∙ ap outcome_of is) (λ damage is. outcome-stop c.handle.result (Damaged damage) (sym c.outcome_of.ensures ∙ is))
    c.handle.ensures.answered
