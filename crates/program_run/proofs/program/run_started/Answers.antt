use Rattle.std.proofs.Common.{ℕ, ap, ◌∙◌}
use Rattle.std.specs.Prelude.{Ok}
use Rattle.outside.specs.declared.disk.ReadStop.TheVariants.{DiskFault, Damaged, NoMemory}
use Rattle.vm_sys.proofs.Exits.{finds-as}
use Rattle.program_run.proofs.ProgramLemmas.{counts-as, no-error, not-loading, same-running, same-stop}
use Rattle.program_run.proofs.program.run_started.Goals as goal

pub returns-in-Ok : goal.returns-in-Ok
returns-in-Ok g c = record {
  told = c.run.ensures.told;
  loans = c.run.ensures.loans;
  came = λ items told. ap Ok (ap (λ (cycles : ℕ). (c.in-Ok.outcome, cycles)) c.cycles.ensures ∙ c.in-Ok.ensures.exact items told);
  elf = λ program. tt;
  within = rw (c.cycles.ensures) c.in-Ok.ensures.within;
  loading = no-error _ _;
  running = λ items told is. absurd (no-error _ _ is);
  cause = counts-as (λ is. absurd (no-error _ _ is)) (λ is. absurd (no-error _ _ is)) c.in-Ok.ensures.cause;
  answered = finds-as (λ damage is. absurd (no-error _ _ is)) (λ damage is. absurd (no-error _ _ is)) c.in-Ok.ensures.answered;
  undamaged = λ sound damage. no-error _ _;
  damage = λ damage is. absurd (no-error _ _ is);
}

pub returns : goal.returns
returns g c = record {
  told = c.run.ensures.told;
  loans = c.run.ensures.loans;
  came = λ items told. tt;
  elf = λ program. tt;
  within = tt;
  loading = not-loading c.in-Err.stop;
  running = λ items told running. c.in-Err.ensures.wants items told (same-stop c.in-Err.stop NoMemory running);
  cause = counts-as (same-running c.in-Err.stop DiskFault) (same-stop c.in-Err.stop DiskFault) c.in-Err.ensures.cause;
  answered = finds-as (λ damage. same-running c.in-Err.stop (Damaged damage)) (λ damage. same-stop c.in-Err.stop (Damaged damage)) c.in-Err.ensures.answered;
  undamaged = λ sound damage is. c.in-Err.ensures.undamaged sound damage (same-stop c.in-Err.stop (Damaged damage) is);
  damage = λ damage is. c.in-Err.ensures.damage damage (same-stop c.in-Err.stop (Damaged damage) is);
}
