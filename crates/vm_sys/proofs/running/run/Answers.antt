use Rattle.std.proofs.Common.{◌≡◌, refl, ap, ◌∙◌, arith}
use Rattle.std.specs.Prelude.{Err}
use Rattle.outside.specs.declared.disk.ReadStop.TheVariants.{NoMemory}
use Rattle.machine_defs.specs.Answer.{syscall}
use Rattle.outside.proofs.Endings.{handed}
use Rattle.machine_defs.proofs.AccountLaws.{syscalls-keep-account}
use Rattle.vm_sys.proofs.RunLemmas.{accounts-more, accounts-none, cycles-left, ends-within, no-error, run-ends, run-wants, runs-more, runs-none}
use Rattle.vm_sys.proofs.Exits.{finds-after, finds-as}
use Rattle.vm_sys.proofs.running.run.Goals as goal

pub steps-init : goal.steps-init
steps-init g c = record {
  goes_on = c.requires;
  told = refl;
  loans = refl;
  faults = refl;
  damages = refl;
  accounts = accounts-none c.args.machine.now.machine;
  runs = λ items told. runs-none (syscall items) c.args.machine.now;
}

pub returns-in-Ok-Some-clause-exact : goal.returns-in-Ok-Some-clause-exact
returns-in-Ok-Some-clause-exact g c = λ items told.
    run-ends (syscall items) (syscalls-keep-account items) c.steps.machine c.advance.new.machine c.in-Ok-Some.field-0 c.in-Ok-Some.outcome
    (c.in-Ok-Some.ensures.exact items (c.steps.invariant.told ∙ told)) c.in-Ok-Some.field-0-is
    ∙ (c.steps.invariant.runs items told).same

pub returns-in-Ok-Some-clause-within : goal.returns-in-Ok-Some-clause-within
returns-in-Ok-Some-clause-within g c =
    ends-within c.args.machine.now.machine c.steps.machine c.advance.new.machine c.in-Ok-Some.field-0 c.in-Ok-Some.outcome c.steps.invariant.accounts
    c.in-Ok-Some.ensures.some c.in-Ok-Some.field-0-is

pub returns-in-Ok-Some-clause-later : goal.returns-in-Ok-Some-clause-later
returns-in-Ok-Some-clause-later g c = omega (arith, c.steps.invariant.accounts.cycles, c.advance.ensures.later)

pub returns-in-Err-clause-later : goal.returns-in-Err-clause-later
returns-in-Err-clause-later g c = omega (arith, c.steps.invariant.accounts.cycles, c.advance.ensures.later)

pub steps-smaller : goal.steps-smaller
steps-smaller g c =
    cycles-left c.steps.machine c.advance.new.machine c.in-Ok-None.field-0 c.in-Ok-None.ensures.some c.in-Ok-None.field-0-is

pub steps-preserved : goal.steps-preserved
steps-preserved g c = record {
  goes_on = c.in-Ok-None.ensures.some.1.goes_on c.in-Ok-None.field-0-is;
  told = c.advance.ensures.told ∙ c.steps.invariant.told;
  loans = c.advance.ensures.loans ∙ c.steps.invariant.loans;
  faults = c.in-Ok-None.ensures.cause.unchanged (λ fault. cc) ∙ c.steps.invariant.faults;
  damages = c.in-Ok-None.ensures.answered.none (λ damage is. no-error _ _ is) ∙ c.steps.invariant.damages;
  accounts = accounts-more c.args.machine.now.machine c.steps.machine c.advance.new.machine c.in-Ok-None.field-0 c.steps.invariant.accounts
      c.in-Ok-None.ensures.some c.in-Ok-None.field-0-is;
  runs = λ items told.
      runs-more items c.args.machine.now c.steps.machine c.advance.new.machine c.in-Ok-None.field-0 (c.steps.invariant.runs items told)
      (c.in-Ok-None.ensures.exact items (c.steps.invariant.told ∙ told)) c.in-Ok-None.field-0-is c.advance.ensures.pages_kept
      c.in-Ok-None.ensures.room;
}

pub returns-in-Err-clause-wants : goal.returns-in-Err-clause-wants
returns-in-Err-clause-wants g c = λ items told wants.
    let stop : c.in-Err.stop ≡ NoMemory = cc in
    run-wants items c.args.machine.now c.steps.machine c.advance.new.machine.machine (c.steps.invariant.runs items told)
    (c.in-Err.ensures.wants items (c.steps.invariant.told ∙ told) (ap Err stop))

pub returns-in-Ok-Some-clause-answered : goal.returns-in-Ok-Some-clause-answered
returns-in-Ok-Some-clause-answered g c =
    finds-after c.steps.invariant.damages (finds-as (λ damage is. absurd (no-error _ _ is)) (λ damage is. absurd (no-error _ _ is)) c.in-Ok-Some.ensures.answered)

pub returns-in-Err-clause-answered : goal.returns-in-Err-clause-answered
returns-in-Err-clause-answered g c =
    finds-after c.steps.invariant.damages (finds-as (λ damage. handed c.in-Err.stop _) (λ damage. handed c.in-Err.stop _) c.in-Err.ensures.answered)
