use Rattle.std.proofs.Common.{refl, subst}
use Rattle.outside.specs.declared.disk.ReadStop.TheVariants.{DiskFault, Damaged, NoMemory}
use Rattle.machine_defs.specs.Elf.{load_elf, segments}
use Rattle.machine_defs.specs.Answer.{syscall}
use Rattle.vm_sys.proofs.Exits.{finds-none}
use Rattle.program_run.specs.Program.{IsStarted}
use Rattle.program_run.specs.declared.program.Started.TheVariants as started
use Rattle.program_run.proofs.ProgramLemmas.{bad-elf-came, bad-elf-judged, counts-none, no-error, not-running, on-err, ready-came, ready-judged, ready-paid, ready-wants, ready-within, spent-came, spent-judged}
use Rattle.program_run.proofs.program.execute_in.Goals as goal

pub returns-in-Ok-Ready : goal.returns-in-Ok-Ready
returns-in-Ok-Ready g c =
    let file = c.args.file.now in
    let ready = c.in-Ok-Ready.machine in
    let is : IsStarted c.args.budget (segments file) (load_elf file) (started.Ready ready) =
    subst (IsStarted c.args.budget (segments file) (load_elf file)) c.in-Ok-Ready.field-0-is c.in-Ok-Ready.ensures.started in
    record {
      told = c.run_started.ensures.told;
      loans = c.run_started.ensures.loans;
      came = λ items told. ready-came (syscall items) c.args.budget file ready is c.run_started.result (c.run_started.ensures.came items told);
      elf = ready-judged c.args.budget (segments file) (load_elf file) ready is c.run_started.result c.run_started.ensures.elf;
      within = ready-within c.args.budget (segments file) (load_elf file) ready is c.run_started.result c.run_started.ensures.within;
      paid = on-err c.run_started.result (ready-paid c.args.budget (segments file) (load_elf file) ready is);
      loading = λ loading. absurd (c.run_started.ensures.loading loading);
      running = λ items told running. ready-wants items c.args.budget (segments file) (load_elf file) ready is (c.run_started.ensures.running items told running);
      cause = c.run_started.ensures.cause;
      answered = c.run_started.ensures.answered;
      undamaged = c.run_started.ensures.undamaged;
      damage = c.run_started.ensures.damage;
    }

pub returns-in-Ok-Spent : goal.returns-in-Ok-Spent
returns-in-Ok-Spent g c =
    let file = c.args.file.now in
    let is : IsStarted c.args.budget (segments file) (load_elf file) (started.Spent c.in-Ok-Spent.cycles) =
    subst (IsStarted c.args.budget (segments file) (load_elf file)) c.in-Ok-Spent.field-0-is c.in-Ok-Spent.ensures.started in
    record {
      told = refl;
      loans = refl;
      came = λ items told. spent-came (syscall items) c.args.budget file (load_elf file) c.in-Ok-Spent.cycles refl is;
      elf = spent-judged c.args.budget (segments file) (load_elf file) c.in-Ok-Spent.cycles is;
      within = tt;
      paid = tt;
      loading = λ err. absurd (no-error _ _ err);
      running = λ items told err. absurd (no-error _ _ err);
      cause = counts-none _ _ (no-error _ _);
      answered = finds-none _ (λ damage. no-error _ _);
      undamaged = λ sound damage. no-error _ _;
      damage = λ damage err. absurd (no-error _ _ err);
    }

pub returns-in-Ok-BadElf : goal.returns-in-Ok-BadElf
returns-in-Ok-BadElf g c =
    let file = c.args.file.now in
    let is : IsStarted c.args.budget (segments file) (load_elf file) (started.BadElf c.in-Ok-BadElf.condition) =
    subst (IsStarted c.args.budget (segments file) (load_elf file)) c.in-Ok-BadElf.field-0-is c.in-Ok-BadElf.ensures.started in
    record {
      told = refl;
      loans = refl;
      came = λ items told. bad-elf-came (syscall items) c.args.budget file (load_elf file) c.in-Ok-BadElf.condition refl is;
      elf = bad-elf-judged c.args.budget (segments file) (load_elf file) c.in-Ok-BadElf.condition is;
      within = tt;
      paid = tt;
      loading = λ err. absurd (no-error _ _ err);
      running = λ items told err. absurd (no-error _ _ err);
      cause = counts-none _ _ (no-error _ _);
      answered = finds-none _ (λ damage. no-error _ _);
      undamaged = λ sound damage. no-error _ _;
      damage = λ damage err. absurd (no-error _ _ err);
    }

pub returns-in-Err : goal.returns-in-Err
returns-in-Err g c = record {
  told = refl;
  loans = refl;
  came = λ items told. tt;
  elf = tt;
  within = tt;
  paid = c.in-Err.ensures.paid;
  loading = λ is. refl;
  running = λ items told is. absurd (not-running NoMemory is);
  cause = counts-none _ _ (not-running DiskFault);
  answered = finds-none _ (λ damage. not-running (Damaged damage));
  undamaged = λ sound damage is. not-running (Damaged damage) is;
  damage = λ damage is. absurd (not-running (Damaged damage) is);
}
