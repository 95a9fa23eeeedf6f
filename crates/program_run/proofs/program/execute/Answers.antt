use Rattle.std.proofs.Common.{refl, ap, ◌∙◌, rules}
use Rattle.std.specs.Prelude.{Err}
use Rattle.machine_defs.specs.Elf.{load_elf, segments}
use Rattle.machine_defs.specs.Program.{Answer, execution}
use Rattle.machine_defs.specs.World.{nothing}
use Rattle.program_run.proofs.ProgramLemmas.{is-alone, program-wants-alone, stopped-alone}
use Rattle.program_run.proofs.program.execute.Goals as goal

pub returns-in-Ok-clause-came : goal.returns-in-Ok-clause-came
returns-in-Ok-clause-came c =
    c.in-Ok.ensures.came nothing refl ∙ ap (λ (answer : Answer). execution answer c.args.budget c.args.file.now) is-alone

pub returns-in-Err-Running-clause-running : goal.returns-in-Err-Running-clause-running
returns-in-Err-Running-clause-running c = λ running.
    program-wants-alone c.args.budget (segments c.args.file.now) (load_elf c.args.file.now)
    (stopped-alone c.execute_in.result c.in-Err-Running.field-0-0 _ (c.in-Err-Running.is ∙ ap Err c.in-Err-Running.field-0-is)
    (c.execute_in.ensures.running nothing refl) c.execute_in.ensures.cause (c.execute_in.ensures.undamaged tt))

pub returns-in-Err-Loading-clause-running : goal.returns-in-Err-Loading-clause-running
returns-in-Err-Loading-clause-running c = search rules
