use Rattle.machine_defs.proofs.ProgramLaws.{answer_ecall-keeps, goes-on-within-budget, has-steps-enough, runs-step-by-step, runs-stop-by-stop, step-has-memory, step-keeps-account, stops-step-by-step}
use Rattle.vm_step.proofs.laws.run_laws.Goals as goal

pub returns-clause-account : goal.returns-clause-account
returns-clause-account c = step-keeps-account

pub returns-clause-has_memory : goal.returns-clause-has_memory
returns-clause-has_memory c = step-has-memory

pub returns-clause-within_budget : goal.returns-clause-within_budget
returns-clause-within_budget c = goes-on-within-budget

pub returns-clause-steps_enough : goal.returns-clause-steps_enough
returns-clause-steps_enough c = has-steps-enough

pub returns-clause-step_by_step : goal.returns-clause-step_by_step
returns-clause-step_by_step c = runs-step-by-step

pub returns-clause-stop_by_stop : goal.returns-clause-stop_by_stop
returns-clause-stop_by_stop c = runs-stop-by-stop

pub returns-clause-to_the_stop : goal.returns-clause-to_the_stop
returns-clause-to_the_stop c = stops-step-by-step

pub returns-clause-alone : goal.returns-clause-alone
returns-clause-alone c = answer_ecall-keeps
