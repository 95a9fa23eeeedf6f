use Rattle.std.proofs.Common.{arith}
use Rattle.std.proofs.lemmas.Grind.{common_steps}
use Rattle.run_text.proofs.words.command_of.Goals as goal

pub returns-clause-command : goal.returns-clause-command
returns-clause-command c = grind (arith, common_steps)
