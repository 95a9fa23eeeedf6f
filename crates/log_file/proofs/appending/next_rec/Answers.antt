use Rattle.std.proofs.Common.{arith}
use Rattle.std.proofs.lemmas.Grind.{common_steps}
use Rattle.log_file.proofs.appending.next_rec.Goals as goal

pub returns : goal.returns
returns c = grind (arith, common_steps)
