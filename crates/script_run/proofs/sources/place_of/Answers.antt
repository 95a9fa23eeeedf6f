use Rattle.std.proofs.Common.{rules}
use Rattle.script_run.proofs.sources.place_of.Goals as goal

pub returns-in-GroupInputs : goal.returns-in-GroupInputs
returns-in-GroupInputs c = search rules
