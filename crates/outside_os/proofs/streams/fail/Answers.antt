use Rattle.std.proofs.Common.{rules}
use Rattle.outside_os.proofs.streams.fail.Goals as goal

pub returns : goal.returns
returns c = search rules
