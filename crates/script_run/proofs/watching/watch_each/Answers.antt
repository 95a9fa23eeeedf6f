use Rattle.chain_tree.proofs.ReadLemmas.{read_short}
use Rattle.script_run.proofs.watching.watch_each.Goals as goal

pub returns-in-Err : goal.returns-in-Err
returns-in-Err g c = record { read = read_short c.groups.invariant.read }
