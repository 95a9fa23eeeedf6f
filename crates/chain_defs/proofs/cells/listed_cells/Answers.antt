use Rattle.chain_defs.proofs.LiveLaws.{lists-just-the-live, lists-each-once}
use Rattle.chain_defs.proofs.ByLockLaws.{lists-by-lock}
use Rattle.chain_defs.proofs.cells.listed_cells.Goals as goal

pub returns : goal.returns
returns c = record { just_the_live = lists-just-the-live; each_once = lists-each-once; by_lock = lists-by-lock }
