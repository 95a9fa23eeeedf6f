use Rattle.std.proofs.Common.{Err, ap}
use Rattle.outside.proofs.Endings.{no_answer}
use Rattle.node_store.specs.Node.{NodeValue}
use Rattle.run_text.proofs.Exits.{same_stop}
use Rattle.run_store.proofs.KeepLemmas.{keeps_all, keeps_left}
use Rattle.run_store.proofs.LookLemmas.{looks_not, looks_found, looks_stopped}
use Rattle.run_store.proofs.DamageLemmas.{none_met, none_found, found_said}
use Rattle.run_query.proofs.dao.fetch_cell.Goals as goal

-- ---- Damage that was found

pub returns-in_default-clause-damage : goal.returns-in_default-clause-damage
returns-in_default-clause-damage g c = none_met c.args.node.now

pub returns-in-Ok-clause-damage : goal.returns-in-Ok-clause-damage
returns-in-Ok-clause-damage g c = none_found c.in-Ok.ensures.left

pub returns-in-Err-clause-damage : goal.returns-in-Err-clause-damage
returns-in-Err-clause-damage g c = found_said c.in-Err.stop c.status_of_reading.result c.in-Err.ensures.left c.status_of_reading.ensures.damaged

-- ---- The other clauses

pub returns-in_default-clause-disk : goal.returns-in_default-clause-disk
returns-in_default-clause-disk g c = looks_not c.args.disk.now (no_answer _ _)

pub returns-in-Ok-clause-disk : goal.returns-in-Ok-clause-disk
returns-in-Ok-clause-disk g c = looks_found c.in-Ok.ensures.left (no_answer _ _)

pub returns-in-Ok-clause-chain : goal.returns-in-Ok-clause-chain
returns-in-Ok-clause-chain g c = ap (λ (node : NodeValue). node.chain) c.in-Ok.ensures.left.node

pub returns-in-Err-clause-disk : goal.returns-in-Err-clause-disk
returns-in-Err-clause-disk g c = looks_stopped c.in-Err.stop c.status_of_reading.result c.in-Err.ensures.left c.status_of_reading.ensures.fault

pub returns-in-Err-clause-chain : goal.returns-in-Err-clause-chain
returns-in-Err-clause-chain g c = ap (λ (node : NodeValue). node.chain) c.in-Err.ensures.left.node

pub returns-in-Err-clause-sound : goal.returns-in-Err-clause-sound
returns-in-Err-clause-sound g c = λ sound is.
    let none = c.status_of_reading.ensures.none (same_stop _ _ is) in
    c.in-Err.ensures.undamaged sound.sound.live sound.told none.0 (ap Err none.1)

pub returns-in_default-clause-node : goal.returns-in_default-clause-node
returns-in_default-clause-node g c = keeps_all c.args.node.now (g.D.Disk.reads_as c.args.disk.now) (g.D.Disk.images c.args.disk.now) c.requires.own

pub returns-in-Ok-clause-node : goal.returns-in-Ok-clause-node
returns-in-Ok-clause-node g c = keeps_left c.in-Ok.ensures.left

pub returns-in-Err-clause-node : goal.returns-in-Err-clause-node
returns-in-Err-clause-node g c = keeps_left c.in-Err.ensures.left
