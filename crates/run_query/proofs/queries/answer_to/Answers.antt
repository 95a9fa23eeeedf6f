use Rattle.run_store.proofs.KeepLemmas.{keeps_all}
use Rattle.run_store.proofs.LookLemmas.{looks_not, memory_no_fault}
use Rattle.run_store.proofs.DamageLemmas.{none_met}
use Rattle.run_query.proofs.queries.answer_to.Goals as goal

-- ---- Damage that was found

pub returns-in-Tip-clause-damage : goal.returns-in-Tip-clause-damage
returns-in-Tip-clause-damage g c = none_met c.args.node.now

pub returns-in-Epoch-clause-damage : goal.returns-in-Epoch-clause-damage
returns-in-Epoch-clause-damage g c = none_met c.args.node.now

pub returns-in-Cell-clause-damage : goal.returns-in-Cell-clause-damage
returns-in-Cell-clause-damage g c = none_met c.args.node.now

pub returns-in-Cells-clause-damage : goal.returns-in-Cells-clause-damage
returns-in-Cells-clause-damage g c = none_met c.args.node.now

-- ---- The other clauses

pub returns-in-Tip-clause-disk : goal.returns-in-Tip-clause-disk
returns-in-Tip-clause-disk g c = looks_not c.args.disk.now (memory_no_fault c.tip.result c.tip.ensures.memory)

pub returns-in-Epoch-clause-disk : goal.returns-in-Epoch-clause-disk
returns-in-Epoch-clause-disk g c = looks_not c.args.disk.now (memory_no_fault c.epoch.result c.epoch.ensures.memory)

pub returns-in-Cell-clause-disk : goal.returns-in-Cell-clause-disk
returns-in-Cell-clause-disk g c = looks_not c.args.disk.now (memory_no_fault c.cell.result c.cell.ensures.memory)

pub returns-in-Tip-clause-node : goal.returns-in-Tip-clause-node
returns-in-Tip-clause-node g c = keeps_all c.args.node.now (g.D.Disk.reads_as c.args.disk.now) (g.D.Disk.images c.args.disk.now) c.requires.own

pub returns-in-Epoch-clause-node : goal.returns-in-Epoch-clause-node
returns-in-Epoch-clause-node g c = keeps_all c.args.node.now (g.D.Disk.reads_as c.args.disk.now) (g.D.Disk.images c.args.disk.now) c.requires.own

pub returns-in-Cell-clause-node : goal.returns-in-Cell-clause-node
returns-in-Cell-clause-node g c = keeps_all c.args.node.now (g.D.Disk.reads_as c.args.disk.now) (g.D.Disk.images c.args.disk.now) c.requires.own

pub returns-in-Cells-clause-node : goal.returns-in-Cells-clause-node
returns-in-Cells-clause-node g c = keeps_all c.args.node.now (g.D.Disk.reads_as c.args.disk.now) (g.D.Disk.images c.args.disk.now) c.requires.own
