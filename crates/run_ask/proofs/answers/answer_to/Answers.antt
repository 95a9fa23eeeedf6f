use Rattle.run_store.proofs.KeepLemmas.{keeps_all}
use Rattle.run_store.proofs.LookLemmas.{looks_not, memory_no_fault, memory_opening, memory_no_none}
use Rattle.run_ask.proofs.answers.answer_to.Goals as goal

pub returns-in-Branch-clause-disk : goal.returns-in-Branch-clause-disk
returns-in-Branch-clause-disk g c = looks_not c.args.disk.now (memory_no_fault c.branch-alloc.result c.branch-alloc.ensures.memory)

pub returns-in-Branch-clause-node : goal.returns-in-Branch-clause-node
returns-in-Branch-clause-node g c = keeps_all c.args.node.now (g.D.Disk.reads_as c.args.disk.now) (g.D.Disk.images c.args.disk.now) c.requires.own

pub returns-in-Branch-clause-stop : goal.returns-in-Branch-clause-stop
returns-in-Branch-clause-stop g c = λ status is. memory_opening status (c.branch-alloc.ensures.memory status is)

pub returns-in-Branch-clause-sound : goal.returns-in-Branch-clause-sound
returns-in-Branch-clause-sound g c = λ sound is. memory_no_none c.branch-alloc.result c.branch-alloc.ensures.memory is
