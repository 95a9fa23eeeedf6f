use Rattle.run_store.proofs.KeepLemmas.{keeps_all}
use Rattle.run_store.proofs.LookLemmas.{looks_not, memory_no_fault, memory_opening, memory_no_none}
use Rattle.run_ask.proofs.answers.answer.Goals as goal

pub returns-in-None-clause-disk : goal.returns-in-None-clause-disk
returns-in-None-clause-disk g c = looks_not c.args.disk.now (memory_no_fault c.line_or_stop.result c.line_or_stop.ensures.memory)

pub returns-in-None-clause-node : goal.returns-in-None-clause-node
returns-in-None-clause-node g c = keeps_all c.args.node.now (g.D.Disk.reads_as c.args.disk.now) (g.D.Disk.images c.args.disk.now) c.requires.own

pub returns-in-None-clause-stop : goal.returns-in-None-clause-stop
returns-in-None-clause-stop g c = λ status is. memory_opening status (c.line_or_stop.ensures.memory status is)

pub returns-in-None-clause-sound : goal.returns-in-None-clause-sound
returns-in-None-clause-sound g c = λ sound is. memory_no_none c.line_or_stop.result c.line_or_stop.ensures.memory is
