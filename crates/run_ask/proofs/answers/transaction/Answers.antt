use Rattle.std.proofs.Common.{List, Option, Err, ap, subst}
use Rattle.std.specs.Prelude.{IfSome}
use Rattle.outside.proofs.Endings.{no_answer}
use Rattle.chain_defs.specs.Tip.{best_branch}
use Rattle.run_text.proofs.Exits.{same_stop}
use Rattle.run_store.proofs.KeepLemmas.{keeps_all}
use Rattle.run_store.proofs.LookLemmas.{looks_as, looks_not, looks_well, memory_no_fault, memory_no_none, memory_opening}
use Rattle.transaction_index.specs.declared.row.Row.{Row}
use Rattle.run_ask.specs.Finding.{IndexesCommitted}
use Rattle.run_ask.proofs.answers.transaction.Goals as goal

-- ---- The index is held

pub returns-in-Some-clause-disk : goal.returns-in-Some-clause-disk
returns-in-Some-clause-disk g c = looks_not c.args.disk.now (memory_no_fault c.transaction_line.result c.transaction_line.ensures.memory)

pub returns-in-Some-clause-node : goal.returns-in-Some-clause-node
returns-in-Some-clause-node g c = keeps_all c.args.node.now (g.D.Disk.reads_as c.args.disk.now) (g.D.Disk.images c.args.disk.now) c.requires.own

pub returns-in-Some-clause-text : goal.returns-in-Some-clause-text
returns-in-Some-clause-text g c = λ some.
    c.transaction_line.ensures.text
    (subst (λ (held : Option (List Row)). IfSome held (IndexesCommitted (best_branch c.args.node.now.chain.blocks))) c.in-Some.is (c.requires.held some))

pub returns-in-Some-clause-stop : goal.returns-in-Some-clause-stop
returns-in-Some-clause-stop g c = λ status is. memory_opening status (c.transaction_line.ensures.memory status is)

pub returns-in-Some-clause-sound : goal.returns-in-Some-clause-sound
returns-in-Some-clause-sound g c = λ some is. memory_no_none c.transaction_line.result c.transaction_line.ensures.memory is

-- ---- It could not be made

pub returns-in-Err-clause-disk : goal.returns-in-Err-clause-disk
returns-in-Err-clause-disk g c = looks_as c.in-Err.ensures.disk (λ e. ap Err (same_stop _ _ e)) (λ e. ap Err (same_stop _ _ e))

pub returns-in-Err-clause-sound : goal.returns-in-Err-clause-sound
returns-in-Err-clause-sound g c = λ some is. c.in-Err.ensures.sound some (ap Err (same_stop _ _ is))

-- ---- It was made

pub returns-clause-disk : goal.returns-clause-disk
returns-clause-disk g c = looks_well c.in-Ok.ensures.disk (no_answer _ _) (memory_no_fault c.transaction_line-line.result c.transaction_line-line.ensures.memory)

pub returns-clause-stop : goal.returns-clause-stop
returns-clause-stop g c = λ status is. memory_opening status (c.transaction_line-line.ensures.memory status is)

pub returns-clause-sound : goal.returns-clause-sound
returns-clause-sound g c = λ some is. memory_no_none c.transaction_line-line.result c.transaction_line-line.ensures.memory is
