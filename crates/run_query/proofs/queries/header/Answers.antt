use Rattle.std.proofs.Common.{Err, ap}
use Rattle.report_defs.specs.Queries.{header_answer}
use Rattle.run_text.proofs.Exits.{same_stop}
use Rattle.run_store.proofs.KeepLemmas.{keeps_left}
use Rattle.run_store.proofs.LookLemmas.{looks_found, looks_stopped, memory_no_fault, memory_no_none, memory_opening}
use Rattle.run_store.proofs.DamageLemmas.{none_found, found_said}
use Rattle.run_query.proofs.queries.header.Goals as goal

-- ---- Damage that was found

pub returns-in-Err-clause-damage : goal.returns-in-Err-clause-damage
returns-in-Err-clause-damage g c = found_said c.in-Err.stop c.status_of_reading.result c.in-Err.ensures.left c.status_of_reading.ensures.damaged

pub returns-clause-damage : goal.returns-clause-damage
returns-clause-damage g c = none_found c.in-Ok.ensures.left

-- ---- The other clauses

pub returns-in-Err-clause-disk : goal.returns-in-Err-clause-disk
returns-in-Err-clause-disk g c = looks_stopped c.in-Err.stop c.status_of_reading.result c.in-Err.ensures.left c.status_of_reading.ensures.fault

pub returns-in-Err-clause-sound : goal.returns-in-Err-clause-sound
returns-in-Err-clause-sound g c = λ some is.
    let none = c.status_of_reading.ensures.none (same_stop _ _ is) in
    c.in-Err.ensures.undamaged some none.0 (ap Err none.1)

pub returns-clause-disk : goal.returns-clause-disk
returns-clause-disk g c = looks_found c.in-Ok.ensures.left (memory_no_fault c.line_or_stop.result c.line_or_stop.ensures.memory)

pub returns-clause-text : goal.returns-clause-text
returns-clause-text g c = λ some. c.line_or_stop.ensures.text (header_answer c.args.height c.args.node.now.chain)
    (c.header_line_of.ensures c.args.node.now.chain.blocks (c.in-Ok.ensures.header some))

pub returns-clause-stop : goal.returns-clause-stop
returns-clause-stop g c = λ status is. memory_opening status (c.line_or_stop.ensures.memory status is)

pub returns-clause-sound : goal.returns-clause-sound
returns-clause-sound g c = λ some is. memory_no_none c.line_or_stop.result c.line_or_stop.ensures.memory is

pub returns-in-Err-clause-node : goal.returns-in-Err-clause-node
returns-in-Err-clause-node g c = keeps_left c.in-Err.ensures.left

pub returns-clause-node : goal.returns-clause-node
returns-clause-node g c = keeps_left c.in-Ok.ensures.left
