use Rattle.std.proofs.Common.{Err, ap}
use Rattle.outside.proofs.Endings.{no_answer}
use Rattle.chain_defs.specs.Tip.{best_branch}
use Rattle.run_text.proofs.Exits.{same_stop}
use Rattle.run_store.proofs.KeepLemmas.{keeps_left}
use Rattle.run_store.proofs.LookLemmas.{looks_found, looks_stopped}
use Rattle.run_ask.proofs.IndexLemmas.{index-of}
use Rattle.run_ask.proofs.committed.index_of.Goals as goal

pub returns-in-Err-clause-disk : goal.returns-in-Err-clause-disk
returns-in-Err-clause-disk g c = looks_stopped c.in-Err.stop c.status_of_reading.result c.in-Err.ensures.left c.status_of_reading.ensures.fault

pub returns-in-Err-clause-node : goal.returns-in-Err-clause-node
returns-in-Err-clause-node g c = keeps_left c.in-Err.ensures.left

pub returns-in-Err-clause-sound : goal.returns-in-Err-clause-sound
returns-in-Err-clause-sound g c = λ some is.
    let none = c.status_of_reading.ensures.none (same_stop _ _ is) in
    c.in-Err.ensures.undamaged some none.0 (ap Err none.1)

pub returns-clause-disk : goal.returns-clause-disk
returns-clause-disk g c = looks_found c.in-Ok.ensures.left (no_answer _ _)

pub returns-clause-node : goal.returns-clause-node
returns-clause-node g c = keeps_left c.in-Ok.ensures.left

pub returns-clause-indexes : goal.returns-clause-indexes
returns-clause-indexes g c = λ some.
    let rows = c.in-Ok.ensures.rows some in
    index-of (best_branch c.args.node.now.chain.blocks) c.in-Ok.rows.items c.of.result rows.all (c.of.ensures rows.in_order)
