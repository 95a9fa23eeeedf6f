use Rattle.std.proofs.Common.{◌-◌, length, map, take, drop, ap, sym, ◌∙◌}
use Rattle.std.specs.Prelude.{Err}
use Rattle.std.proofs.lemmas.List.{take_rest}
use Rattle.outside.proofs.Endings.{no_answer}
use Rattle.run_text.proofs.Exits.{same_stop}
use Rattle.run_store.proofs.LookLemmas.{looks_not, looks_found, looks_stopped, memory_no_fault, memory_no_none, memory_opening, memory_is_no_fault}
use Rattle.run_question.proofs.AssemblyLemmas.{few-enough, short-enough, witness-fits, first-and-rest, no-witness-answer, refused-is-told}
use Rattle.run_store.proofs.DamageLemmas.{none_met, none_found, found_said}
use Rattle.run_question.proofs.assembly.assemble.Goals as goal

-- ---- Damage that was found

pub returns-in_default-clause-damage : goal.returns-in_default-clause-damage
returns-in_default-clause-damage g c = none_met c.args.node.now

pub returns-in-Err-clause-damage : goal.returns-in-Err-clause-damage
returns-in-Err-clause-damage g c = found_said c.in-Err.stop c.status_of_reading.result c.in-Err.ensures.left c.status_of_reading.ensures.damaged

pub returns-in-Ok-answer_of-clause-damage : goal.returns-in-Ok-answer_of-clause-damage
returns-in-Ok-answer_of-clause-damage g c = none_found c.in-Ok.ensures.left

pub returns-clause-damage : goal.returns-clause-damage
returns-clause-damage g c = none_found c.in-Ok.ensures.left

-- ---- The witness, and the items after it

pub assemble-requires-clause-items : goal.assemble-requires-clause-items
assemble-requires-clause-items g c =
    few-enough c.args.items.now c.requires.items (take (length c.args.items.now - 1) (drop 1 c.args.items.now)) (take_rest c.args.items.now 1) c.requires.some

pub assemble-requires-clause-bytes : goal.assemble-requires-clause-bytes
assemble-requires-clause-bytes g c =
    short-enough c.args.items.now c.requires.items (take (length c.args.items.now - 1) (drop 1 c.args.items.now)) (take_rest c.args.items.now 1)

pub assemble-requires-clause-witness : goal.assemble-requires-clause-witness
assemble-requires-clause-witness g c =
    witness-fits c.args.items.now c.index-items-0.result c.deref.result.now c.in-Some.witness c.requires.items c.requires.some c.index-items-0.is c.deref.ensures.value
    ((c.read.ensures.exact c.in-Some.witness).0 c.in-Some.is)

-- ---- The first item is no witness

pub returns-in_default-clause-disk : goal.returns-in_default-clause-disk
returns-in_default-clause-disk g c = looks_not c.args.disk.now (memory_no_fault c.unwitnessed.result c.unwitnessed.ensures.memory)

pub returns-in_default-clause-answer : goal.returns-in_default-clause-answer
returns-in_default-clause-answer g c = λ sound.
    no-witness-answer c.args.node.now.chain c.deref.result.now (map (λ item. item.items) (drop 1 c.args.items.now)) (map (λ item. item.items) c.args.items.now) c.unwitnessed.result
    (first-and-rest c.args.items.now c.index-items-0.result c.deref.result.now c.requires.some c.index-items-0.is c.deref.ensures.value)
    (sym (sym c.in_default.is ∙ c.read.ensures.value)) c.unwitnessed.ensures.text c.unwitnessed.ensures.status

pub returns-in_default-clause-one_of : goal.returns-in_default-clause-one_of
returns-in_default-clause-one_of g c = refused-is-told c.unwitnessed.result c.unwitnessed.ensures.status

pub returns-in_default-clause-stop : goal.returns-in_default-clause-stop
returns-in_default-clause-stop g c = λ status is. memory_opening status (c.unwitnessed.ensures.memory status is)

pub returns-in_default-clause-sound : goal.returns-in_default-clause-sound
returns-in_default-clause-sound g c = λ sound is. memory_no_none c.unwitnessed.result c.unwitnessed.ensures.memory is

-- ---- The block was not assembled

pub returns-in-Err-clause-disk : goal.returns-in-Err-clause-disk
returns-in-Err-clause-disk g c = looks_stopped c.in-Err.stop c.status_of_reading.result c.in-Err.ensures.left c.status_of_reading.ensures.fault

pub returns-in-Err-clause-sound : goal.returns-in-Err-clause-sound
returns-in-Err-clause-sound g c = λ sound is.
    let none = c.status_of_reading.ensures.none (same_stop _ _ is) in
    c.in-Err.ensures.undamaged sound none.0 (ap Err none.1)

-- ---- It was printed

pub returns-in-Ok-answer_of-clause-disk : goal.returns-in-Ok-answer_of-clause-disk
returns-in-Ok-answer_of-clause-disk g c = looks_found c.in-Ok.ensures.left (no_answer _ _)

pub returns-clause-disk : goal.returns-clause-disk
returns-clause-disk g c = looks_found c.in-Ok.ensures.left memory_is_no_fault
