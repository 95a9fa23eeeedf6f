use Rattle.std.proofs.Common.{◌≡◌, Option, Some, Err, string_bytes, sym, ap, ◌∙◌, subst}
use Rattle.std.specs.Prelude.{IfOk}
use Rattle.outside.proofs.Endings.{no_answer, nothing_read}
use Rattle.chain_defs.specs.Schema.{Block}
use Rattle.run_text.proofs.Exits.{same_stop}
use Rattle.run_store.proofs.KeepLemmas.{keeps_left}
use Rattle.run_store.proofs.LookLemmas.{looks_found, looks_stopped, memory_is_no_fault, memory_no_fault, memory_no_none, memory_opening, none_no_fault}
use Rattle.ask_defs.specs.Answers.{line_of_named}
use Rattle.run_ask.specs.Showing.{shown}
use Rattle.run_ask.proofs.FindLemmas.{block-found, none-found}
use Rattle.run_ask.proofs.answers.show.Goals as goal

-- ---- The block was not read

pub returns-in-Err-clause-disk : goal.returns-in-Err-clause-disk
returns-in-Err-clause-disk g c = looks_stopped c.in-Err.stop c.status_of_reading.result c.in-Err.ensures.left c.status_of_reading.ensures.fault

pub returns-in-Err-clause-node : goal.returns-in-Err-clause-node
returns-in-Err-clause-node g c = keeps_left c.in-Err.ensures.left

pub returns-in-Err-clause-sound : goal.returns-in-Err-clause-sound
returns-in-Err-clause-sound g c = λ some is.
    let none = c.status_of_reading.ensures.none (same_stop _ _ is) in
    c.in-Err.ensures.undamaged some none.0 (ap Err none.1)

-- ---- There is none

pub returns-in-None-clause-disk : goal.returns-in-None-clause-disk
returns-in-None-clause-disk g c = looks_found c.in-Ok.ensures.left (memory_no_fault c.line_or_stop.result c.line_or_stop.ensures.memory)

pub returns-in-None-clause-node : goal.returns-in-None-clause-node
returns-in-None-clause-node g c = keeps_left c.in-Ok.ensures.left

pub returns-in-None-clause-text : goal.returns-in-None-clause-text
returns-in-None-clause-text g c = λ some.
    let none = none-found c.args.node.now.chain c.args.hash.now c.in-Ok.found c.in-None.is (c.in-Ok.ensures.block some) in
    c.line_or_stop.ensures.text _
    (subst (λ (found : Option Block). IfOk c.none_line.result (λ text. string_bytes text ≡ line_of_named (shown c.args.how) found)) (sym none) c.none_line.ensures)

pub returns-in-None-clause-stop : goal.returns-in-None-clause-stop
returns-in-None-clause-stop g c = λ status is. memory_opening status (c.line_or_stop.ensures.memory status is)

pub returns-in-None-clause-sound : goal.returns-in-None-clause-sound
returns-in-None-clause-sound g c = λ some is. memory_no_none c.line_or_stop.result c.line_or_stop.ensures.memory is

-- ---- It was read

pub returns-in_default-clause-disk : goal.returns-in_default-clause-disk
returns-in_default-clause-disk g c = looks_found c.in-Ok.ensures.left none_no_fault

pub returns-in_default-clause-node : goal.returns-in_default-clause-node
returns-in_default-clause-node g c = keeps_left c.in-Ok.ensures.left

pub returns-in_default-clause-sound : goal.returns-in_default-clause-sound
returns-in_default-clause-sound g c = λ some is.
    let there = block-found c.args.node.now.chain c.args.hash.now c.in-Ok.found c.in-Some.bytes c.deref.result.now c.in-Some.is c.deref.ensures.value
    (c.in-Ok.ensures.block some) in
    nothing_read there.0 (sym c.in_default.is ∙ (c.read.ensures.exact there.0).1 there.2)

pub returns-in_default-text_of_block-clause-disk : goal.returns-in_default-text_of_block-clause-disk
returns-in_default-text_of_block-clause-disk g c = looks_found c.in-Ok.ensures.left memory_is_no_fault

pub returns-in_default-text_of_block-clause-node : goal.returns-in_default-text_of_block-clause-node
returns-in_default-text_of_block-clause-node g c = keeps_left c.in-Ok.ensures.left

pub returns-clause-disk : goal.returns-clause-disk
returns-clause-disk g c = looks_found c.in-Ok.ensures.left (no_answer _ _)

pub returns-clause-node : goal.returns-clause-node
returns-clause-node g c = keeps_left c.in-Ok.ensures.left

pub returns-clause-text : goal.returns-clause-text
returns-clause-text g c = λ some.
    let there = block-found c.args.node.now.chain c.args.hash.now c.in-Ok.found c.in-Some.bytes c.deref.result.now c.in-Some.is c.deref.ensures.value
    (c.in-Ok.ensures.block some) in
    let same : Some c.in-Some-read.block ≡ Some there.0 = sym c.in-Some-read.is ∙ (c.read.ensures.exact there.0).1 there.2 in
    c.in-Ok-text_of_block.ensures ∙ ap (line_of_named (shown c.args.how)) (same ∙ sym there.1)
