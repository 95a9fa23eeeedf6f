use Rattle.std.proofs.Common.{◌≡◌, ℕ, List, Option, Some, None, string_bytes, ap, sym, ◌∙◌, subst}
use Rattle.std.specs.Prelude.{IfOk}
use Rattle.run_store.proofs.KeepLemmas.{keeps_all}
use Rattle.run_store.proofs.LookLemmas.{looks_not, memory_is_no_fault, memory_no_fault, memory_no_none, memory_opening}
use Rattle.ask_defs.specs.declared.ask.Ask.{Ask}
use Rattle.ask_defs.specs.Asks.{words_of, checked_in, asked_in}
use Rattle.ask_defs.specs.Answers.{answer_to_either, answer_to_asked}
use Rattle.run_ask.proofs.FindLemmas.{checked-some, checked-none}
use Rattle.run_ask.proofs.answers.answer_to_text.Goals as goal

-- ---- A transaction to be judged

pub returns-in-Ok-Some-clause-text : goal.returns-in-Ok-Some-clause-text
returns-in-Ok-Some-clause-text g c = λ sound.
    let words = words_of c.args.text.now in
    let checked : Some c.deref.result.now ≡ checked_in words =
    ap Some c.deref.ensures.value ∙ checked-some (checked_in words) c.in-Ok-Some.field-0 c.in-Ok-Some.item c.in-Ok-Some.field-0-is c.in-Ok-Some.ensures in
    subst (λ (found : Option (List ℕ)). IfOk c.judge.result (λ text. text.items ≡ answer_to_either found (asked_in words) c.args.node.now.chain)) checked
    (c.judge.ensures.text sound)

-- ---- There was no memory for it

pub returns-in-Err-clause-disk : goal.returns-in-Err-clause-disk
returns-in-Err-clause-disk g c = looks_not c.args.disk.now memory_is_no_fault

pub returns-in-Err-clause-node : goal.returns-in-Err-clause-node
returns-in-Err-clause-node g c = keeps_all c.args.node.now (g.D.Disk.reads_as c.args.disk.now) (g.D.Disk.images c.args.disk.now) c.requires.own

-- ---- What is asked otherwise

pub returns-in-Some-clause-text : goal.returns-in-Some-clause-text
returns-in-Some-clause-text g c = λ sound.
    let words = words_of c.args.text.now in
    let checked : None ≡ checked_in words = checked-none (checked_in words) c.in-Ok-None.field-0 c.in-Ok-None.field-0-is c.in-Ok-None.ensures in
    let asked : Some c.in-Some.asked ≡ asked_in words = sym c.in-Some.is ∙ c.asked_in.ensures in
    subst (λ (found : Option (List ℕ)). IfOk c.answer_to.result (λ text. text.items ≡ answer_to_either found (asked_in words) c.args.node.now.chain)) checked
    (subst (λ (found : Option Ask). IfOk c.answer_to.result (λ text. text.items ≡ answer_to_asked found c.args.node.now.chain)) asked (c.answer_to.ensures.text sound))

pub returns-in-None-clause-text : goal.returns-in-None-clause-text
returns-in-None-clause-text g c = λ sound.
    let words = words_of c.args.text.now in
    let checked : None ≡ checked_in words = checked-none (checked_in words) c.in-Ok-None.field-0 c.in-Ok-None.field-0-is c.in-Ok-None.ensures in
    let asked : None ≡ asked_in words = sym c.in-None.is ∙ c.asked_in.ensures in
    c.line_or_stop.ensures.text _
    (subst (λ (found : Option (List ℕ)). IfOk c.no_question_line.result (λ text. string_bytes text ≡ answer_to_either found (asked_in words) c.args.node.now.chain)) checked
    (subst (λ (found : Option Ask). IfOk c.no_question_line.result (λ text. string_bytes text ≡ answer_to_asked found c.args.node.now.chain)) asked c.no_question_line.ensures))

pub returns-in-None-clause-disk : goal.returns-in-None-clause-disk
returns-in-None-clause-disk g c = looks_not c.args.disk.now (memory_no_fault c.line_or_stop.result c.line_or_stop.ensures.memory)

pub returns-in-None-clause-node : goal.returns-in-None-clause-node
returns-in-None-clause-node g c = keeps_all c.args.node.now (g.D.Disk.reads_as c.args.disk.now) (g.D.Disk.images c.args.disk.now) c.requires.own

pub returns-in-None-clause-stop : goal.returns-in-None-clause-stop
returns-in-None-clause-stop g c = λ status is. memory_opening status (c.line_or_stop.ensures.memory status is)

pub returns-in-None-clause-sound : goal.returns-in-None-clause-sound
returns-in-None-clause-sound g c = λ sound is. memory_no_none c.line_or_stop.result c.line_or_stop.ensures.memory is
