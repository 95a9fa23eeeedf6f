use Rattle.std.proofs.Common.{[], inl, inr, refl, ap, sym, subst}
use Rattle.std.specs.Prelude.{Ok, Err}
use Rattle.outside.proofs.Endings.{no_fault, counts-as, no_answer}
use Rattle.outside.proofs.Streams.{takes_none}
use Rattle.run_text.specs.Items.{IsReadingStop}
use Rattle.run_text.proofs.Exits.{same_stop}
use Rattle.run_store.proofs.KeepLemmas.{keeps_all}
use Rattle.run_store.proofs.LookLemmas.{looks_not}
use Rattle.run_ask.specs.Reading.{IsNextLine}
use Rattle.run_ask.specs.declared.next.NextLine.{NextLine}
use Rattle.run_ask.proofs.AskLemmas.{line_asked, last_asked, none_asked, reading_stop, no_input_stop}
use Rattle.run_ask.proofs.asking.ask_next.Goals as goal

-- ---- A line with its line feed

pub returns-in-Ok-Line-clause-asked : goal.returns-in-Ok-Line-clause-asked
returns-in-Ok-Line-clause-asked g c =
    let next = c.in-Ok-Line.ensures.line in
    let left = g.S.Source.left c.next_line.new.input in
    let line = subst (λ (n : NextLine). IsNextLine left (Ok n) next.0) c.in-Ok-Line.field-0-is next.2 in
    let written = c.answer_line.ensures.written in (
      next.0,
      written.0,
      next.1,
      written.1,
      line_asked _ c.args.node.now.chain left c.answer_line.result c.in-Ok-Line.line.items next.0 written.0 line.0 line.1 c.answer_line.ensures.goes
          (λ sound. rw (sym c.deref.ensures.value) (written.2 sound)),
    )

pub returns-in-Ok-Line-clause-stop : goal.returns-in-Ok-Line-clause-stop
returns-in-Ok-Line-clause-stop g c = λ status e. inr (c.answer_line.ensures.stop status e)

pub returns-in-Ok-Line-clause-input_faults : goal.returns-in-Ok-Line-clause-input_faults
returns-in-Ok-Line-clause-input_faults g c = no_fault _ _ (c.in-Ok-Line.ensures.faults.unchanged (no_answer _ _)) (no_input_stop c.answer_line.result c.answer_line.ensures.stop)

-- ---- The last

pub returns-in-Ok-Last-clause-asked : goal.returns-in-Ok-Last-clause-asked
returns-in-Ok-Last-clause-asked g c =
    let next = c.in-Ok-Last.ensures.line in
    let left = g.S.Source.left c.next_line.new.input in
    let line = subst (λ (n : NextLine). IsNextLine left (Ok n) next.0) c.in-Ok-Last.field-0-is next.2 in
    let written = c.answer_line-in-Ok-Last.ensures.written in (
      next.0,
      written.0,
      next.1,
      written.1,
      last_asked _ c.args.node.now.chain left c.answer_line-in-Ok-Last.result c.in-Ok-Last.line.items next.0 written.0 line.0 line.1 line.2 c.answer_line-in-Ok-Last.ensures.goes
          (λ sound. rw (sym c.deref-in-Ok-Last.ensures.value) (written.2 sound)),
    )

pub returns-in-Ok-Last-clause-stop : goal.returns-in-Ok-Last-clause-stop
returns-in-Ok-Last-clause-stop g c = λ status e. inr (c.answer_line-in-Ok-Last.ensures.stop status e)

pub returns-in-Ok-Last-clause-input_faults : goal.returns-in-Ok-Last-clause-input_faults
returns-in-Ok-Last-clause-input_faults g c = no_fault _ _ (c.in-Ok-Last.ensures.faults.unchanged (no_answer _ _)) (no_input_stop c.answer_line-in-Ok-Last.result c.answer_line-in-Ok-Last.ensures.stop)

-- ---- The end

pub returns-in-Ok-End-clause-asked : goal.returns-in-Ok-End-clause-asked
returns-in-Ok-End-clause-asked g c =
    let next = c.in-Ok-End.ensures.line in
    let left = g.S.Source.left c.next_line.new.input in
    let ends = subst (λ (n : NextLine). IsNextLine left (Ok n) next.0) c.in-Ok-End.field-0-is next.2 in
    (next.0, [], next.1, takes_none (g.K.Sink.taken c.args.out.now), none_asked _ c.args.node.now.chain left next.0 ends.0 ends.1)

pub returns-in-Ok-End-clause-disk : goal.returns-in-Ok-End-clause-disk
returns-in-Ok-End-clause-disk g c = looks_not c.args.disk.now (no_answer _ _)

pub returns-in-Ok-End-clause-node : goal.returns-in-Ok-End-clause-node
returns-in-Ok-End-clause-node g c = keeps_all c.args.node.now (g.D.Disk.reads_as c.args.disk.now) (g.D.Disk.images c.args.disk.now) c.requires.own

-- ---- A line that is too long

pub returns-in-Ok-TooLong-clause-asked : goal.returns-in-Ok-TooLong-clause-asked
returns-in-Ok-TooLong-clause-asked g c =
    let next = c.in-Ok-TooLong.ensures.line in
    let left = g.S.Source.left c.next_line.new.input in
    let long = subst (λ (n : NextLine). IsNextLine left (Ok n) next.0) c.in-Ok-TooLong.field-0-is next.2 in
    (next.0, [], next.1, takes_none (g.K.Sink.taken c.args.out.now), (long.0, long.1, refl))

pub returns-in-Ok-TooLong-clause-disk : goal.returns-in-Ok-TooLong-clause-disk
returns-in-Ok-TooLong-clause-disk g c = looks_not c.args.disk.now (no_answer _ _)

pub returns-in-Ok-TooLong-clause-node : goal.returns-in-Ok-TooLong-clause-node
returns-in-Ok-TooLong-clause-node g c = keeps_all c.args.node.now (g.D.Disk.reads_as c.args.disk.now) (g.D.Disk.images c.args.disk.now) c.requires.own

-- ---- The reading was stopped

pub returns-in-Err-clause-asked : goal.returns-in-Err-clause-asked
returns-in-Err-clause-asked g c =
    let next = c.in-Err.ensures.line in
    (next.0, [], next.1, takes_none (g.K.Sink.taken c.args.out.now), inl (record { stop = next.2.0; begun = next.2.1; unwritten = refl }))

pub returns-in-Err-clause-stop : goal.returns-in-Err-clause-stop
returns-in-Err-clause-stop g c = λ status e. reading_stop status (subst IsReadingStop (same_stop _ _ e) c.in-Err.ensures.line.2.0)

pub returns-in-Err-clause-disk : goal.returns-in-Err-clause-disk
returns-in-Err-clause-disk g c = looks_not c.args.disk.now (λ e. subst IsReadingStop (same_stop _ _ e) c.in-Err.ensures.line.2.0)

pub returns-in-Err-clause-node : goal.returns-in-Err-clause-node
returns-in-Err-clause-node g c = keeps_all c.args.node.now (g.D.Disk.reads_as c.args.disk.now) (g.D.Disk.images c.args.disk.now) c.requires.own

pub returns-in-Err-clause-input_faults : goal.returns-in-Err-clause-input_faults
returns-in-Err-clause-input_faults g c = counts-as c.in-Err.ensures.faults (λ e. ap Err (same_stop _ _ e)) (λ e. ap Err (same_stop _ _ e))

pub returns-in-Err-clause-out_faults : goal.returns-in-Err-clause-out_faults
returns-in-Err-clause-out_faults g c = no_fault _ _ refl (λ e. subst IsReadingStop (same_stop _ _ e) c.in-Err.ensures.line.2.0)
