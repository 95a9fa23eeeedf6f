use Rattle.std.proofs.Common.{inl, inr, [], refl, ap, sym, ◌∙◌, subst, arith}
use Rattle.std.specs.Prelude.{Ok, Err}
use Rattle.outside.proofs.Endings.{no_fault, no_answer, counts-as, after_still}
use Rattle.outside.proofs.Streams.{takes_none}
use Rattle.node_store.specs.Node.{IsSoundWhereTold}
use Rattle.report_defs.specs.declared.status.Status.TheVariants.{Done, BadSize, ExtraInput}
use Rattle.run_text.proofs.Exits.{same_stop}
use Rattle.run_store.proofs.KeepLemmas.{keeps_all, keeps_then}
use Rattle.run_ask.specs.Asking.{IsAskedNext, AreAnswered}
use Rattle.run_ask.specs.declared.asking.Going.{Going}
use Rattle.run_ask.specs.declared.asking.Going.TheVariants.{On, AtEnd, TooLong}
use Rattle.run_ask.proofs.AskLemmas.{line_count-is, asked_none, asked_more, asked_as, held_as, transferred, answered_all, answered_to_long, answered_to_stop, answered_to_count, answered_at_count, answered_to_fault, same_chain, sound_yet, looks_further, looked, ended_status, stopped_status}
use Rattle.run_ask.proofs.asking.ask_all.Goals as goal

-- ---- Line by line

pub lines-init : goal.lines-init
lines-init g c = record {
  asked = asked_none _ c.args.node.now.chain (g.S.Source.left c.args.input.now) (g.K.Sink.taken c.args.out.now) _ line_count-is;
  keeps = keeps_all c.args.node.now (g.D.Disk.reads_as c.args.disk.now) (g.D.Disk.images c.args.disk.now) c.requires.own;
  held = c.requires.held;
  content = refl;
  input_unchanged = refl;
  out_unchanged = refl;
  disk_unchanged = refl;
}

pub ask_next-requires : goal.ask_next-requires
ask_next-requires g c = record {
  own = c.lines.invariant.keeps.own;
  held = held_as c.lines.node.chain c.args.node.now.chain (g.D.Disk.reads_as c.lines.disk) (g.D.Disk.reads_as c.args.disk.now) c.lines.index
      (sym (same_chain c.args.node.now c.lines.node (g.D.Disk.reads_as c.lines.disk) (g.D.Disk.images c.lines.disk) c.lines.invariant.keeps))
      (sym (g.met.D.Disk.content_rests c.args.disk.now c.lines.disk c.lines.invariant.content).reads) c.lines.invariant.held;
}

pub lines-preserved : goal.lines-preserved
lines-preserved g c =
    let left = g.S.Source.left c.ask_next.new.input in
    let asked = c.in-Ok-On.ensures.asked in
    let keeps = c.lines.invariant.keeps in
    let reads = (g.met.D.Disk.content_rests c.args.disk.now c.lines.disk c.lines.invariant.content).reads in
    let one : IsAskedNext (IsSoundWhereTold c.args.node.now (g.D.Disk.reads_as c.args.disk.now)) c.args.node.now.chain left (Ok On) asked.0 asked.1 =
    asked_as (IsSoundWhereTold c.args.node.now (g.D.Disk.reads_as c.args.disk.now)) (IsSoundWhereTold c.lines.node (g.D.Disk.reads_as c.lines.disk)) c.args.node.now.chain c.lines.node.chain left (Ok On) asked.0 asked.1
    (sound_yet c.args.node.now c.lines.node (g.D.Disk.reads_as c.args.disk.now) (g.D.Disk.reads_as c.lines.disk) (g.D.Disk.images c.lines.disk) keeps reads)
    (same_chain c.args.node.now c.lines.node (g.D.Disk.reads_as c.lines.disk) (g.D.Disk.images c.lines.disk) keeps) (subst (λ (n : Going). IsAskedNext (IsSoundWhereTold c.lines.node (g.D.Disk.reads_as c.lines.disk)) c.lines.node.chain left (Ok n) asked.0 asked.1) c.in-Ok-On.field-0-is asked.4) in
    record {
      asked = asked_more (IsSoundWhereTold c.args.node.now (g.D.Disk.reads_as c.args.disk.now)) c.args.node.now.chain (g.S.Source.left c.args.input.now) (g.S.Source.left c.lines.input) left
          (g.K.Sink.taken c.args.out.now) (g.K.Sink.taken c.lines.out) (g.K.Sink.taken c.ask_next.new.out) c.lines.more c.lines.invariant.asked asked.0 asked.1 _ asked.2 asked.3 one (omega (arith, c.lines-test.true));
      keeps = keeps_then c.args.node.now c.lines.node c.ask_next.new.node (g.D.Disk.reads_as c.lines.disk) (g.D.Disk.reads_as c.ask_next.new.disk)
          (g.D.Disk.images c.lines.disk) (g.D.Disk.images c.ask_next.new.disk) keeps c.in-Ok-On.ensures.node;
      held = held_as c.args.node.now.chain c.lines.node.chain (g.D.Disk.reads_as c.args.disk.now) (g.D.Disk.reads_as c.lines.disk) c.ask_next.new.index
          (same_chain c.args.node.now c.lines.node (g.D.Disk.reads_as c.lines.disk) (g.D.Disk.images c.lines.disk) keeps) reads c.in-Ok-On.ensures.held;
      content = c.in-Ok-On.ensures.disk.content ∙ c.lines.invariant.content;
      input_unchanged = c.in-Ok-On.ensures.input_faults.unchanged (no_answer _ _) ∙ c.lines.invariant.input_unchanged;
      out_unchanged = c.in-Ok-On.ensures.out_faults.unchanged (no_answer _ _) ∙ c.lines.invariant.out_unchanged;
      disk_unchanged = c.in-Ok-On.ensures.disk.cause.unchanged (no_answer _ _) ∙ c.lines.invariant.disk_unchanged;
    }

-- ----

pub returns-in-Ok-AtEnd-clause-asked : goal.returns-in-Ok-AtEnd-clause-asked
returns-in-Ok-AtEnd-clause-asked g c =
    let left = g.S.Source.left c.ask_next.new.input in
    let asked = c.in-Ok-AtEnd.ensures.asked in
    let keeps = c.lines.invariant.keeps in
    let reads = (g.met.D.Disk.content_rests c.args.disk.now c.lines.disk c.lines.invariant.content).reads in
    let one : IsAskedNext (IsSoundWhereTold c.args.node.now (g.D.Disk.reads_as c.args.disk.now)) c.args.node.now.chain left (Ok AtEnd) asked.0 asked.1 =
    asked_as (IsSoundWhereTold c.args.node.now (g.D.Disk.reads_as c.args.disk.now)) (IsSoundWhereTold c.lines.node (g.D.Disk.reads_as c.lines.disk)) c.args.node.now.chain c.lines.node.chain left (Ok AtEnd) asked.0 asked.1
    (sound_yet c.args.node.now c.lines.node (g.D.Disk.reads_as c.args.disk.now) (g.D.Disk.reads_as c.lines.disk) (g.D.Disk.images c.lines.disk) keeps reads)
    (same_chain c.args.node.now c.lines.node (g.D.Disk.reads_as c.lines.disk) (g.D.Disk.images c.lines.disk) keeps) (subst (λ (n : Going). IsAskedNext (IsSoundWhereTold c.lines.node (g.D.Disk.reads_as c.lines.disk)) c.lines.node.chain left (Ok n) asked.0 asked.1) c.in-Ok-AtEnd.field-0-is asked.4) in
    transferred (IsSoundWhereTold c.args.node.now (g.D.Disk.reads_as c.args.disk.now)) c.args.node.now.chain (g.S.Source.left c.args.input.now) (g.S.Source.left c.lines.input) left
    (g.K.Sink.taken c.args.out.now) (g.K.Sink.taken c.lines.out) (g.K.Sink.taken c.ask_next.new.out) c.lines.more c.lines.invariant.asked (λ given taken. (IsSoundWhereTold c.args.node.now (g.D.Disk.reads_as c.args.disk.now)) → AreAnswered c.args.node.now.chain given left taken Done) asked.0 asked.1 asked.2 asked.3
    (λ sound. answered_all (IsSoundWhereTold c.args.node.now (g.D.Disk.reads_as c.args.disk.now)) c.args.node.now.chain (g.S.Source.left c.args.input.now) (g.S.Source.left c.lines.input) left
    (g.K.Sink.taken c.args.out.now) (g.K.Sink.taken c.lines.out) (g.K.Sink.taken c.ask_next.new.out) c.lines.more c.lines.invariant.asked asked.0 asked.1 (λ some. omega (arith, c.lines-test.true)) one sound)

-- ----

pub returns-in-Ok-TooLong-clause-asked : goal.returns-in-Ok-TooLong-clause-asked
returns-in-Ok-TooLong-clause-asked g c =
    let left = g.S.Source.left c.ask_next.new.input in
    let asked = c.in-Ok-TooLong.ensures.asked in
    let keeps = c.lines.invariant.keeps in
    let reads = (g.met.D.Disk.content_rests c.args.disk.now c.lines.disk c.lines.invariant.content).reads in
    let one : IsAskedNext (IsSoundWhereTold c.args.node.now (g.D.Disk.reads_as c.args.disk.now)) c.args.node.now.chain left (Ok TooLong) asked.0 asked.1 =
    asked_as (IsSoundWhereTold c.args.node.now (g.D.Disk.reads_as c.args.disk.now)) (IsSoundWhereTold c.lines.node (g.D.Disk.reads_as c.lines.disk)) c.args.node.now.chain c.lines.node.chain left (Ok TooLong) asked.0 asked.1
    (sound_yet c.args.node.now c.lines.node (g.D.Disk.reads_as c.args.disk.now) (g.D.Disk.reads_as c.lines.disk) (g.D.Disk.images c.lines.disk) keeps reads)
    (same_chain c.args.node.now c.lines.node (g.D.Disk.reads_as c.lines.disk) (g.D.Disk.images c.lines.disk) keeps) (subst (λ (n : Going). IsAskedNext (IsSoundWhereTold c.lines.node (g.D.Disk.reads_as c.lines.disk)) c.lines.node.chain left (Ok n) asked.0 asked.1) c.in-Ok-TooLong.field-0-is asked.4) in
    transferred (IsSoundWhereTold c.args.node.now (g.D.Disk.reads_as c.args.disk.now)) c.args.node.now.chain (g.S.Source.left c.args.input.now) (g.S.Source.left c.lines.input) left
    (g.K.Sink.taken c.args.out.now) (g.K.Sink.taken c.lines.out) (g.K.Sink.taken c.ask_next.new.out) c.lines.more c.lines.invariant.asked (λ given taken. (IsSoundWhereTold c.args.node.now (g.D.Disk.reads_as c.args.disk.now)) → AreAnswered c.args.node.now.chain given left taken BadSize) asked.0 asked.1 asked.2 asked.3
    (λ sound. answered_to_long (IsSoundWhereTold c.args.node.now (g.D.Disk.reads_as c.args.disk.now)) c.args.node.now.chain (g.S.Source.left c.args.input.now) (g.S.Source.left c.lines.input) left
    (g.K.Sink.taken c.args.out.now) (g.K.Sink.taken c.lines.out) (g.K.Sink.taken c.ask_next.new.out) c.lines.more c.lines.invariant.asked asked.0 asked.1 (omega (arith, c.lines-test.true)) one sound)

-- ----

pub returns-in-Err-clause-asked : goal.returns-in-Err-clause-asked
returns-in-Err-clause-asked g c =
    let left = g.S.Source.left c.ask_next.new.input in
    let asked = c.in-Err.ensures.asked in
    let keeps = c.lines.invariant.keeps in
    let reads = (g.met.D.Disk.content_rests c.args.disk.now c.lines.disk c.lines.invariant.content).reads in
    let one : IsAskedNext (IsSoundWhereTold c.args.node.now (g.D.Disk.reads_as c.args.disk.now)) c.args.node.now.chain left (Err c.in-Err.status) asked.0 asked.1 =
    asked_as (IsSoundWhereTold c.args.node.now (g.D.Disk.reads_as c.args.disk.now)) (IsSoundWhereTold c.lines.node (g.D.Disk.reads_as c.lines.disk)) c.args.node.now.chain c.lines.node.chain left (Err c.in-Err.status) asked.0 asked.1
    (sound_yet c.args.node.now c.lines.node (g.D.Disk.reads_as c.args.disk.now) (g.D.Disk.reads_as c.lines.disk) (g.D.Disk.images c.lines.disk) keeps reads)
    (same_chain c.args.node.now c.lines.node (g.D.Disk.reads_as c.lines.disk) (g.D.Disk.images c.lines.disk) keeps) asked.4 in
    transferred (IsSoundWhereTold c.args.node.now (g.D.Disk.reads_as c.args.disk.now)) c.args.node.now.chain (g.S.Source.left c.args.input.now) (g.S.Source.left c.lines.input) left
    (g.K.Sink.taken c.args.out.now) (g.K.Sink.taken c.lines.out) (g.K.Sink.taken c.ask_next.new.out) c.lines.more c.lines.invariant.asked (λ given taken. (IsSoundWhereTold c.args.node.now (g.D.Disk.reads_as c.args.disk.now)) → AreAnswered c.args.node.now.chain given left taken c.in-Err.status) asked.0 asked.1 asked.2 asked.3
    (λ sound. answered_to_stop (IsSoundWhereTold c.args.node.now (g.D.Disk.reads_as c.args.disk.now)) c.args.node.now.chain (g.S.Source.left c.args.input.now) (g.S.Source.left c.lines.input) left
    (g.K.Sink.taken c.args.out.now) (g.K.Sink.taken c.lines.out) (g.K.Sink.taken c.ask_next.new.out) c.lines.more c.lines.invariant.asked asked.0 asked.1 c.in-Err.status (omega (arith, c.lines-test.true)) one sound)

pub returns-in-Ok-AtEnd-clause-status : goal.returns-in-Ok-AtEnd-clause-status
returns-in-Ok-AtEnd-clause-status g c = ended_status Done (inl refl)

pub returns-in-Ok-AtEnd-clause-disk : goal.returns-in-Ok-AtEnd-clause-disk
returns-in-Ok-AtEnd-clause-disk g c = looks_further c.lines.invariant.content c.lines.invariant.disk_unchanged c.in-Ok-AtEnd.ensures.disk (λ e. absurd (cc e)) (λ e. absurd (no_answer _ _ e))

pub returns-in-Ok-AtEnd-clause-input_faults : goal.returns-in-Ok-AtEnd-clause-input_faults
returns-in-Ok-AtEnd-clause-input_faults g c = no_fault _ _ (c.in-Ok-AtEnd.ensures.input_faults.unchanged (no_answer _ _) ∙ c.lines.invariant.input_unchanged) (λ e. absurd (cc e))

pub returns-in-Ok-AtEnd-clause-out_faults : goal.returns-in-Ok-AtEnd-clause-out_faults
returns-in-Ok-AtEnd-clause-out_faults g c = no_fault _ _ (c.in-Ok-AtEnd.ensures.out_faults.unchanged (no_answer _ _) ∙ c.lines.invariant.out_unchanged) (λ e. absurd (cc e))

pub returns-in-Ok-TooLong-clause-status : goal.returns-in-Ok-TooLong-clause-status
returns-in-Ok-TooLong-clause-status g c = ended_status BadSize (inr (inl refl))

pub returns-in-Ok-TooLong-clause-disk : goal.returns-in-Ok-TooLong-clause-disk
returns-in-Ok-TooLong-clause-disk g c = looks_further c.lines.invariant.content c.lines.invariant.disk_unchanged c.in-Ok-TooLong.ensures.disk (λ e. absurd (cc e)) (λ e. absurd (no_answer _ _ e))

pub returns-in-Ok-TooLong-clause-input_faults : goal.returns-in-Ok-TooLong-clause-input_faults
returns-in-Ok-TooLong-clause-input_faults g c = no_fault _ _ (c.in-Ok-TooLong.ensures.input_faults.unchanged (no_answer _ _) ∙ c.lines.invariant.input_unchanged) (λ e. absurd (cc e))

pub returns-in-Ok-TooLong-clause-out_faults : goal.returns-in-Ok-TooLong-clause-out_faults
returns-in-Ok-TooLong-clause-out_faults g c = no_fault _ _ (c.in-Ok-TooLong.ensures.out_faults.unchanged (no_answer _ _) ∙ c.lines.invariant.out_unchanged) (λ e. absurd (cc e))

pub returns-in-Err-clause-status : goal.returns-in-Err-clause-status
returns-in-Err-clause-status g c = stopped_status c.in-Err.status (c.in-Err.ensures.stop c.in-Err.status refl)

pub returns-in-Err-clause-disk : goal.returns-in-Err-clause-disk
returns-in-Err-clause-disk g c = looks_further c.lines.invariant.content c.lines.invariant.disk_unchanged c.in-Err.ensures.disk (λ e. ap Err e) (λ e. same_stop _ _ e)

pub returns-in-Err-clause-input_faults : goal.returns-in-Err-clause-input_faults
returns-in-Err-clause-input_faults g c = after_still c.lines.invariant.input_unchanged (counts-as c.in-Err.ensures.input_faults (λ e. ap Err e) (λ e. same_stop _ _ e))

pub returns-in-Err-clause-out_faults : goal.returns-in-Err-clause-out_faults
returns-in-Err-clause-out_faults g c = after_still c.lines.invariant.out_unchanged (counts-as c.in-Err.ensures.out_faults (λ e. ap Err e) (λ e. same_stop _ _ e))

-- ---- As many lines as are counted

pub returns-in-Ok-true-clause-asked : goal.returns-in-Ok-true-clause-asked
returns-in-Ok-true-clause-asked g c =
    let more = c.in-Ok-true.ensures.more in
    transferred (IsSoundWhereTold c.args.node.now (g.D.Disk.reads_as c.args.disk.now)) c.args.node.now.chain (g.S.Source.left c.args.input.now) (g.S.Source.left c.lines.input) (g.S.Source.left c.has_more.new.input)
    (g.K.Sink.taken c.args.out.now) (g.K.Sink.taken c.lines.out) (g.K.Sink.taken c.lines.out) c.lines.more c.lines.invariant.asked (λ given taken. (IsSoundWhereTold c.args.node.now (g.D.Disk.reads_as c.args.disk.now)) → AreAnswered c.args.node.now.chain given (g.S.Source.left c.has_more.new.input) taken ExtraInput) more.0 [] more.1
    (takes_none (g.K.Sink.taken c.lines.out)) (λ sound. answered_to_count (IsSoundWhereTold c.args.node.now (g.D.Disk.reads_as c.args.disk.now)) c.args.node.now.chain (g.S.Source.left c.args.input.now) (g.S.Source.left c.lines.input) (g.S.Source.left c.has_more.new.input)
    (g.K.Sink.taken c.args.out.now) (g.K.Sink.taken c.lines.out) (g.K.Sink.taken c.lines.out) c.lines.more c.lines.invariant.asked more.0 (omega (arith, c.lines-test.false)) (rw c.in-Ok-true.field-0-test at more.2) sound)

pub returns-in-Ok-true-clause-status : goal.returns-in-Ok-true-clause-status
returns-in-Ok-true-clause-status g c = ended_status ExtraInput (inr (inr (inl refl)))

pub returns-in-Ok-true-clause-disk : goal.returns-in-Ok-true-clause-disk
returns-in-Ok-true-clause-disk g c = looked c.lines.invariant.content c.lines.invariant.disk_unchanged (λ e. absurd (cc e))

pub returns-in-Ok-true-clause-input_faults : goal.returns-in-Ok-true-clause-input_faults
returns-in-Ok-true-clause-input_faults g c = no_fault _ _ (c.in-Ok-true.ensures.faults.unchanged (no_answer _ _) ∙ c.lines.invariant.input_unchanged) (λ e. absurd (cc e))

pub returns-in-Ok-true-clause-out_faults : goal.returns-in-Ok-true-clause-out_faults
returns-in-Ok-true-clause-out_faults g c = no_fault _ _ c.lines.invariant.out_unchanged (λ e. absurd (cc e))

pub returns-in-Ok-false-clause-asked : goal.returns-in-Ok-false-clause-asked
returns-in-Ok-false-clause-asked g c =
    let more = c.in-Ok-false.ensures.more in
    transferred (IsSoundWhereTold c.args.node.now (g.D.Disk.reads_as c.args.disk.now)) c.args.node.now.chain (g.S.Source.left c.args.input.now) (g.S.Source.left c.lines.input) (g.S.Source.left c.has_more.new.input)
    (g.K.Sink.taken c.args.out.now) (g.K.Sink.taken c.lines.out) (g.K.Sink.taken c.lines.out) c.lines.more c.lines.invariant.asked (λ given taken. (IsSoundWhereTold c.args.node.now (g.D.Disk.reads_as c.args.disk.now)) → AreAnswered c.args.node.now.chain given (g.S.Source.left c.has_more.new.input) taken Done) more.0 [] more.1
    (takes_none (g.K.Sink.taken c.lines.out)) (λ sound. answered_at_count (IsSoundWhereTold c.args.node.now (g.D.Disk.reads_as c.args.disk.now)) c.args.node.now.chain (g.S.Source.left c.args.input.now) (g.S.Source.left c.lines.input) (g.S.Source.left c.has_more.new.input)
    (g.K.Sink.taken c.args.out.now) (g.K.Sink.taken c.lines.out) (g.K.Sink.taken c.lines.out) c.lines.more c.lines.invariant.asked more.0 (rw c.in-Ok-false.field-0-test at more.2).0 (rw c.in-Ok-false.field-0-test at more.2).1 sound)

pub returns-in-Ok-false-clause-status : goal.returns-in-Ok-false-clause-status
returns-in-Ok-false-clause-status g c = ended_status Done (inl refl)

pub returns-in-Ok-false-clause-disk : goal.returns-in-Ok-false-clause-disk
returns-in-Ok-false-clause-disk g c = looked c.lines.invariant.content c.lines.invariant.disk_unchanged (λ e. absurd (cc e))

pub returns-in-Ok-false-clause-input_faults : goal.returns-in-Ok-false-clause-input_faults
returns-in-Ok-false-clause-input_faults g c = no_fault _ _ (c.in-Ok-false.ensures.faults.unchanged (no_answer _ _) ∙ c.lines.invariant.input_unchanged) (λ e. absurd (cc e))

pub returns-in-Ok-false-clause-out_faults : goal.returns-in-Ok-false-clause-out_faults
returns-in-Ok-false-clause-out_faults g c = no_fault _ _ c.lines.invariant.out_unchanged (λ e. absurd (cc e))

pub returns-in-Err-has_more-clause-asked : goal.returns-in-Err-has_more-clause-asked
returns-in-Err-has_more-clause-asked g c =
    let more = c.in-Err-has_more.ensures.more in
    transferred (IsSoundWhereTold c.args.node.now (g.D.Disk.reads_as c.args.disk.now)) c.args.node.now.chain (g.S.Source.left c.args.input.now) (g.S.Source.left c.lines.input) (g.S.Source.left c.has_more.new.input)
    (g.K.Sink.taken c.args.out.now) (g.K.Sink.taken c.lines.out) (g.K.Sink.taken c.lines.out) c.lines.more c.lines.invariant.asked (λ given taken. (IsSoundWhereTold c.args.node.now (g.D.Disk.reads_as c.args.disk.now)) → AreAnswered c.args.node.now.chain given (g.S.Source.left c.has_more.new.input) taken c.in-Err-has_more.status) more.0 [] more.1
    (takes_none (g.K.Sink.taken c.lines.out)) (λ sound. answered_to_fault (IsSoundWhereTold c.args.node.now (g.D.Disk.reads_as c.args.disk.now)) c.args.node.now.chain (g.S.Source.left c.args.input.now) (g.S.Source.left c.lines.input) (g.S.Source.left c.has_more.new.input)
    (g.K.Sink.taken c.args.out.now) (g.K.Sink.taken c.lines.out) (g.K.Sink.taken c.lines.out) c.lines.more c.lines.invariant.asked more.0 c.in-Err-has_more.status more.2.0 more.2.1 sound)

pub returns-in-Err-has_more-clause-status : goal.returns-in-Err-has_more-clause-status
returns-in-Err-has_more-clause-status g c = ended_status c.in-Err-has_more.status (inr (inr (inr (inl c.in-Err-has_more.ensures.more.2.0))))

pub returns-in-Err-has_more-clause-disk : goal.returns-in-Err-has_more-clause-disk
returns-in-Err-has_more-clause-disk g c = looked c.lines.invariant.content c.lines.invariant.disk_unchanged (λ e. absurd (cc (sym c.in-Err-has_more.ensures.more.2.0 ∙ e)))

pub returns-in-Err-has_more-clause-input_faults : goal.returns-in-Err-has_more-clause-input_faults
returns-in-Err-has_more-clause-input_faults g c = after_still c.lines.invariant.input_unchanged (counts-as c.in-Err-has_more.ensures.faults (λ e. ap Err e) (λ e. same_stop _ _ e))

pub returns-in-Err-has_more-clause-out_faults : goal.returns-in-Err-has_more-clause-out_faults
returns-in-Err-has_more-clause-out_faults g c = no_fault _ _ c.lines.invariant.out_unchanged (λ e. absurd (cc (sym c.in-Err-has_more.ensures.more.2.0 ∙ e)))
