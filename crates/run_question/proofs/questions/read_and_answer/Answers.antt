use Rattle.std.proofs.Common.{◌∷◌, [], refl, ap, subst, length, map, arith}
use Rattle.std.specs.Prelude.{Ok, Err, string_bytes}
use Rattle.std.proofs.lemmas.List.{length-map}
use Rattle.outside.proofs.Endings.{no_fault, counts-as, no_answer}
use Rattle.outside.proofs.Streams.{takes_none}
use Rattle.report_defs.specs.declared.status.Status.TheVariants.{Done, SomeRefused, InputFault, SinkFault, DiskFault}
use Rattle.report_defs.specs.Report.{question_items}
use Rattle.run_text.specs.Items.{IsReadingStop}
use Rattle.run_text.specs.Whole.{IsWhole, EndsEarly, IsReadWhole}
use Rattle.run_text.specs.declared.whole.Whole.{Whole}
use Rattle.run_text.specs.Output.{early_ends}
use Rattle.run_text.specs.Store.{opening_stops}
use Rattle.run_text.proofs.Tables.{lacks}
use Rattle.run_store.proofs.LookLemmas.{looks_as, looks_well, looks_not}
use Rattle.run_question.proofs.QuestionLemmas.{question_stopped, question_early, question_judged}
use Rattle.run_text.proofs.WholeReports.{whole_no_further}
use Rattle.run_question.proofs.Statuses as statuses
use Rattle.run_text.proofs.Statuses.{reading_stops, opening_stop, told_one}
use Rattle.run_text.proofs.Exits.{same_stop}
use Rattle.run_store.proofs.DamageLemmas.{none_met, none_then}
use Rattle.run_question.proofs.questions.read_and_answer.Goals as goal

-- ---- Damage that was found

pub returns-in-Ok-Early-clause-damage : goal.returns-in-Ok-Early-clause-damage
returns-in-Ok-Early-clause-damage g c = none_met c.args.node.now

pub returns-in-Err-clause-damage : goal.returns-in-Err-clause-damage
returns-in-Err-clause-damage g c = none_met c.args.node.now

pub returns-clause-damage : goal.returns-clause-damage
returns-clause-damage g c = λ rose. same_stop _ _ (c.in-Err-answer_to.ensures.damage rose)

pub returns-in-Ok-clause-damage : goal.returns-in-Ok-clause-damage
returns-in-Ok-clause-damage g c = none_then c.in-Ok.ensures.damage (no_answer _ _)

-- ---- The input ends early

pub returns-in-Ok-Early-clause-answered : goal.returns-in-Ok-Early-clause-answered
returns-in-Ok-Early-clause-answered g c =
    let read = c.in-Ok-Early.ensures.read in
    let said = c.write_early_end.ensures.said in
    let left = g.S.Source.left c.read_items.new.input in
    let early : EndsEarly (question_items c.args.question) 1 left c.in-Ok-Early.end c.in-Ok-Early.offset read.0 =
    subst (λ (w : Whole). IsReadWhole (question_items c.args.question) 1 left (Ok w) read.0) c.in-Ok-Early.field-0-is read.2 in (
      read.0,
      said.0,
      read.1,
      said.1,
      λ sound. question_early c.args.question c.args.node.now.chain left read.0 said.0 c.in-Ok-Early.end c.in-Ok-Early.offset c.write_early_end.result early said.2,
    )

pub returns-in-Ok-Early-clause-status : goal.returns-in-Ok-Early-clause-status
returns-in-Ok-Early-clause-status g c = statuses.question_early c.write_early_end.result c.write_early_end.ensures.one_of

pub returns-in-Ok-Early-clause-disk : goal.returns-in-Ok-Early-clause-disk
returns-in-Ok-Early-clause-disk g c = looks_not c.args.disk.now (lacks early_ends DiskFault refl c.write_early_end.result c.write_early_end.ensures.one_of)

pub returns-in-Ok-Early-clause-input_faults : goal.returns-in-Ok-Early-clause-input_faults
returns-in-Ok-Early-clause-input_faults g c =
    no_fault _ _ (c.in-Ok-Early.ensures.faults.unchanged (no_answer _ _)) (lacks early_ends InputFault refl c.write_early_end.result c.write_early_end.ensures.one_of)

pub returns-in-Ok-Early-clause-out_faults : goal.returns-in-Ok-Early-clause-out_faults
returns-in-Ok-Early-clause-out_faults g c = c.write_early_end.ensures.faults

-- ---- The reading was stopped

pub returns-in-Err-clause-answered : goal.returns-in-Err-clause-answered
returns-in-Err-clause-answered g c =
    let read = c.in-Err.ensures.read in
    let left = g.S.Source.left c.read_items.new.input in (
      read.0,
      [],
      read.1,
      takes_none (g.K.Sink.taken c.args.out.now),
      λ sound. question_stopped c.args.question c.args.node.now.chain left read.0 c.in-Err.status (reading_stops c.in-Err.status read.2.0) read.2.1,
    )

pub returns-in-Err-clause-status : goal.returns-in-Err-clause-status
returns-in-Err-clause-status g c = statuses.question_reading c.in-Err.status c.in-Err.ensures.read.2.0

pub returns-in-Err-clause-disk : goal.returns-in-Err-clause-disk
returns-in-Err-clause-disk g c = looks_not c.args.disk.now (λ e. subst IsReadingStop e c.in-Err.ensures.read.2.0)

pub returns-in-Err-clause-input_faults : goal.returns-in-Err-clause-input_faults
returns-in-Err-clause-input_faults g c =
    counts-as c.in-Err.ensures.faults (λ e. ap Err e) (same_stop _ _)

pub returns-in-Err-clause-out_faults : goal.returns-in-Err-clause-out_faults
returns-in-Err-clause-out_faults g c = no_fault _ _ refl (λ e. subst IsReadingStop e c.in-Err.ensures.read.2.0)

-- ---- The items were read

pub answer_to-requires-clause-some : goal.answer_to-requires-clause-some
answer_to-requires-clause-some g c =
    let read = c.in-Ok-Items.ensures.read in
    let left = g.S.Source.left c.read_items.new.input in
    let whole : IsWhole (question_items c.args.question) 1 left (map (λ item. item.items) c.in-Ok-Items.items.items) read.0 =
    subst (λ (w : Whole). IsReadWhole (question_items c.args.question) 1 left (Ok w) read.0) c.in-Ok-Items.field-0-is read.2 in
    omega (arith, whole.count, ap length c.deref.ensures.value, length-map c.in-Ok-Items.items.items (λ item. item.items))

pub answer_to-requires-clause-items : goal.answer_to-requires-clause-items
answer_to-requires-clause-items g c =
    let read = c.in-Ok-Items.ensures.read in
    let left = g.S.Source.left c.read_items.new.input in
    let whole : IsWhole (question_items c.args.question) 1 left (map (λ item. item.items) c.in-Ok-Items.items.items) read.0 =
    subst (λ (w : Whole). IsReadWhole (question_items c.args.question) 1 left (Ok w) read.0) c.in-Ok-Items.field-0-is read.2 in
    rw (c.deref.ensures.value) whole.all

-- no answer was found
pub returns-clause-answered : goal.returns-clause-answered
returns-clause-answered g c =
    let read = c.in-Ok-Items.ensures.read in
    let left = g.S.Source.left c.read_items.new.input in
    let whole : IsWhole (question_items c.args.question) 1 left (map (λ item. item.items) c.in-Ok-Items.items.items) read.0 =
    subst (λ (w : Whole). IsReadWhole (question_items c.args.question) 1 left (Ok w) read.0) c.in-Ok-Items.field-0-is read.2 in
    let status = c.in-Err-answer_to.status in (
      read.0,
      [],
      read.1,
      takes_none (g.K.Sink.taken c.args.out.now),
      λ sound. question_stopped c.args.question c.args.node.now.chain left read.0 status
          (opening_stop status (c.in-Err-answer_to.ensures.stop status refl) (λ e. c.in-Err-answer_to.ensures.sound sound (ap Err e)))
          (whole_no_further (question_items c.args.question) 1 left (map (λ item. item.items) c.in-Ok-Items.items.items) read.0 whole),
    )

pub returns-clause-status : goal.returns-clause-status
returns-clause-status g c = statuses.question_opening c.in-Err-answer_to.status (c.in-Err-answer_to.ensures.stop c.in-Err-answer_to.status refl)

pub returns-clause-disk : goal.returns-clause-disk
returns-clause-disk g c = looks_as c.in-Err-answer_to.ensures.disk (λ is. ap Err is) (same_stop _ _)

pub returns-clause-input_faults : goal.returns-clause-input_faults
returns-clause-input_faults g c =
    no_fault _ _ (c.in-Ok-Items.ensures.faults.unchanged (no_answer _ _))
    (lacks opening_stops InputFault refl c.in-Err-answer_to.status (c.in-Err-answer_to.ensures.stop c.in-Err-answer_to.status refl))

pub returns-clause-out_faults : goal.returns-clause-out_faults
returns-clause-out_faults g c =
    no_fault _ _ refl (lacks opening_stops SinkFault refl c.in-Err-answer_to.status (c.in-Err-answer_to.ensures.stop c.in-Err-answer_to.status refl))

-- it was printed
pub returns-in-Ok-clause-answered : goal.returns-in-Ok-clause-answered
returns-in-Ok-clause-answered g c =
    let read = c.in-Ok-Items.ensures.read in
    let told = c.write_answer.ensures.told in
    let left = g.S.Source.left c.read_items.new.input in
    let items = map (λ item. item.items) c.deref.result.now in
    let whole : IsWhole (question_items c.args.question) 1 left (map (λ item. item.items) c.in-Ok-Items.items.items) read.0 =
    subst (λ (w : Whole). IsReadWhole (question_items c.args.question) 1 left (Ok w) read.0) c.in-Ok-Items.field-0-is read.2 in
    let here : IsWhole (question_items c.args.question) 1 left items read.0 = rw (c.deref.ensures.value) whole in (
      read.0,
      told.0,
      read.1,
      told.1,
      λ sound. question_judged c.args.question c.args.node.now.chain left items read.0 told.0 (string_bytes c.in-Ok.answer.text) c.in-Ok.answer.status c.write_answer.result
          here (c.in-Ok.ensures.answer sound) c.in-Ok.ensures.one_of told.2,
    )

pub returns-in-Ok-clause-status : goal.returns-in-Ok-clause-status
returns-in-Ok-clause-status g c =
    statuses.question_told c.write_answer.result (told_one (Done ∷ SomeRefused ∷ []) (string_bytes c.in-Ok.answer.text) c.in-Ok.answer.status c.write_answer.result
    c.write_answer.ensures.told.0 c.in-Ok.ensures.one_of c.write_answer.ensures.told.2)

pub returns-in-Ok-clause-disk : goal.returns-in-Ok-clause-disk
returns-in-Ok-clause-disk g c = looks_well c.in-Ok.ensures.disk (no_answer _ _)
    (lacks (SinkFault ∷ Done ∷ SomeRefused ∷ []) DiskFault refl c.write_answer.result (told_one (Done ∷ SomeRefused ∷ []) (string_bytes c.in-Ok.answer.text) c.in-Ok.answer.status c.write_answer.result
    c.write_answer.ensures.told.0 c.in-Ok.ensures.one_of c.write_answer.ensures.told.2))

pub returns-in-Ok-clause-input_faults : goal.returns-in-Ok-clause-input_faults
returns-in-Ok-clause-input_faults g c =
    no_fault _ _ (c.in-Ok-Items.ensures.faults.unchanged (no_answer _ _))
    (lacks (SinkFault ∷ Done ∷ SomeRefused ∷ []) InputFault refl c.write_answer.result (told_one (Done ∷ SomeRefused ∷ []) (string_bytes c.in-Ok.answer.text) c.in-Ok.answer.status c.write_answer.result
    c.write_answer.ensures.told.0 c.in-Ok.ensures.one_of c.write_answer.ensures.told.2))

pub returns-in-Ok-clause-out_faults : goal.returns-in-Ok-clause-out_faults
returns-in-Ok-clause-out_faults g c = c.write_answer.ensures.faults
