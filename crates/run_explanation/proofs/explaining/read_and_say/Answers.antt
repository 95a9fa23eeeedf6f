use Rattle.std.proofs.Common.{◌∷◌, [], refl, ap, sym, subst, length, map, arith, rules}
use Rattle.std.specs.Prelude.{Ok, Err, string_bytes}
use Rattle.std.proofs.lemmas.List.{length-map}
use Rattle.outside.proofs.Endings.{no_fault, counts-as, no_answer}
use Rattle.outside.proofs.Streams.{takes_none}
use Rattle.report_defs.specs.declared.status.Status.TheVariants.{Done, SomeRefused, InputFault, SinkFault, DiskFault, NoMemory}
use Rattle.report_defs.specs.declared.status.Status.{Status}
use Rattle.report_defs.specs.Status.{IsOneOf}
use Rattle.run_explanation.specs.Explanation.{one_item}
use Rattle.run_text.specs.Items.{IsReadingStop}
use Rattle.run_text.specs.Whole.{IsWhole, EndsEarly, IsReadWhole}
use Rattle.run_text.specs.declared.whole.Whole.{Whole}
use Rattle.run_text.specs.Output.{IsWrittenAnswer, early_ends}
use Rattle.run_text.specs.Store.{opening_stops}
use Rattle.run_text.proofs.Tables.{lacks}
use Rattle.run_store.proofs.LookLemmas.{looks_as, looks_well, looks_not}
use Rattle.run_explanation.proofs.ExplanationLemmas.{explain_stopped, explain_early, explain_judged}
use Rattle.run_text.proofs.WholeReports.{whole_no_further}
use Rattle.run_question.proofs.Statuses as statuses
use Rattle.run_text.proofs.Statuses.{reading_stops, opening_stop, told_one}
use Rattle.run_text.proofs.Exits.{same_stop}
use Rattle.run_explanation.proofs.explaining.read_and_say.Goals as goal

-- ---- The input ends early

pub returns-in-Ok-Early-clause-said : goal.returns-in-Ok-Early-clause-said
returns-in-Ok-Early-clause-said g c =
    let read = c.in-Ok-Early.ensures.read in
    let said = c.write_early_end.ensures.said in
    let left = g.S.Source.left c.read_items.new.input in
    let early : EndsEarly one_item 1 left c.in-Ok-Early.end c.in-Ok-Early.offset read.0 =
    subst (λ (w : Whole). IsReadWhole one_item 1 left (Ok w) read.0) c.in-Ok-Early.field-0-is read.2 in (
      read.0,
      said.0,
      read.1,
      said.1,
      (
        [],
        λ sound. explain_early [] c.args.wanted.asked c.args.node.chain left read.0 said.0 c.in-Ok-Early.end c.in-Ok-Early.offset c.write_early_end.result early said.2,
      ),
    )

pub returns-in-Ok-Early-clause-status : goal.returns-in-Ok-Early-clause-status
returns-in-Ok-Early-clause-status g c = statuses.question_early c.write_early_end.result c.write_early_end.ensures.one_of

pub returns-in-Ok-Early-clause-disk : goal.returns-in-Ok-Early-clause-disk
returns-in-Ok-Early-clause-disk g c = looks_not c.args.disk.now (lacks early_ends DiskFault refl c.write_early_end.result c.write_early_end.ensures.one_of)

pub returns-in-Ok-Early-clause-input_faults : goal.returns-in-Ok-Early-clause-input_faults
returns-in-Ok-Early-clause-input_faults g c =
    no_fault _ _ (c.in-Ok-Early.ensures.faults.unchanged (no_answer _ _)) (lacks early_ends InputFault refl c.write_early_end.result c.write_early_end.ensures.one_of)

pub returns-in-Ok-Early-clause-out_faults : goal.returns-in-Ok-Early-clause-out_faults
returns-in-Ok-Early-clause-out_faults g c = c.write_early_end.ensures.faults

-- ---- The reading was stopped

pub returns-in-Err-clause-said : goal.returns-in-Err-clause-said
returns-in-Err-clause-said g c =
    let read = c.in-Err.ensures.read in
    let left = g.S.Source.left c.read_items.new.input in (
      read.0,
      [],
      read.1,
      takes_none (g.K.Sink.taken c.args.out.now),
      (
        [],
        λ sound. explain_stopped [] c.args.wanted.asked c.args.node.chain left read.0 c.in-Err.status (reading_stops c.in-Err.status read.2.0) read.2.1,
      ),
    )

pub returns-in-Err-clause-status : goal.returns-in-Err-clause-status
returns-in-Err-clause-status g c = statuses.question_reading c.in-Err.status c.in-Err.ensures.read.2.0

pub returns-in-Err-clause-disk : goal.returns-in-Err-clause-disk
returns-in-Err-clause-disk g c = looks_not c.args.disk.now (λ e. subst IsReadingStop e c.in-Err.ensures.read.2.0)

pub returns-in-Err-clause-input_faults : goal.returns-in-Err-clause-input_faults
returns-in-Err-clause-input_faults g c =
    counts-as c.in-Err.ensures.faults (λ e. ap Err e) (same_stop _ _)

pub returns-in-Err-clause-out_faults : goal.returns-in-Err-clause-out_faults
returns-in-Err-clause-out_faults g c = no_fault _ _ refl (λ e. subst IsReadingStop e c.in-Err.ensures.read.2.0)

-- ---- The items were read

pub say-requires-clause-some : goal.say-requires-clause-some
say-requires-clause-some g c =
    let read = c.in-Ok-Items.ensures.read in
    let left = g.S.Source.left c.read_items.new.input in
    let whole : IsWhole one_item 1 left (map (λ item. item.items) c.in-Ok-Items.items.items) read.0 =
    subst (λ (w : Whole). IsReadWhole one_item 1 left (Ok w) read.0) c.in-Ok-Items.field-0-is read.2 in
    omega (arith, whole.count, ap length c.deref.ensures.value, length-map c.in-Ok-Items.items.items (λ item. item.items))

-- no answer was found
pub returns-in-Err-say-clause-said : goal.returns-in-Err-say-clause-said
returns-in-Err-say-clause-said g c =
    let read = c.in-Ok-Items.ensures.read in
    let left = g.S.Source.left c.read_items.new.input in
    let whole : IsWhole one_item 1 left (map (λ item. item.items) c.in-Ok-Items.items.items) read.0 =
    subst (λ (w : Whole). IsReadWhole one_item 1 left (Ok w) read.0) c.in-Ok-Items.field-0-is read.2 in
    let status = c.in-Err-say.status in (
      read.0,
      [],
      read.1,
      takes_none (g.K.Sink.taken c.args.out.now),
      (
        [],
        λ sound. explain_stopped [] c.args.wanted.asked c.args.node.chain left read.0 status
            (opening_stop status (c.in-Err-say.ensures.stop status refl) (λ e. c.in-Err-say.ensures.sound sound (ap Err e)))
            (whole_no_further one_item 1 left (map (λ item. item.items) c.in-Ok-Items.items.items) read.0 whole),
      ),
    )

pub returns-in-Err-say-clause-status : goal.returns-in-Err-say-clause-status
returns-in-Err-say-clause-status g c = statuses.question_opening c.in-Err-say.status (c.in-Err-say.ensures.stop c.in-Err-say.status refl)

pub returns-in-Err-say-clause-disk : goal.returns-in-Err-say-clause-disk
returns-in-Err-say-clause-disk g c = looks_as c.in-Err-say.ensures.disk (λ is. ap Err is) (same_stop _ _)

pub returns-in-Err-say-clause-input_faults : goal.returns-in-Err-say-clause-input_faults
returns-in-Err-say-clause-input_faults g c =
    no_fault _ _ (c.in-Ok-Items.ensures.faults.unchanged (no_answer _ _))
    (lacks opening_stops InputFault refl c.in-Err-say.status (c.in-Err-say.ensures.stop c.in-Err-say.status refl))

pub returns-in-Err-say-clause-out_faults : goal.returns-in-Err-say-clause-out_faults
returns-in-Err-say-clause-out_faults g c =
    no_fault _ _ refl (lacks opening_stops SinkFault refl c.in-Err-say.status (c.in-Err-say.ensures.stop c.in-Err-say.status refl))

-- there was no memory for one text
pub returns-clause-said : goal.returns-clause-said
returns-clause-said g c =
    let read = c.in-Ok-Items.ensures.read in
    let left = g.S.Source.left c.read_items.new.input in
    let whole : IsWhole one_item 1 left (map (λ item. item.items) c.in-Ok-Items.items.items) read.0 =
    subst (λ (w : Whole). IsReadWhole one_item 1 left (Ok w) read.0) c.in-Ok-Items.field-0-is read.2 in (
      read.0,
      [],
      read.1,
      takes_none (g.K.Sink.taken c.args.out.now),
      (
        [],
        λ sound. explain_stopped [] c.args.wanted.asked c.args.node.chain left read.0 NoMemory
            (opening_stop NoMemory (search rules) (λ e. absurd (cc)))
            (whole_no_further one_item 1 left (map (λ item. item.items) c.in-Ok-Items.items.items) read.0 whole),
      ),
    )

pub returns-clause-disk : goal.returns-clause-disk
returns-clause-disk g c = looks_well c.in-Ok.ensures.disk (no_answer _ _) (λ is. absurd (cc))

pub returns-clause-input_faults : goal.returns-clause-input_faults
returns-clause-input_faults g c = no_fault _ _ (c.in-Ok-Items.ensures.faults.unchanged (no_answer _ _)) (λ is. absurd (cc))

pub returns-clause-out_faults : goal.returns-clause-out_faults
returns-clause-out_faults g c = no_fault _ _ refl (λ is. absurd (cc))

-- it was printed
pub returns-in-Ok-as_one-clause-said : goal.returns-in-Ok-as_one-clause-said
returns-in-Ok-as_one-clause-said g c =
    let read = c.in-Ok-Items.ensures.read in
    let told = c.write_answer.ensures.told in
    let left = g.S.Source.left c.read_items.new.input in
    let items = map (λ item. item.items) c.deref.result.now in
    let whole : IsWhole one_item 1 left (map (λ item. item.items) c.in-Ok-Items.items.items) read.0 =
    subst (λ (w : Whole). IsReadWhole one_item 1 left (Ok w) read.0) c.in-Ok-Items.field-0-is read.2 in
    let here : IsWhole one_item 1 left items read.0 = rw (c.deref.ensures.value) whole in (
      read.0,
      told.0,
      read.1,
      told.1,
      (
        string_bytes c.in-Ok.said.page,
        λ sound. explain_judged (string_bytes c.in-Ok.said.page) c.args.wanted.asked c.args.node.chain left items read.0 told.0 (string_bytes c.in-Ok.said.line.text)
            (string_bytes c.in-Ok-as_one.answer.text) c.in-Ok.said.line.status c.write_answer.result here (c.in-Ok.ensures.said sound) c.in-Ok-as_one.ensures.text c.in-Ok.ensures.one_of
            (subst (λ (status : Status). IsWrittenAnswer (string_bytes c.in-Ok-as_one.answer.text) status c.write_answer.result told.0) c.in-Ok-as_one.ensures.status told.2),
      ),
    )

pub returns-in-Ok-as_one-clause-status : goal.returns-in-Ok-as_one-clause-status
returns-in-Ok-as_one-clause-status g c =
    statuses.question_told c.write_answer.result (told_one (Done ∷ SomeRefused ∷ []) (string_bytes c.in-Ok-as_one.answer.text) c.in-Ok-as_one.answer.status c.write_answer.result
    c.write_answer.ensures.told.0 (subst (IsOneOf (Done ∷ SomeRefused ∷ [])) (sym c.in-Ok-as_one.ensures.status) c.in-Ok.ensures.one_of) c.write_answer.ensures.told.2)

pub returns-in-Ok-as_one-clause-disk : goal.returns-in-Ok-as_one-clause-disk
returns-in-Ok-as_one-clause-disk g c = looks_well c.in-Ok.ensures.disk (no_answer _ _)
    (lacks (SinkFault ∷ Done ∷ SomeRefused ∷ []) DiskFault refl c.write_answer.result (told_one (Done ∷ SomeRefused ∷ []) (string_bytes c.in-Ok-as_one.answer.text) c.in-Ok-as_one.answer.status c.write_answer.result
    c.write_answer.ensures.told.0 (subst (IsOneOf (Done ∷ SomeRefused ∷ [])) (sym c.in-Ok-as_one.ensures.status) c.in-Ok.ensures.one_of) c.write_answer.ensures.told.2))

pub returns-in-Ok-as_one-clause-input_faults : goal.returns-in-Ok-as_one-clause-input_faults
returns-in-Ok-as_one-clause-input_faults g c =
    no_fault _ _ (c.in-Ok-Items.ensures.faults.unchanged (no_answer _ _))
    (lacks (SinkFault ∷ Done ∷ SomeRefused ∷ []) InputFault refl c.write_answer.result (told_one (Done ∷ SomeRefused ∷ []) (string_bytes c.in-Ok-as_one.answer.text) c.in-Ok-as_one.answer.status c.write_answer.result
    c.write_answer.ensures.told.0 (subst (IsOneOf (Done ∷ SomeRefused ∷ [])) (sym c.in-Ok-as_one.ensures.status) c.in-Ok.ensures.one_of) c.write_answer.ensures.told.2))

pub returns-in-Ok-as_one-clause-out_faults : goal.returns-in-Ok-as_one-clause-out_faults
returns-in-Ok-as_one-clause-out_faults g c = c.write_answer.ensures.faults
