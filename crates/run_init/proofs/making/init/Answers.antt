use Rattle.std.proofs.Common.{◌≡◌, inl, inr, [], ◌∷◌, refl, ap, sym, ◌∙◌, subst, arith}
use Rattle.std.specs.Prelude.{IsSome, is_some, Ok, Err}
use Rattle.outside.proofs.Endings.{no_fault, counts-as, no_answer}
use Rattle.outside.proofs.Streams.{gives_none, takes_none}
use Rattle.outside.specs.Disk.{IsAsBefore}
use Rattle.store_defs.specs.Store.{store_of}
use Rattle.run_text.specs.Items.{IsReadingStop}
use Rattle.run_text.specs.Whole.{IsWhole, EndsEarly, IsReadWhole}
use Rattle.run_text.specs.declared.whole.Whole.{Whole}
use Rattle.report_defs.specs.declared.status.Status.TheVariants.{InputFault}
use Rattle.report_defs.specs.Report.{init_items}
use Rattle.run_text.specs.Output.{early_ends}
use Rattle.run_text.proofs.Tables.{lacks}
use Rattle.run_text.proofs.Exits.{same_stop}
use Rattle.run_text.proofs.Faults.{then_counts, failed_counts}
use Rattle.run_text.proofs.Limits.{item_limit-is}
use Rattle.run_text.proofs.Statuses.{reading_stops}
use Rattle.run_init.proofs.InitLemmas.{genesis_limit-is, known_limits, both_read, fault_at_once, there_at_once, finds_no_log, finds_a_log, init_unread, init_early, init_both, one_call, as_before_new, init_new, init_ended, init_reading, new_no_input_fault}
use Rattle.run_init.proofs.making.init.Goals as goal

pub returns-in-Err-clause-init : goal.returns-in-Err-clause-init
returns-in-Err-clause-init g c = (
  [],
  [],
  gives_none (g.S.Source.left c.args.input.now),
  takes_none (g.K.Sink.taken c.args.out.now),
  fault_at_once (g.D.Disk.reads_as c.args.disk.now) (g.D.Disk.images c.args.disk.now) (g.D.Disk.images c.len.new.self)
      (g.D.Disk.left_since c.len.new.self (g.D.Disk.moment c.args.disk.now)) (g.S.Source.left c.args.input.now),
)

pub returns-then-length-ne0-clause-init : goal.returns-then-length-ne0-clause-init
returns-then-length-ne0-clause-init g c =
    let some : c.in-Ok.length ≡ 0 → ⊥ = λ e. omega (arith, e, c.if-length-ne0.true) in (
      [],
      [],
      gives_none (g.S.Source.left c.args.input.now),
      takes_none (g.K.Sink.taken c.args.out.now),
      there_at_once (g.D.Disk.reads_as c.args.disk.now) (g.D.Disk.images c.args.disk.now) (g.D.Disk.images c.len.new.self)
          (g.D.Disk.left_since c.len.new.self (g.D.Disk.moment c.args.disk.now)) (g.S.Source.left c.args.input.now)
          (λ store found. finds_a_log (g.D.Disk.reads_as c.args.disk.now) c.in-Ok.length store c.in-Ok.ensures.length some found),
    )

-- the items that were read, as they are handed on
pub make_and_answer-requires-clause-specification : goal.make_and_answer-requires-clause-specification
make_and_answer-requires-clause-specification g c =
    let read = c.in-Ok-Items.ensures.read in
    let left = g.S.Source.left c.read_whole.new.input in
    let both : IsWhole init_items 2 left (c.deref.result.now ∷ c.deref-in-Ok-Items.result.now ∷ []) read.0 =
    both_read left c.in-Ok-Items.field-0 c.in-Ok-Items.items read.0 c.index.result.now c.index-in-Ok-Items.result.now c.deref.result.now c.deref-in-Ok-Items.result.now
    c.in-Ok-Items.field-0-is read.2 c.index.ensures c.index-in-Ok-Items.ensures c.deref.ensures.value c.deref-in-Ok-Items.ensures.value in
    omega (arith, item_limit-is, both.all.0.most)

pub make_and_answer-requires-clause-genesis : goal.make_and_answer-requires-clause-genesis
make_and_answer-requires-clause-genesis g c =
    let read = c.in-Ok-Items.ensures.read in
    let left = g.S.Source.left c.read_whole.new.input in
    let both : IsWhole init_items 2 left (c.deref.result.now ∷ c.deref-in-Ok-Items.result.now ∷ []) read.0 =
    both_read left c.in-Ok-Items.field-0 c.in-Ok-Items.items read.0 c.index.result.now c.index-in-Ok-Items.result.now c.deref.result.now c.deref-in-Ok-Items.result.now
    c.in-Ok-Items.field-0-is read.2 c.index.ensures c.index-in-Ok-Items.ensures c.deref.ensures.value c.deref-in-Ok-Items.ensures.value in
    omega (arith, genesis_limit-is, both.all.1.0.most)

pub returns-in-Ok-Items-clause-init : goal.returns-in-Ok-Items-clause-init
returns-in-Ok-Items-clause-init g c =
    let read = c.in-Ok-Items.ensures.read in
    let left = g.S.Source.left c.read_whole.new.input in
    let said = c.make_and_answer.ensures.said in
    let both : IsWhole init_items 2 left (c.deref.result.now ∷ c.deref-in-Ok-Items.result.now ∷ []) read.0 =
    both_read left c.in-Ok-Items.field-0 c.in-Ok-Items.items read.0 c.index.result.now c.index-in-Ok-Items.result.now c.deref.result.now c.deref-in-Ok-Items.result.now
    c.in-Ok-Items.field-0-is read.2 c.index.ensures c.index-in-Ok-Items.ensures c.deref.ensures.value c.deref-in-Ok-Items.ensures.value in (
      read.0,
      said.0,
      read.1,
      said.1,
      init_both (g.D.Disk.reads_as c.args.disk.now) (g.D.Disk.images c.args.disk.now) (g.D.Disk.images c.make_and_answer.new.disk)
          (g.D.Disk.left_since c.make_and_answer.new.disk (g.D.Disk.moment c.args.disk.now)) left read.0 said.0 c.deref.result.now c.deref-in-Ok-Items.result.now c.make_and_answer.result
          (λ store found. finds_no_log (g.D.Disk.reads_as c.args.disk.now) c.in-Ok.length store c.in-Ok.ensures.length (omega (arith, c.if-length-ne0.false)) found)
          both said.2 (λ now told done. c.make_and_answer.ensures.made (subst IsSome (sym (c.in-Ok.ensures.same ∙ told)) refl) done),
    )

pub returns-in-Ok-Items-clause-there : goal.returns-in-Ok-Items-clause-there
returns-in-Ok-Items-clause-there g c = λ now told other.
    absurd (other (finds_no_log (g.D.Disk.reads_as c.args.disk.now) c.in-Ok.length (store_of now) c.in-Ok.ensures.length (omega (arith, c.if-length-ne0.false)) (now, told, refl)))

pub returns-in-Ok-Items-clause-as_before : goal.returns-in-Ok-Items-clause-as_before
returns-in-Ok-Items-clause-as_before g c = λ told.
    let one = one_call g.D.Disk.reads_as g.D.Disk.images g.D.Disk.moment g.D.Disk.left_since g.met.D.Disk.only_now c.args.disk.now c.len.new.self
    c.in-Ok.ensures.same c.in-Ok.ensures.images c.in-Ok.ensures.time in
    subst (λ d. IsAsBefore g.D.Disk.reads_as g.D.Disk.images g.D.Disk.moment g.D.Disk.left_since c.args.disk.now d)
    (sym (c.make_and_answer.ensures.unmade (as_before_new c.make_and_answer.result c.make_and_answer.ensures.status told))) one

pub returns-in-Ok-Early-clause-init : goal.returns-in-Ok-Early-clause-init
returns-in-Ok-Early-clause-init g c =
    let read = c.in-Ok-Early.ensures.read in
    let left = g.S.Source.left c.read_whole.new.input in
    let early : EndsEarly init_items 2 left c.in-Ok-Early.end c.in-Ok-Early.offset read.0 =
    subst (λ (w : Whole). IsReadWhole init_items 2 left (Ok w) read.0) c.in-Ok-Early.field-0-is (known_limits left (Ok c.in-Ok-Early.field-0) read.0 read.2) in
    let said = c.write_early_end.ensures.said in (
      read.0,
      said.0,
      read.1,
      said.1,
      init_early (g.D.Disk.reads_as c.args.disk.now) (g.D.Disk.images c.args.disk.now) (g.D.Disk.images c.len.new.self)
          (g.D.Disk.left_since c.len.new.self (g.D.Disk.moment c.args.disk.now)) left read.0 said.0 c.in-Ok-Early.end c.in-Ok-Early.offset c.write_early_end.result
          (λ store found. finds_no_log (g.D.Disk.reads_as c.args.disk.now) c.in-Ok.length store c.in-Ok.ensures.length (omega (arith, c.if-length-ne0.false)) found)
          early said.2,
    )

pub returns-in-Err-read_whole-clause-init : goal.returns-in-Err-read_whole-clause-init
returns-in-Err-read_whole-clause-init g c =
    let read = c.in-Err-read_whole.ensures.read in (
      read.0,
      [],
      read.1,
      takes_none (g.K.Sink.taken c.args.out.now),
      init_unread (g.D.Disk.reads_as c.args.disk.now) (g.D.Disk.images c.args.disk.now) (g.D.Disk.images c.len.new.self)
          (g.D.Disk.left_since c.len.new.self (g.D.Disk.moment c.args.disk.now)) (g.S.Source.left c.read_whole.new.input) read.0 c.in-Err-read_whole.status
          (λ store found. finds_no_log (g.D.Disk.reads_as c.args.disk.now) c.in-Ok.length store c.in-Ok.ensures.length (omega (arith, c.if-length-ne0.false)) found)
          (reading_stops c.in-Err-read_whole.status read.2.0)
          (known_limits (g.S.Source.left c.read_whole.new.input) (Err c.in-Err-read_whole.status) read.0 read.2).1,
    )

pub returns-in-Err-clause-status : goal.returns-in-Err-clause-status
returns-in-Err-clause-status g c = inr (inr (inr (inl refl)))

pub returns-in-Err-clause-there : goal.returns-in-Err-clause-there
returns-in-Err-clause-there g c = λ now told other.
    one_call g.D.Disk.reads_as g.D.Disk.images g.D.Disk.moment g.D.Disk.left_since g.met.D.Disk.only_now c.args.disk.now c.len.new.self
    c.in-Err.ensures.same c.in-Err.ensures.images c.in-Err.ensures.time

pub returns-in-Err-clause-as_before : goal.returns-in-Err-clause-as_before
returns-in-Err-clause-as_before g c = λ told.
    one_call g.D.Disk.reads_as g.D.Disk.images g.D.Disk.moment g.D.Disk.left_since g.met.D.Disk.only_now c.args.disk.now c.len.new.self
    c.in-Err.ensures.same c.in-Err.ensures.images c.in-Err.ensures.time

pub returns-in-Err-clause-input_faults : goal.returns-in-Err-clause-input_faults
returns-in-Err-clause-input_faults g c = no_fault _ _ refl (λ e. cc)

pub returns-in-Err-clause-out_faults : goal.returns-in-Err-clause-out_faults
returns-in-Err-clause-out_faults g c = no_fault _ _ refl (λ e. cc)

pub returns-in-Err-clause-disk_faults : goal.returns-in-Err-clause-disk_faults
returns-in-Err-clause-disk_faults g c = failed_counts _ _ c.in-Err.field-0 c.in-Err.ensures.cause refl

pub returns-then-length-ne0-clause-status : goal.returns-then-length-ne0-clause-status
returns-then-length-ne0-clause-status g c = inr (inr (inr (inr (inr (inr (inr (inl refl)))))))

pub returns-then-length-ne0-clause-there : goal.returns-then-length-ne0-clause-there
returns-then-length-ne0-clause-there g c = λ now told other.
    one_call g.D.Disk.reads_as g.D.Disk.images g.D.Disk.moment g.D.Disk.left_since g.met.D.Disk.only_now c.args.disk.now c.len.new.self
    c.in-Ok.ensures.same c.in-Ok.ensures.images c.in-Ok.ensures.time

pub returns-then-length-ne0-clause-as_before : goal.returns-then-length-ne0-clause-as_before
returns-then-length-ne0-clause-as_before g c = λ told.
    one_call g.D.Disk.reads_as g.D.Disk.images g.D.Disk.moment g.D.Disk.left_since g.met.D.Disk.only_now c.args.disk.now c.len.new.self
    c.in-Ok.ensures.same c.in-Ok.ensures.images c.in-Ok.ensures.time

pub returns-then-length-ne0-clause-input_faults : goal.returns-then-length-ne0-clause-input_faults
returns-then-length-ne0-clause-input_faults g c = no_fault _ _ refl (λ e. cc)

pub returns-then-length-ne0-clause-out_faults : goal.returns-then-length-ne0-clause-out_faults
returns-then-length-ne0-clause-out_faults g c = no_fault _ _ refl (λ e. cc)

pub returns-then-length-ne0-clause-disk_faults : goal.returns-then-length-ne0-clause-disk_faults
returns-then-length-ne0-clause-disk_faults g c = no_fault _ _ (c.in-Ok.ensures.cause.unchanged refl) (λ e. cc)

pub returns-in-Ok-Items-clause-status : goal.returns-in-Ok-Items-clause-status
returns-in-Ok-Items-clause-status g c = init_new c.make_and_answer.result c.make_and_answer.ensures.status

pub returns-in-Ok-Items-clause-input_faults : goal.returns-in-Ok-Items-clause-input_faults
returns-in-Ok-Items-clause-input_faults g c = no_fault _ _ (c.in-Ok-Items.ensures.faults.unchanged (no_answer _ _)) (new_no_input_fault c.make_and_answer.result c.make_and_answer.ensures.status)

pub returns-in-Ok-Items-clause-out_faults : goal.returns-in-Ok-Items-clause-out_faults
returns-in-Ok-Items-clause-out_faults g c = c.make_and_answer.ensures.out_faults

pub returns-in-Ok-Items-clause-disk_faults : goal.returns-in-Ok-Items-clause-disk_faults
returns-in-Ok-Items-clause-disk_faults g c = then_counts _ _ _ (c.in-Ok.ensures.cause.unchanged refl) c.make_and_answer.ensures.disk_faults (λ e. e) (λ e. e)

pub returns-in-Ok-Early-clause-status : goal.returns-in-Ok-Early-clause-status
returns-in-Ok-Early-clause-status g c = init_ended c.write_early_end.result c.write_early_end.ensures.one_of

pub returns-in-Ok-Early-clause-there : goal.returns-in-Ok-Early-clause-there
returns-in-Ok-Early-clause-there g c = λ now told other.
    one_call g.D.Disk.reads_as g.D.Disk.images g.D.Disk.moment g.D.Disk.left_since g.met.D.Disk.only_now c.args.disk.now c.len.new.self
    c.in-Ok.ensures.same c.in-Ok.ensures.images c.in-Ok.ensures.time

pub returns-in-Ok-Early-clause-as_before : goal.returns-in-Ok-Early-clause-as_before
returns-in-Ok-Early-clause-as_before g c = λ told.
    one_call g.D.Disk.reads_as g.D.Disk.images g.D.Disk.moment g.D.Disk.left_since g.met.D.Disk.only_now c.args.disk.now c.len.new.self
    c.in-Ok.ensures.same c.in-Ok.ensures.images c.in-Ok.ensures.time

pub returns-in-Ok-Early-clause-input_faults : goal.returns-in-Ok-Early-clause-input_faults
returns-in-Ok-Early-clause-input_faults g c = no_fault _ _ (c.in-Ok-Early.ensures.faults.unchanged (no_answer _ _)) (lacks early_ends InputFault refl c.write_early_end.result c.write_early_end.ensures.one_of)

pub returns-in-Ok-Early-clause-out_faults : goal.returns-in-Ok-Early-clause-out_faults
returns-in-Ok-Early-clause-out_faults g c = c.write_early_end.ensures.faults

pub returns-in-Ok-Early-clause-disk_faults : goal.returns-in-Ok-Early-clause-disk_faults
returns-in-Ok-Early-clause-disk_faults g c = no_fault _ _ (c.in-Ok.ensures.cause.unchanged refl) c.write_early_end.ensures.disk

pub returns-in-Err-read_whole-clause-status : goal.returns-in-Err-read_whole-clause-status
returns-in-Err-read_whole-clause-status g c = init_reading c.in-Err-read_whole.status c.in-Err-read_whole.ensures.read.2.0

pub returns-in-Err-read_whole-clause-there : goal.returns-in-Err-read_whole-clause-there
returns-in-Err-read_whole-clause-there g c = λ now told other.
    one_call g.D.Disk.reads_as g.D.Disk.images g.D.Disk.moment g.D.Disk.left_since g.met.D.Disk.only_now c.args.disk.now c.len.new.self
    c.in-Ok.ensures.same c.in-Ok.ensures.images c.in-Ok.ensures.time

pub returns-in-Err-read_whole-clause-as_before : goal.returns-in-Err-read_whole-clause-as_before
returns-in-Err-read_whole-clause-as_before g c = λ told.
    one_call g.D.Disk.reads_as g.D.Disk.images g.D.Disk.moment g.D.Disk.left_since g.met.D.Disk.only_now c.args.disk.now c.len.new.self
    c.in-Ok.ensures.same c.in-Ok.ensures.images c.in-Ok.ensures.time

pub returns-in-Err-read_whole-clause-input_faults : goal.returns-in-Err-read_whole-clause-input_faults
returns-in-Err-read_whole-clause-input_faults g c = counts-as c.in-Err-read_whole.ensures.faults (λ e. ap Err e) (same_stop _ _)

pub returns-in-Err-read_whole-clause-out_faults : goal.returns-in-Err-read_whole-clause-out_faults
returns-in-Err-read_whole-clause-out_faults g c = no_fault _ _ refl (λ e. subst IsReadingStop e c.in-Err-read_whole.ensures.read.2.0)

pub returns-in-Err-read_whole-clause-disk_faults : goal.returns-in-Err-read_whole-clause-disk_faults
returns-in-Err-read_whole-clause-disk_faults g c = no_fault _ _ (c.in-Ok.ensures.cause.unchanged refl) (λ e. subst IsReadingStop e c.in-Err-read_whole.ensures.read.2.0)

pub returns-in-Err-clause-told : goal.returns-in-Err-clause-told
returns-in-Err-clause-told g c = ap is_some c.in-Err.ensures.same

pub returns-then-length-ne0-clause-told : goal.returns-then-length-ne0-clause-told
returns-then-length-ne0-clause-told g c = ap is_some c.in-Ok.ensures.same

pub returns-in-Ok-Items-clause-told : goal.returns-in-Ok-Items-clause-told
returns-in-Ok-Items-clause-told g c = c.make_and_answer.ensures.told ∙ ap is_some c.in-Ok.ensures.same

pub returns-in-Ok-Early-clause-told : goal.returns-in-Ok-Early-clause-told
returns-in-Ok-Early-clause-told g c = ap is_some c.in-Ok.ensures.same

pub returns-in-Err-read_whole-clause-told : goal.returns-in-Err-read_whole-clause-told
returns-in-Err-read_whole-clause-told g c = ap is_some c.in-Ok.ensures.same
