use Rattle.std.proofs.Common.{[], inl, inr, refl, ap, ◌∙◌, arith, subst}
use Rattle.outside.proofs.Endings.{no_fault, counts-as, no_answer}
use Rattle.outside.proofs.Streams.{takes_none}
use Rattle.report_defs.specs.declared.status.Status.TheVariants.{NoMemory}
use Rattle.report_defs.specs.Report.{report_without_lines, file_limit, IsReportOfFile}
use Rattle.report_defs.specs.Promise.{IsPrefix}
use Rattle.run_alone.specs.Standalone.{IsFile}
use Rattle.run_text.proofs.Statuses.{reading_stops}
use Rattle.run_alone.proofs.StandaloneLemmas.{given_most, stopped_at_once, stopped_in_text, answered, standalone_reading, standalone_printed, own_other}
use Rattle.std.specs.Prelude.{Err}
use Rattle.run_text.specs.Items.{IsReadingStop}
use Rattle.run_text.proofs.Exits.{same_stop}
use Rattle.run_text.proofs.Faults.{IsMemory}
use Rattle.run_alone.proofs.files.standalone.Goals as goal

pub returns-in-Err-clause-text : goal.returns-in-Err-clause-text
returns-in-Err-clause-text g c =
    let read = c.in-Err.ensures.file in (
      read.0,
      [],
      read.1,
      takes_none (g.K.Sink.taken c.args.out.now),
      stopped_at_once c.args.command read.0 (g.S.Source.left c.read_file.new.input) c.in-Err.status (reading_stops c.in-Err.status read.2.stop)
          (omega (arith, read.2.most, c.limit_of-limit.ensures.limit)),
    )

pub returns-in-Err-answer_to-clause-text : goal.returns-in-Err-answer_to-clause-text
returns-in-Err-answer_to-clause-text g c =
    let read = c.in-Ok.ensures.file in (
      read.0,
      [],
      read.1,
      takes_none (g.K.Sink.taken c.args.out.now),
      stopped_at_once c.args.command read.0 (g.S.Source.left c.read_file.new.input) NoMemory tt
          (given_most (file_limit c.args.command) (g.S.Source.left c.read_file.new.input) c.in-Ok.file.items read.0
          (subst (λ limit. IsFile limit (g.S.Source.left c.read_file.new.input) c.in-Ok.file.items read.0) c.limit_of-limit.ensures.limit read.2)),
    )

pub returns-in-Ok-write_text-clause-text : goal.returns-in-Ok-write_text-clause-text
returns-in-Ok-write_text-clause-text g c =
    let read = c.in-Ok.ensures.file in
    let written = c.in-Ok-write_text.ensures.written in
    let left = g.S.Source.left c.read_file.new.input in
    let answer = c.in-Ok-answer_to.answer in (
      read.0,
      written.0,
      read.1,
      written.1,
      answered c.args.command read.0 left c.in-Ok.file.items written.0 (report_without_lines answer.bytes.items answer.status) answer.status
          (subst (λ limit. IsFile limit left c.in-Ok.file.items read.0) c.limit_of-limit.ensures.limit read.2)
          (subst (λ file. IsReportOfFile c.args.command file (report_without_lines answer.bytes.items answer.status)) c.deref.ensures.value c.in-Ok-answer_to.ensures)
          (written.2 ∙ c.deref-2.ensures.value) refl,
    )

pub returns-clause-text : goal.returns-clause-text
returns-clause-text g c =
    let read = c.in-Ok.ensures.file in
    let written = c.in-Err-write_text.ensures.written in
    let left = g.S.Source.left c.read_file.new.input in
    let answer = c.in-Ok-answer_to.answer in (
      read.0,
      written.0,
      read.1,
      written.1,
      stopped_in_text c.args.command read.0 left c.in-Ok.file.items written.0 (report_without_lines answer.bytes.items answer.status) c.in-Err-write_text.status
          (subst (λ limit. IsFile limit left c.in-Ok.file.items read.0) c.limit_of-limit.ensures.limit read.2)
          (subst (λ file. IsReportOfFile c.args.command file (report_without_lines answer.bytes.items answer.status)) c.deref.ensures.value c.in-Ok-answer_to.ensures)
          (c.in-Err-write_text.ensures.stop c.in-Err-write_text.status refl)
          (subst (λ text. IsPrefix written.0 text) c.deref-2.ensures.value written.2.prefix),
    )

pub returns-in-Err-clause-status : goal.returns-in-Err-clause-status
returns-in-Err-clause-status g c = standalone_reading c.args.command c.in-Err.status c.in-Err.ensures.file.2.stop

pub returns-in-Err-clause-input_faults : goal.returns-in-Err-clause-input_faults
returns-in-Err-clause-input_faults g c = counts-as c.in-Err.ensures.faults (λ e. ap Err e) (same_stop _ _)

pub returns-in-Err-clause-out_faults : goal.returns-in-Err-clause-out_faults
returns-in-Err-clause-out_faults g c = no_fault _ _ refl (λ e. subst IsReadingStop e c.in-Err.ensures.file.2.stop)

pub returns-in-Err-answer_to-clause-status : goal.returns-in-Err-answer_to-clause-status
returns-in-Err-answer_to-clause-status g c = own_other c.args.command NoMemory (inr (inr (inl refl)))

pub returns-in-Err-answer_to-clause-input_faults : goal.returns-in-Err-answer_to-clause-input_faults
returns-in-Err-answer_to-clause-input_faults g c =
    no_fault _ _ (c.in-Ok.ensures.faults.unchanged (no_answer _ _)) (λ e. subst IsMemory e tt)

pub returns-in-Err-answer_to-clause-out_faults : goal.returns-in-Err-answer_to-clause-out_faults
returns-in-Err-answer_to-clause-out_faults g c = no_fault _ _ refl (λ e. subst IsMemory e tt)

pub returns-clause-status : goal.returns-clause-status
returns-clause-status g c = own_other c.args.command c.in-Err-write_text.status (inr (inl (c.in-Err-write_text.ensures.stop c.in-Err-write_text.status refl)))

pub returns-in-Ok-write_text-clause-status : goal.returns-in-Ok-write_text-clause-status
returns-in-Ok-write_text-clause-status g c =
    let answer = c.in-Ok-answer_to.answer in
    standalone_printed c.args.command c.deref.result.now (report_without_lines answer.bytes.items answer.status) c.in-Ok-answer_to.ensures

pub returns-clause-out_faults : goal.returns-clause-out_faults
returns-clause-out_faults g c = counts-as c.in-Err-write_text.ensures.faults (λ e. ap Err e) (same_stop _ _)
