use Rattle.std.proofs.Common.{inr, inl, [], refl}
use Rattle.std.specs.Prelude.{string_bytes}
use Rattle.outside.proofs.Endings.{no_fault}
use Rattle.outside.proofs.Streams.{takes_none}
use Rattle.report_defs.specs.Report.{text_of, report_of_moved}
use Rattle.run_text.proofs.WholeReports.{told_said}
use Rattle.run_migration.proofs.MigrationLemmas.{told_moved, told_outcome, memory_no_outcome}
use Rattle.run_migration.proofs.migration.tell.Goals as goal

pub returns-in-Ok-clause-said : goal.returns-in-Ok-clause-said
returns-in-Ok-clause-said g c =
    let told = c.write_answer.ensures.told in (
      told.0,
      told.1,
      told_said (report_of_moved c.args.epoch c.args.moved) (string_bytes c.in-Ok.answer.text) c.in-Ok.answer.status c.write_answer.result told.0
          c.in-Ok.ensures.text c.in-Ok.ensures.status told.2,
    )

pub returns-in-Ok-clause-one_of : goal.returns-in-Ok-clause-one_of
returns-in-Ok-clause-one_of g c =
    let told = c.write_answer.ensures.told in
    told_moved c.args.epoch c.args.moved (string_bytes c.in-Ok.answer.text) c.in-Ok.answer.status c.write_answer.result told.0 c.in-Ok.ensures.status told.2

pub returns-in-Ok-clause-told : goal.returns-in-Ok-clause-told
returns-in-Ok-clause-told g c =
    let told = c.write_answer.ensures.told in
    told_outcome c.args.epoch c.args.moved (string_bytes c.in-Ok.answer.text) c.in-Ok.answer.status c.write_answer.result told.0 c.in-Ok.ensures.status told.2

pub returns-in-Ok-clause-faults : goal.returns-in-Ok-clause-faults
returns-in-Ok-clause-faults g c = c.write_answer.ensures.faults

pub returns-in-Err-clause-said : goal.returns-in-Err-clause-said
returns-in-Err-clause-said g c = (
  [],
  takes_none (g.K.Sink.taken c.args.out.now),
  inr (record { stop = tt; prefix = (text_of (report_of_moved c.args.epoch c.args.moved), refl); silent = λ _. refl }),
)

pub returns-in-Err-clause-one_of : goal.returns-in-Err-clause-one_of
returns-in-Err-clause-one_of g c = inr (inr (inl refl))

pub returns-in-Err-clause-told : goal.returns-in-Err-clause-told
returns-in-Err-clause-told g c = λ one. memory_no_outcome one

pub returns-in-Err-clause-faults : goal.returns-in-Err-clause-faults
returns-in-Err-clause-faults g c = no_fault _ _ refl (λ e. cc)
