use Rattle.std.proofs.Common.{inr, [], refl, ap, subst}
use Rattle.std.specs.Prelude.{Err, string_bytes}
use Rattle.outside.proofs.Endings.{no_fault, counts-as, no_answer}
use Rattle.outside.proofs.Streams.{takes_none}
use Rattle.report_defs.specs.declared.status.Status.TheVariants.{Done, BadGenesis}
use Rattle.report_defs.specs.Report.{text_of, report_of_new}
use Rattle.run_text.proofs.Exits.{same_stop}
use Rattle.run_text.proofs.Statuses.{disk_stops}
use Rattle.run_text.proofs.WholeReports.{told_said}
use Rattle.run_init.proofs.InitLemmas.{told_new, told_as, told_no_disk_fault, IsMakingStop, making_stop, making_stopped}
use Rattle.run_init.proofs.making.make_and_answer.Goals as goal

-- ---- The store was made, or a rule is broken

pub returns-in-Ok-clause-said : goal.returns-in-Ok-clause-said
returns-in-Ok-clause-said g c =
    let told = c.write_answer.ensures.told in (
      told.0,
      told.1,
      told_said (report_of_new c.args.specification.now c.args.genesis.now) (string_bytes c.in-Ok.answer.text) c.in-Ok.answer.status c.write_answer.result told.0
          c.in-Ok.ensures.text c.in-Ok.ensures.status told.2,
    )

pub returns-in-Ok-clause-status : goal.returns-in-Ok-clause-status
returns-in-Ok-clause-status g c =
    told_new (string_bytes c.in-Ok.answer.text) c.in-Ok.answer.status c.write_answer.result c.write_answer.ensures.told.0
    c.in-Ok.ensures.one_of c.write_answer.ensures.told.2

pub returns-in-Ok-clause-made : goal.returns-in-Ok-clause-made
returns-in-Ok-clause-made g c = λ there done.
    c.in-Ok.ensures.made there (told_as Done (string_bytes c.in-Ok.answer.text) c.in-Ok.answer.status c.write_answer.result c.write_answer.ensures.told.0
    (λ e. cc) c.write_answer.ensures.told.2 done)

pub returns-in-Ok-clause-unmade : goal.returns-in-Ok-clause-unmade
returns-in-Ok-clause-unmade g c = λ bad.
    c.in-Ok.ensures.unmade (told_as BadGenesis (string_bytes c.in-Ok.answer.text) c.in-Ok.answer.status c.write_answer.result c.write_answer.ensures.told.0
    (λ e. cc) c.write_answer.ensures.told.2 bad)

pub returns-in-Ok-clause-out_faults : goal.returns-in-Ok-clause-out_faults
returns-in-Ok-clause-out_faults g c = c.write_answer.ensures.faults

pub returns-in-Ok-clause-disk_faults : goal.returns-in-Ok-clause-disk_faults
returns-in-Ok-clause-disk_faults g c =
    no_fault _ _ (c.in-Ok.ensures.cause.unchanged (no_answer _ _))
    (told_no_disk_fault (string_bytes c.in-Ok.answer.text) c.in-Ok.answer.status c.write_answer.result c.write_answer.ensures.told.0
    c.in-Ok.ensures.one_of c.write_answer.ensures.told.2)

-- ---- The making was stopped

pub returns-in-Err-clause-said : goal.returns-in-Err-clause-said
returns-in-Err-clause-said g c = (
  [],
  takes_none (g.K.Sink.taken c.args.out.now),
  inr (record {
    stop = disk_stops c.in-Err.status (c.in-Err.ensures.stop c.in-Err.status refl);
    prefix = (text_of (report_of_new c.args.specification.now c.args.genesis.now), refl);
    silent = λ _. refl;
  }),
)

pub returns-in-Err-clause-status : goal.returns-in-Err-clause-status
returns-in-Err-clause-status g c = making_stopped c.in-Err.status (c.in-Err.ensures.stop c.in-Err.status refl)

pub returns-in-Err-clause-made : goal.returns-in-Err-clause-made
returns-in-Err-clause-made g c = λ there done.
    absurd (subst IsMakingStop done (making_stop c.in-Err.status (c.in-Err.ensures.stop c.in-Err.status refl)))

pub returns-in-Err-clause-unmade : goal.returns-in-Err-clause-unmade
returns-in-Err-clause-unmade g c = λ bad.
    absurd (subst IsMakingStop bad (making_stop c.in-Err.status (c.in-Err.ensures.stop c.in-Err.status refl)))

pub returns-in-Err-clause-out_faults : goal.returns-in-Err-clause-out_faults
returns-in-Err-clause-out_faults g c =
    no_fault _ _ refl (λ e. subst IsMakingStop e (making_stop c.in-Err.status (c.in-Err.ensures.stop c.in-Err.status refl)))

pub returns-in-Err-clause-disk_faults : goal.returns-in-Err-clause-disk_faults
returns-in-Err-clause-disk_faults g c = counts-as c.in-Err.ensures.cause (λ e. ap Err e) (same_stop _ _)

pub returns-in-Ok-clause-told : goal.returns-in-Ok-clause-told
returns-in-Ok-clause-told g c = c.in-Ok.ensures.told

pub returns-in-Err-clause-told : goal.returns-in-Err-clause-told
returns-in-Err-clause-told g c = c.in-Err.ensures.told
