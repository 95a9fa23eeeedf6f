use Rattle.std.proofs.Common.{[], ◌∷◌, inl, refl, ap, ◌∙◌}
use Rattle.std.specs.Prelude.{Err}
use Rattle.outside.proofs.Endings.{no_fault, no_answer}
use Rattle.outside.proofs.Streams.{takes_none}
use Rattle.report_defs.specs.declared.status.Status.TheVariants.{Done, SinkFault, DiskFault}
use Rattle.run_text.proofs.Exits.{same_stop}
use Rattle.run_store.proofs.LookLemmas.{looks_as, looks_well}
use Rattle.run_text.proofs.Tables.{lacks}
use Rattle.run_query.proofs.QueryReport.{query_stopped, query_printed}
use Rattle.run_query.proofs.Statuses as statuses
use Rattle.run_text.proofs.Statuses.{opening_stop, opening_no_sink, told_one}
use Rattle.run_query.proofs.Statuses.{query_opening}
use Rattle.run_store.proofs.DamageLemmas.{none_then}
use Rattle.run_query.proofs.queries.find_and_answer.Goals as goal

-- ---- Damage that was found

pub returns-in-Err-clause-damage : goal.returns-in-Err-clause-damage
returns-in-Err-clause-damage g c = λ rose. same_stop _ _ (c.in-Err.ensures.damage rose)

pub returns-clause-damage : goal.returns-clause-damage
returns-clause-damage g c = none_then c.in-Ok.ensures.damage (no_answer _ _)

-- ---- The other clauses

pub returns-in-Err-clause-told : goal.returns-in-Err-clause-told
returns-in-Err-clause-told g c = (
  [],
  takes_none (g.K.Sink.taken c.args.out.now),
  λ sound left.
      let status = c.in-Err.status in
      query_stopped c.args.query c.args.node.now.chain left status
      (opening_stop status (c.in-Err.ensures.stop status refl) (λ e. c.in-Err.ensures.sound sound (ap Err e))),
)

pub returns-in-Err-clause-status : goal.returns-in-Err-clause-status
returns-in-Err-clause-status g c = query_opening c.in-Err.status (c.in-Err.ensures.stop c.in-Err.status refl)

pub returns-in-Err-clause-disk : goal.returns-in-Err-clause-disk
returns-in-Err-clause-disk g c = looks_as c.in-Err.ensures.disk (λ is. ap Err is) (same_stop _ _)

pub returns-in-Err-clause-faults : goal.returns-in-Err-clause-faults
returns-in-Err-clause-faults g c = no_fault _ _ refl (opening_no_sink c.in-Err.status (c.in-Err.ensures.stop c.in-Err.status refl))

pub returns-clause-told : goal.returns-clause-told
returns-clause-told g c = let told = c.write_bytes.ensures.told in (
  told.0,
  told.1,
  λ sound left. query_printed c.args.query c.args.node.now.chain left told.0 c.deref.result.now c.write_bytes.result (c.deref.ensures.value ∙ c.in-Ok.ensures.text sound) told.2,
)

pub returns-clause-status : goal.returns-clause-status
returns-clause-status g c =
    let told = c.write_bytes.ensures.told in
    statuses.query_printed c.write_bytes.result (told_one (Done ∷ []) c.deref.result.now Done c.write_bytes.result told.0 (inl refl) told.2)

pub returns-clause-disk : goal.returns-clause-disk
returns-clause-disk g c = looks_well c.in-Ok.ensures.disk (no_answer _ _) (λ e.
    let told = c.write_bytes.ensures.told in
    lacks (SinkFault ∷ Done ∷ []) DiskFault refl c.write_bytes.result
    (told_one (Done ∷ []) c.deref.result.now Done c.write_bytes.result told.0 (inl refl) told.2) e)
