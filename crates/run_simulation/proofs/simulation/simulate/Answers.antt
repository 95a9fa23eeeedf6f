use Rattle.std.proofs.Common.{[], ◌∷◌, inl, inr, refl}
use Rattle.std.specs.Prelude.{string_bytes}
use Rattle.outside.proofs.Endings.{no_fault}
use Rattle.outside.proofs.Streams.{takes_none}
use Rattle.report_defs.specs.declared.status.Status.TheVariants.{Done, SinkFault}
use Rattle.report_defs.specs.Promise.{simulation_statuses}
use Rattle.run_text.proofs.Tables.{among}
use Rattle.run_text.proofs.Statuses.{told_one}
use Rattle.run_simulation.proofs.SimulationLemmas.{simulation_stopped, simulation_printed}
use Rattle.run_simulation.proofs.simulation.simulate.Goals as goal

pub returns-in-Err-clause-text : goal.returns-in-Err-clause-text
returns-in-Err-clause-text g c = ([], takes_none (g.K.Sink.taken c.args.out.now), λ left. simulation_stopped c.args.simulation left)

pub returns-in-Err-clause-status : goal.returns-in-Err-clause-status
returns-in-Err-clause-status g c = inr (inr (inl refl))

pub returns-in-Err-clause-faults : goal.returns-in-Err-clause-faults
returns-in-Err-clause-faults g c = no_fault _ _ refl (λ e. cc)

pub returns-clause-text : goal.returns-clause-text
returns-clause-text g c = let told = c.write_answer.ensures.told in (
  told.0,
  told.1,
  λ left. simulation_printed c.args.simulation left told.0 (string_bytes c.in-Ok.text) c.write_answer.result c.in-Ok.ensures told.2,
)

pub returns-clause-status : goal.returns-clause-status
returns-clause-status g c =
    let told = c.write_answer.ensures.told in
    among (SinkFault ∷ Done ∷ []) simulation_statuses refl c.write_answer.result
    (told_one (Done ∷ []) (string_bytes c.in-Ok.text) Done c.write_answer.result told.0 (inl refl) told.2)
