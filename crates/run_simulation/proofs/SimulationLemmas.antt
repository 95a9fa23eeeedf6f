-- What was printed of a simulation, or why nothing was.
use Rattle.std.proofs.Common.{inl, inr, ℕ, List, [], refl, sym, ◌∙◌, subst, append-nil}
use Rattle.std.specs.Prelude.{Option}
use Rattle.report_defs.specs.declared.command.Simulation.{Simulation}
use Rattle.report_defs.specs.declared.status.Status.{Status}
use Rattle.report_defs.specs.declared.status.Status.TheVariants.{Done, NoMemory}
use Rattle.report_defs.specs.Report.{Report, report_without_lines, IsAnswerToSimulation, IsReportOfSimulation}
use Rattle.report_defs.specs.Promise.{IsStoppedBeforeTheSink}
use Rattle.run_text.specs.Output.{IsStop, IsWrittenAnswer}
use Rattle.run_simulation.specs.Simulation.{IsSimulationPrinted}
use Rattle.run_text.proofs.Statuses.{stop_not_reported, is_early, not_early}
use Rattle.run_text.proofs.StoreLemmas.{by_function, stop_says}

abbrev Said : Simulation → List ℕ → Report → Type 0
Said simulation whole said = IsReportOfSimulation simulation said

-- memory ran out
pub simulation_stopped : (simulation : Simulation) (left : Option (List ℕ)) → IsSimulationPrinted simulation left [] NoMemory
simulation_stopped simulation left = (stop_says (Said simulation) [] left NoMemory tt, record { unread = refl; silent = λ early. refl })

-- it was printed, or a part of it
pub simulation_printed : (simulation : Simulation) (left : Option (List ℕ)) (taken text : List ℕ) (result : Status) → IsAnswerToSimulation simulation text
    → IsWrittenAnswer text Done result taken → IsSimulationPrinted simulation left taken result
simulation_printed simulation left taken text result is (inl told) = (
  by_function (λ whole. report_without_lines text Done) (Said simulation) [] left taken result (λ whole. (text, is, refl)) (record {
    prefix = λ more at. ([], sym told.0 ∙ sym (append-nil taken));
    whole_text = λ more at reported. told.0;
    same_status = λ more at reported. told.1;
  }),
  record { unread = refl; silent = λ early. absurd (is_early Done (subst IsStoppedBeforeTheSink told.1 early)) },
)
simulation_printed simulation left taken text result is (inr failed) = (
  by_function (λ whole. report_without_lines text Done) (Said simulation) [] left taken result (λ whole. (text, is, refl)) (record {
    prefix = λ more at. failed.0.prefix;
    whole_text = λ more at reported. absurd (stop_not_reported result (subst IsStop (sym failed.1) tt) reported);
    same_status = λ more at reported. absurd (stop_not_reported result (subst IsStop (sym failed.1) tt) reported);
  }),
  record { unread = refl; silent = λ early. absurd (not_early result failed.1 early) },
)
