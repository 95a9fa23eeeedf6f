-- The parts of a simulation.
use Rattle.std.specs.Prelude.{ℕ, List, [], Option}
use Rattle.report_defs.specs.declared.command.Simulation.{Simulation}
use Rattle.report_defs.specs.declared.status.Status.{Status}
use Rattle.report_defs.specs.Report.{IsReportOfSimulation}
use Rattle.report_defs.specs.Promise.{MatchesReport, ReadsNothingInOrder}

-- what is counted was printed, or a part of it, and nothing was read
abbrev pub IsSimulationPrinted : Simulation → Option (List ℕ) → List ℕ → Status → Type 0
IsSimulationPrinted simulation left taken status =
    MatchesReport (λ whole said. IsReportOfSimulation simulation said) [] left taken status × ReadsNothingInOrder [] taken status
