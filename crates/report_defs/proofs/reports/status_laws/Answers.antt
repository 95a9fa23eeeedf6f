use Rattle.report_defs.proofs.StatusLaws.{own-status}
use Rattle.report_defs.proofs.reports.status_laws.Goals as goal

pub returns : goal.returns
returns c = record { own_status = own-status }
