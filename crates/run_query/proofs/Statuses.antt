-- Statuses of a query.
use Rattle.std.proofs.Common.{[], ◌∷◌, refl}
use Rattle.report_defs.specs.declared.status.Status.{Status}
use Rattle.report_defs.specs.declared.status.Status.TheVariants.{Done, SinkFault}
use Rattle.report_defs.specs.Status.{IsOneOf}
use Rattle.report_defs.specs.Promise.{query_statuses}
use Rattle.run_text.specs.Store.{opening_stops}
use Rattle.run_text.proofs.Tables.{among}

pub query_opening : (status : Status) → IsOneOf opening_stops status → IsOneOf query_statuses status
query_opening = among opening_stops query_statuses refl

pub query_printed : (status : Status) → IsOneOf (SinkFault ∷ Done ∷ []) status → IsOneOf query_statuses status
query_printed = among (SinkFault ∷ Done ∷ []) query_statuses refl
