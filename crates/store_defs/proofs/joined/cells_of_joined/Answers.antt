use Rattle.store_defs.proofs.TypedLaws.{typed-cells-hold-their-own}
use Rattle.store_defs.proofs.EventsFitLaws.{events-fit}
use Rattle.store_defs.proofs.FitLaws.{what-joins-fits}
use Rattle.store_defs.proofs.BranchFitLaws.{branches-fit}
use Rattle.store_defs.proofs.joined.cells_of_joined.Goals as goal

pub returns : goal.returns
returns c = record {
  typed_cells_hold_their_own = typed-cells-hold-their-own;
  events_fit = events-fit;
  what_joins_fits = what-joins-fits;
  branches_fit = branches-fit what-joins-fits;
}
