-- Sources and places of the code in the definitions' terms.
use Rattle.std.specs.Prelude.{Option, Some, None}
use Rattle.verdict_defs.specs.Sources as sources
use Rattle.script_run.specs.declared.sources.Source.{Source}
use Rattle.script_run.specs.declared.sources.Source.TheVariants as source
use Rattle.script_run.specs.declared.sources.Place.{Place}
use Rattle.script_run.specs.declared.sources.Place.TheVariants as place
use Rattle.script_run.specs.declared.sources.Target.{Target}
use Rattle.script_run.specs.declared.sources.Target.TheVariants as target

abbrev pub source_meaning : Source → sources.Source
source_meaning source.Inputs = sources.Inputs
source_meaning source.Outputs = sources.Outputs
source_meaning source.CellDeps = sources.CellDeps
source_meaning source.HeaderDeps = sources.HeaderDeps
source_meaning source.GroupInputs = sources.GroupInputs
source_meaning source.GroupOutputs = sources.GroupOutputs
source_meaning source.GroupCellDeps = sources.GroupCellDeps
source_meaning source.GroupHeaderDeps = sources.GroupHeaderDeps

abbrev pub place_meaning : Place → sources.Place
place_meaning (place.Input i) = sources.AtInput i
place_meaning (place.Output i) = sources.AtOutput i
place_meaning (place.CellDep i) = sources.AtCellDep i
place_meaning (place.HeaderDep i) = sources.AtHeaderDep i

abbrev pub target_meaning : Target → Option (Option sources.Place)
target_meaning target.NoSource = None
target_meaning target.NoIndex = Some None
target_meaning (target.At place) = Some (Some (place_meaning place))
