use Rattle.std.proofs.Common.{◌≡◌, List, [], Some, map, take}
use Rattle.std.specs.List.{AllZip}
use Rattle.verdict_defs.specs.Scene.{ShownCell}
use Rattle.script_run.specs.Grouping.{FindsEachGroup, grouped}
use Rattle.script_run.specs.Shown.{IsShownAs}
use Rattle.script_run.proofs.groups.lock_groups.Given as goal

abbrev pub invariant-inputs : goal.invariant-inputs
invariant-inputs l = record {
  known : FindsEachGroup l.grouping.places.entries l.grouping.groups.items;
  groups : (cells : List ShownCell) → AllZip IsShownAs l.copies cells → l.grouping.groups.items ≡ grouped (map (λ (cell : ShownCell). Some cell.output.lock) (take l.i cells)) [];
}
