use Rattle.std.proofs.Common.{◌≡◌, List, [], Option, map, take}
use Rattle.chain_defs.specs.Schema.{CellOutput, Script}
use Rattle.script_run.specs.Grouping.{FindsEachGroup, grouped}
use Rattle.script_run.proofs.groups.Grouping.join_outputs.Given as goal

abbrev pub invariant-outputs : goal.invariant-outputs
invariant-outputs l = record {
  known : FindsEachGroup l.self.places.entries l.self.groups.items;
  groups : (inputs : List (Option Script)) → l.fn.self.groups.items ≡ grouped inputs []
      → l.self.groups.items ≡ grouped inputs (map (λ (output : CellOutput). output.type_script) (take l.i l.tx.raw.outputs));
}
