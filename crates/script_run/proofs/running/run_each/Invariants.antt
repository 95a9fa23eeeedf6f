use Rattle.std.proofs.Common.{◌≡◌, ◌-◌, ◌≤◌, List, map, drop, Some, None}
use Rattle.std.specs.List.{All}
use Rattle.chain_tree.specs.Told.{Stored}
use Rattle.chain_tree.specs.Reading.{HasRead}
use Rattle.verdict_defs.specs.Scene.{Scene}
use Rattle.verdict_defs.specs.Outcome.{run_from, with_cycles}
use Rattle.script_run.specs.Showing.{scene_shown}
use Rattle.script_run.specs.Shown.{HasItsHash, GroupValue}
use Rattle.script_run.proofs.running.run_each.Given as goal

abbrev pub invariant-groups : goal.invariant-groups
invariant-groups g l = record {
  read : HasRead g.B.Blocks.told g.B.Blocks.count g.B.Blocks.loans_of g.B.Blocks.faults g.B.Blocks.damages l.fn.blocks l.blocks None;
  within : l.used ≤ l.budget;
  ran : (stored : List Stored) (scene : Scene) → g.B.Blocks.told l.fn.blocks ≡ Some stored → scene_shown l.tx.second l.tx.epoch_length stored l.tx.it ≡ Some scene
      → All HasItsHash l.groups
      → run_from scene l.budget 0 (map (λ (it : GroupValue). it.group) l.groups)
      ≡ with_cycles l.used (run_from scene (l.budget - l.used) l.i (drop l.i (map (λ (it : GroupValue). it.group) l.groups)));
}
