use Rattle.std.proofs.Common.{rules}
use Rattle.script_run.proofs.WatchLemmas.{read-through}
use Rattle.script_run.proofs.world.watch_code.Goals as goal

pub returns : goal.returns
returns g c = record {
  read = read-through g.B.Blocks.told g.B.Blocks.count g.B.Blocks.loans_of g.B.Blocks.faults g.B.Blocks.damages c.args.blocks.now _ c.run-came.result
      (search rules) (search rules) (search rules) c.run-came.ensures.damage (search rules) (search rules);
}
