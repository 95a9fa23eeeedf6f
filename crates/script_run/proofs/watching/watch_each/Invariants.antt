use Rattle.std.proofs.Common.{◌≡◌, ◌^◌, ◌≤◌, None}
use Rattle.std.specs.Prelude.{IfSome}
use Rattle.chain_tree.specs.Reading.{HasRead}
use Rattle.script_run.proofs.watching.watch_each.Given as goal

abbrev pub invariant-groups : goal.invariant-groups
invariant-groups g l = record {
  read : HasRead g.B.Blocks.told g.B.Blocks.count g.B.Blocks.loans_of g.B.Blocks.faults g.B.Blocks.damages l.fn.blocks l.blocks None;
  left : IfSome l.left (λ left. left ≤ 2 ^ 40);
}
