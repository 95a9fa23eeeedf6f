use Rattle.std.proofs.Common.{◌≤◌, ◌+◌, ◌-◌, length}
use Rattle.rv_text.proofs.Lines.{AreLinesSoFar}
use Rattle.rv_text.proofs.assembly.assemble.Given as goal

abbrev pub invariant-loop-at : goal.invariant-loop-at
invariant-loop-at l = (l.before ≤ l.at) × (l.at ≤ length l.text + 1) × AreLinesSoFar l.text l.at l.before l.code.items

abbrev pub decreases-loop-at : goal.decreases-loop-at
decreases-loop-at l = length l.text + 1 - l.at
