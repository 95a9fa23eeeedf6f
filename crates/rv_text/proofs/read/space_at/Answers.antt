use Rattle.std.proofs.Common.{arith}
use Rattle.rv_text.proofs.Steps.{space-found, space-passed, space-none}
use Rattle.rv_text.proofs.read.space_at.Goals as goal

pub returns-then-byte-eq32-clause-at : goal.returns-then-byte-eq32-clause-at
returns-then-byte-eq32-clause-at c = space-found c.args.line.now c.loop-at.at (omega arith) c.if-byte-eq32.true c.loop-at.invariant

pub loop-at-preserved : goal.loop-at-preserved
loop-at-preserved c = space-passed c.args.line.now c.loop-at.at (omega arith) c.if-byte-eq32.false c.loop-at.invariant

pub returns-clause-at : goal.returns-clause-at
returns-clause-at c = space-none c.args.line.now c.loop-at.at (omega arith) (omega arith) c.loop-at.invariant
