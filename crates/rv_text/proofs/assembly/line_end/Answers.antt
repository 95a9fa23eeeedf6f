use Rattle.std.proofs.Common.{arith}
use Rattle.rv_text.proofs.Lines.{end-found, end-passed, end-none}
use Rattle.rv_text.proofs.assembly.line_end.Goals as goal

pub returns-then-byte-eq10-clause-end : goal.returns-then-byte-eq10-clause-end
returns-then-byte-eq10-clause-end c = end-found c.args.text.now c.loop-at.at (omega arith) c.if-byte-eq10.true c.loop-at.invariant

pub loop-at-preserved : goal.loop-at-preserved
loop-at-preserved c = end-passed c.args.text.now c.loop-at.at (omega arith) c.if-byte-eq10.false c.loop-at.invariant

pub returns-clause-end : goal.returns-clause-end
returns-clause-end c = end-none c.args.text.now c.loop-at.at (omega arith) (omega arith) c.loop-at.invariant
