use Rattle.std.proofs.Common.{arith, get_or}
use Rattle.rv_text.proofs.Steps.{digit-true, digit-low, digit-high, digit-found, digit-passed, digit-none}
use Rattle.rv_text.proofs.read.from_digit.Goals as goal
use Rattle.rv_text.proofs.read.from_digit.Goals.{else-byte-ge48-via-then-byte-ge48+else-byte-le57, else-byte-ge48-via-else-byte-ge48}

pub returns-then-byte-le57 : goal.returns-then-byte-le57
returns-then-byte-le57 c =
    digit-found c.args.text.now c.loop-at.at (omega arith) (digit-true _ c.if-byte-ge48.true c.if-byte-le57.true) c.loop-at.invariant

pub loop-at-preserved : goal.loop-at-preserved
loop-at-preserved c =
    elim c.else-byte-ge48.branch [
      | else-byte-ge48-via-then-byte-ge48+else-byte-le57 w ↦ digit-passed c.args.text.now c.loop-at.at (omega arith) (digit-high (get_or c.args.text.now c.loop-at.at 0) (omega (arith, w.if-byte-le57.false))) c.loop-at.invariant
      | else-byte-ge48-via-else-byte-ge48 w ↦ digit-passed c.args.text.now c.loop-at.at (omega arith) (digit-low (get_or c.args.text.now c.loop-at.at 0) (omega (arith, w.if-byte-ge48.false))) c.loop-at.invariant
    ]

pub returns : goal.returns
returns c = digit-none c.args.text.now c.loop-at.at (omega arith) c.loop-at.invariant
