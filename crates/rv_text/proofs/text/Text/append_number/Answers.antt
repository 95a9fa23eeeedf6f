use Rattle.std.proofs.Common.{arith, length-append}
use Rattle.rv_text.proofs.Digits.{twenty-digits}
use Rattle.rv_text.proofs.text.Text.append_number.Goals as goal

pub append_decimal-requires : goal.append_decimal-requires
append_decimal-requires c = let short = twenty-digits c.args.number (omega arith) in omega arith

pub returns-clause-room : goal.returns-clause-room
returns-clause-room c = let short = twenty-digits c.args.number (omega arith) in rw c.append_decimal.ensures (simp length-append (omega arith))
