use Rattle.std.proofs.Common.{refl, arith}
use Rattle.json_blocks.proofs.Plain.{digits_put, digits_end}
use Rattle.json_blocks.proofs.leaves.put_digits.Goals as goal

pub digits-preserved : goal.digits-preserved
digits-preserved c =
    digits_put c.digits.out.items c.push.new.self.items c.push-in-digits.new.self.items _ c.args.bytes.now c.digits.byte-index _ _
    c.digits-test.true c.digits.invariant refl refl c.in_ok-push.ensures.items c.in_ok-push-2.ensures.items

pub returns : goal.returns
returns c = digits_end c.digits.out.items _ c.args.bytes.now c.digits.byte-index (omega (arith, c.digits-test.false)) c.digits.invariant
