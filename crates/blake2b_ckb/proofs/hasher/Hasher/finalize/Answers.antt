use Rattle.std.proofs.Common.{arith}
use Rattle.std.proofs.lemmas.List.{length-take-le}
use Rattle.blake2b_ckb.proofs.Absorbing.{Holds-ckbhash, zero_rest}
use Rattle.blake2b_ckb.proofs.hasher.Hasher.finalize.Goals as goal

pub returns : goal.returns
returns c = λ m held.
    Holds-ckbhash _ m _ _ _ c.self.inside.used (rw (← c.self.view_is) at held)
    (length-take-le c.self.inside.used c.self.inside.buffer (omega arith))
    (zero_rest c.self.inside.used c.copy_from_slice.new.self _ c.copy_from_slice.ensures.after (length-take-le c.self.inside.used c.self.inside.buffer (omega arith))) c.compress.ensures c.digest.ensures
