use Rattle.std.proofs.Common.{refl}
use Rattle.std.proofs.lemmas.List.{take_rest}
use Rattle.outside.proofs.Streams.{taken_further}
use Rattle.outside.proofs.stream.write_all.Goals as goal

pub loop-done-preserved : goal.loop-done-preserved
loop-done-preserved g c =
    let write = c.in_ok-done.ensures in
    taken_further _ _ _ _ _ _ _ _ _ _ c.loop-done.invariant (take_rest c.args.bytes.now c.loop-done.done) write.fits write.taken (write.cause.unchanged refl)
