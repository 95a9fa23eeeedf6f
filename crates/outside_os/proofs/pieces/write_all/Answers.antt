use Rattle.std.proofs.lemmas.List.{take_rest}
use Rattle.outside_os.proofs.Transfers.{goes_on_writing, stops_writing}
use Rattle.outside_os.proofs.pieces.write_all.Goals as goal

pub returns-in-Err-clause-torn : goal.returns-in-Err-clause-torn
returns-in-Err-clause-torn g c =
    stops_writing _ _ _ _ _ _ _ _ _ c.loop-done.invariant (take_rest c.args.piece.now c.loop-done.done) c.in-Err.ensures.torn

pub loop-done-preserved : goal.loop-done-preserved
loop-done-preserved g c =
    let write = c.in-Ok.ensures in
    goes_on_writing _ _ _ _ _ _ _ _ _ _ _ c.loop-done.invariant (take_rest c.args.piece.now c.loop-done.done) write.fits write.written write.later
