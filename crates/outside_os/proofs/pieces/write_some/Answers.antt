use Rattle.std.proofs.Common.{length, arith, rules}
use Rattle.outside_os.proofs.Transfers.{write_again, nothing_torn, torn_so_far}
use Rattle.outside_os.proofs.pieces.write_some.Goals as goal

pub loop-init : goal.loop-init
loop-init g c =
    let write = c.write_at-answer.ensures in
    write_again _ _ _ _ _ _ _ c.write_at-answer.result c.args.piece.now (nothing_torn c.args.at (length c.args.piece.now) _) (omega arith)
    write.fits write.some write.written write.torn write.cause

pub loop-preserved : goal.loop-preserved
loop-preserved g c =
    let write = c.write_at-answer-in-loop.ensures in
    let torn = torn_so_far _ _ _ _ _ c.loop.answer c.args.piece.now (search rules) c.loop.invariant in
    write_again _ _ _ _ _ _ _ c.write_at-answer-in-loop.result c.args.piece.now torn c.loop.invariant.later
    write.fits write.some write.written write.torn write.cause
