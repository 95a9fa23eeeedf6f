use Rattle.std.proofs.Common.{◌-◌, length}
use Rattle.outside.proofs.Streams.{HasTaken}
use Rattle.outside.proofs.stream.write_all.Given as goal

abbrev pub invariant-loop-done : goal.invariant-loop-done
invariant-loop-done g l =
    HasTaken (g.K.Sink.taken l.initial.sink) (g.K.Sink.taken l.sink) (g.K.Sink.faults l.initial.sink) (g.K.Sink.faults l.sink) l.done l.bytes

abbrev pub decreases-loop-done : goal.decreases-loop-done
decreases-loop-done g l = length l.bytes - l.done
