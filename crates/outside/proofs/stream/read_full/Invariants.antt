use Rattle.std.proofs.Common.{◌-◌, length}
use Rattle.outside.proofs.Streams.{HasGiven}
use Rattle.outside.proofs.stream.read_full.Given as goal

abbrev pub invariant-loop-given : goal.invariant-loop-given
invariant-loop-given g l =
    HasGiven (g.S.Source.left l.initial.source) (g.S.Source.left l.source) (g.S.Source.faults l.initial.source) (g.S.Source.faults l.source) l.given l.into

abbrev pub decreases-loop-given : goal.decreases-loop-given
decreases-loop-given g l = length l.initial.into - l.given
