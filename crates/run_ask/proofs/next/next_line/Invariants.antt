use Rattle.std.proofs.Common.{◌≡◌, ◌-◌, length}
use Rattle.outside.specs.Streams.{Gives}
use Rattle.run_ask.specs.Reading.{IsBegun}
use Rattle.run_ask.proofs.next.next_line.Given as goal

abbrev pub invariant-bytes : goal.invariant-bytes
invariant-bytes g l = record {
  gives : Gives (g.S.Source.left l.fn.input) (g.S.Source.left l.input) l.line.items;
  begun : IsBegun l.line.items;
  unchanged : g.S.Source.faults l.input ≡ g.S.Source.faults l.fn.input;
}

-- a line has a limit, and each byte takes some of it
abbrev pub decreases-bytes : goal.decreases-bytes
decreases-bytes g l = 2097155 - length l.line.items
