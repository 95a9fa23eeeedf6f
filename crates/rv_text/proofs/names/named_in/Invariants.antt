use Rattle.std.proofs.Common.{◌≡◌, drop}
use Rattle.rv_text.specs.Reading.{named_in}
use Rattle.rv_text.proofs.names.named_in.Given as goal

abbrev pub invariant-loop-i : goal.invariant-loop-i
invariant-loop-i l = named_in l.instructions l.name ≡ named_in (drop l.i-index l.instructions) l.name
