use Rattle.std.proofs.Common.{◌≡◌, drop}
use Rattle.script_run.specs.Fitting.{untyped}
use Rattle.script_run.proofs.fitting.untyped.Given as goal

abbrev pub invariant-copies : goal.invariant-copies
invariant-copies l = untyped l.tree.entries l.copies ≡ untyped l.tree.entries (drop l.copy-index l.copies)
