use Rattle.std.proofs.Common.{ℕ, length}
use Rattle.outside_mem.specs.MemoryDisk.{steps_of}
use Rattle.outside_mem.specs.Remains.{LeavesIn, MayTear}
use Rattle.outside_mem.proofs.tears.tear.Given as goal

abbrev pub invariant-calls : goal.invariant-calls
invariant-calls l = record {
  leaves : LeavesIn l.fn.area (steps_of l.fn.recorded) l.bytes.items;
  may : (i : ℕ) → MayTear l.fn.area (steps_of l.rest) i → MayTear l.fn.area (steps_of l.fn.recorded) i;
}

abbrev pub decreases-calls : goal.decreases-calls
decreases-calls l = length l.rest
