use Rattle.std.proofs.Common.{◌-◌, ◌≤◌, ◌+◌, length}
use Rattle.outside_mem.specs.MemoryDisk.{steps_of}
use Rattle.outside_mem.specs.Remains.{LeavesIn}
use Rattle.outside_mem.proofs.tears.tear_range.Given as goal

abbrev pub invariant-bytes : goal.invariant-bytes
invariant-bytes l = record {
  leaves : LeavesIn l.fn.area (steps_of l.fn.recorded) l.bytes.items;
  within : l.at + l.to ≤ length l.bytes.items;
  in_range : l.to ≤ l.size;
}

abbrev pub decreases-bytes : goal.decreases-bytes
decreases-bytes l = l.to - l.i
