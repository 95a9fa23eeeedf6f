use Rattle.std.proofs.Common.{sym, subst}
use Rattle.outside.specs.declared.disk.Area.TheVariants.{Log, SnapA, SnapB}
use Rattle.outside_mem.specs.MemoryDisk.{steps_of}
use Rattle.outside_mem.specs.Remains.{Holds}
use Rattle.outside_mem.proofs.areas.Areas.crash.Goals as goal

pub crash-requires : goal.crash-requires
crash-requires c = subst (Holds (steps_of c.args.recorded.now)) (sym c.self.view_is) c.requires Log

pub crash-requires-2 : goal.crash-requires-2
crash-requires-2 c = subst (Holds (steps_of c.args.recorded.now)) (sym c.self.view_is) c.requires SnapA

pub crash-requires-3 : goal.crash-requires-3
crash-requires-3 c = subst (Holds (steps_of c.args.recorded.now)) (sym c.self.view_is) c.requires SnapB
