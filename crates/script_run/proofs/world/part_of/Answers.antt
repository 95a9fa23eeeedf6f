use Rattle.std.proofs.Common.{◌≡◌}
use Rattle.script_run.proofs.world.part_of.Goals as goal

pub returns-in-EpochStart : goal.returns-in-EpochStart
returns-in-EpochStart c h is = let number : c.number_in-in-EpochStart.result ≡ h.number = c.number_in-in-EpochStart.ensures h is in rw c.in-EpochStart.is cc
