use Rattle.std.proofs.Common.{◌≡◌, ◌≤◌, ◌-◌, length, take}
use Rattle.vm_mem.specs.Pages.{written}
use Rattle.vm_mem.proofs.pages.Pages.write.Given as goal

abbrev pub invariant-loop-done : goal.invariant-loop-done
invariant-loop-done l = (l.self ≡ written l.fn.self l.at (take l.done l.bytes)) × (l.done ≤ length l.bytes)

abbrev pub decreases-loop-done : goal.decreases-loop-done
decreases-loop-done l = length l.bytes - l.done
