use Rattle.std.proofs.Common.{◌≡◌, ◌≤◌, ◌-◌, replicate}
use Rattle.vm_mem.specs.Pages.{written}
use Rattle.vm_mem.proofs.pages.Pages.clear.Given as goal

abbrev pub invariant-loop-cleared : goal.invariant-loop-cleared
invariant-loop-cleared l = (l.self ≡ written l.fn.self l.at (replicate l.cleared 0)) × (l.cleared ≤ l.count)

abbrev pub decreases-loop-cleared : goal.decreases-loop-cleared
decreases-loop-cleared l = l.count - l.cleared
