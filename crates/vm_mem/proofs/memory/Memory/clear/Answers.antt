use Rattle.std.proofs.Common.{replicate}
use Rattle.machine_defs.specs.Memory.{store}
use Rattle.vm_mem.proofs.Slotted.{changed-holding, clear-holding}
use Rattle.vm_mem.proofs.memory.Memory.clear.Goals as goal

pub invariant_of-self : goal.invariant_of-self
invariant_of-self c =
    let old = c.self.inside.paged in
    let zeros = replicate c.args.count 0 in
    changed-holding (store old.memory c.args.at zeros) old c.clear.new.self c.self.inside.slots c.clear.result
    c.clear.ensures.cleared c.clear.ensures.kept
    (λ is holding. clear-holding old.memory c.clear.new.self.memory c.args.at zeros c.self.inside.slots is holding)
    c.self.invariant

pub returns-clause-fault : goal.returns-clause-fault
returns-clause-fault c = rw (← c.self.view_is) c.clear.ensures.fault
