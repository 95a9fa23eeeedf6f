use Rattle.machine_defs.specs.Memory.{set_code}
use Rattle.vm_mem.proofs.Slotted.{changed-holding, set_code-holding}
use Rattle.vm_mem.proofs.memory.Memory.set_code.Goals as goal

pub invariant_of-self : goal.invariant_of-self
invariant_of-self c =
    let old = c.self.inside.paged in
    changed-holding (set_code old.memory c.args.at c.args.pages) old c.set_code.new.self c.self.inside.slots c.set_code.result
    c.set_code.ensures.code c.set_code.ensures.kept
    (λ is holding. set_code-holding old.memory c.set_code.new.self.memory c.args.at c.args.pages c.self.inside.slots is holding)
    c.self.invariant

pub returns-clause-fault : goal.returns-clause-fault
returns-clause-fault c = rw (← c.self.view_is) c.set_code.ensures.fault
