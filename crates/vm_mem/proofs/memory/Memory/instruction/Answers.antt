use Rattle.std.proofs.Common.{None, Some, refl, rules}
use Rattle.vm_mem.proofs.Slotted.{cast-fits, fault-is, instruction-is, is-kept}
use Rattle.vm_mem.proofs.memory.Memory.instruction.Goals as goal

pub returns-in-Err-clause-exact : goal.returns-in-Err-clause-exact
returns-in-Err-clause-exact c = rw (← c.self.view_is) (fault-is _ _ _ _ c.fetch.ensures c.in-Err.is)

pub returns-in-None-clause-exact : goal.returns-in-None-clause-exact
returns-in-None-clause-exact c =
    rw (← c.self.view_is) (instruction-is _ _ _ None _ _ c.fetch.ensures c.in-Ok.is c.decode.ensures.exact c.in-None.is)

pub overflow_cast-at : goal.overflow_cast-at
overflow_cast-at c =
    let small = cast-fits _ c.args.at _ _ c.fetch.ensures c.in-Ok.is in search rules

pub invariant_of-self : goal.invariant_of-self
invariant_of-self c =
    let right = instruction-is _ _ _ (Some c.in-Some.decoded) _ _ c.fetch.ensures c.in-Ok.is c.decode.ensures.exact c.in-Some.is in
    c.keep.ensures _ (is-kept _ c.args.at c.in-Some.decoded _ c.if-at-eq0.true refl refl c.kept_form.ensures right) c.self.invariant

pub returns-then-at-eq0-clause-exact : goal.returns-then-at-eq0-clause-exact
returns-then-at-eq0-clause-exact c =
    rw (← c.self.view_is) (instruction-is _ _ _ (Some c.in-Some.decoded) _ _ c.fetch.ensures c.in-Ok.is c.decode.ensures.exact c.in-Some.is)

pub returns-else-at-eq0-clause-exact : goal.returns-else-at-eq0-clause-exact
returns-else-at-eq0-clause-exact c =
    rw (← c.self.view_is) (instruction-is _ _ _ (Some c.in-Some.decoded) _ _ c.fetch.ensures c.in-Ok.is c.decode.ensures.exact c.in-Some.is)
