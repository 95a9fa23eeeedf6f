use Rattle.std.proofs.Common.{ℕ, ap, refl, w32}
use Rattle.std.proofs.lemmas.Int.{to_z-of_z}
use Rattle.machine_defs.specs.Step.{after}
use Rattle.vm_step.specs.Running.{with_place}
use Rattle.vm_step.proofs.Executing.{executes-went, went-stands}
use Rattle.vm_step.proofs.machine.Machine.branch.Goals as goal

pub returns-then-taken : goal.returns-then-taken
returns-then-taken c =
    let self = c.args.self.now in
    let place = c.args.place.now in
    let moved = rw (to_z-of_z w32 c.args.imm c.ranges.imm) at c.moved-place.ensures in
    rw c.if-taken.true (went-stands _ _ _ self (record place { pc = c.moved-place.result }) _ c.requires.went
    (executes-went (with_place self place) _ _ c.requires.goes_on (ap (λ (next : ℕ). with_place self (record place { pc = next })) moved)))

pub returns : goal.returns
unfolding after
returns c =
    rw c.if-taken.false (went-stands _ _ _ _ _ _ c.requires.went
    (executes-went (with_place c.args.self.now c.args.place.now) _ _ c.requires.goes_on refl))
