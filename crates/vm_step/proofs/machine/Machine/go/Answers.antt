use Rattle.vm_step.specs.Running.{stands, with_place}
use Rattle.vm_step.proofs.Stepping.{is-full, kept-executed}
use Rattle.vm_step.proofs.machine.Machine.go.Goals as goal

pub returns-then-slot-eq2 : goal.returns-then-slot-eq2
returns-then-slot-eq2 c =
    kept-executed (with_place c.args.self.now c.args.place.now) (stands c.execute.new.self c.execute.new.place) c.args.slot _ _ _
    c.requires.at c.requires.kept c.if-slot-eq2.true c.execute.ensures

pub returns-else-slot-eq2 : goal.returns-else-slot-eq2
returns-else-slot-eq2 c =
    kept-executed (with_place c.args.self.now c.args.place.now) (stands c.execute-else-slot-eq2.new.self c.execute-else-slot-eq2.new.place) c.args.slot _ _ _
    c.requires.at c.requires.kept (is-full _ c.requires.kept.length c.if-slot-eq2.false) c.execute-else-slot-eq2.ensures
