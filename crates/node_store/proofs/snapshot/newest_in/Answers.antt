use Rattle.std.proofs.Common.{refl, inl, inr}
use Rattle.outside.specs.declared.disk.Area.TheVariants.{SnapA, SnapB}
use Rattle.log_file.proofs.Exits.{same_stop}
use Rattle.node_store.proofs.LoadingLemmas.{number-undamaged, number-damaged, have-numbers}
use Rattle.node_store.proofs.snapshot.newest_in.Goals as goal

pub returns-in-Err-clause-undamaged : goal.returns-in-Err-clause-undamaged
returns-in-Err-clause-undamaged g c = λ kept now told areas damage e.
    number-undamaged kept SnapA (g.D.Disk.reads_as c.args.disk.now) (g.D.Disk.reads_as c.args.disk.now) now c.in-Err.stop damage refl told areas.snap_a c.in-Err.ensures.number (same_stop _ _ e)

pub returns-in-Err-number-clause-undamaged : goal.returns-in-Err-number-clause-undamaged
returns-in-Err-number-clause-undamaged g c = λ kept now told areas damage e.
    number-undamaged kept SnapB (g.D.Disk.reads_as c.args.disk.now) (g.D.Disk.reads_as c.number.new.disk) now c.in-Err-number.stop damage
    (g.met.D.Disk.content_rests c.args.disk.now c.number.new.disk c.number.ensures.content).reads told areas.snap_b c.in-Err-number.ensures.number (same_stop _ _ e)

pub returns-in-Err-clause-damage : goal.returns-in-Err-clause-damage
returns-in-Err-clause-damage g c = λ entries now told damage e.
    inl (number-damaged SnapA entries (g.D.Disk.reads_as c.args.disk.now) (g.D.Disk.reads_as c.args.disk.now) now c.in-Err.stop damage refl told c.in-Err.ensures.number (same_stop _ _ e))

pub returns-in-Err-number-clause-damage : goal.returns-in-Err-number-clause-damage
returns-in-Err-number-clause-damage g c = λ entries now told damage e.
    inr (number-damaged SnapB entries (g.D.Disk.reads_as c.args.disk.now) (g.D.Disk.reads_as c.number.new.disk) now c.in-Err-number.stop damage
    (g.met.D.Disk.content_rests c.args.disk.now c.number.new.disk c.number.ensures.content).reads told c.in-Err-number.ensures.number (same_stop _ _ e))

pub returns-clause-numbered : goal.returns-clause-numbered
returns-clause-numbered g c =
    have-numbers (g.D.Disk.reads_as c.args.disk.now) (g.D.Disk.reads_as c.number.new.disk) c.in-Ok.a c.in-Ok-number.b
    (g.met.D.Disk.content_rests c.args.disk.now c.number.new.disk c.number.ensures.content).reads c.in-Ok.ensures.number c.in-Ok-number.ensures.number
