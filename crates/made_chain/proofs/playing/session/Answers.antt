use Rattle.std.proofs.Common.{ap, subst, sym}
use Rattle.made_chain.specs.Sessions.{AreShort}
use Rattle.made_chain.proofs.SessionLemmas.{only_armed, same_count, session_made}
use Rattle.made_chain.proofs.playing.session.Goals as goal

pub open_and_import-ended-requires-clause-store : goal.open_and_import-ended-requires-clause-store
open_and_import-ended-requires-clause-store g c =
    let rests = g.met.D.Disk.content_rests c.args.disk.now.disk c.arm.new.self.disk (ap g.D.Disk.content_of c.arm.ensures.disk) in
    (c.requires.store.0, only_armed c.requires.store.0 _ _ _ _ rests.reads rests.images c.requires.store.1)

pub open_and_import-ended-requires-clause-short : goal.open_and_import-ended-requires-clause-short
open_and_import-ended-requires-clause-short g c = subst AreShort (sym c.deref.ensures.value) c.requires.short

pub returns : goal.returns
returns g c =
    let below = ap g.D.Disk.content_of c.arm.ensures.disk in
    let rests = g.met.D.Disk.content_rests c.args.disk.now.disk c.arm.new.self.disk below in
    let ended = c.open_and_import-ended in
    record {
      session = session_made g.D.Disk.content_of g.D.Disk.reads_as g.D.Disk.images g.D.Disk.faults g.D.Crashing.picks c.args.session.now c.deref.result.now ended.result.0 ended.result.1
          c.args.disk.now c.arm.new.self ended.new.disk c.crash.new.self c.args.steps.now ended.new.steps c.deref.ensures.value
          below c.arm.ensures.pass rests.reads rests.images (same_count g.D.Disk.faults c.args.disk.now c.arm.new.self c.arm.ensures.disk c.arm.ensures.refused)
          ended.ensures.told ended.ensures.kept ended.ensures.end ended.ensures.fault ended.ensures.opened ended.ensures.steps
          g.met.D.Crashing.picks_images c.crash.ensures.picked c.crash.ensures.one_image c.crash.ensures.told c.crash.ensures.disarmed c.crash.ensures.uncounted;
    }
