use Rattle.std.proofs.Common.{ap}
use Rattle.node_run.proofs.ListLemmas.{same_count}
use Rattle.node_run.proofs.list.run_stopped.Goals as goal

pub returns : goal.returns
returns g c =
    let old = c.args.disk.now in
    let ready = c.arm.new.self in
    let rests = g.met.D.Disk.content_rests old.disk ready.disk (ap g.D.Disk.content_of c.arm.ensures.disk) in
    let ran = c.run_once.ensures.runs in
    record {
      runs = (
        ran.0,
        (
          ready,
          record {
            as_before = rests;
            armed = c.arm.ensures.pass;
            uncounted = same_count g.D.Disk.faults old ready c.arm.ensures.disk c.arm.ensures.refused;
          },
          c.run_once.new.disk,
          ran.1,
          record {
            picked = c.crash.ensures.picked;
            one_image = c.crash.ensures.one_image;
            told = c.crash.ensures.told;
            disarmed = c.crash.ensures.disarmed;
            uncounted = c.crash.ensures.uncounted;
          },
        ),
      );
    }
