use Rattle.std.proofs.Common.{refl, ap, map, string_bytes}
use Rattle.std.specs.Prelude.{Some}
use Rattle.report_defs.specs.Words.{command_of}
use Rattle.node_run.proofs.list.run_once.Goals as goal

pub returns : goal.returns
returns g c =
    let kept = c.run-status.ensures.run in
    record {
      runs = (
        record { command = command_of (map string_bytes c.deref.result.now); given = kept.0; taken = kept.1; status = Some c.run-status.result },
        record {
          words = refl;
          stop = refl;
          command = ap (λ words. command_of (map string_bytes words)) c.deref.ensures.value;
          given = kept.2;
          taken = kept.3;
          status = c.run-status.result;
          ended = refl;
          answered = refl;
          promised = kept.4;
          told = c.run-status.ensures.told;
          own = c.run-status.ensures.status;
          input_fault = c.run-status.ensures.input_faults;
          out_fault = c.run-status.ensures.out_faults;
          disk_fault = c.run-status.ensures.disk_faults;
        },
      );
    }
