use Rattle.std.proofs.Common.{take, drop, sym, take-append-drop, length-take-le, arith}
use Rattle.run_text.proofs.output.write_text.Goals as goal

pub returns-in-Err-clause-written : goal.returns-in-Err-clause-written
returns-in-Err-clause-written g c =
    let before = c.in-Err.ensures.taken_before in (
      take before.0 c.args.text.now,
      before.2,
      record {
        prefix = (drop before.0 c.args.text.now, sym (take-append-drop before.0 c.args.text.now));
        shorter = omega (arith, before.1, length-take-le before.0 c.args.text.now (omega (arith, before.1)));
      },
    )
