use Rattle.std.proofs.Common.{◌%◌, ◌^◌, rules, arith}
use Rattle.machine_defs.proofs.Formats.{full-form-fits}
use Rattle.rv_decode.proofs.CompressedForms.{compressed-full, full-full}
use Rattle.rv_decode.proofs.decode.Goals as goal

pub returns-in_ok-instruction-clause-full_form : goal.returns-in_ok-instruction-clause-full_form
returns-in_ok-instruction-clause-full_form c =
    full-full c.args.word c.in_ok-instruction.field-0 (search rules) (omega arith) c.in_ok-instruction.ensures

pub returns-in_ok-instruction-2-clause-full_form :
    goal.returns-in_ok-instruction-2-clause-full_form
returns-in_ok-instruction-2-clause-full_form c =
    compressed-full (c.args.word % 2 ^ 16) c.in_ok-instruction-2.field-0 c.in_ok-instruction-2.ensures

pub returns-in_ok-instruction-clause-fits : goal.returns-in_ok-instruction-clause-fits
returns-in_ok-instruction-clause-fits c =
    full-form-fits c.in_ok-instruction.field-0
    (full-full c.args.word c.in_ok-instruction.field-0 (search rules) (omega arith) c.in_ok-instruction.ensures)

pub returns-in_ok-instruction-2-clause-fits : goal.returns-in_ok-instruction-2-clause-fits
returns-in_ok-instruction-2-clause-fits c =
    full-form-fits c.in_ok-instruction-2.field-0
    (compressed-full (c.args.word % 2 ^ 16) c.in_ok-instruction-2.field-0 c.in_ok-instruction-2.ensures)
