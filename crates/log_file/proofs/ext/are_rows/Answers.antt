use Rattle.std.proofs.Common.{◌+◌, ◌-◌, ◌*◌, sym, ◌∙◌, arith, rules}
use Rattle.log_file.proofs.Forms.{rows-more, rows-wrong}
use Rattle.log_file.proofs.ext.are_rows.Goals as goal

pub returns-then-not-is_row : goal.returns-then-not-is_row
returns-then-not-is_row c =
    sym (c.rows.invariant ∙ rows-wrong c.args.count c.rows.i (161 * c.rows.i + 161 - 161 * c.rows.i) c.args.bytes.now (search rules) (omega arith) (search rules))

pub rows-preserved : goal.rows-preserved
rows-preserved c =
    c.rows.invariant ∙ rows-more c.args.count c.rows.i (161 * c.rows.i + 161 - 161 * c.rows.i) c.args.bytes.now (search rules) (omega arith) (search rules)
