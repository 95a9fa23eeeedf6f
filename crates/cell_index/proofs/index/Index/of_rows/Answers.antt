use Rattle.std.proofs.Common.{None}
use Rattle.cell_index.proofs.HoldLemmas.{all-free, holds-listed}
use Rattle.cell_index.proofs.index.Index.of_rows.Goals as goal

pub returns-in-Ok : goal.returns-in-Ok
returns-in-Ok c rows lists = holds-listed rows c.args.list.now c.in-Ok.index lists (c.in-Ok.ensures.rows (λ _. None) c.new.ensures (all-free rows c.args.list.now lists))

pub unreachable-requires : goal.unreachable-requires
unreachable-requires c =
    c.in-Err-Odd.ensures.odd (λ _. None) c.new.ensures (all-free c.requires.0 c.args.list.now c.requires.1) (let is = c.in-Err-Odd.field-0-is in cc)
