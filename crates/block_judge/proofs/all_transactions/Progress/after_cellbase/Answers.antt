use Rattle.std.proofs.Common.{length, ap, ◌∙◌}
use Rattle.chain_defs.specs.Events.{events_of}
use Rattle.chain_defs.specs.Row.{row_after}
use Rattle.block_judge.specs.BlockCells.{rows_in}
use Rattle.block_judge.proofs.ChangeLemmas.{row_after-same}
use Rattle.block_judge.proofs.NextLemmas.{few-cycles}
use Rattle.block_judge.proofs.all_transactions.Progress.after_cellbase.Goals as goal

pub returns-clause-rows : goal.returns-clause-rows
returns-clause-rows g c height o above =
    c.in_ok-take.ensures.rows height o above
    ∙ ap (λ n. row_after n (events_of c.args.cellbase.now height 0) (rows_in g.C.Cells.rows c.of-cells.result) o)
    (c.len.ensures.len ∙ ap (λ at. length at.entries) c.at.view_is)
    ∙ row_after-same (length c.args.at.now.entries) (events_of c.args.cellbase.now height 0)
    (rows_in g.C.Cells.rows c.of-cells.result) (g.C.Cells.rows c.args.cells.now) o (c.of-cells.ensures.rows o)

pub returns-clause-few : goal.returns-clause-few
returns-clause-few g c = few-cycles c.spec.inside.max_cycles c.spec.invariant.s5
