use Rattle.report_defs.specs.Queries.{cell_answer, cell_at_tip}
use Rattle.run_query.proofs.queries.cell.Goals as goal

pub returns-clause-text : goal.returns-clause-text
returns-clause-text c joined = c.line_or_stop.ensures.text (cell_answer c.args.tx_hash c.args.index c.args.node.now.chain)
    (c.cell_line_of.ensures (cell_at_tip c.args.node.now.chain c.args.tx_hash c.args.index) (c.find_cell-found.ensures joined))
