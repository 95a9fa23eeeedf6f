use Rattle.std.proofs.Common.{◌++◌, length, ap, ◌∙◌}
use Rattle.chain_defs.specs.Schema.{CellInput}
use Rattle.tx_rules.specs.At.{find_row}
use Rattle.tx_rules.specs.Steps.{spending_rules, naming_rules, using_rules}
use Rattle.tx_rules.proofs.AllThere.{all_there-long}
use Rattle.chain_tree.proofs.ReadLemmas.{unread, read_on}
use Rattle.tx_rules.proofs.Endings.{read_stopped}
use Rattle.tx_rules.proofs.RuleLemmas.{rows-named, spent-inputs, stops-front, stops-back, keeps-all}
use Rattle.tx_rules.proofs.RowRuleLemmas.{later-stops, follows-on, follows-behind}
use Rattle.tx_rules.proofs.resolving.find.Goals as goal

pub try_cells-requires-clause-each : goal.try_cells-requires-clause-each
try_cells-requires-clause-each g c =
    ap length c.deref.ensures.value
    ∙ all_there-long (λ (input : CellInput). find_row (g.C.Cells.rows c.args.cells.now) input.previous_output) c.args.judged.now.tx.now.raw.inputs c.in-Ok.spent.items
    (rows-named (g.C.Cells.rows c.args.cells.now) c.args.judged.now.tx.now c.in-Ok.spent.items c.in-Ok.ensures.rows)

pub returns-in-Err : goal.returns-in-Err
returns-in-Err g c = record {
  read = read_stopped c.in-Err.stop c.in-Err.ensures.undamaged c.in-Err.ensures.unread (unread c.args.blocks.now);
  stops = c.in-Err.ensures.stops;
  by_rows = follows-on c.args.judged.now.proposed (g.C.Cells.rows c.args.cells.now) c.args.judged.now.tx.now c.in-Err.stop c.in-Err.ensures.by_rows;
  exact = λ stored site told is.
      stops-front (spending_rules c.args.judged.now.proposed site c.args.judged.now.tx.now) (naming_rules site c.args.judged.now.tx.now ++ using_rules site c.args.judged.now.tx.now) c.in-Err.stop
      (c.in-Err.ensures.judged stored c.args.at.now site is);
  form = tt;
  spent = tt;
  headers = tt;
}

pub returns-in-Err-named_rows : goal.returns-in-Err-named_rows
returns-in-Err-named_rows g c = record {
  read = c.in-Err-named_rows.ensures.read;
  stops = later-stops c.args.judged.now.proposed c.in-Err-named_rows.stop c.in-Err-named_rows.ensures.later;
  by_rows = follows-behind c.args.judged.now.proposed (g.C.Cells.rows c.args.cells.now) c.args.judged.now.tx.now c.in-Ok.spent _ c.in-Ok.ensures.by_rows c.in-Err-named_rows.ensures.later;
  exact = λ stored site told is.
      stops-back (spending_rules c.args.judged.now.proposed site c.args.judged.now.tx.now) (naming_rules site c.args.judged.now.tx.now ++ using_rules site c.args.judged.now.tx.now) c.in-Err-named_rows.stop
      (c.in-Ok.ensures.judged stored c.args.at.now site is)
      (stops-front (naming_rules site c.args.judged.now.tx.now) (using_rules site c.args.judged.now.tx.now) c.in-Err-named_rows.stop (c.in-Err-named_rows.ensures.exact stored site told is));
  form = tt;
  spent = tt;
  headers = tt;
}

pub returns-in-Err-try_cells : goal.returns-in-Err-try_cells
returns-in-Err-try_cells g c = record {
  read = read_on c.in-Ok-named_rows.ensures.read c.report.ensures.read;
  stops = later-stops c.args.judged.now.proposed c.in-Err-try_cells.stop c.in-Err-try_cells.ensures.later;
  by_rows = follows-behind c.args.judged.now.proposed (g.C.Cells.rows c.args.cells.now) c.args.judged.now.tx.now c.in-Ok.spent _ c.in-Ok.ensures.by_rows c.in-Err-try_cells.ensures.later;
  exact = λ stored site told is.
      let names = c.in-Ok-named_rows.ensures.exact stored site told is in
      let spent = spent-inputs stored c.args.at.now (g.C.Cells.rows c.args.cells.now) site c.args.judged.now.tx.now c.in-Ok.spent.items is c.in-Ok.ensures.rows in
      stops-back (spending_rules c.args.judged.now.proposed site c.args.judged.now.tx.now) (naming_rules site c.args.judged.now.tx.now ++ using_rules site c.args.judged.now.tx.now) c.in-Err-try_cells.stop
      (c.in-Ok.ensures.judged stored c.args.at.now site is)
      (stops-back (naming_rules site c.args.judged.now.tx.now) (using_rules site c.args.judged.now.tx.now) c.in-Err-try_cells.stop names.0
      (c.in-Err-try_cells.ensures.judged stored site is (c.deref.ensures.value ∙ spent) (c.deref-2.ensures.value ∙ names.1.named_are)));
  form = tt;
  spent = tt;
  headers = tt;
}

pub returns-in-Ok-try_cells : goal.returns-in-Ok-try_cells
returns-in-Ok-try_cells g c = record {
  read = c.in-Ok-named_rows.ensures.read;
  stops = tt;
  by_rows = follows-behind c.args.judged.now.proposed (g.C.Cells.rows c.args.cells.now) c.args.judged.now.tx.now c.in-Ok.spent _ c.in-Ok.ensures.by_rows tt;
  exact = λ stored site told is.
      let names = c.in-Ok-named_rows.ensures.exact stored site told is in
      let spent = spent-inputs stored c.args.at.now (g.C.Cells.rows c.args.cells.now) site c.args.judged.now.tx.now c.in-Ok.spent.items is c.in-Ok.ensures.rows in (
        keeps-all (spending_rules c.args.judged.now.proposed site c.args.judged.now.tx.now) (naming_rules site c.args.judged.now.tx.now ++ using_rules site c.args.judged.now.tx.now) (c.in-Ok.ensures.judged stored c.args.at.now site is)
            (keeps-all (naming_rules site c.args.judged.now.tx.now) (using_rules site c.args.judged.now.tx.now) names.0
            (c.in-Ok-try_cells.ensures.judged stored site is (c.deref.ensures.value ∙ spent) (c.deref-2.ensures.value ∙ names.1.named_are))),
        record { spent_are = spent; others = names.1 },
      );
  form = c.in-Ok.ensures.form;
  spent = c.in-Ok.ensures.rows;
  headers = c.in-Ok-named_rows.ensures.headers;
}
