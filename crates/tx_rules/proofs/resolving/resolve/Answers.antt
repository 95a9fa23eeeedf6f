use Rattle.std.proofs.Common.{◌<◌, ◌^◌, ℤ, nat_abs, ◌++◌, List, Option, Some, subst, sym, ap, ◌∙◌, rules}
use Rattle.std.specs.Int.{w128}
use Rattle.std.specs.List.{All}
use Rattle.std.proofs.lemmas.Int.{to_z-of_z}
use Rattle.chain_defs.specs.Schema.{CellInput, OutPoint}
use Rattle.chain_defs.specs.Row.{Row}
use Rattle.chain_tree.specs.Told.{Stored}
use Rattle.tx_rules.specs.At.{find_row}
use Rattle.tx_rules.specs.Copying.{CopiesItsRow, ServesAgain}
use Rattle.tx_rules.proofs.AllThere.{all_there-long}
use Rattle.tx_rules.specs.Steps.{finding_rules, paying_rules}
use Rattle.outside.proofs.Endings.{no_answer}
use Rattle.chain_tree.proofs.ReadLemmas.{read_on}
use Rattle.tx_rules.proofs.RuleLemmas.{rows-named, stops-front, stops-back, tried-of, keeps-all, copied-inputs}
use Rattle.tx_rules.proofs.RowRuleLemmas.{later-stops, follows-on, follows-behind}
use Rattle.tx_rules.proofs.resolving.resolve.Goals as goal

pub from_encoding-requires : goal.from_encoding-requires
from_encoding-requires g c = (c.args.judged.now.tx.now, c.bytes.ensures)

pub copy_cells-requires-clause-each : goal.copy_cells-requires-clause-each
copy_cells-requires-clause-each g c =
    all_there-long (λ (input : CellInput). find_row (g.C.Cells.rows c.args.cells.now) input.previous_output) c.args.judged.now.tx.now.raw.inputs c.in-Ok.found.spent.items
    (rows-named (g.C.Cells.rows c.args.cells.now) c.args.judged.now.tx.now c.in-Ok.found.spent.items c.in-Ok.ensures.spent)

pub returns-in-Err : goal.returns-in-Err
returns-in-Err g c = record {
  read = c.in-Err.ensures.read;
  formed = tt;
  of_rows = tt;
  again = tt;
  tried = λ rule same. tried-of c.args.judged.now.proposed _ rule c.in-Err.ensures.stops same;
  by_rows = follows-on c.args.judged.now.proposed (g.C.Cells.rows c.args.cells.now) c.args.judged.now.tx.now c.in-Err.stop c.in-Err.ensures.by_rows;
  fits = tt;
  exact = λ stored site told is.
      stops-front (finding_rules c.args.judged.now.proposed site c.args.judged.now.tx.now) (paying_rules site c.args.judged.now.tx.now) c.in-Err.stop (c.in-Err.ensures.exact stored site told is);
  rows = tt;
}

pub returns-in-Err-copy_cells : goal.returns-in-Err-copy_cells
returns-in-Err-copy_cells g c = record {
  read = read_on c.in-Ok.ensures.read c.in-Err-copy_cells.ensures.read;
  formed = tt;
  of_rows = tt;
  again = tt;
  tried = λ rule same. tried-of c.args.judged.now.proposed _ rule (later-stops c.args.judged.now.proposed c.in-Err-copy_cells.stop c.in-Err-copy_cells.ensures.later) same;
  by_rows = follows-behind c.args.judged.now.proposed (g.C.Cells.rows c.args.cells.now) c.args.judged.now.tx.now c.in-Ok.found _ c.in-Ok.ensures.by_rows c.in-Err-copy_cells.ensures.later;
  fits = tt;
  exact = λ stored site told is.
      let found = c.in-Ok.ensures.exact stored site told is in
      stops-back (finding_rules c.args.judged.now.proposed site c.args.judged.now.tx.now) (paying_rules site c.args.judged.now.tx.now) c.in-Err-copy_cells.stop found.0
      (c.in-Err-copy_cells.ensures.exact stored (g.C.Cells.rows c.args.cells.now) site (c.in-Ok.ensures.read.told ∙ told) is found.1);
  rows = tt;
}

pub returns : goal.returns
returns g c = record {
  read = read_on c.in-Ok.ensures.read c.in-Ok-copy_cells.ensures.read;
  formed = record {
    form = c.in-Ok.ensures.form;
    tx = c.from_encoding.ensures c.args.judged.now.tx.now c.bytes.ensures;
    hash = c.requires.hash;
    inputs = copied-inputs (g.C.Cells.rows c.args.cells.now) c.args.judged.now.tx.now c.in-Ok.found.spent.items c.in-Ok-copy_cells.copied.inputs.items c.in-Ok.ensures.spent c.in-Ok-copy_cells.ensures.rows;
    headers = c.in-Ok.ensures.headers;
    outputs = c.in-Ok-copy_cells.ensures.outputs;
  };
  of_rows =
      subst (λ (told : Option (List Stored)). All (CopiesItsRow told c.args.at.now) (c.in-Ok-copy_cells.copied.inputs.items ++ c.in-Ok-copy_cells.copied.deps.items))
      c.in-Ok.ensures.read.told c.in-Ok-copy_cells.ensures.of_rows;
  again =
      subst (λ (told : Option (List Stored)). All (ServesAgain told c.args.at.now) c.in-Ok-copy_cells.copied.deps.items)
      c.in-Ok.ensures.read.told c.in-Ok-copy_cells.ensures.again;
  tried = λ rule same. absurd (no_answer _ _ same);
  by_rows = follows-behind c.args.judged.now.proposed (g.C.Cells.rows c.args.cells.now) c.args.judged.now.tx.now c.in-Ok.found _ c.in-Ok.ensures.by_rows tt;
  fits =
      subst (λ (z : ℤ). nat_abs z < 2 ^ 96) (sym (to_z-of_z w128 c.in-Ok-copy_cells.copied.balance.interest (search rules))) c.in-Ok-copy_cells.ensures.fits;
  exact = λ stored site told is.
      let found = c.in-Ok.ensures.exact stored site told is in
      let copied = c.in-Ok-copy_cells.ensures.exact stored (g.C.Cells.rows c.args.cells.now) site (c.in-Ok.ensures.read.told ∙ told) is found.1 in (
        keeps-all (finding_rules c.args.judged.now.proposed site c.args.judged.now.tx.now) (paying_rules site c.args.judged.now.tx.now) found.0 copied.0,
        record {
          resolved = record { inputs_are = copied.1.inputs_are; deps_are = copied.1.deps_are; headers_are = found.1.others.places_are };
          fee_is = copied.1.paid.fee_is;
          interest_is = to_z-of_z w128 c.in-Ok-copy_cells.copied.balance.interest (search rules) ∙ copied.1.paid.interest_is;
        },
      );
  rows = c.in-Ok.ensures.spent ∙ ap (λ (rows : List (OutPoint × Row)). Some rows) (sym c.in-Ok-copy_cells.ensures.rows);
}

pub copy_cells-requires-clause-before : goal.copy_cells-requires-clause-before
copy_cells-requires-clause-before g c =
    subst (λ (told : Option (List Stored)). All (ServesAgain told c.args.at.now) c.args.before.items) (sym c.in-Ok.ensures.read.told) c.requires.before
