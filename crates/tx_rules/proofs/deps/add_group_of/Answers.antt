use Rattle.std.proofs.Common.{◌≡◌, Option, Some, Err, length, ap, ◌∙◌, arith}
use Rattle.chain_defs.specs.Schema.{OutPoint}
use Rattle.chain_defs.specs.Row.{Row}
use Rattle.cell_state.specs.Copies.{NamesOutput, output_in}
use Rattle.tx_rules.specs.At.{AtValue}
use Rattle.tx_rules.proofs.SiteLemmas.{IsOwnRow, output-of}
use Rattle.tx_rules.proofs.DepLemmas.{kept-names, own-row}
use Rattle.outside.proofs.Endings.{no_answer}
use Rattle.chain_tree.proofs.ReadLemmas.{unread}
use Rattle.tx_rules.proofs.deps.add_group_of.Goals as goal

pub returns-then-meta-len-clause-rows : goal.returns-then-meta-len-clause-rows
returns-then-meta-len-clause-rows g c = λ stored site cell tells is seen its_row.
    let rows : OutPoint → Option Row = g.C.Cells.rows c.args.cells.now in
    let long = ap (λ (at : AtValue). length at.entries) c.at.view_is in
    let block = ap (λ (row : Row). row.block) c.meta.view_is in
    let names : NamesOutput stored c.args.o.now c.args.meta.now cell =
    kept-names stored c.args.at.now rows site c.args.o.now cell c.args.meta.now c.requires.placed.parent is seen its_row
    (omega (arith, long, block, c.if-meta-len.true, c.len.ensures.len)) in
    c.add_kept_group.ensures.rows stored cell tells names

pub returns-then-meta-len-clause-undamaged : goal.returns-then-meta-len-clause-undamaged
returns-then-meta-len-clause-undamaged g c = λ stored site cell tells is seen its_row.
    let rows : OutPoint → Option Row = g.C.Cells.rows c.args.cells.now in
    let long = ap (λ (at : AtValue). length at.entries) c.at.view_is in
    let block = ap (λ (row : Row). row.block) c.meta.view_is in
    let names : NamesOutput stored c.args.o.now c.args.meta.now cell =
    kept-names stored c.args.at.now rows site c.args.o.now cell c.args.meta.now c.requires.placed.parent is seen its_row
    (omega (arith, long, block, c.if-meta-len.true, c.len.ensures.len)) in
    c.add_kept_group.ensures.undamaged stored cell tells names

pub report-requires : goal.report-requires
report-requires g c = record {
  area = λ damage is. c.in-Err.ensures.damage damage (ap Err is);
  no_fault = λ is. c.in-Err.ensures.no_fault (ap Err is);
}

pub returns-in-Ok : goal.returns-in-Ok
returns-in-Ok g c = record {
  read = unread c.args.blocks.now;
  rows = λ stored site cell tells is seen its_row.
      let rows : OutPoint → Option Row = g.C.Cells.rows c.args.cells.now in
      let long = ap (λ (at : AtValue). length at.entries) c.at.view_is in
      let block = ap (λ (row : Row). row.block) c.meta.view_is in
      let own : IsOwnRow stored c.args.at.now c.args.o.now cell c.args.meta.now =
      own-row stored c.args.at.now rows site c.args.o.now cell c.args.meta.now c.requires.placed.parent is seen its_row
      (omega (arith, long, block, c.if-meta-len.false, c.len.ensures.len)) in
      let output : output_in own.block c.args.meta.now.transaction c.args.o.now.index ≡ Some (cell.output, cell.content) =
      ap (λ (row : Row). output_in own.block row.transaction c.args.o.now.index) its_row ∙ output-of own.block c.args.o.now cell own.output in
      c.in-Ok.ensures.rows own.block cell.output cell.content own.judged own.last output;
  undamaged = λ stored site cell tells is seen its_row damage same. no_answer _ _ same;
}

pub returns-in-Err : goal.returns-in-Err
returns-in-Err g c = record {
  read = c.report.ensures.read;
  rows = λ stored site cell tells is seen its_row. tt;
  undamaged = λ stored site cell tells is seen its_row.
      let rows : OutPoint → Option Row = g.C.Cells.rows c.args.cells.now in
      let long = ap (λ (at : AtValue). length at.entries) c.at.view_is in
      let block = ap (λ (row : Row). row.block) c.meta.view_is in
      let own : IsOwnRow stored c.args.at.now c.args.o.now cell c.args.meta.now =
      own-row stored c.args.at.now rows site c.args.o.now cell c.args.meta.now c.requires.placed.parent is seen its_row
      (omega (arith, long, block, c.if-meta-len.false, c.len.ensures.len)) in
      let output : output_in own.block c.args.meta.now.transaction c.args.o.now.index ≡ Some (cell.output, cell.content) =
      ap (λ (row : Row). output_in own.block row.transaction c.args.o.now.index) its_row ∙ output-of own.block c.args.o.now cell own.output in
      c.in-Err.ensures.undamaged own.block cell.output cell.content own.judged own.last output;
}
