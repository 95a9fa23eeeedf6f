use Rattle.std.proofs.Common.{◌<◌, ◌^◌, ℤ, nat_abs, inr, Err, sym, ap, ◌∙◌, subst, arith}
use Rattle.std.specs.List.{All, sum_by}
use Rattle.cell_state.specs.Copies.{ResolvedTxValue}
use Rattle.chain_tree.specs.Told.{blocks_of}
use Rattle.tx_rules.specs.At.{spends_rows}
use Rattle.tx_rules.specs.Copying.{ServesAgain}
use Rattle.tx_rules.specs.declared.resolving.TxOk.{TxOk}
use Rattle.rule_defs.specs.TransactionRules.{has_form}
use Rattle.verdict_defs.specs.Judged.{judged_where}
use Rattle.block_judge.specs.Answers.{StopsAs}
use Rattle.block_judge.specs.ByRows.{StopsByRows}
use Rattle.chain_tree.proofs.ReadLemmas.{read_on}
use Rattle.block_judge.proofs.Exits.{same_stop, as_step, no_error, read_as, resolving-stop}
use Rattle.block_judge.proofs.TransactionLemmas.{stops-resolving, stops-running, answers-passed, tried-resolving, alone-resolving, its-transaction, resolved-own, spent-rows, inputs-of}
use Rattle.block_judge.proofs.MovedLemmas.{interest-kept, freed-same}
use Rattle.block_judge.proofs.RowsLemmas.{stops-by-rows, resolved-by-rows, later-by-rows}
use Rattle.block_judge.proofs.transactions.judge_transaction.Goals as goal

pub returns-in-Err : goal.returns-in-Err
returns-in-Err g c = record {
  read = read_as (resolving-stop c.in-Err.stop c.stopped.result c.stopped.ensures) c.in-Err.ensures.read;
  fits = tt;
  rule = λ rule same.
      tried-resolving c.args.judged.now.proposed c.in-Err.stop rule (λ number its. c.in-Err.ensures.tried number (ap Err its)) (sym c.stopped.ensures ∙ same_stop same);
  by_rows = λ proposed.
      let rows = g.C.Cells.rows c.args.cells.now in
      subst (StopsByRows (has_form c.args.judged.now.tx.now) (spends_rows rows c.args.judged.now.tx.now)) (sym c.stopped.ensures)
      (stops-by-rows c.args.judged.now.proposed rows c.args.judged.now.tx.now c.in-Err.stop c.resolve.result proposed c.resolve.ensures.by_rows c.resolve.ensures.tried c.in-Err.is);
  copied = tt;
  again = tt;
  alone = λ proposed rule same.
      alone-resolving c.args.judged.now.proposed c.in-Err.stop rule proposed (λ number its. c.in-Err.ensures.tried number (ap Err its)) (sym c.stopped.ensures ∙ same_stop same);
  exact = λ stored site told is.
      subst (StopsAs (judged_where c.args.judged.now.proposed site c.args.turn.left c.args.judged.now.tx.now)) (sym c.stopped.ensures)
      (stops-resolving site c.args.turn.left c.args.judged.now.tx.now c.args.judged.now.proposed c.in-Err.stop (c.in-Err.ensures.exact stored site told is));
}

pub returns-in-Err-run_scripts : goal.returns-in-Err-run_scripts
returns-in-Err-run_scripts g c = record {
  read = read_on c.in-Ok.ensures.read c.in-Err-run_scripts.ensures.read;
  fits = tt;
  rule = λ rule same. let its = c.in-Err-run_scripts.ensures.rule rule (as_step same) in (omega (arith, its.0), its.1);
  by_rows = λ proposed.
      later-by-rows _ _ c.in-Err-run_scripts.stop
      (resolved-by-rows c.args.judged.now.proposed (g.C.Cells.rows c.args.cells.now) c.args.judged.now.tx.now c.in-Ok.ok c.resolve.result proposed c.resolve.ensures.by_rows c.in-Ok.is)
      (λ rule same. let its = c.in-Err-run_scripts.ensures.rule rule (ap Err same) in omega (arith, its.0));
  copied = tt;
  again = tt;
  alone = λ proposed rule same. let its = c.in-Err-run_scripts.ensures.rule rule (as_step same) in inr (omega (arith, its.0), its.1);
  exact = λ stored site told is.
      let its = ap (λ (ok : TxOk). ok.resolved) c.ok.view_is in
      let resolves = c.in-Ok.ensures.exact stored site told is in
      stops-running site c.args.turn.left c.args.judged.now.tx.now c.args.judged.now.proposed _ c.in-Err-run_scripts.stop
      (its-transaction c.args.judged.now.tx.now its c.in-Ok.ensures.formed.tx) resolves.0
      (c.in-Err-run_scripts.ensures.exact stored (g.C.Cells.rows c.args.cells.now) site (c.resolve.ensures.read.told ∙ told) is
      (resolved-own (blocks_of stored) c.args.at.now.parent site c.args.judged.now.tx.now its c.in-Ok.ensures.formed.tx resolves.1.resolved));
}

pub returns : goal.returns
returns g c = record {
  read = read_on c.in-Ok.ensures.read c.in-Ok-run_scripts.ensures.read;
  fits = record {
    within = c.in-Ok-run_scripts.ensures.within;
    interest_fits =
        subst (λ (z : ℤ). nat_abs z < 2 ^ 96)
        (sym (interest-kept c.in-Ok.ok.interest (ap (λ (ok : TxOk). ok.interest) c.ok.view_is) c.in-Ok.ensures.fits)) c.in-Ok.ensures.fits;
    freed_fits = c.freed_with.ensures.fits;
  };
  rule = λ rule same. absurd (no_error same);
  by_rows = λ proposed.
      resolved-by-rows c.args.judged.now.proposed (g.C.Cells.rows c.args.cells.now) c.args.judged.now.tx.now c.in-Ok.ok c.resolve.result proposed c.resolve.ensures.by_rows c.in-Ok.is;
  copied =
      inputs-of (g.B.Blocks.told c.args.blocks.now) c.args.at.now c.args.judged.now.tx.now (ap (λ (ok : TxOk). ok.resolved) c.ok.view_is) c.in-Ok.ensures.formed c.in-Ok.ensures.of_rows;
  again =
      subst (λ (it : ResolvedTxValue). All (ServesAgain (g.B.Blocks.told c.args.blocks.now) c.args.at.now) it.deps) (sym (ap (λ (ok : TxOk). ok.resolved) c.ok.view_is)) c.in-Ok.ensures.again;
  alone = λ proposed rule same. absurd (no_error same);
  exact = λ stored site told is.
      let its = ap (λ (ok : TxOk). ok.resolved) c.ok.view_is in
      let resolves = c.in-Ok.ensures.exact stored site told is in
      answers-passed site c.args.turn.left c.args.judged.now.tx.now c.args.judged.now.proposed (blocks_of stored) c.args.at.now.parent _ _
      (its-transaction c.args.judged.now.tx.now its c.in-Ok.ensures.formed.tx) resolves.0
      (c.in-Ok-run_scripts.ensures.exact stored (g.C.Cells.rows c.args.cells.now) site (c.resolve.ensures.read.told ∙ told) is
      (resolved-own (blocks_of stored) c.args.at.now.parent site c.args.judged.now.tx.now its c.in-Ok.ensures.formed.tx resolves.1.resolved))
      (ap (λ (ok : TxOk). ok.fee) c.ok.view_is ∙ resolves.1.fee_is)
      (interest-kept c.in-Ok.ok.interest (ap (λ (ok : TxOk). ok.interest) c.ok.view_is) c.in-Ok.ensures.fits ∙ resolves.1.interest_is)
      (c.freed_with.ensures.freed ∙ ap (sum_by (λ input. input.row.occupied)) c.deref.ensures.value
      ∙ freed-same (blocks_of stored) c.args.at.now.parent site c.args.judged.now.tx.now its resolves.1.resolved)
      (spent-rows (blocks_of stored) c.args.at.now.parent site c.args.judged.now.tx.now its resolves.1.resolved);
}
