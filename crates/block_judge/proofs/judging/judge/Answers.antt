use Rattle.std.proofs.Common.{◌≡◌, refl, inl, ap, sym, ◌∙◌, Err, arith}
use Rattle.rule_defs.specs.RuleNumber.{rule_number}
use Rattle.chain_tree.proofs.ReadLemmas.{unread, read_on}
use Rattle.block_judge.specs.Standing.{seen}
use Rattle.block_judge.proofs.Exits.{same_rule, as_step, no_error}
use Rattle.block_judge.proofs.LeftLemmas.{judges-formless, judges-broken, judges-ended, judges-passed}
use Rattle.block_judge.proofs.SightLemmas.{stops-after}
use Rattle.block_judge.proofs.judging.judge.Goals as goal

pub returns-then-not-forms_cellbase : goal.returns-then-not-forms_cellbase
returns-then-not-forms_cellbase g c = record {
  read = unread _;
  tried = λ rule same. let is : 17 ≡ rule_number rule = same_rule same in (omega (arith, is), omega (arith, is));
  by_rows = λ live tell. inl (refl, sym (c.if-not-forms_cellbase.ensures live tell));
  fees = tt;
  rated = tt;
  exact = λ stored tells whole. judges-formless stored (seen g.C.Cells.rows c.args.context.now) c.args.block.now whole c.if-not-forms_cellbase.ensures;
}

pub returns-in-Err : goal.returns-in-Err
returns-in-Err g c = record {
  read = c.in-Err.ensures.read;
  tried = λ rule same. let its = c.in-Err.ensures.rule rule (as_step same) in (omega (arith, its.0), omega (arith, its.1));
  by_rows = λ live tell.
      stops-after _ c.in-Err.stop (sym (c.if-not-forms_cellbase.ensures live tell))
      (λ rule same. let its = c.in-Err.ensures.rule rule (ap Err same) in omega (arith, its.0));
  fees = tt;
  rated = tt;
  exact = λ stored tells whole.
      judges-broken stored (seen g.C.Cells.rows c.args.context.now) c.args.block.now whole c.if-not-forms_cellbase.ensures c.in-Err.stop
      (c.in-Err.ensures.exact stored tells whole.stands);
}

pub returns-in-Err-judge_end : goal.returns-in-Err-judge_end
returns-in-Err-judge_end g c = record {
  read = read_on c.in-Ok.ensures.read c.in-Err-judge_end.ensures.read;
  tried = λ rule same. let its = c.in-Err-judge_end.ensures.tried rule (as_step same) in (omega (arith, its.0), its.1);
  by_rows = λ live tell.
      stops-after _ c.in-Err-judge_end.stop (sym (c.if-not-forms_cellbase.ensures live tell))
      (λ rule same. let its = c.in-Err-judge_end.ensures.tried rule (ap Err same) in omega (arith, its.0));
  fees = tt;
  rated = tt;
  exact = λ stored tells whole.
      judges-ended stored (seen g.C.Cells.rows c.args.context.now) c.args.block.now whole c.if-not-forms_cellbase.ensures c.in-Ok.outcome
      (c.in-Ok.ensures.exact stored tells whole.stands) c.in-Err-judge_end.stop
      (λ moved rule same. c.in-Err-judge_end.ensures.broken stored (c.judge_transactions.ensures.read.told ∙ tells) whole.stands.indexed whole.fees moved rule (ap Err same))
      (λ damage same. c.in-Err-judge_end.ensures.undamaged stored (c.judge_transactions.ensures.read.told ∙ tells) whole.stands.indexed whole.fees damage (ap Err same));
}

pub returns-in-Ok-judge_end : goal.returns-in-Ok-judge_end
returns-in-Ok-judge_end g c = record {
  read = read_on c.in-Ok.ensures.read c.in-Ok-judge_end.ensures.read;
  tried = λ rule same. absurd (no_error same);
  by_rows = λ live tell. sym (c.if-not-forms_cellbase.ensures live tell);
  fees = c.in-Ok.ensures.fees;
  rated = c.in-Ok-judge_end.ensures.rated;
  exact = λ stored tells whole.
      judges-passed stored (seen g.C.Cells.rows c.args.context.now) c.args.block.now whole c.if-not-forms_cellbase.ensures c.in-Ok.outcome
      (c.in-Ok.ensures.exact stored tells whole.stands)
      (c.in-Ok-judge_end.ensures.unbroken stored (c.judge_transactions.ensures.read.told ∙ tells) whole.stands.indexed whole.fees);
}
