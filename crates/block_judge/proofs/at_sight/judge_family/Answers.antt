use Rattle.std.proofs.Common.{◌≡◌, Some, refl, sym, ap, ◌∙◌, arith}
use Rattle.chain_defs.specs.Branch.{branch}
use Rattle.rule_defs.specs.FamilyRules.{no_cell}
use Rattle.rule_defs.specs.RuleNumber.{rule_number}
use Rattle.block_judge.proofs.Exits.{same_rule, same_read, no_error, no_rule, no_read}
use Rattle.block_judge.proofs.SightLemmas.{breaks-15, breaks-16, breaks-17, keeps-family, has-first}
use Rattle.block_judge.proofs.at_sight.judge_family.Goals as goal

pub returns-in-Err : goal.returns-in-Err
returns-in-Err c = record {
  tried = λ rule same. absurd (no_rule same);
  memory = λ stop same. sym (same_read same);
  some = tt;
  broken = λ kept indexes uncles rule same. absurd (no_rule same);
  unbroken = λ kept indexes uncles. tt;
}

pub returns-then-not-has_uncles : goal.returns-then-not-has_uncles
returns-then-not-has_uncles c = record {
  tried = λ rule same. let is : 15 ≡ rule_number rule = same_rule same in (omega (arith, is), omega (arith, is));
  memory = λ stop same. absurd (no_read same);
  some = tt;
  broken = λ kept indexes uncles rule same.
      breaks-15 no_cell c.args.context.now.spec.now (branch kept c.args.context.now.parent) c.args.block.now
      (sym (c.in-Ok.ensures kept indexes uncles) ∙ c.if-not-has_uncles.true) ∙ ap Some (same_rule same);
  unbroken = λ kept indexes uncles. tt;
}

pub returns-in-Err-has_cellbase : goal.returns-in-Err-has_cellbase
returns-in-Err-has_cellbase c = record {
  tried = λ rule same. absurd (no_rule same);
  memory = λ stop same. sym (same_read same);
  some = tt;
  broken = λ kept indexes uncles rule same. absurd (no_rule same);
  unbroken = λ kept indexes uncles. tt;
}

pub returns-then-not-begins : goal.returns-then-not-begins
returns-then-not-begins c = record {
  tried = λ rule same. let is : 16 ≡ rule_number rule = same_rule same in (omega (arith, is), omega (arith, is));
  memory = λ stop same. absurd (no_read same);
  some = tt;
  broken = λ kept indexes uncles rule same.
      breaks-16 no_cell c.args.context.now.spec.now (branch kept c.args.context.now.parent) c.args.block.now
      (sym (c.in-Ok.ensures kept indexes uncles) ∙ c.if-not-has_uncles.false)
      (sym c.in-Ok-has_cellbase.ensures ∙ c.if-not-begins.true) ∙ ap Some (same_rule same);
  unbroken = λ kept indexes uncles. tt;
}

pub returns-then-not-forms_cellbase : goal.returns-then-not-forms_cellbase
returns-then-not-forms_cellbase c = record {
  tried = λ rule same. let is : 17 ≡ rule_number rule = same_rule same in (omega (arith, is), omega (arith, is));
  memory = λ stop same. absurd (no_read same);
  some = tt;
  broken = λ kept indexes uncles rule same.
      breaks-17 no_cell c.args.context.now.spec.now (branch kept c.args.context.now.parent) c.args.block.now
      (sym (c.in-Ok.ensures kept indexes uncles) ∙ c.if-not-has_uncles.false)
      (sym c.in-Ok-has_cellbase.ensures ∙ c.if-not-begins.false)
      (sym (c.if-not-forms_cellbase.ensures no_cell (λ o. refl))) ∙ ap Some (same_rule same);
  unbroken = λ kept indexes uncles. tt;
}

pub returns : goal.returns
returns c = record {
  tried = λ rule same. absurd (no_error same);
  memory = λ stop same. absurd (no_error same);
  some = has-first c.args.block.now (sym c.in-Ok-has_cellbase.ensures ∙ c.if-not-begins.false);
  broken = λ kept indexes uncles rule same. absurd (no_error same);
  unbroken = λ kept indexes uncles.
      keeps-family no_cell c.args.context.now.spec.now (branch kept c.args.context.now.parent) c.args.block.now
      (sym (c.in-Ok.ensures kept indexes uncles) ∙ c.if-not-has_uncles.false)
      (sym c.in-Ok-has_cellbase.ensures ∙ c.if-not-begins.false)
      (sym (c.if-not-forms_cellbase.ensures no_cell (λ o. refl)));
}
