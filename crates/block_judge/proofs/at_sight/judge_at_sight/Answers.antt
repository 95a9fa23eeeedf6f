use Rattle.std.proofs.Common.{◌≡◌, Some, refl, sym, ap, ◌∙◌, arith}
use Rattle.chain_defs.specs.Branch.{branch}
use Rattle.rule_defs.specs.RuleNumber.{rule_number}
use Rattle.block_judge.proofs.Exits.{same_rule, same_read, as_step, no_error, no_rule, no_read}
use Rattle.block_judge.proofs.SightLemmas.{breaks-header, breaks-body, leaves-family, body-asks, body-rule}
use Rattle.block_judge.proofs.at_sight.judge_at_sight.Goals as goal

pub judge_family-requires-clause-hashes : goal.judge_family-requires-clause-hashes
judge_family-requires-clause-hashes c = c.deref.ensures.value ∙ (rw c.in-Ok-Kept.field-0-is at c.in-Ok-Kept.ensures.hashes)

pub returns-in-Some : goal.returns-in-Some
returns-in-Some c = record {
  hashes = tt;
  tried = λ rule same.
      let its = c.in-Some.ensures.tried in let is : rule_number c.in-Some.rule ≡ rule_number rule = same_rule same in (omega (arith, its.0, is), omega (arith, its.1, is));
  memory = λ stop same. absurd (no_read same);
  some = tt;
  header = λ kept indexes. tt;
  asked = λ kept indexes stop same. absurd (no_read same);
  asked_of_body = λ stop same. absurd (no_read same);
  broken = λ kept indexes uncles rule same.
      breaks-header c.args.context.now.spec.now (branch kept c.args.context.now.parent) c.args.block.now (rule_number c.in-Some.rule)
      (c.in-Some.ensures.of_blocks kept c.args.block.now indexes c.header.ensures) ∙ ap Some (same_rule same);
  unbroken = λ kept indexes uncles. tt;
}

pub returns-in-Ok-Broken : goal.returns-in-Ok-Broken
returns-in-Ok-Broken c = record {
  hashes = tt;
  tried = λ rule same.
      let its = body-rule c.args.context.now.spec.now c.args.block.now (rule_number c.in-Ok-Broken.rule) (sym (rw c.in-Ok-Broken.field-0-is at c.in-Ok-Broken.ensures.broken)) in
      let is : rule_number c.in-Ok-Broken.rule ≡ rule_number rule = same_rule same in (omega (arith, its.0, is), omega (arith, its.1, is));
  memory = λ stop same. absurd (no_read same);
  some = tt;
  header = λ kept indexes. tt;
  asked = λ kept indexes stop same. absurd (no_read same);
  asked_of_body = λ stop same. absurd (no_read same);
  broken = λ kept indexes uncles rule same.
      breaks-body c.args.context.now.spec.now (branch kept c.args.context.now.parent) c.args.block.now (rule_number c.in-Ok-Broken.rule)
      (c.in_default.ensures.of_blocks kept c.args.block.now indexes c.header.ensures) (rw c.in-Ok-Broken.field-0-is at c.in-Ok-Broken.ensures.broken)
      ∙ ap Some (same_rule same);
  unbroken = λ kept indexes uncles. tt;
}

pub returns-in-Err : goal.returns-in-Err
returns-in-Err c = record {
  hashes = tt;
  tried = λ rule same. absurd (no_rule same);
  memory = λ stop same. sym (same_read same);
  some = tt;
  header = λ kept indexes. tt;
  asked = λ kept indexes stop same. sym (c.in_default.ensures.of_blocks kept c.args.block.now indexes c.header.ensures);
  asked_of_body = λ stop same. c.in-Err.ensures.asked refl;
  broken = λ kept indexes uncles rule same. absurd (no_rule same);
  unbroken = λ kept indexes uncles. tt;
}

pub returns-in-Err-judge_family : goal.returns-in-Err-judge_family
returns-in-Err-judge_family c = record {
  hashes = tt;
  tried = λ rule same. let its = c.in-Err-judge_family.ensures.tried rule (as_step same) in (omega (arith, its.0), its.1);
  memory = λ stop same. c.in-Err-judge_family.ensures.memory stop (as_step same);
  some = tt;
  header = λ kept indexes. tt;
  asked = λ kept indexes stop same. sym (c.in_default.ensures.of_blocks kept c.args.block.now indexes c.header.ensures);
  asked_of_body = λ stop same. body-asks c.args.context.now.spec.now c.args.block.now (rw c.in-Ok-Kept.field-0-is at c.in-Ok-Kept.ensures.broken);
  broken = λ kept indexes uncles rule same.
      leaves-family c.args.context.now.spec.now (branch kept c.args.context.now.parent) c.args.block.now
      (c.in_default.ensures.of_blocks kept c.args.block.now indexes c.header.ensures) (rw c.in-Ok-Kept.field-0-is at c.in-Ok-Kept.ensures.broken)
      ∙ c.in-Err-judge_family.ensures.broken kept indexes uncles rule (as_step same);
  unbroken = λ kept indexes uncles. tt;
}

pub returns-in-Ok : goal.returns-in-Ok
returns-in-Ok c = record {
  hashes = rw c.in-Ok-Kept.field-0-is at c.in-Ok-Kept.ensures.hashes;
  tried = λ rule same. absurd (no_error same);
  memory = λ stop same. absurd (no_error same);
  asked = λ kept indexes stop same. absurd (no_error same);
  some = c.in-Ok.ensures.some;
  header = λ kept indexes. sym (c.in_default.ensures.of_blocks kept c.args.block.now indexes c.header.ensures);
  asked_of_body = λ stop same. absurd (no_error same);
  broken = λ kept indexes uncles rule same. absurd (no_error same);
  unbroken = λ kept indexes uncles.
      leaves-family c.args.context.now.spec.now (branch kept c.args.context.now.parent) c.args.block.now
      (c.in_default.ensures.of_blocks kept c.args.block.now indexes c.header.ensures) (rw c.in-Ok-Kept.field-0-is at c.in-Ok-Kept.ensures.broken)
      ∙ c.in-Ok.ensures.unbroken kept indexes uncles;
}
