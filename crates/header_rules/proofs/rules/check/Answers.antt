use Rattle.std.proofs.Common.{◌≡◌, ap, ◌∙◌}
use Rattle.chain_defs.specs.Branch.{branch}
use Rattle.rule_defs.specs.Header.{has_version, has_epoch, has_target, is_later}
use Rattle.header_rules.proofs.HeaderLemmas.{same-rows, within-rows}
use Rattle.header_rules.proofs.rules.check.Goals as goal

pub returns : goal.returns
returns c = record {
  of_blocks = λ kept b indexes same.
      c.first_broken.ensures
      ∙ same-rows (c.has_version.ensures ∙ ap has_version same) (c.follows.ensures.of_blocks kept b indexes same)
      (c.has_epoch.ensures ∙ ap (has_epoch c.args.spec.now) same) (c.has_target.ensures ∙ ap (has_target c.args.spec.now) same)
      (c.is_later.ensures.of_blocks kept indexes ∙ ap (is_later (branch kept c.args.parent)) same);
  tried = within-rows _ _ _ _ _ c.first_broken.result c.first_broken.ensures;
}
