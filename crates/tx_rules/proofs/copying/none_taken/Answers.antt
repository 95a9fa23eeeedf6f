use Rattle.std.proofs.Common.{◌++◌, ◌∷◌, [], None, ap, ◌∙◌}
use Rattle.std.proofs.lemmas.List.{replicate_more}
use Rattle.tx_rules.proofs.copying.none_taken.Goals as goal

pub rows-init : goal.rows-init
rows-init c = c.new-taken.ensures.items

pub rows-preserved : goal.rows-preserved
rows-preserved c = c.in_ok-push.ensures.items ∙ ap (λ slots. slots ++ None ∷ []) c.rows.invariant ∙ replicate_more c.rows.counter None
