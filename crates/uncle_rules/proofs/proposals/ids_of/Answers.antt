use Rattle.std.proofs.Common.{◌++◌, ◌∷◌, [], List, ℕ, sym, ap, ◌∙◌, arith}
use Rattle.std.proofs.lemmas.List.{take_all}
use Rattle.uncle_rules.proofs.ListLemmas.{take-push}
use Rattle.uncle_rules.proofs.proposals.ids_of.Goals as goal

pub ids-preserved : goal.ids-preserved
ids-preserved c =
    c.in_ok-push.ensures.items ∙ ap (λ (so_far : List (List ℕ)). so_far ++ c.id_at.result ∷ []) c.ids.invariant
    ∙ sym (take-push c.args.uncle.now.proposals c.ids.i c.id_at.result c.id_at.ensures)

pub returns : goal.returns
returns c = c.ids.invariant ∙ take_all c.ids.i c.args.uncle.now.proposals (omega (arith, c.ids-test.false, c.proposals_count-i-end.ensures.value))
