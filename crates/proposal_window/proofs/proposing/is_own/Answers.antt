use Rattle.std.proofs.Common.{sym, ap, ◌∙◌, refl, arith}
use Rattle.std.specs.List.{list_any}
use Rattle.std.specs.Str.{bytes_eq}
use Rattle.std.proofs.lemmas.List.{take_all}
use Rattle.proposal_window.proofs.ProposingLemmas.{any-next, any-here}
use Rattle.proposal_window.proofs.proposing.is_own.Goals as goal

pub ids-init : goal.ids-init
ids-init c = refl

pub returns-then-eq : goal.returns-then-eq
returns-then-eq c =
    sym (any-here (λ other. bytes_eq other c.args.id.now) c.args.block.now.proposals c.ids.i c.proposals_item.result.now c.proposals_item.ensures.at
    (sym c.eq.ensures ∙ c.if-eq.true))

pub ids-preserved : goal.ids-preserved
ids-preserved c =
    any-next (λ other. bytes_eq other c.args.id.now) c.args.block.now.proposals c.ids.i c.proposals_item.result.now c.ids.invariant
    c.proposals_item.ensures.at (sym c.eq.ensures ∙ c.if-eq.false)

pub returns : goal.returns
returns c =
    sym c.ids.invariant
    ∙ ap (list_any (λ other. bytes_eq other c.args.id.now))
    (take_all c.ids.i c.args.block.now.proposals (let past = c.ids-test.false in let count = c.proposals_count-i-end.ensures.value in omega (arith, past, count)))
