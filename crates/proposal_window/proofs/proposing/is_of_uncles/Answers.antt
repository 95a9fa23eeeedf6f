use Rattle.std.proofs.Common.{sym, ap, ◌∙◌, refl, arith}
use Rattle.std.specs.List.{list_any}
use Rattle.std.specs.Str.{bytes_eq}
use Rattle.std.proofs.lemmas.List.{take_all}
use Rattle.chain_defs.specs.Schema.{UncleBlock}
use Rattle.proposal_window.proofs.ProposingLemmas.{any-next, any-here}
use Rattle.proposal_window.proofs.proposing.is_of_uncles.Goals as goal

pub uncles-init : goal.uncles-init
uncles-init c = refl

pub returns-then-is_of_uncle : goal.returns-then-is_of_uncle
returns-then-is_of_uncle c =
    sym (any-here (λ (uncle : UncleBlock). list_any (λ other. bytes_eq other c.args.id.now) uncle.proposals) c.args.block.now.uncles c.uncles.i c.uncles_item.result
    c.uncles_item.ensures (sym c.is_of_uncle.ensures ∙ c.if-is_of_uncle.true))

pub uncles-preserved : goal.uncles-preserved
uncles-preserved c =
    any-next (λ (uncle : UncleBlock). list_any (λ other. bytes_eq other c.args.id.now) uncle.proposals) c.args.block.now.uncles c.uncles.i c.uncles_item.result
    c.uncles.invariant c.uncles_item.ensures (sym c.is_of_uncle.ensures ∙ c.if-is_of_uncle.false)

pub returns : goal.returns
returns c =
    sym c.uncles.invariant
    ∙ ap (list_any (λ (uncle : UncleBlock). list_any (λ other. bytes_eq other c.args.id.now) uncle.proposals))
    (take_all c.uncles.i c.args.block.now.uncles (let past = c.uncles-test.false in let count = c.uncles_count-i-end.ensures.value in omega (arith, past, count)))
