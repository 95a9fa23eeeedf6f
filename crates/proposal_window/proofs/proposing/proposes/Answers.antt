use Rattle.std.proofs.Common.{◌||◌, sym, ap, ◌∙◌}
use Rattle.std.specs.List.{list_any}
use Rattle.std.specs.Str.{bytes_eq}
use Rattle.proposal_window.proofs.ProposingLemmas.{proposes-parts}
use Rattle.proposal_window.proofs.proposing.proposes.Goals as goal

pub returns-else-is_own : goal.returns-else-is_own
returns-else-is_own c =
    c.is_of_uncles.ensures
    ∙ sym (proposes-parts c.args.id.now c.args.block.now
    ∙ ap (λ own. own || list_any (λ uncle. list_any (λ other. bytes_eq other c.args.id.now) uncle.proposals) c.args.block.now.uncles)
    (sym c.is_own.ensures ∙ c.if-is_own.false))
