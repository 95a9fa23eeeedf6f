use Rattle.std.proofs.Common.{ap, sym, ◌∙◌}
use Rattle.chain_defs.specs.Specification.{Specification, is_second_at}
use Rattle.tx_rules.specs.At.{AtValue}
use Rattle.tx_rules.proofs.at.TxAt.is_second.Goals as goal

pub returns : goal.returns
returns c stored rows site is =
    c.is_second_at.ensures
    ∙ ap (λ (spec : Specification). is_second_at spec c.height.result) (ap (λ (at : AtValue). at.spec) c.self.view_is ∙ sym is.spec)
    ∙ ap (is_second_at site.spec) (c.height.ensures.height stored rows site is)
    ∙ sym is.second
