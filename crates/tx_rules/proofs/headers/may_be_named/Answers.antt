use Rattle.std.proofs.Common.{◌≡◌, ℕ, ap, sym, ◌∙◌}
use Rattle.chain_defs.specs.Specification.{Specification}
use Rattle.chain_defs.specs.Epochs.{is_span_over}
use Rattle.tx_rules.specs.At.{AtValue}
use Rattle.tx_rules.proofs.HeaderLemmas.{may-second, may-first}
use Rattle.tx_rules.proofs.headers.may_be_named.Goals as goal

pub returns-then-is_second : goal.returns-then-is_second
returns-then-is_second c stored rows site is =
    may-second site c.args.height c.is_second.result (c.is_second.ensures stored rows site is) c.if-is_second.true

pub returns-else-is_second : goal.returns-else-is_second
returns-else-is_second c stored rows site is =
    let spec : c.spec.inside.maturity ≡ site.spec.maturity =
    ap (λ (s : Specification). s.maturity) (c.spec.view_is ∙ ap (λ (at : AtValue). at.spec) c.at.view_is ∙ sym is.spec) in
    let length : c.spec.inside.epoch_length ≡ site.spec.epoch_length =
    ap (λ (s : Specification). s.epoch_length) (c.spec.view_is ∙ ap (λ (at : AtValue). at.spec) c.at.view_is ∙ sym is.spec) in
    may-first site c.args.height c.is_second.result c.span_over.result (c.is_second.ensures stored rows site is) c.if-is_second.false
    (c.span_over.ensures
    ∙ ap (λ (maturity : ℕ). is_span_over maturity c.spec.inside.epoch_length c.args.height c.height.result) spec
    ∙ ap (λ (blocks : ℕ). is_span_over site.spec.maturity blocks c.args.height c.height.result) length
    ∙ ap (is_span_over site.spec.maturity site.spec.epoch_length c.args.height) (c.height.ensures.height stored rows site is))
