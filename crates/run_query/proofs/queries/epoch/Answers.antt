use Rattle.std.proofs.Common.{◌≡◌, List, ℕ, ap, ◌∙◌, subst, string_bytes}
use Rattle.std.specs.Prelude.{IfOk}
use Rattle.chain_defs.specs.Specification.{Specification}
use Rattle.chain_defs.specs.Tip.{tip}
use Rattle.report_defs.specs.Queries.{epoch_answer, epoch_of}
use Rattle.run_query.proofs.QueryLemmas.{epoch-is}
use Rattle.run_query.proofs.queries.epoch.Goals as goal

pub returns-clause-text : goal.returns-clause-text
returns-clause-text c =
    c.line_or_stop.ensures.text (epoch_answer c.args.node.now.chain)
    (subst (λ (bytes : List ℕ). IfOk c.epoch_line.result (λ line. string_bytes line ≡ bytes))
    (epoch-is c.behind-node.inside.epoch_length c.tip.result.now.number c.epoch_of-epoch.result.number c.epoch_of-epoch.result.index
    c.epoch_of-epoch.result.length (tip c.args.node.now.chain.blocks) c.tip.ensures.0 c.tip.ensures.1 c.tip.ensures.2.number
    c.epoch_of-epoch.ensures.number c.epoch_of-epoch.ensures.index c.epoch_of-epoch.ensures.length
    ∙ ap (λ (length : ℕ). epoch_of length (tip c.args.node.now.chain.blocks))
    (ap (λ (spec : Specification). spec.epoch_length) (c.behind-node.view_is ∙ c.spec.ensures))) c.epoch_line.ensures)
