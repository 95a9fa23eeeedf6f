use Rattle.std.proofs.Common.{◌≡◌, List, ℕ, refl, subst, string_bytes}
use Rattle.std.specs.Prelude.{IfOk}
use Rattle.chain_defs.specs.Tip.{tip}
use Rattle.report_defs.specs.Text.{tip_line, tip_line_of}
use Rattle.run_query.proofs.QueryReport.{tip_line_is}
use Rattle.run_query.proofs.queries.tip.Goals as goal

pub returns-clause-text : goal.returns-clause-text
returns-clause-text c =
    c.line_or_stop.ensures.text (tip_line (tip c.args.node.now.chain.blocks))
    (subst (λ (bytes : List ℕ). IfOk c.tip_line.result (λ line. string_bytes line ≡ bytes))
    (tip_line_is (tip c.args.node.now.chain.blocks) c.tip-tip.ensures.0 c.tip-tip.result.now.number c.tip-tip.result.now.hash
    (tip_line_of c.tip-tip.result.now.number c.tip-tip.result.now.hash)
    c.tip-tip.ensures.1 c.tip-tip.ensures.2.number c.tip-tip.ensures.2.hash refl) c.tip_line.ensures)
