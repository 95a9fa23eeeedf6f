use Rattle.std.proofs.Common.{ap, sym, ◌∙◌}
use Rattle.chain_defs.specs.Schema.{Block}
use Rattle.cell_state.specs.Copies.{output_in}
use Rattle.tx_rules.specs.Own.{block_of}
use Rattle.tx_rules.proofs.at.Own.output_at.Goals as goal

pub returns-in-Apart : goal.returns-in-Apart
returns-in-Apart c =
    c.output_apart.ensures c.in-Apart.field-0
    ∙ ap (λ (b : Block). output_in b c.args.meta.now.transaction c.args.o.now.index) (ap block_of (sym c.in-Apart.is) ∙ c.self.view_is)
