use Rattle.std.proofs.Common.{length, ap, sym, ◌∙◌}
use Rattle.chain_tree.specs.Entries.{entry_at}
use Rattle.chain_tree.specs.Told.{blocks_of}
use Rattle.tx_rules.specs.At.{AtValue}
use Rattle.tx_rules.proofs.BranchLemmas.{branch-long}
use Rattle.tx_rules.proofs.at.TxAt.height.Goals as goal

pub returns-clause-height : goal.returns-clause-height
returns-clause-height c stored rows site is =
    branch-long (blocks_of stored) c.args.self.now.entries c.args.self.now.parent c.entry.result.now is.indexed
    (ap (λ (at : AtValue). entry_at at.entries at.parent) (sym c.self.view_is) ∙ c.entry.ensures.entry)
    ∙ sym (ap length is.on_branch)
