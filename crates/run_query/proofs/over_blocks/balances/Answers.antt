use Rattle.std.proofs.Common.{ap, sym, ◌∙◌}
use Rattle.chain_defs.specs.Branch.{branch}
use Rattle.chain_tree.specs.Told.{blocks_of}
use Rattle.node_store.specs.Kept.{KeptValue}
use Rattle.node_store.proofs.KeptSources.{counts-entries}
use Rattle.supply.proofs.KeptLemmas.{last-field}
use Rattle.run_query.proofs.AuditLemmas.{have-joined, balances-are}
use Rattle.run_query.proofs.over_blocks.balances.Goals as goal

pub of_branch-requires-clause-counts : goal.of_branch-requires-clause-counts
of_branch-requires-clause-counts g c =
    counts-entries (blocks_of c.kept.inside.blocks.stored) c.args.kept.now.chain.blocks c.kept.inside.tree.entries _
    (ap (λ (v : KeptValue). v.chain.blocks) c.kept.view_is) c.kept.invariant.indexed c.requires.counts

pub returns-in-Err-clause-read : goal.returns-in-Err-clause-read
returns-in-Err-clause-read g c = c.in-Err.ensures.read

pub returns-in-Err-clause-balances : goal.returns-in-Err-clause-balances
returns-in-Err-clause-balances g c tells =
    c.in-Err.ensures.totals c.kept.inside.blocks.stored
    (have-joined c.kept.inside.spec c.kept.inside.blocks.stored c.kept.inside.tree.entries c.kept.inside.uncles c.args.kept.now _ c.kept.view_is c.kept.invariant tells)

pub returns-clause-read : goal.returns-clause-read
returns-clause-read g c = c.in-Ok.ensures.read

pub returns-clause-balances : goal.returns-clause-balances
returns-clause-balances g c tells =
    let stored = c.kept.inside.blocks.stored in
    let spec = c.kept.inside.spec in
    let entries = c.kept.inside.tree.entries in
    let joined = have-joined spec stored entries c.kept.inside.uncles c.args.kept.now _ c.kept.view_is c.kept.invariant tells in
    let field = last-field (blocks_of stored) entries c.tip-tip.result c.entry.result.now c.kept.invariant.indexed c.entry.ensures.entry ∙ sym c.read.ensures.field in
    balances-are spec stored entries c.args.kept.now c.tip-tip.result c.left.result c.kept.view_is (c.tip-tip.ensures.of_blocks (blocks_of stored) c.kept.invariant.indexed)
    (c.left.ensures.balances spec (branch (blocks_of stored) c.tip-tip.result) (c.in-Ok.ensures.totals stored joined) field)
