use Rattle.std.proofs.Common.{◌≡◌, sym, ap, subst}
use Rattle.std.specs.Prelude.{IfOk}
use Rattle.chain_defs.specs.Tip.{best_branch}
use Rattle.chain_tree.specs.Told.{blocks_of}
use Rattle.cell_state.specs.State.{rows}
use Rattle.verdict_defs.specs.Trial.{trial_on}
use Rattle.verdict_defs.specs.declared.trial.Trial.TheVariants.{Passes, Refused}
use Rattle.store_defs.specs.Store.{IsJoined}
use Rattle.rule_defs.specs.RuleNumber.{rule_number}
use Rattle.node_store.specs.Kept.{KeptValue, AreRowsOfTip}
use Rattle.node_store.proofs.EntryLemmas.{kept-parent}
use Rattle.node_core.proofs.DecidingLemmas.{stands-tip, trial-refused, trial-passes, trial-undamaged}
use Rattle.node_store.proofs.KeptSources.{told-stored, counts-entries}
use Rattle.node_core.proofs.deciding.check.Goals as goal

pub dry_run-requires-clause-placed : goal.dry_run-requires-clause-placed
dry_run-requires-clause-placed g c =
    kept-parent c.kept.inside.blocks.stored c.kept.inside.tree.entries c.kept.inside.uncles c.tip.result c.kept.invariant c.tip.ensures.within

pub dry_run-requires-clause-counts : goal.dry_run-requires-clause-counts
dry_run-requires-clause-counts g c =
    counts-entries (blocks_of c.kept.inside.blocks.stored) c.args.kept.now.chain.blocks c.kept.inside.tree.entries _
    (ap (λ (v : KeptValue). v.chain.blocks) c.kept.view_is) c.kept.invariant.indexed c.requires.counts

pub returns-clause-read : goal.returns-clause-read
returns-clause-read g c = c.dry_run.ensures.read

pub returns-clause-passes : goal.returns-clause-passes
returns-clause-passes g c tells live =
    let stored = c.kept.inside.blocks.stored in
    let told = told-stored c.kept.inside.spec stored c.kept.inside.tree.entries c.args.kept.now _ c.kept.view_is tells in
    let is = c.tip.ensures.of_blocks (blocks_of stored) c.kept.invariant.indexed in
    let stands = stands-tip c.kept.inside.spec stored c.kept.inside.tree.entries c.kept.inside.uncles (rows c.args.state.now)
    c.tip.result c.kept.invariant (subst (λ (v : KeptValue). AreRowsOfTip v.chain.blocks (rows c.args.state.now)) (sym c.kept.view_is) live)
    (subst (λ (v : KeptValue). IsJoined v.chain) (sym c.kept.view_is) tells.joined.joined) is c.tip.ensures.within in
    subst (λ (v : KeptValue). IfOk c.dry_run.result (λ it. trial_on v.chain.spec (best_branch v.chain.blocks) c.args.tx.now ≡ Passes it.0 it.1)) c.kept.view_is
    (trial-passes c.kept.inside.spec (blocks_of stored) c.args.tx.now c.tip.result is c.dry_run.result (c.dry_run.ensures.exact stored told stands))

pub returns-clause-broken : goal.returns-clause-broken
returns-clause-broken g c tells live rule broken =
    let stored = c.kept.inside.blocks.stored in
    let told = told-stored c.kept.inside.spec stored c.kept.inside.tree.entries c.args.kept.now _ c.kept.view_is tells in
    let is = c.tip.ensures.of_blocks (blocks_of stored) c.kept.invariant.indexed in
    let stands = stands-tip c.kept.inside.spec stored c.kept.inside.tree.entries c.kept.inside.uncles (rows c.args.state.now)
    c.tip.result c.kept.invariant (subst (λ (v : KeptValue). AreRowsOfTip v.chain.blocks (rows c.args.state.now)) (sym c.kept.view_is) live)
    (subst (λ (v : KeptValue). IsJoined v.chain) (sym c.kept.view_is) tells.joined.joined) is c.tip.ensures.within in
    subst (λ (v : KeptValue). trial_on v.chain.spec (best_branch v.chain.blocks) c.args.tx.now ≡ Refused (rule_number rule)) c.kept.view_is
    (trial-refused c.kept.inside.spec (blocks_of stored) c.args.tx.now c.tip.result is c.dry_run.result rule (c.dry_run.ensures.exact stored told stands) broken)

pub returns-clause-undamaged : goal.returns-clause-undamaged
returns-clause-undamaged g c tells live damage =
    let stored = c.kept.inside.blocks.stored in
    let told = told-stored c.kept.inside.spec stored c.kept.inside.tree.entries c.args.kept.now _ c.kept.view_is tells in
    let is = c.tip.ensures.of_blocks (blocks_of stored) c.kept.invariant.indexed in
    let stands = stands-tip c.kept.inside.spec stored c.kept.inside.tree.entries c.kept.inside.uncles (rows c.args.state.now)
    c.tip.result c.kept.invariant (subst (λ (v : KeptValue). AreRowsOfTip v.chain.blocks (rows c.args.state.now)) (sym c.kept.view_is) live)
    (subst (λ (v : KeptValue). IsJoined v.chain) (sym c.kept.view_is) tells.joined.joined) is c.tip.ensures.within in
    trial-undamaged c.kept.inside.spec (blocks_of stored) c.args.tx.now c.tip.result is c.dry_run.result damage (c.dry_run.ensures.exact stored told stands)
