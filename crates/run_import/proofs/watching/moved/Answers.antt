use Rattle.std.proofs.Common.{List, ap, sym, subst}
use Rattle.std.proofs.lemmas.Result.{IfOk-weaker}
use Rattle.chain_defs.specs.Schema.{Block}
use Rattle.chain_tree.specs.Told.{blocks_of}
use Rattle.cell_index.specs.Balance.{IsBalance}
use Rattle.rewards.specs.Reading.{YieldsUndamaged}
use Rattle.node_store.specs.Kept.{KeptValue}
use Rattle.node_store.proofs.EntryLemmas.{within-entries}
use Rattle.node_store.proofs.KeptSources.{told-stored, counts-entries}
use Rattle.run_import.specs.Watching.{IsTipBalance}
use Rattle.run_import.proofs.WatchLemmas.{way-there, comes-to}
use Rattle.run_import.proofs.watching.moved.Goals as goal

pub follow-requires-clause-from : goal.follow-requires-clause-from
follow-requires-clause-from g c =
    within-entries (blocks_of c.kept.inside.blocks.stored) c.args.kept.now.chain.blocks c.kept.inside.tree.entries c.args.from
    (ap (λ (v : KeptValue). v.chain.blocks) c.kept.view_is) c.kept.invariant.indexed c.requires.from

pub follow-requires-clause-to : goal.follow-requires-clause-to
follow-requires-clause-to g c = c.tip.ensures.within

pub follow-requires-clause-counts : goal.follow-requires-clause-counts
follow-requires-clause-counts g c =
    counts-entries (blocks_of c.kept.inside.blocks.stored) c.args.kept.now.chain.blocks c.kept.inside.tree.entries _
    (ap (λ (v : KeptValue). v.chain.blocks) c.kept.view_is) c.kept.invariant.indexed c.requires.counts

pub returns-clause-read : goal.returns-clause-read
returns-clause-read g c = c.follow.ensures.read

pub returns-clause-followed : goal.returns-clause-followed
returns-clause-followed g c lock tells stands =
    let stored = c.kept.inside.blocks.stored in
    let seen = ap (λ (v : KeptValue). v.chain.blocks) c.kept.view_is in
    let told = told-stored c.kept.inside.spec stored c.kept.inside.tree.entries c.args.kept.now _ c.kept.view_is tells in
    let way = way-there c.kept.inside.spec stored c.kept.inside.tree.entries c.kept.inside.uncles c.args.kept.now c.kept.view_is
    c.kept.invariant c.args.from c.tip.result tells.joined in
    let here = subst (λ (blocks : List Block). IsBalance lock blocks c.args.from c.args.balance) (sym seen) stands in
    subst (λ (blocks : List Block). YieldsUndamaged (IsTipBalance lock blocks) c.follow.result) seen
    (comes-to (IsTipBalance lock (blocks_of stored)) c.follow.result
    (IfOk-weaker c.follow.result (IsBalance lock (blocks_of stored) c.tip.result) (IsTipBalance lock (blocks_of stored))
    (λ balance has. record { tip = c.tip.result; is_tip = c.tip.ensures.of_blocks (blocks_of stored) c.kept.invariant.indexed; stands = has })
    (c.follow.ensures.stands lock stored told c.kept.invariant.indexed way here))
    (c.follow.ensures.undamaged lock stored told c.kept.invariant.indexed way here))
