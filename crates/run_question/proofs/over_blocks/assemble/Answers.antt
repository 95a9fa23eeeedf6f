use Rattle.std.proofs.Common.{◌≡◌, true, None, map, length, refl, sym, ap, subst}
use Rattle.std.specs.Prelude.{IfOk, ◌<◌}
use Rattle.chain_defs.specs.Kept.{block_hash, kept_limit}
use Rattle.chain_tree.specs.Told.{blocks_of}
use Rattle.verdict_defs.specs.Chain.{verdict_over}
use Rattle.verdict_defs.specs.Verdict.{joins}
use Rattle.pool_defs.specs.Assembly.{assembled}
use Rattle.tx_pool.specs.Assembling.{IsAssembled, chain_on}
use Rattle.node_store.specs.Kept.{KeptValue}
use Rattle.node_store.proofs.EntryLemmas.{kept-parent}
use Rattle.run_question.proofs.AssemblingLemmas.{whole-at-tip, joins-made}
use Rattle.node_store.proofs.KeptSources.{told-stored, counts-entries}
use Rattle.run_question.proofs.over_blocks.assemble.Goals as goal

pub assemble-requires-clause-placed : goal.assemble-requires-clause-placed
assemble-requires-clause-placed g c =
    kept-parent c.kept.inside.blocks.stored c.kept.inside.tree.entries c.kept.inside.uncles c.tip.result c.kept.invariant c.tip.ensures.within

pub assemble-requires-clause-counts : goal.assemble-requires-clause-counts
assemble-requires-clause-counts g c =
    counts-entries (blocks_of c.kept.inside.blocks.stored) c.args.kept.now.chain.blocks c.kept.inside.tree.entries _
    (ap (λ (v : KeptValue). v.chain.blocks) c.kept.view_is) c.kept.invariant.indexed c.requires.counts

pub assemble-requires-clause-small : goal.assemble-requires-clause-small
assemble-requires-clause-small g c = record { items_fit = c.requires.items; bytes_fit = c.requires.bytes; witness_fits = c.requires.witness }

pub returns-clause-read : goal.returns-clause-read
returns-clause-read g c = c.assemble.ensures.read

pub returns-clause-assembled : goal.returns-clause-assembled
returns-clause-assembled g c tells live =
    let stored = c.kept.inside.blocks.stored in
    let told = told-stored c.kept.inside.spec stored c.kept.inside.tree.entries c.args.kept.now _ c.kept.view_is tells in
    let is = c.tip.ensures.of_blocks (blocks_of stored) c.kept.invariant.indexed in
    let stands = whole-at-tip c.kept.inside.spec stored c.kept.inside.tree.entries c.kept.inside.uncles c.args.state.now c.args.kept.now c.tip.result
    c.kept.view_is c.kept.invariant tells.joined live is c.tip.ensures.within in
    subst (λ (v : KeptValue). IfOk c.assemble.result (IsAssembled (assembled v.chain c.args.witness.now (map (λ item. item.items) c.args.items.now)))) c.kept.view_is
    (c.assemble.ensures.assembled stored told stands is)

pub returns-clause-joins : goal.returns-clause-joins
returns-clause-joins g c tells live room =
    let stored = c.kept.inside.blocks.stored in
    let told = told-stored c.kept.inside.spec stored c.kept.inside.tree.entries c.args.kept.now _ c.kept.view_is tells in
    let is = c.tip.ensures.of_blocks (blocks_of stored) c.kept.invariant.indexed in
    let stands = whole-at-tip c.kept.inside.spec stored c.kept.inside.tree.entries c.kept.inside.uncles c.args.state.now c.args.kept.now c.tip.result
    c.kept.view_is c.kept.invariant tells.joined live is c.tip.ensures.within in
    let chain = chain_on c.kept.inside.spec (blocks_of stored) in
    let b = (assembled chain c.args.witness.now (map (λ item. item.items) c.args.items.now)).block in
    subst (λ (v : KeptValue). IfOk c.assemble.result (λ made. made.broken ≡ None → joins (verdict_over v.chain made.block.items) ≡ true)) c.kept.view_is
    (joins-made chain b.header.number (block_hash b) c.assemble.result
    (c.assemble.ensures.joins stored told stands is (subst (λ (v : KeptValue). length v.chain.blocks < kept_limit) (sym c.kept.view_is) room) b refl))

pub returns-clause-breaks_few : goal.returns-clause-breaks_few
returns-clause-breaks_few g c tells live =
    let stored = c.kept.inside.blocks.stored in
    let told = told-stored c.kept.inside.spec stored c.kept.inside.tree.entries c.args.kept.now _ c.kept.view_is tells in
    let is = c.tip.ensures.of_blocks (blocks_of stored) c.kept.invariant.indexed in
    let stands = whole-at-tip c.kept.inside.spec stored c.kept.inside.tree.entries c.kept.inside.uncles c.args.state.now c.args.kept.now c.tip.result
    c.kept.view_is c.kept.invariant tells.joined live is c.tip.ensures.within in
    c.assemble.ensures.breaks_few stored told stands is

pub returns-clause-undamaged : goal.returns-clause-undamaged
returns-clause-undamaged g c tells live damage =
    let stored = c.kept.inside.blocks.stored in
    let told = told-stored c.kept.inside.spec stored c.kept.inside.tree.entries c.args.kept.now _ c.kept.view_is tells in
    let is = c.tip.ensures.of_blocks (blocks_of stored) c.kept.invariant.indexed in
    let stands = whole-at-tip c.kept.inside.spec stored c.kept.inside.tree.entries c.kept.inside.uncles c.args.state.now c.args.kept.now c.tip.result
    c.kept.view_is c.kept.invariant tells.joined live is c.tip.ensures.within in
    c.assemble.ensures.undamaged stored told stands damage
