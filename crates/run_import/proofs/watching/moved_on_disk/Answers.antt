use Rattle.std.proofs.Common.{sym, ap, ◌∙◌, subst}
use Rattle.outside.proofs.Endings.{after_still}
use Rattle.chain_tree.specs.Entries.{TreeValue}
use Rattle.chain_tree.specs.Reading.{stop_of}
use Rattle.chain_tree.specs.Told.{blocks_of}
use Rattle.chain_tree.proofs.ReadLemmas.{finds_after}
use Rattle.node_store.specs.Held.{CacheValue}
use Rattle.node_store.specs.Kept.{KeptValue}
use Rattle.node_store.specs.Node.{HasOnlyRead}
use Rattle.node_store.proofs.SourceLemmas.{kept-on, counts-blocks, tells-joined, has-looked}
use Rattle.run_import.proofs.watching.moved_on_disk.Goals as goal

pub new-store-requires : goal.new-store-requires
new-store-requires g c =
    kept-on c.args.kept.now c.kept.inside.tree.entries c.args.cache.now.held (g.D.Disk.reads_as c.args.disk.now) (ap (λ (v : KeptValue). v.entries) c.kept.view_is) c.requires.own

pub moved-requires-clause-from : goal.moved-requires-clause-from
moved-requires-clause-from g c = c.requires.from

pub moved-requires-clause-counts : goal.moved-requires-clause-counts
moved-requires-clause-counts g c =
    counts-blocks (blocks_of c.kept.inside.blocks.stored) c.args.kept.now.chain.blocks c.kept.inside.tree.entries _
    (ap (λ (v : KeptValue). v.chain.blocks) c.kept.view_is) c.kept.invariant.indexed (ap (λ (t : TreeValue). t.entries) c.new-store.ensures.tree)

pub returns-clause-looked : goal.returns-clause-looked
returns-clause-looked g c =
    let same = ap (λ (t : TreeValue). t.entries) c.new-store.ensures.tree ∙ ap (λ (v : KeptValue). v.entries) c.kept.view_is in
    let content = ap (λ it. it.content) c.moved.ensures.read.loans ∙ ap g.D.Disk.content_of c.new-store.ensures.disk in
    let loans = c.moved.ensures.read.loans in
    let disk = c.disk-1.given.1 (sym c.new-store.ensures.its_disk ∙ sym (ap (λ it. it.disk) loans)) in
    let cache = c.cache-1.given.1 (sym c.new-store.ensures.its_cache ∙ sym (ap (λ it. it.cache) loans)) in
    subst (λ now. HasOnlyRead g.D.Disk.content_of g.D.Disk.reads_as g.D.Disk.faults c.args.disk.now now c.args.kept.now c.args.cache.now c.cache-1.given.0 (stop_of c.moved.result)) (sym disk)
    (subst (λ after. HasOnlyRead g.D.Disk.content_of g.D.Disk.reads_as g.D.Disk.faults c.args.disk.now c.moved.new.blocks.disk.now c.args.kept.now c.args.cache.now after (stop_of c.moved.result)) (sym cache)
    (has-looked c.args.kept.now c.moved.new.blocks.tree.now.entries c.args.cache.now _ (ap (λ it. it.entries) c.moved.ensures.read.loans ∙ same) content
    (g.met.D.Disk.content_rests _ _ content).reads c.requires.own c.moved.new.blocks.kept (ap (λ it. it.most) loans ∙ ap (λ (it : CacheValue). it.most) c.new-store.ensures.cache) c.moved.ensures.read.damage
    (after_still (ap g.D.Disk.faults c.new-store.ensures.disk) c.moved.ensures.read.cause)
    (finds_after (ap (λ (it : CacheValue). it.damages) c.new-store.ensures.cache) c.moved.ensures.read.found)))

pub returns-clause-followed : goal.returns-clause-followed
returns-clause-followed g c lock told joined =
    let same = ap (λ (t : TreeValue). t.entries) c.new-store.ensures.tree ∙ ap (λ (v : KeptValue). v.entries) c.kept.view_is in
    c.moved.ensures.followed lock (tells-joined c.args.kept.now c.new-store.result.tree.now.entries c.args.cache.now.held (g.D.Disk.reads_as c.new-store.result.disk.now)
    (g.D.Disk.reads_as c.args.disk.now) same (ap g.D.Disk.reads_as c.new-store.ensures.disk) c.requires.own told joined)
