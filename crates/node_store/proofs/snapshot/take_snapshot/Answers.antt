use Rattle.std.proofs.Common.{sym, ◌∙◌}
use Rattle.cell_state.specs.State.{rows}
use Rattle.outside.specs.Disk.{LeavesOnly}
use Rattle.outside.proofs.Moments.{leaves_also, now_too}
use Rattle.store_defs.specs.Store.{StandsFor}
use Rattle.node_store.proofs.SnapshotLemmas.{on-ok, has-taken, durable-only, stands-taken, only-after}
use Rattle.node_store.proofs.snapshot.take_snapshot.Goals as goal

pub returns-clause-taken : goal.returns-clause-taken
returns-clause-taken g c = λ number at live.
    on-ok c.write.result _ _ c.write.ensures.written (λ new.
    has-taken c.args.kept.now.chain.blocks c.tip-tip.result c.entry.result.now (rows c.args.state.now) (c.tip-tip.ensures.of_blocks c.args.kept.now.chain.blocks c.tree.ensures.indexed)
    (c.entry.ensures.of_block c.args.kept.now.chain.blocks c.tree-2.ensures.indexed) live
    _ c.in-Some.number number (g.D.Disk.reads_as c.write.new.disk) (sym c.due.ensures ∙ c.in-Some.is) at new)

pub returns-clause-moments : goal.returns-clause-moments
returns-clause-moments g c = λ live only.
    leaves_also g.D.Disk.moment g.D.Disk.left_since _ _ _ _
    (c.write.ensures.moments (durable-only c.args.kept.now.chain c.in-Some.number c.tip-tip.result c.entry.result.now (rows c.args.state.now) (c.tip-tip.ensures.of_blocks c.args.kept.now.chain.blocks c.tree.ensures.indexed)
    (c.entry.ensures.of_block c.args.kept.now.chain.blocks c.tree-2.ensures.indexed) live
    (g.D.Disk.reads_as c.args.disk.now) (g.D.Disk.images c.args.disk.now) only))
    (stands-taken c.args.kept.now.chain c.in-Some.number c.tip-tip.result c.entry.result.now (rows c.args.state.now) (c.tip-tip.ensures.of_blocks c.args.kept.now.chain.blocks c.tree.ensures.indexed)
    (c.entry.ensures.of_block c.args.kept.now.chain.blocks c.tree-2.ensures.indexed) live
    (g.D.Disk.reads_as c.args.disk.now) (g.D.Disk.images c.args.disk.now) only)

pub returns-clause-image : goal.returns-clause-image
returns-clause-image g c = λ live only.
    let moments : LeavesOnly g.D.Disk.moment g.D.Disk.left_since c.args.disk.now c.write.new.disk (StandsFor c.args.kept.now.chain) = leaves_also g.D.Disk.moment g.D.Disk.left_since _ _ _ _
    (c.write.ensures.moments (durable-only c.args.kept.now.chain c.in-Some.number c.tip-tip.result c.entry.result.now (rows c.args.state.now) (c.tip-tip.ensures.of_blocks c.args.kept.now.chain.blocks c.tree.ensures.indexed)
    (c.entry.ensures.of_block c.args.kept.now.chain.blocks c.tree-2.ensures.indexed) live
    (g.D.Disk.reads_as c.args.disk.now) (g.D.Disk.images c.args.disk.now) only))
    (stands-taken c.args.kept.now.chain c.in-Some.number c.tip-tip.result c.entry.result.now (rows c.args.state.now) (c.tip-tip.ensures.of_blocks c.args.kept.now.chain.blocks c.tree.ensures.indexed)
    (c.entry.ensures.of_block c.args.kept.now.chain.blocks c.tree-2.ensures.indexed) live
    (g.D.Disk.reads_as c.args.disk.now) (g.D.Disk.images c.args.disk.now) only) in
    on-ok c.write.result _ _ c.write.ensures.durable (λ durable.
    only-after c.args.kept.now.chain c.in-Some.number c.tip-tip.result c.entry.result.now (rows c.args.state.now) (c.tip-tip.ensures.of_blocks c.args.kept.now.chain.blocks c.tree.ensures.indexed)
    (c.entry.ensures.of_block c.args.kept.now.chain.blocks c.tree-2.ensures.indexed) live
    (g.D.Disk.reads_as c.args.disk.now) (g.D.Disk.images c.args.disk.now) only
    (g.D.Disk.reads_as c.write.new.disk) (g.D.Disk.images c.write.new.disk) c.write.ensures.others durable (g.met.D.Disk.reads_image c.write.new.disk)
    (now_too g.D.Disk.moment g.D.Disk.left_since g.D.Disk.images g.met.D.Disk.counts_now c.args.disk.now c.write.new.disk _ c.write.ensures.beside)
    (now_too g.D.Disk.moment g.D.Disk.left_since g.D.Disk.images g.met.D.Disk.counts_now c.args.disk.now c.write.new.disk _ moments))
