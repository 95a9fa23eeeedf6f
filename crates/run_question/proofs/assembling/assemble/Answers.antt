use Rattle.std.proofs.Common.{◌≡◌, true, None, map, length, sym, subst}
use Rattle.std.specs.Prelude.{IfOk, ◌<◌}
use Rattle.chain_defs.specs.Kept.{kept_limit}
use Rattle.verdict_defs.specs.Chain.{verdict_over}
use Rattle.verdict_defs.specs.Verdict.{joins}
use Rattle.pool_defs.specs.Assembly.{assembled}
use Rattle.tx_pool.specs.Assembling.{IsAssembled}
use Rattle.node_store.specs.Node.{NodeValue, IsSoundWhereTold}
use Rattle.node_store.proofs.RecordedLemmas.{read-here, leaves-all}
use Rattle.run_question.proofs.assembling.assemble.Goals as goal

pub assemble-requires-clause-own : goal.assemble-requires-clause-own
assemble-requires-clause-own g c =
    read-here c.node.inside.kept c.node.inside.log.place c.node.inside.state c.node.inside.cache c.args.node.now (g.D.Disk.reads_as c.args.disk.now)
    (g.D.Disk.images c.args.disk.now) c.node.view_is c.requires.own

pub returns-clause-left : goal.returns-clause-left
returns-clause-left g c =
    leaves-all g.D.Disk.content_of g.D.Disk.reads_as g.D.Disk.images g.D.Disk.moment g.D.Disk.left_since g.D.Disk.faults g.met.D.Disk.content_rests
    c.args.disk.now c.assemble.new.disk c.node.inside.kept c.node.inside.log.place c.node.inside.state c.node.inside.cache c.assemble.new.cache c.args.node.now _
    c.node.view_is c.requires.own c.assemble.ensures.looked

pub returns-clause-assembled : goal.returns-clause-assembled
returns-clause-assembled g c = λ sound.
    let on = subst (λ (node : NodeValue). IsSoundWhereTold node (g.D.Disk.reads_as c.args.disk.now)) (sym c.node.view_is) sound in
    subst (λ (node : NodeValue). IfOk c.assemble.result (IsAssembled (assembled node.chain c.args.witness.now (map (λ item. item.items) c.args.items.now)))) c.node.view_is
    (c.assemble.ensures.assembled on.told on.sound.joined on.sound.live)

pub returns-clause-joins : goal.returns-clause-joins
returns-clause-joins g c = λ sound room.
    let on = subst (λ (node : NodeValue). IsSoundWhereTold node (g.D.Disk.reads_as c.args.disk.now)) (sym c.node.view_is) sound in
    subst (λ (node : NodeValue). IfOk c.assemble.result (λ made. made.broken ≡ None → joins (verdict_over node.chain made.block.items) ≡ true)) c.node.view_is
    (c.assemble.ensures.joins on.told on.sound.joined on.sound.live (subst (λ (node : NodeValue). length node.chain.blocks < kept_limit) (sym c.node.view_is) room))

pub returns-clause-breaks_few : goal.returns-clause-breaks_few
returns-clause-breaks_few g c = λ sound.
    let on = subst (λ (node : NodeValue). IsSoundWhereTold node (g.D.Disk.reads_as c.args.disk.now)) (sym c.node.view_is) sound in
    c.assemble.ensures.breaks_few on.told on.sound.joined on.sound.live

pub returns-clause-undamaged : goal.returns-clause-undamaged
returns-clause-undamaged g c = λ sound.
    let on = subst (λ (node : NodeValue). IsSoundWhereTold node (g.D.Disk.reads_as c.args.disk.now)) (sym c.node.view_is) sound in
    c.assemble.ensures.undamaged on.told on.sound.joined on.sound.live
