use Rattle.std.proofs.Common.{◌≡◌, sym, subst}
use Rattle.cell_index.specs.Balance.{IsBalance}
use Rattle.rewards.specs.Reading.{YieldsUndamaged}
use Rattle.node_store.specs.Node.{NodeValue, IsSoundWhereTold}
use Rattle.node_store.proofs.RecordedLemmas.{read-here, leaves-all}
use Rattle.run_import.specs.Watching.{IsTipBalance}
use Rattle.run_import.proofs.watching.moved_on_node.Goals as goal

pub moved_on_disk-requires-clause-own : goal.moved_on_disk-requires-clause-own
moved_on_disk-requires-clause-own g c =
    read-here c.node.inside.kept c.node.inside.log.place c.node.inside.state c.node.inside.cache c.args.node.now (g.D.Disk.reads_as c.args.disk.now)
    (g.D.Disk.images c.args.disk.now) c.node.view_is c.requires.own

pub returns-clause-left : goal.returns-clause-left
returns-clause-left g c =
    leaves-all g.D.Disk.content_of g.D.Disk.reads_as g.D.Disk.images g.D.Disk.moment g.D.Disk.left_since g.D.Disk.faults g.met.D.Disk.content_rests
    c.args.disk.now c.moved_on_disk.new.disk c.node.inside.kept c.node.inside.log.place c.node.inside.state c.node.inside.cache c.moved_on_disk.new.cache c.args.node.now _
    c.node.view_is c.requires.own c.moved_on_disk.ensures.looked

pub returns-clause-followed : goal.returns-clause-followed
returns-clause-followed g c lock = λ sound stands.
    let on = subst (λ (node : NodeValue). IsSoundWhereTold node (g.D.Disk.reads_as c.args.disk.now)) (sym c.node.view_is) sound in
    subst (λ (node : NodeValue). YieldsUndamaged (IsTipBalance lock node.chain.blocks) c.moved_on_disk.result) c.node.view_is
    (c.moved_on_disk.ensures.followed lock on.told on.sound.joined
    (subst (λ (node : NodeValue). IsBalance lock node.chain.blocks c.args.from c.args.balance) (sym c.node.view_is) stands))
