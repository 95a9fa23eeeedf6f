use Rattle.std.proofs.Common.{◌≡◌, sym, subst}
use Rattle.rewards.specs.Reading.{YieldsUndamaged}
use Rattle.node_store.specs.Node.{NodeValue, IsSoundWhereTold}
use Rattle.node_store.proofs.RecordedLemmas.{read-here, leaves-all}
use Rattle.run_query.specs.Queries.{balances_of}
use Rattle.run_query.proofs.audit.balances.Goals as goal

pub balances-requires : goal.balances-requires
balances-requires g c = record {
  own = read-here c.node.inside.kept c.node.inside.log.place c.node.inside.state c.node.inside.cache c.args.node.now (g.D.Disk.reads_as c.args.disk.now)
      (g.D.Disk.images c.args.disk.now) c.node.view_is c.requires.own;
}

pub returns-clause-left : goal.returns-clause-left
returns-clause-left g c =
    leaves-all g.D.Disk.content_of g.D.Disk.reads_as g.D.Disk.images g.D.Disk.moment g.D.Disk.left_since g.D.Disk.faults g.met.D.Disk.content_rests
    c.args.disk.now c.balances.new.disk c.node.inside.kept c.node.inside.log.place c.node.inside.state c.node.inside.cache c.balances.new.cache c.args.node.now _
    c.node.view_is c.requires.own c.balances.ensures.looked

pub returns-clause-balances : goal.returns-clause-balances
returns-clause-balances g c = λ sound.
    let on = subst (λ (node : NodeValue). IsSoundWhereTold node (g.D.Disk.reads_as c.args.disk.now)) (sym c.node.view_is) sound in
    subst (λ (node : NodeValue). YieldsUndamaged (λ left. left ≡ balances_of node.chain) c.balances.result) c.node.view_is
    (c.balances.ensures.balances on.told on.sound.joined)
