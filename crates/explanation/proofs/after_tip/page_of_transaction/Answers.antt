use Rattle.node_store.proofs.RecordedLemmas.{read-here, leaves-all}
use Rattle.explanation.proofs.after_tip.page_of_transaction.Goals as goal

pub transaction_on-requires : goal.transaction_on-requires
transaction_on-requires g c = record {
  own = read-here c.node.inside.kept c.node.inside.log.place c.node.inside.state c.node.inside.cache c.args.node.now (g.D.Disk.reads_as c.args.disk.now)
      (g.D.Disk.images c.args.disk.now) c.node.view_is c.requires.own;
  hash = c.requires.hash;
}

pub returns : goal.returns
returns g c = record {
  left = leaves-all g.D.Disk.content_of g.D.Disk.reads_as g.D.Disk.images g.D.Disk.moment g.D.Disk.left_since g.D.Disk.faults g.met.D.Disk.content_rests
      c.args.disk.now c.transaction_on.new.disk c.node.inside.kept c.node.inside.log.place c.node.inside.state c.node.inside.cache c.transaction_on.new.cache c.args.node.now _
      c.node.view_is c.requires.own c.transaction_on.ensures.looked;
}
