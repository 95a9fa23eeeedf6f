use Rattle.std.proofs.Common.{subst}
use Rattle.std.specs.Prelude.{IfOk}
use Rattle.node_store.specs.Queries.{IsHeaderAt}
use Rattle.node_store.specs.Node.{NodeValue}
use Rattle.node_store.proofs.RecordedLemmas.{read-here, leaves-all}
use Rattle.node_store.proofs.node.Node.header.Goals as goal

pub header-requires : goal.header-requires
header-requires g c = record {
  own = read-here c.self.inside.kept c.self.inside.log.place c.self.inside.state c.self.inside.cache c.args.self.now (g.D.Disk.reads_as c.args.disk.now)
      (g.D.Disk.images c.args.disk.now) c.self.view_is c.requires.own;
}

pub returns-clause-left : goal.returns-clause-left
returns-clause-left g c =
    leaves-all g.D.Disk.content_of g.D.Disk.reads_as g.D.Disk.images g.D.Disk.moment g.D.Disk.left_since g.D.Disk.faults g.met.D.Disk.content_rests
    c.args.disk.now c.header.new.disk c.self.inside.kept c.self.inside.log.place c.self.inside.state c.self.inside.cache c.header.new.cache c.args.self.now _
    c.self.view_is c.requires.own c.header.ensures.looked

pub returns-clause-header : goal.returns-clause-header
returns-clause-header g c = λ some.
    subst (λ (node : NodeValue). IfOk c.header.result (IsHeaderAt node.chain.blocks c.args.height)) c.self.view_is (c.header.ensures.header some)

pub returns-clause-undamaged : goal.returns-clause-undamaged
returns-clause-undamaged g c = c.header.ensures.undamaged
