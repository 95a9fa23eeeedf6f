use Rattle.std.proofs.Common.{subst}
use Rattle.std.specs.Prelude.{IfOk}
use Rattle.std.specs.Option.{option_map}
use Rattle.node_store.specs.Queries.{IsBlockAt}
use Rattle.node_store.specs.Node.{NodeValue}
use Rattle.node_store.proofs.RecordedLemmas.{read-here, leaves-all}
use Rattle.node_store.proofs.node.Node.block.Goals as goal

pub block-requires : goal.block-requires
block-requires g c = record {
  own = read-here c.self.inside.kept c.self.inside.log.place c.self.inside.state c.self.inside.cache c.args.self.now (g.D.Disk.reads_as c.args.disk.now)
      (g.D.Disk.images c.args.disk.now) c.self.view_is c.requires.own;
}

pub returns-clause-left : goal.returns-clause-left
returns-clause-left g c =
    leaves-all g.D.Disk.content_of g.D.Disk.reads_as g.D.Disk.images g.D.Disk.moment g.D.Disk.left_since g.D.Disk.faults g.met.D.Disk.content_rests
    c.args.disk.now c.block.new.disk c.self.inside.kept c.self.inside.log.place c.self.inside.state c.self.inside.cache c.block.new.cache c.args.self.now _
    c.self.view_is c.requires.own c.block.ensures.looked

pub returns-clause-block : goal.returns-clause-block
returns-clause-block g c = λ some.
    subst (λ (node : NodeValue). IfOk c.block.result (λ found. IsBlockAt node.chain.blocks c.args.height (option_map (λ bytes. bytes.items) found))) c.self.view_is
    (c.block.ensures.block some)

pub returns-clause-undamaged : goal.returns-clause-undamaged
returns-clause-undamaged g c = c.block.ensures.undamaged
