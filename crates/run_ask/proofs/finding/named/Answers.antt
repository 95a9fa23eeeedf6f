use Rattle.std.proofs.Common.{subst}
use Rattle.std.specs.Prelude.{IfOk}
use Rattle.std.specs.Option.{option_map}
use Rattle.run_ask.specs.Finding.{IsNamed}
use Rattle.node_store.specs.Node.{NodeValue}
use Rattle.node_store.proofs.RecordedLemmas.{read-here, leaves-all}
use Rattle.run_ask.proofs.finding.named.Goals as goal

pub named-requires : goal.named-requires
named-requires g c = record {
  own = read-here c.node.inside.kept c.node.inside.log.place c.node.inside.state c.node.inside.cache c.args.node.now (g.D.Disk.reads_as c.args.disk.now)
      (g.D.Disk.images c.args.disk.now) c.node.view_is c.requires.own;
}

pub returns-clause-left : goal.returns-clause-left
returns-clause-left g c =
    leaves-all g.D.Disk.content_of g.D.Disk.reads_as g.D.Disk.images g.D.Disk.moment g.D.Disk.left_since g.D.Disk.faults g.met.D.Disk.content_rests
    c.args.disk.now c.named.new.disk c.node.inside.kept c.node.inside.log.place c.node.inside.state c.node.inside.cache c.named.new.cache c.args.node.now _
    c.node.view_is c.requires.own c.named.ensures.looked

pub returns-clause-block : goal.returns-clause-block
returns-clause-block g c = λ some.
    subst (λ (node : NodeValue). IfOk c.named.result (λ found. IsNamed node.chain c.args.hash.now (option_map (λ bytes. bytes.items) found))) c.node.view_is
    (c.named.ensures.block some)

pub returns-clause-undamaged : goal.returns-clause-undamaged
returns-clause-undamaged g c = c.named.ensures.undamaged
