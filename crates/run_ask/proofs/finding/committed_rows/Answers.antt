use Rattle.std.proofs.Common.{subst}
use Rattle.std.specs.Prelude.{IfOk}
use Rattle.chain_defs.specs.Tip.{best_branch}
use Rattle.node_store.specs.Node.{NodeValue}
use Rattle.node_store.proofs.RecordedLemmas.{read-here, leaves-all}
use Rattle.run_ask.specs.Finding.{AreRowsOf}
use Rattle.run_ask.proofs.finding.committed_rows.Goals as goal

pub committed_rows-requires : goal.committed_rows-requires
committed_rows-requires g c = record {
  own = read-here c.node.inside.kept c.node.inside.log.place c.node.inside.state c.node.inside.cache c.args.node.now (g.D.Disk.reads_as c.args.disk.now)
      (g.D.Disk.images c.args.disk.now) c.node.view_is c.requires.own;
}

pub returns-clause-left : goal.returns-clause-left
returns-clause-left g c =
    leaves-all g.D.Disk.content_of g.D.Disk.reads_as g.D.Disk.images g.D.Disk.moment g.D.Disk.left_since g.D.Disk.faults g.met.D.Disk.content_rests
    c.args.disk.now c.committed_rows.new.disk c.node.inside.kept c.node.inside.log.place c.node.inside.state c.node.inside.cache c.committed_rows.new.cache c.args.node.now _
    c.node.view_is c.requires.own c.committed_rows.ensures.looked

pub returns-clause-rows : goal.returns-clause-rows
returns-clause-rows g c = λ some.
    subst (λ (node : NodeValue). IfOk c.committed_rows.result (λ rows. AreRowsOf (best_branch node.chain.blocks) rows.items)) c.node.view_is
    (c.committed_rows.ensures.rows some)

pub returns-clause-undamaged : goal.returns-clause-undamaged
returns-clause-undamaged g c = c.committed_rows.ensures.undamaged
