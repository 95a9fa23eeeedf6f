use Rattle.std.proofs.Common.{sym, subst}
use Rattle.std.specs.Prelude.{IfOk}
use Rattle.cell_state.specs.State.{rows}
use Rattle.chain_tree.specs.Damages.{IsOfBlock}
use Rattle.node_store.specs.Queries.{IsFetched}
use Rattle.node_store.specs.Node.{NodeValue}
use Rattle.node_store.specs.Kept.{AreRowsOfTip}
use Rattle.node_store.proofs.RecordedLemmas.{read-here, leaves-all}
use Rattle.node_store.proofs.node.Node.fetch.Goals as goal

pub fetch-requires : goal.fetch-requires
fetch-requires g c = record {
  own = read-here c.self.inside.kept c.self.inside.log.place c.self.inside.state c.self.inside.cache c.args.self.now (g.D.Disk.reads_as c.args.disk.now)
      (g.D.Disk.images c.args.disk.now) c.self.view_is c.requires.own;
  below = c.self.invariant.below;
}

pub returns-clause-left : goal.returns-clause-left
returns-clause-left g c =
    leaves-all g.D.Disk.content_of g.D.Disk.reads_as g.D.Disk.images g.D.Disk.moment g.D.Disk.left_since g.D.Disk.faults g.met.D.Disk.content_rests
    c.args.disk.now c.fetch.new.disk c.self.inside.kept c.self.inside.log.place c.self.inside.state c.self.inside.cache c.fetch.new.cache c.args.self.now _
    c.self.view_is c.requires.own c.fetch.ensures.looked

pub returns-clause-fetched : goal.returns-clause-fetched
returns-clause-fetched g c = λ live some.
    subst (λ (node : NodeValue). IfOk c.fetch.result (IsFetched node.chain.blocks c.args.o)) c.self.view_is
    (c.fetch.ensures.fetched some (subst (λ (node : NodeValue). AreRowsOfTip node.chain.blocks (rows node.cells)) (sym c.self.view_is) live))

pub returns-clause-undamaged : goal.returns-clause-undamaged
returns-clause-undamaged g c = λ live some.
    c.fetch.ensures.undamaged some (subst (λ (node : NodeValue). AreRowsOfTip node.chain.blocks (rows node.cells)) (sym c.self.view_is) live)

pub returns-clause-of_block : goal.returns-clause-of_block
returns-clause-of_block g c = λ some damage is.
    subst (λ (node : NodeValue). IsOfBlock node.entries damage) c.self.view_is (c.fetch.ensures.of_block some damage is)
