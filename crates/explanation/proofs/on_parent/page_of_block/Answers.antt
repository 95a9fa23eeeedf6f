use Rattle.node_store.proofs.RecordedLemmas.{read-here}
use Rattle.explanation.proofs.CauseLemmas.{cause-of}
use Rattle.explanation.proofs.on_parent.page_of_block.Goals as goal

pub block_on-page-requires : goal.block_on-page-requires
block_on-page-requires g c = record {
  own = read-here c.node.inside.kept c.node.inside.log.place c.node.inside.state c.node.inside.cache c.args.node (g.D.Disk.reads_as c.args.disk.now)
      (g.D.Disk.images c.args.disk.now) c.node.view_is c.requires.own;
}

pub returns-clause-cause : goal.returns-clause-cause
returns-clause-cause g c = cause-of _ _ c.block_on-page.result c.block_on-page.ensures.looked.cause
