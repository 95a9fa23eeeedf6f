use Rattle.made_chain.proofs.ImportLemmas.{opened-kept}
use Rattle.made_chain.proofs.soaking.open_kept.Goals as goal

pub returns-in-Ok-clause-chain : goal.returns-in-Ok-clause-chain
returns-in-Ok-clause-chain g c = λ chain only.
    opened-kept chain c.in-Ok.node.chain (g.D.Disk.reads_as c.args.disk.now) (g.D.Disk.images c.args.disk.now) only c.in-Ok.ensures.opened.kept

pub returns-in-Ok-clause-sound : goal.returns-in-Ok-clause-sound
returns-in-Ok-clause-sound g c =
    let store = c.requires.store in
    c.in-Ok.ensures.opened.sound store.1.now store.1.told (store.0, store.1.stands)
