use Rattle.node_store.specs.Node.{StandsOnDisk}
use Rattle.made_chain.proofs.ImportLemmas.{is-new, opened-chain, new-is-sound, of-told, sound_on}
use Rattle.made_chain.proofs.counting.open_new.Goals as goal

pub returns-in-Ok-open-clause-chain : goal.returns-in-Ok-open-clause-chain
returns-in-Ok-open-clause-chain g c =
    let new = is-new c.args.spec.now c.args.genesis.now c.in-Ok.new.specification c.in-Ok.new.genesis _ _ c.in-Ok.ensures.both (c.in-Ok-create.ensures.made c.requires.told) in
    opened-chain c.args.spec.now c.args.genesis.now _ _ c.in-Ok-open.node.chain new c.in-Ok-open.ensures.opened.kept

pub returns-in-Ok-open-clause-sound : goal.returns-in-Ok-open-clause-sound
returns-in-Ok-open-clause-sound g c =
    let new = is-new c.args.spec.now c.args.genesis.now c.in-Ok.new.specification c.in-Ok.new.genesis _ _ c.in-Ok.ensures.both (c.in-Ok-create.ensures.made c.requires.told) in
    sound_on c.in-Ok-open.node (g.D.Disk.reads_as c.open.new.disk) (g.D.Disk.images c.open.new.disk)
    (of-told (g.D.Disk.reads_as c.create.new.disk) (StandsOnDisk c.in-Ok-open.node (g.D.Disk.reads_as c.open.new.disk) (g.D.Disk.images c.open.new.disk)) _ new.told
    (c.in-Ok-open.ensures.opened.on (new-is-sound c.args.spec.now c.args.genesis.now _ _ new)))

pub returns-in-Ok-open-clause-image : goal.returns-in-Ok-open-clause-image
returns-in-Ok-open-clause-image g c =
    let new = is-new c.args.spec.now c.args.genesis.now c.in-Ok.new.specification c.in-Ok.new.genesis _ _ c.in-Ok.ensures.both (c.in-Ok-create.ensures.made c.requires.told) in
    (of-told (g.D.Disk.reads_as c.create.new.disk) (StandsOnDisk c.in-Ok-open.node (g.D.Disk.reads_as c.open.new.disk) (g.D.Disk.images c.open.new.disk)) _ new.told
    (c.in-Ok-open.ensures.opened.on (new-is-sound c.args.spec.now c.args.genesis.now _ _ new))).image

pub returns-in-Ok-open-clause-own : goal.returns-in-Ok-open-clause-own
returns-in-Ok-open-clause-own g c = c.in-Ok-open.ensures.opened.own
