use Rattle.std.proofs.Common.{length}
use Rattle.node_store.specs.Snapshot.{snapshot_at}
use Rattle.made_chain.proofs.ImportLemmas.{tells_still}
use Rattle.made_chain.proofs.counting.import_item.Goals as goal

pub returns-in-Ok-clause-sound : goal.returns-in-Ok-clause-sound
returns-in-Ok-clause-sound g c = record {
  sound = c.in-Ok.ensures.imported.sound c.requires.sound;
  told = tells_still (snapshot_at (length c.args.node.chain.blocks)) (g.D.Disk.reads_as c.args.disk.now) (g.D.Disk.reads_as c.import.new.disk) c.import.ensures.logged.others c.requires.sound.told;
}

pub returns-in-Ok-clause-verdict : goal.returns-in-Ok-clause-verdict
returns-in-Ok-clause-verdict g c = c.in-Ok.ensures.imported.verdict c.requires.sound

pub returns-in-Ok-clause-kept : goal.returns-in-Ok-clause-kept
returns-in-Ok-clause-kept g c = c.in-Ok.ensures.imported.kept c.requires.sound

pub returns-in-Ok-clause-own : goal.returns-in-Ok-clause-own
returns-in-Ok-clause-own g c = c.in-Ok.ensures.imported.own
