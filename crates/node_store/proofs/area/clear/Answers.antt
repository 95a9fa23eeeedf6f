use Rattle.std.proofs.Common.{◌∙◌}
use Rattle.node_store.proofs.NewLemmas.{others_cleared, moments_of_cut, moments_of_clear}
use Rattle.node_store.proofs.area.clear.Goals as goal

pub returns-in-Err-clause-moments : goal.returns-in-Err-clause-moments
returns-in-Err-clause-moments g c =
    moments_of_cut g.D.Disk.images g.D.Disk.moment g.D.Disk.left_since c.args.area g.met.D.Disk.only_now _ _ c.cut.ensures.images c.cut.ensures.time

pub returns-in-Err-sync-clause-moments : goal.returns-in-Err-sync-clause-moments
returns-in-Err-sync-clause-moments g c =
    moments_of_clear g.D.Disk.images g.D.Disk.moment g.D.Disk.left_since c.args.area g.met.D.Disk.only_now _ _ _ c.cut.ensures.images c.cut.ensures.time
    c.sync.ensures.images c.sync.ensures.time

pub returns-in-Ok-sync-clause-moments : goal.returns-in-Ok-sync-clause-moments
returns-in-Ok-sync-clause-moments g c =
    moments_of_clear g.D.Disk.images g.D.Disk.moment g.D.Disk.left_since c.args.area g.met.D.Disk.only_now _ _ _ c.cut.ensures.images c.cut.ensures.time
    c.sync.ensures.images c.sync.ensures.time

pub returns-in-Err-sync-clause-others : goal.returns-in-Err-sync-clause-others
returns-in-Err-sync-clause-others g c = others_cleared c.args.area _ _ (c.sync.ensures.same ∙ c.in-Ok.ensures.cut)

pub returns-in-Ok-sync-clause-others : goal.returns-in-Ok-sync-clause-others
returns-in-Ok-sync-clause-others g c = others_cleared c.args.area _ _ (c.sync.ensures.same ∙ c.in-Ok.ensures.cut)
