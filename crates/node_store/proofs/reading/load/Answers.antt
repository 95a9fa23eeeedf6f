use Rattle.std.proofs.Common.{refl}
use Rattle.node_store.proofs.StoredLemmas.{kept-promoted, kept-put}
use Rattle.node_store.proofs.reading.load.Goals as goal

pub returns-then-promote-clause-kept : goal.returns-then-promote-clause-kept
returns-then-promote-clause-kept g c = kept-promoted _ _ c.args.tree.now.entries c.args.cache.now.held c.promote.new.self.held refl c.promote.ensures.only c.requires.kept

pub returns-in-Err-clause-kept : goal.returns-in-Err-clause-kept
returns-in-Err-clause-kept g c =
    kept-promoted _ _ c.args.tree.now.entries c.args.cache.now.held c.promote.new.self.held c.read_body.ensures.same c.promote.ensures.only c.requires.kept

pub returns-in-Ok-put-clause-kept : goal.returns-in-Ok-put-clause-kept
returns-in-Ok-put-clause-kept g c =
    kept-put _ _ c.args.tree.now.entries c.promote.new.self.held c.put.new.self.held c.args.e c.in-Ok.body c.entry.result.now c.read_body.ensures.same c.entry.ensures.entry
    c.in-Ok.ensures.body c.put.ensures.only
    (kept-promoted _ _ c.args.tree.now.entries c.args.cache.now.held c.promote.new.self.held refl c.promote.ensures.only c.requires.kept)

pub returns-in-Err-put-clause-kept : goal.returns-in-Err-put-clause-kept
returns-in-Err-put-clause-kept g c =
    kept-put _ _ c.args.tree.now.entries c.promote.new.self.held c.put.new.self.held c.args.e c.in-Ok.body c.entry.result.now c.read_body.ensures.same c.entry.ensures.entry
    c.in-Ok.ensures.body c.put.ensures.only
    (kept-promoted _ _ c.args.tree.now.entries c.args.cache.now.held c.promote.new.self.held refl c.promote.ensures.only c.requires.kept)
