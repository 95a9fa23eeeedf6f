use Rattle.std.proofs.Common.{sym}
use Rattle.node_store.proofs.HeldLemmas.{put-found, adds-form, after-put}
use Rattle.node_store.proofs.cache.Cache.put.Goals as goal

pub invariant_of-self : goal.invariant_of-self
invariant_of-self c =
    adds-form _ _ c.args.e c.args.body (after-put c.put.result c.self.inside.bodies c.put.new.self c.args.e c.args.body c.put.ensures.entries c.put.ensures.err) c.requires.form c.self.invariant

pub invariant_of-self-2 : goal.invariant_of-self-2
invariant_of-self-2 c =
    adds-form _ _ c.args.e c.args.body (after-put c.put.result c.self.inside.bodies c.put.new.self c.args.e c.args.body c.put.ensures.entries c.put.ensures.err) c.requires.form c.self.invariant

pub returns-clause-held : goal.returns-clause-held
returns-clause-held c = rw c.in_ok-put.ensures.entries (put-found c.self.inside.bodies.entries c.self.inside.bodies.cap c.args.e c.args.body)

pub returns-clause-only : goal.returns-clause-only
returns-clause-only c =
    rw (sym c.self.view_is) (after-put c.put.result c.self.inside.bodies c.put.new.self c.args.e c.args.body c.put.ensures.entries c.put.ensures.err)
