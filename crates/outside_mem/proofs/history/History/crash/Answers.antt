use Rattle.std.proofs.Common.{◌≡◌, ◌∷◌, [], ◌∙◌, List, inr, ap, sym, subst}
use Rattle.outside_mem.specs.Stored.{Parts, image_of}
use Rattle.outside_mem.specs.MemoryDisk.{Step, Crashed, Leaves, reads, IsPick, steps_of}
use Rattle.outside_mem.specs.Remains.{Holds}
use Rattle.outside_mem.proofs.Remains.{crash_leaves, crash_picks, crashed_record}
use Rattle.outside_mem.proofs.history.History.crash.Goals as goal

pub returns-clause-anew : goal.returns-clause-anew
returns-clause-anew c =
    let parts : Parts = c.crash.new.self in
    let same : steps_of c.deref.result.now ≡ c.args.self.now = ap steps_of c.deref.ensures.value ∙ c.self.view_is in
    let left : Leaves c.args.self.now (image_of parts) = subst (λ (steps : List Step). Leaves steps (image_of parts)) same
    (crash_leaves (steps_of c.deref.result.now) parts c.crash.ensures.leaves c.crash.ensures.settled) in
    inr (image_of parts, inr left, crashed_record _ _ _ (image_of parts) c.clear.ensures.items c.push_reserved.ensures.items (ap (λ (p : Parts). Crashed (image_of p)) c.of.ensures))

pub returns-clause-picked : goal.returns-clause-picked
returns-clause-picked c =
    let parts : Parts = c.crash.new.self in
    let same : steps_of c.deref.result.now ≡ c.args.self.now = ap steps_of c.deref.ensures.value ∙ c.self.view_is in
    let left : Leaves c.args.self.now (image_of parts) = subst (λ (steps : List Step). Leaves steps (image_of parts)) same
    (crash_leaves (steps_of c.deref.result.now) parts c.crash.ensures.leaves c.crash.ensures.settled) in
    let now : steps_of c.push_reserved.new.self.items ≡ Crashed (image_of parts) ∷ [] =
    crashed_record _ _ _ (image_of parts) c.clear.ensures.items c.push_reserved.ensures.items (ap (λ (p : Parts). Crashed (image_of p)) c.of.ensures) in
    let holds : Holds c.args.self.now c.self.inside.areas = subst (λ (steps : List Step). Holds steps c.self.inside.areas) c.self.view_is c.self.invariant in
    subst (λ (steps : List Step). IsPick c.args.self.now c.args.pick (reads steps)) (sym now)
    (crash_picks c.args.self.now c.self.inside.areas parts c.args.pick holds left c.crash.ensures.settled c.crash.ensures.as_read c.crash.ensures.least)
