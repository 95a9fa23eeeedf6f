use Rattle.std.proofs.Common.{rules, ◌≡◌, ◌≤◌, length, List, sym, subst}
use Rattle.outside.specs.Image.{content}
use Rattle.outside_mem.specs.MemoryDisk.{Step, reads, steps_of}
use Rattle.outside_mem.proofs.Remains.{holds_recorded, write_recorded}
use Rattle.outside_mem.proofs.history.History.write.Goals as goal

pub invariant_of-self-2 : goal.invariant_of-self-2
invariant_of-self-2 c =
    let same : c.of-written.result.value.items ≡ c.args.piece.now = search rules in
    let within : c.args.at ≤ length (content c.args.area (reads (steps_of c.self.inside.recorded.items)))
    = subst (λ (steps : List Step). c.args.at ≤ length (content c.args.area (reads steps))) (sym c.self.view_is) c.requires.within in
    holds_recorded _ _ _ _ _ c.reserve.ensures.items c.push_reserved.ensures.items
    (write_recorded _ _ _ _ _ _ _ _ same within c.self.invariant c.in_ok-write.ensures.written)
