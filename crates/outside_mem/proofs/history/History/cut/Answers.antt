use Rattle.outside_mem.proofs.Remains.{holds_recorded, cut_recorded}
use Rattle.outside_mem.proofs.history.History.cut.Goals as goal

pub invariant_of-self-2 : goal.invariant_of-self-2
invariant_of-self-2 c =
    holds_recorded _ _ _ _ _ c.reserve.ensures.items c.push_reserved.ensures.items (cut_recorded _ _ _ _ _ _ c.self.invariant c.cut.ensures)
