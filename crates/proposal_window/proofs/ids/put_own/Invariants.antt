use Rattle.std.proofs.Common.{◌≡◌, ◌++◌, take}
use Rattle.proposal_window.proofs.ids.put_own.Given as goal

-- those before the i-th were put
abbrev pub invariant-ids : goal.invariant-ids
invariant-ids l = l.ids.items ≡ l.fn.ids.items ++ take l.i l.block.proposals
