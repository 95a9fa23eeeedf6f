use Rattle.std.proofs.Common.{◌≡◌, ◌++◌, take}
use Rattle.std.specs.List.{flat_map}
use Rattle.proposal_window.proofs.ids.put_of_uncles.Given as goal

-- those of the uncles before the i-th were put
abbrev pub invariant-uncles : goal.invariant-uncles
invariant-uncles l = l.ids.items ≡ l.fn.ids.items ++ flat_map (λ uncle. uncle.proposals) (take l.i l.block.uncles)
