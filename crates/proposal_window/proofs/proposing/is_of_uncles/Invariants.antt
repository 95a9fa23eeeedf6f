use Rattle.std.proofs.Common.{◌≡◌, false, take}
use Rattle.std.specs.List.{list_any}
use Rattle.std.specs.Str.{bytes_eq}
use Rattle.proposal_window.proofs.proposing.is_of_uncles.Given as goal

-- none of the uncles before the i-th proposes the id
abbrev pub invariant-uncles : goal.invariant-uncles
invariant-uncles l = list_any (λ uncle. list_any (λ other. bytes_eq other l.id) uncle.proposals) (take l.i l.block.uncles) ≡ false
