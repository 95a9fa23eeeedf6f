use Rattle.std.proofs.Common.{◌≡◌, false, take}
use Rattle.std.specs.List.{list_any}
use Rattle.std.specs.Str.{bytes_eq}
use Rattle.proposal_window.proofs.proposing.is_of_uncle.Given as goal

-- none of the ids before the i-th is the one
abbrev pub invariant-ids : goal.invariant-ids
invariant-ids l = list_any (λ other. bytes_eq other l.id) (take l.i l.uncle.proposals) ≡ false
