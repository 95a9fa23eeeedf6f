use Rattle.std.proofs.Common.{◌≡◌, ◌≤◌, false, take}
use Rattle.std.specs.List.{list_any}
use Rattle.uncle_rules.specs.Known as known
use Rattle.uncle_rules.proofs.rule.is_earlier.Given as goal

-- none of the uncles before the i-th is the one
abbrev pub invariant-uncles : goal.invariant-uncles
invariant-uncles l =
    (list_any (λ uncle. known.is_named l.hash l.number uncle.header) (take l.i l.block.uncles) ≡ false) × (l.i ≤ l.earlier)
