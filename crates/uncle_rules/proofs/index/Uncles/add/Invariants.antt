use Rattle.std.proofs.Common.{◌≡◌, ◌+◌, ◌≤◌, ◌++◌, length, map, take}
use Rattle.uncle_rules.specs.Embedded.{embedded_at}
use Rattle.uncle_rules.proofs.index.Uncles.add.Given as goal

abbrev pub invariant-uncles : goal.invariant-uncles
invariant-uncles l =
    (l.self.embedded ≡ l.fn.self.embedded ++ map (embedded_at l.place) (take l.i l.block.uncles))
    × (l.fn.self.spare ≡ l.self.spare + l.i) × (l.i ≤ length l.block.uncles)
