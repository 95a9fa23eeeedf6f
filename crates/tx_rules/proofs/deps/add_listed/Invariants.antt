use Rattle.std.proofs.Common.{◌≡◌, ◌++◌, Some, take}
use Rattle.std.specs.Option.{option_map}
use Rattle.tx_rules.specs.Members.{rows_of}
use Rattle.tx_rules.proofs.deps.add_listed.Given as goal

-- the rows of the members before the i-th are added
abbrev pub invariant-members : goal.invariant-members
invariant-members g l = Some l.found.items ≡ option_map (λ these. l.fn.found.items ++ these) (rows_of (g.C.Cells.rows l.cells) (take l.i l.members))
