-- The rows of the members of a dep group.
use Rattle.std.specs.Prelude.{◌≡◌, ℕ, Bool, List, ◌++◌, map, Option, Some, None, if◌then◌else◌}
use Rattle.std.specs.Option.{option_map, option_and_then}
use Rattle.chain_defs.specs.Schema.{OutPoint}
use Rattle.chain_defs.specs.Row.{Row}
use Rattle.rule_defs.specs.Site.{all_there}
use Rattle.rule_defs.specs.Resolving.{members_of}
use Rattle.tx_rules.specs.At.{find_row}

-- the rows of out-points, where each has one
abbrev pub rows_of : (OutPoint → Option Row) → List OutPoint → Option (List (OutPoint × Row))
rows_of rows members = all_there (map (find_row rows) members)

-- those of the members that a group's data lists
abbrev pub member_rows : (OutPoint → Option Row) → List ℕ → Option (List (OutPoint × Row))
member_rows rows content = option_and_then (rows_of rows) (members_of content)

-- A list has grown by rows, if all of them are there.
abbrev pub Adds : {X : Type 0} → List X → Bool → List X → Option (List X) → Type 0
Adds old all new rows = (if all then Some new else None) ≡ option_map (λ these. old ++ these) rows
