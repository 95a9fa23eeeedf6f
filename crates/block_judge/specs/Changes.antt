-- Rows, and what was changed beside them.
use Rattle.std.specs.Prelude.{ℕ, Bool, ◌&&◌, nat_eq, List, Option, Some, None}
use Rattle.std.specs.Map.{lookup}
use Rattle.std.specs.Str.{bytes_eq}
use Rattle.chain_defs.specs.Schema.{OutPoint}
use Rattle.chain_defs.specs.Row.{Row}

-- For some keys the row since, or that there is none, in any order.
abbrev pub Changed : Type 0
Changed = List ((List ℕ × ℕ) × Option Row)

-- the key of an out-point, and whether two keys are the same
abbrev pub key_of : OutPoint → List ℕ × ℕ
key_of o = (o.tx_hash, o.index)

abbrev pub same_key : List ℕ × ℕ → List ℕ × ℕ → Bool
same_key one other = bytes_eq one.0 other.0 && nat_eq one.1 other.1

-- what was changed at an out-point, where something was
abbrev pub change_at : Changed → OutPoint → Option (Option Row)
change_at changed o = lookup (same_key (key_of o)) changed

-- the row since, where something was changed, and else the row before
abbrev pub changed_or : Option Row → Option (Option Row) → Option Row
changed_or before None = before
changed_or before (Some row) = row

-- The rows with what was changed.
abbrev pub with_changes : Changed → (OutPoint → Option Row) → OutPoint → Option Row
with_changes changed rows o = changed_or (rows o) (change_at changed o)
