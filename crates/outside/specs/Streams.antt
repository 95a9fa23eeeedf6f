-- What a read does to the bytes that a source has left, and a write to those that a sink has taken, where they are known
-- (docs/DECISIONS.md, "The outside").
use Rattle.std.specs.Prelude.{◌≡◌, List, ℕ}
use Rattle.std.specs.Io.KnownBytes.{prepend_known, append_known}
use Rattle.std.specs.declared.option.Option.{Option}

-- the source gave these bytes, which are no longer left
abbrev pub Gives : Option (List ℕ) → Option (List ℕ) → List ℕ → Type 0
Gives left_old left_new bytes = left_old ≡ prepend_known bytes left_new

-- the sink took these bytes
abbrev pub Takes : Option (List ℕ) → Option (List ℕ) → List ℕ → Type 0
Takes taken_old taken_new bytes = taken_new ≡ append_known taken_old bytes
