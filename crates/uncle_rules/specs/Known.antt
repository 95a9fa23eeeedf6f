-- How a header is looked for among those that are known: by its hash, and where one is given by its number.
use Rattle.std.specs.Prelude.{ℕ, Bool, true, ◌&&◌, ◌==◌, List, Option, Some, None}
use Rattle.std.specs.List.{list_any}
use Rattle.std.specs.Str.{bytes_eq}
use Rattle.chain_defs.specs.Schema.{Header}
use Rattle.chain_defs.specs.Kept.{header_hash}
use Rattle.uncle_rules.specs.Embedded.{Embedded}

abbrev pub has_number : Option ℕ → ℕ → Bool
has_number None own = true
has_number (Some number) own = own == number

-- a header has this hash and number
abbrev pub is_named : List ℕ → Option ℕ → Header → Bool
is_named hash number header = bytes_eq (header_hash header) hash && has_number number header.number

-- a place is one of these
abbrev pub is_on : List ℕ → ℕ → Bool
is_on places place = list_any (λ other. other == place) places

-- an embedded uncle has this hash and number, and one of these places
abbrev pub is_named_on : List ℕ → List ℕ → Option ℕ → Embedded → Bool
is_named_on places hash number it = bytes_eq it.hash hash && (has_number number it.number && is_on places it.place)
