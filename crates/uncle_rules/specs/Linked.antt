-- What an index of embedded uncles keeps beside them, so that it finds them fast.
use Rattle.std.specs.Prelude.{◌≡◌, ℕ, suc, List, [], ◌∷◌, take, Option, Some, None, if◌then◌else◌, option_map, slice_get}
use Rattle.std.specs.Option.{option_or}
use Rattle.std.specs.Str.{bytes_eq}
use Rattle.uncle_rules.specs.declared.index.Entry.{Entry}

-- the index of the last entry with this hash
unfoldable pub last_of : List Entry → List ℕ → Option ℕ
last_of [] hash = None
last_of (entry ∷ later) hash = option_or (option_map suc (last_of later hash)) (if bytes_eq entry.hash hash then Some 0 else None)

-- the last entry with each hash, and of each entry the one before it with the same hash
pub record IsLinked (entries : List Entry) (latest : List ℕ → Option ℕ) : Type 0 where
  pub last : (hash : List ℕ) → latest hash ≡ last_of entries hash
  pub earlier : (i : ℕ) (entry : Entry) → slice_get entries i ≡ Some entry → entry.earlier ≡ last_of (take i entries) entry.hash
