-- How an object is read by its keys, one after another, where what stops the reading is kept and not returned at once. The
-- contracts of `Rows` speak by it.
use Rattle.std.specs.Prelude.{◌≡◌, ◌⊎◌, ℕ, List, [], ◌∷◌, ◌++◌, Option, Some, None}
use Rattle.serde_json.specs.Data.{Members}
use Rattle.json_blocks.specs.declared.stop.JsonStop.{JsonStop}
use Rattle.json_blocks.specs.declared.stop.JsonStop.TheVariants as stops
use Rattle.json_blocks.specs.Reading.{Fails, Field, fields_at}

-- What the whole is, where `rest` is what the members that are left give: none after a stop, unless memory ran out.
abbrev pub Comes : Option JsonStop → Option (List ℕ) → Option (List ℕ) → Type 0
Comes None rest whole = whole ≡ rest
Comes (Some stop) rest whole = Fails stop whole

-- the whole is what these members give by the rows that are still to come, after these fields
pub record Stands (stop : Option JsonStop) (left : Members) (fields : List (List ℕ)) (rows : List Field) (made : List (List ℕ) → Option (List ℕ)) (whole : Option (List ℕ)) : Type 0 where
  pub is : Comes stop (fields_at rows made left fields) whole

-- a row is read
pub record Reads (before : Option JsonStop) (members : Members) (done : List (List ℕ)) (after : Option JsonStop) (left : Members) (fields : List (List ℕ)) (row : Field) : Type 0 where
  pub step : (rows : List Field) (made : List (List ℕ) → Option (List ℕ)) (whole : Option (List ℕ))
      → Stands before members done (row ∷ rows) made whole → Stands after left fields rows made whole

-- no member is left, and the whole is this
pub record Ends (stop : Option JsonStop) (members : Members) (fields : List (List ℕ)) (made : List (List ℕ) → Option (List ℕ)) (gives : Option (List ℕ) → Type 0) : Type 0 where
  pub whole : (whole : Option (List ℕ)) → Stands stop members fields [] made whole → gives whole

-- the field is put after the others, or memory ran out
abbrev pub IsPut : Option JsonStop → List (List ℕ) → Option JsonStop → List (List ℕ) → List ℕ → Type 0
IsPut before done after fields bytes = (after ≡ Some stops.NoMemory) ⊎ ((after ≡ before) × (fields ≡ done ++ bytes ∷ []))
