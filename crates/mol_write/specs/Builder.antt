-- What a `Builder` holds.
use Rattle.std.specs.Prelude.{◌≡◌, ℕ, List, [], ◌∷◌, length, take, drop}
use Rattle.std.specs.List.{AllByRecursion}

-- the fields that lie side by side in the content, by their lengths
unfoldable pub fields_by_lengths : List ℕ → List ℕ → List (List ℕ)
fields_by_lengths [] content = []
fields_by_lengths (size ∷ sizes) content = take size content ∷ fields_by_lengths sizes (drop size content)

-- each field has `size` bytes
abbrev pub AllHaveSize : ℕ → List (List ℕ) → Type 0
AllHaveSize size fields = AllByRecursion (λ field. length field ≡ size) fields
