-- How an input is cut into items. An item begins with its size as a little-endian u32, which counts itself
-- (docs/COMMANDS.md, "The input").
use Rattle.std.specs.Prelude.{◌≡◌, ◌↔◌, ℕ, zero, suc, ◌+◌, ◌≤◌, List, [], ◌∷◌, ◌++◌, length, take, drop, Option, Some, None, Bool, false, nat_lt, ◌==◌, ◌||◌, if◌then◌else◌, slice_get}
use Rattle.std.specs.List.{concat}
use Rattle.std.specs.Int.{w32, from_le_bytes}
use Rattle.report_defs.specs.declared.end.End.{End}
use Rattle.report_defs.specs.declared.end.End.TheVariants.{AtEnd, Cut, BadSize, Extra}

-- What a command takes of its input.
pub record Limits : Type 0 where
  -- the most bytes of the item at a place, counted from 0, or that no item is taken there
  pub item : ℕ → Option ℕ
  -- the most bytes of all items, if there is a limit
  pub input : Option ℕ

-- what the first four bytes say
unfoldable pub size_word : List ℕ → ℕ
size_word bytes = from_le_bytes w32 (take 4 bytes)

pub record IsItem (limit : ℕ) (item : List ℕ) : Type 0 where
  pub size : size_word item ≡ length item
  pub least : 4 ≤ length item
  pub most : length item ≤ limit

abbrev pub IsTaken : Option ℕ → List ℕ → Type 0
IsTaken None item = ⊥
IsTaken (Some limit) item = IsItem limit item

-- items that are taken from a place on
abbrev pub AreItems : Limits → ℕ → List (List ℕ) → Type 0
AreItems limits place [] = Unit {0}
AreItems limits place (item ∷ items) = IsTaken (limits.item place) item × AreItems limits (place + 1) items

abbrev pub is_past : Option ℕ → ℕ → Bool
is_past None offset = false
is_past (Some limit) offset = nat_lt limit offset

abbrev pub IsWithin : Option ℕ → ℕ → Type 0
IsWithin None offset = Unit {0}
IsWithin (Some limit) offset = offset ≤ limit

-- How the reading ends at an offset where these bytes are left, under the limits of the next item and of the input: by the
-- first of these that holds. None where a whole item stands there.
unfoldable pub end_at : Option ℕ → Option ℕ → ℕ → List ℕ → Option End
end_at None input offset bytes = if length bytes == 0 then Some AtEnd else Some Extra
end_at (Some limit) input offset bytes =
    if length bytes == 0 then Some AtEnd
    else if nat_lt (length bytes) 4 then Some Cut
    else if nat_lt (size_word bytes) 4 || nat_lt limit (size_word bytes) then Some BadSize
    else if is_past input (offset + size_word bytes) then Some Extra
    else if nat_lt (length bytes) (size_word bytes) then Some Cut
    else None

-- The reading ends at a size word: it is outside its limits, or the item would end past the input's.
abbrev pub IsAtWord : End → Type 0
IsAtWord AtEnd = ⊥
IsAtWord Cut = ⊥
IsAtWord BadSize = Unit {0}
IsAtWord Extra = Unit {0}

pub record Split : Type 0 where
  pub items : List (List ℕ)
  -- what is left where the reading ends
  pub rest : List ℕ
  pub end : End

-- where the reading ends
abbrev pub end_offset : Split → ℕ
end_offset split = length (concat split.items)

-- The input is these items one after the other, and then a rest at which the reading ends.
pub record IsSplit (limits : Limits) (input : List ℕ) (split : Split) : Type 0 where
  pub whole : input ≡ concat split.items ++ split.rest
  pub items : AreItems limits 0 split.items
  pub within : IsWithin limits.input (end_offset split)
  pub ends : end_at (limits.item (length split.items)) limits.input (end_offset split) split.rest ≡ Some split.end

-- ---- A whole input

-- An input that is read whole has at most an item for each of these limits, and nothing after them.
abbrev pub whole_limits : List ℕ → Limits
whole_limits limits = record { item = slice_get limits; input = None }

-- where an item is needed, an input that ends between two items is cut
abbrev pub end_of_needed : End → End
end_of_needed AtEnd = Cut
end_of_needed Cut = Cut
end_of_needed BadSize = BadSize
end_of_needed Extra = Extra

-- how it ends after so many items, where the first so many are needed
abbrev pub end_after : ℕ → ℕ → End → End
end_after needed count end = if nat_lt count needed then end_of_needed end else end

abbrev pub end_of_whole : ℕ → Split → End
end_of_whole needed split = end_after needed (length split.items) split.end

-- ---- The split of an input

-- the split with an item before it
abbrev pub with_first_item : List ℕ → Split → Split
with_first_item item split = record { items = item ∷ split.items; rest = split.rest; end = split.end }

-- the items from a place and an offset on, at most so many
abbrev pub split_from : ℕ → Limits → ℕ → ℕ → List ℕ → Split
split_from zero limits place offset bytes = record { items = []; rest = bytes; end = Cut }
split_from (suc most) limits place offset bytes = elim (end_at (limits.item place) limits.input offset bytes) [
  | Some end ↦ record { items = []; rest = bytes; end = end }
  | None ↦
      let size = size_word bytes in
      with_first_item (take size bytes) (split_from most limits (place + 1) (offset + size) (drop size bytes))
]

-- the split of an input
unfoldable pub split_of : Limits → List ℕ → Split
split_of limits input = split_from (suc (length input)) limits 0 0 input

-- ---- How far an input was read

-- how many bytes tell that the reading ends at an item's place: those of its size word, or one where no item is taken
abbrev pub bytes_at_end : Option ℕ → ℕ
bytes_at_end None = 1
bytes_at_end (Some limit) = 4

abbrev pub EndsTheReading : Limits → Split → Type 0
EndsTheReading limits split = IsAtWord split.end → length split.rest ≡ bytes_at_end (limits.item (length split.items))

-- nothing is read after the size word, or the first byte too many, at which the reading ends
abbrev pub ReadsNoFurther : Limits → List ℕ → Type 0
ReadsNoFurther limits given = EndsTheReading limits (split_of limits given)

-- Law: it is a split of the input, and there is no other.
abbrev pub SplitsAreOne : Type 0
SplitsAreOne = (limits : Limits) (input : List ℕ) (split : Split) → (split_of limits input ≡ split) ↔ IsSplit limits input split
