-- The sources that a syscall loads from, and where what it asks for stands in the transaction (RFC 0009, "source"; docs/MACHINE.md, "What a
-- script is shown").
use Rattle.std.specs.Prelude.{ℕ, ◌==◌, List, [], ◌∷◌, Option, Some, None, slice_get}
use Rattle.std.specs.Option.{option_map}
use Rattle.std.specs.List.{find}
use Rattle.verdict_defs.specs.Groups.{Group}

pub data Source : Type 0 where
  Inputs : Source
  Outputs : Source
  -- the resolved deps
  CellDeps : Source
  HeaderDeps : Source
  GroupInputs : Source
  GroupOutputs : Source
  GroupCellDeps : Source
  GroupHeaderDeps : Source

-- Any other number is no source.
unfoldable pub sources : List (ℕ × Source)
sources =
    (1, Inputs)
    ∷ (2, Outputs)
    ∷ (3, CellDeps)
    ∷ (4, HeaderDeps)
    ∷ (0x0100000000000001, GroupInputs)
    ∷ (0x0100000000000002, GroupOutputs)
    ∷ (0x0100000000000003, GroupCellDeps)
    ∷ (0x0100000000000004, GroupHeaderDeps)
    ∷ []

unfoldable pub source_of : ℕ → Option Source
source_of number = option_map (λ it. it.1) (find (λ it. it.0 == number) sources)

-- where an item stands
pub data Place : Type 0 where
  AtInput : ℕ → Place
  AtOutput : ℕ → Place
  AtCellDep : ℕ → Place
  AtHeaderDep : ℕ → Place

-- The place of an index of a source. An index into a group is mapped to the place in the transaction; at the group's end and past it there is
-- none. A group has no cell deps and no header deps (docs/DECISIONS.md). Where any other source ends is said by what is asked of it: at a place
-- past the last such item stands none.
abbrev pub place_in_source : Group → Source → ℕ → Option Place
place_in_source group Inputs index = Some (AtInput index)
place_in_source group Outputs index = Some (AtOutput index)
place_in_source group CellDeps index = Some (AtCellDep index)
place_in_source group HeaderDeps index = Some (AtHeaderDep index)
place_in_source group GroupInputs index = option_map AtInput (slice_get group.inputs index)
place_in_source group GroupOutputs index = option_map AtOutput (slice_get group.outputs index)
place_in_source group GroupCellDeps index = None
place_in_source group GroupHeaderDeps index = None
