-- The cells and headers that a transaction names (RFC 0022, "Dep Group", "Cell Dep", "Header Dep"; docs/RULES.md, "Deps"). Each list is there
-- where its rule is kept.
use Rattle.std.specs.Prelude.{ℕ, Bool, ◌==◌, ◌||◌, List, [], ◌∷◌, map, Option, Some, None, if◌then◌else◌, is_some, unwrap_or}
use Rattle.std.specs.Option.{option_map, option_and_then}
use Rattle.std.specs.List.{flat_map}
use Rattle.chain_defs.specs.Shape.{encoded, decoded}
use Rattle.chain_defs.specs.Schema.{OutPoint, out_point, out_points, CellDep, Transaction}
use Rattle.chain_defs.specs.Epochs.{is_span_over}
use Rattle.chain_defs.specs.Kept.{place_of}
use Rattle.chain_defs.specs.Hashes.{are_distinct}
use Rattle.rule_defs.specs.Site.{Site, Found, find_cell, height_at, all_there}

-- ---- J20: inputs

-- no two inputs spend one cell
abbrev pub spends_each_once : Transaction → Bool
spends_each_once t = are_distinct (map (λ input. encoded out_point input.previous_output) t.raw.inputs)

-- The cells that its inputs spend, in their order: there are none where one is not live, or is named twice.
unfoldable pub input_cells : Site → Transaction → Option (List Found)
input_cells site t =
    if spends_each_once t then all_there (map (λ input. find_cell site input.previous_output) t.raw.inputs) else None

-- J20: its inputs are live and distinct.
abbrev pub spends_live_cells : Site → Transaction → Bool
spends_live_cells site t = is_some (input_cells site t)

-- ---- J21: cell deps

-- dep types
abbrev pub code : ℕ
code = 0

abbrev pub dep_group : ℕ
dep_group = 1

-- The members of a dep group: its cell's data is a canonical `OutPointVec` that is not empty.
abbrev pub members_of : List ℕ → Option (List OutPoint)
members_of content = elim (decoded out_points content) [
  | None ↦ None
  | Some [] ↦ None
  | Some (first ∷ later) ↦ Some (first ∷ later)
]

-- The cells that a cell dep stands for: one cell, or each member of a group. A member is taken as a cell, whatever it holds.
unfoldable pub cells_of_dep : Site → CellDep → Option (List Found)
cells_of_dep site dep =
    if dep.dep_type == code then option_map (λ found. found ∷ []) (find_cell site dep.out_point)
    else if dep.dep_type == dep_group
    then option_and_then (λ found. option_and_then (λ members. all_there (map (find_cell site) members)) (members_of found.cell.content)) (find_cell site dep.out_point)
    else None

-- The resolved deps: the cells in the order of the cell deps, a group as its members in its place.
unfoldable pub dep_cells : Site → Transaction → Option (List Found)
dep_cells site t = option_map (flat_map (λ cells. cells)) (all_there (map (cells_of_dep site) t.raw.cell_deps))

-- J21: each cell dep resolves.
abbrev pub has_cell_deps : Site → Transaction → Bool
has_cell_deps site t = is_some (dep_cells site t)

-- ---- J22: header deps

-- Whether the header at a height of the branch may be named. Under the first edition the span of maturity has to be over from it (docs/RULES.md,
-- "A block": from the genesis too); under the second it may be any (RFC 0036).
abbrev pub may_be_named : Site → ℕ → Bool
may_be_named site height = site.second || is_span_over site.spec.maturity site.spec.epoch_length height (height_at site)

-- the height of the ancestor with a hash, where its header may be named
abbrev pub named_ancestor : Site → List ℕ → Option ℕ
named_ancestor site hash = option_and_then (λ height. if may_be_named site height then Some height else None) (place_of site.branch hash)

-- the heights of the header deps, in their order
unfoldable pub header_heights : Site → Transaction → Option (List ℕ)
header_heights site t = all_there (map (named_ancestor site) t.raw.header_deps)

-- J22: each header dep is the hash of such an ancestor.
abbrev pub has_header_deps : Site → Transaction → Bool
has_header_deps site t = is_some (header_heights site t)

-- the lists, and no cell or height where the rule is broken
abbrev pub inputs : Site → Transaction → List Found
inputs site t = unwrap_or (input_cells site t) []

abbrev pub deps : Site → Transaction → List Found
deps site t = unwrap_or (dep_cells site t) []

abbrev pub heights : Site → Transaction → List ℕ
heights site t = unwrap_or (header_heights site t) []
