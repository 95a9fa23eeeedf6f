-- The rules on one transaction after the cellbase, as rows of a list, in the order in which they are tried. A row has the rule's number and
-- whether the transaction keeps it (docs/RULES.md, "A block").
use Rattle.std.specs.Prelude.{ℕ, Bool, ◌&&◌, ◌==◌, nat_lt, List, [], ◌∷◌, map, length}
use Rattle.chain_defs.specs.Shape.{encoded}
use Rattle.chain_defs.specs.Schema.{Transaction, cell_dep}
use Rattle.chain_defs.specs.Hashes.{are_distinct}
use Rattle.chain_defs.specs.Cell.{pairs_data}
use Rattle.rule_defs.specs.Site.{Site}
use Rattle.rule_defs.specs.Resolving.{spends_live_cells, has_cell_deps, has_header_deps}
use Rattle.rule_defs.specs.Age.{uses_mature_cells, meets_each_since}
use Rattle.rule_defs.specs.Withdrawals.{names_deposits}
use Rattle.rule_defs.specs.Capacity.{makes_good_cells, balances}

-- J18: version 0, an input, an output, as many data as outputs, no two equal cell deps and no two equal header deps (RFC 0022). Two cell deps
-- are equal by all their bytes.
abbrev pub has_form : Transaction → Bool
has_form t =
    (t.raw.version == 0) && nat_lt 0 (length t.raw.inputs) && nat_lt 0 (length t.raw.outputs)
    && pairs_data t
    && are_distinct (map (encoded cell_dep) t.raw.cell_deps) && are_distinct t.raw.header_deps

-- The rule on what a transaction is by itself.
abbrev pub form_rules : Transaction → List (ℕ × Bool)
form_rules t = (18, has_form t) ∷ []

-- The rules on the cells and headers that it names.
abbrev pub cell_rules : Site → Transaction → List (ℕ × Bool)
cell_rules site t =
    (20, spends_live_cells site t)
    ∷ (21, has_cell_deps site t)
    ∷ (22, has_header_deps site t)
    ∷ (23, uses_mature_cells site t)
    ∷ (24, meets_each_since site t)
    ∷ (25, makes_good_cells site t)
    ∷ (26, names_deposits site t)
    ∷ (27, balances site t)
    ∷ []
