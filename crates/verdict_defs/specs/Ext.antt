-- The ext of a block that joins: what its record keeps beside it (docs/STORE.md, "The ext").
use Rattle.std.specs.Prelude.{ℕ, suc, nat_lt, List, [], ◌∷◌, ◌++◌, drop, Option, Some, None, if◌then◌else◌}
use Rattle.std.specs.List.{filter_map}
use Rattle.chain_defs.specs.Schema.{OutPoint, Transaction, Block}
use Rattle.chain_defs.specs.Specification.{Specification}
use Rattle.chain_defs.specs.Branch.{branch}
use Rattle.chain_defs.specs.Row.{Row, row_on}
use Rattle.chain_defs.specs.Ext.{Ext}
use Rattle.rule_defs.specs.Site.{Site, Found, height_at, site_at}
use Rattle.rule_defs.specs.Resolving.{inputs}
use Rattle.rule_defs.specs.Capacity.{fees_from}

-- the row of a cell that is spent, where a block before made it
abbrev pub row_before : List Block → ℕ → Site → Found → Option (OutPoint × Row)
row_before kept parent site found =
    if nat_lt found.cell.height (height_at site) then Some (found.out_point, row_on kept parent found.cell) else None

-- the rows of the cells that a transaction spends and that were live before its block
abbrev pub rows_spent : List Block → ℕ → Site → Transaction → List (OutPoint × Row)
rows_spent kept parent site t = filter_map (row_before kept parent site) (inputs site t)

-- those of a block's transactions from a place on
unfoldable pub spent_from : Specification → List Block → ℕ → Block → ℕ → List Transaction → List (OutPoint × Row)
spent_from spec kept parent b place [] = []
spent_from spec kept parent b place (t ∷ later) =
    rows_spent kept parent (site_at spec (branch kept parent) b place) t ++ spent_from spec kept parent b (suc place) later

-- Over kept blocks, of a block on the parent at a place: the fees of its transactions after the cellbase, and the rows of the cells that they
-- spend and that were live before it, in the order of spending.
unfoldable pub ext_of : Specification → List Block → ℕ → Block → Ext
ext_of spec kept parent b = record {
  fees = fees_from spec (branch kept parent) b 1 (drop 1 b.transactions);
  spent = spent_from spec kept parent b 1 (drop 1 b.transactions);
}
