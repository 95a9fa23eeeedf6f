-- The row of a cell that a transaction sees.
use Rattle.std.specs.Prelude.{◌≡◌, ℕ, List, Some, None}
use Rattle.chain_defs.specs.Schema.{Block}
use Rattle.chain_tree.specs.declared.entry.Entry.{Entry}
use Rattle.chain_tree.specs.Entries.{entry_at}
use Rattle.chain_defs.specs.Row.{Row, row_of}
use Rattle.rule_defs.specs.Site.{Site, Found}
use Rattle.tx_rules.specs.At.{place_of_height}

-- a row is that of a cell that is seen, over kept blocks and the parent's place
pub record IsRowOf (kept : List Block) (parent : ℕ) (site : Site) (found : Found) (row : Row) : Type 0 where
  pub seen : site.cell found.out_point ≡ Some found.cell
  pub is : row ≡ row_of (place_of_height kept parent found.cell.height) found.cell

-- where LOG has the block at a place, and 0 where it is not kept
abbrev pub log_place : List Entry → ℕ → ℕ
log_place entries place = elim (entry_at entries place) [
  | None ↦ 0
  | Some entry ↦ entry.at
]
