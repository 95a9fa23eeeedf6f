-- Rows of cells that a transaction sees, and what copies of them are.
use Rattle.std.specs.Prelude.{◌≡◌, ℕ, ◌≤◌, List, length, Option, Some, IsSome, IsSomeAnd, IfSome, slice_get}
use Rattle.chain_defs.specs.Shape.{decoded}
use Rattle.chain_defs.specs.Schema.{OutPoint, Block, cell_output}
use Rattle.chain_tree.specs.Told.{Stored, blocks_of}
use Rattle.chain_defs.specs.Row.{Row}
use Rattle.cell_state.specs.Copies.{ResolvedValue, IsCopyOf, CopiesOutput, output_in}
use Rattle.rule_defs.specs.Site.{Site, Found}
use Rattle.tx_rules.specs.At.{AtValue, IsSiteOf, found_row}

-- A row with its out-point is that of a cell that the transaction sees.
pub record IsFoundAt (stored : List Stored) (parent : ℕ) (site : Site) (found : Found) (row : OutPoint × Row) : Type 0 where
  pub seen : site.cell found.out_point ≡ Some found.cell
  pub its_row : row ≡ found_row (blocks_of stored) parent found

-- the row of a copy, with its out-point
abbrev pub row_in : ResolvedValue → OutPoint × Row
row_in copy = (copy.out_point, copy.row)

-- the bytes of a copy are an output's
abbrev pub HoldsOutput : ResolvedValue → Type 0
HoldsOutput copy = IsSome (decoded cell_output copy.output)

-- a block is the one at a place among those that are known
abbrev pub IsBlockAt : Option (List Stored) → ℕ → Block → Type 0
IsBlockAt told place block = IfSome told (λ stored. IfSome (slice_get stored place) (λ it. it.block ≡ block))

-- A copy is that of the output which its row names, whatever row that is: of the block at the row's place among those that are known, or of the
-- block that is judged. No block stands after these.
pub record CopiesItsRow (told : Option (List Stored)) (at : AtValue) (copy : ResolvedValue) : Type 0 where
  pub block : copy.row.block ≤ length at.entries
  pub kept : (stored : List Stored) (made : Stored) → told ≡ Some stored → slice_get stored copy.row.block ≡ Some made
      → CopiesOutput (output_in made.block copy.row.transaction copy.out_point.index) copy
  pub judged : copy.row.block ≡ length at.entries → IsSomeAnd at.block (λ b. CopiesOutput (output_in b copy.row.transaction copy.out_point.index) copy)

-- A copy of an output is that of a row: it has the row, and over known blocks the bytes of the cell that a transaction sees by it.
pub record IsCopyOfRow (told : Option (List Stored)) (at : AtValue) (named : OutPoint × Row) (copy : ResolvedValue) : Type 0 where
  pub row : row_in copy ≡ named
  pub output : HoldsOutput copy
  pub of_row : CopiesItsRow told at copy
  pub copied : (stored : List Stored) (seen : OutPoint → Option Row) (site : Site) (found : Found) → told ≡ Some stored → IsSiteOf stored at seen site
      → IsFoundAt stored at.parent site found named → IsCopyOf found.cell copy

-- A copy serves again wherever its row is named: it is that of its own row.
abbrev pub ServesAgain : Option (List Stored) → AtValue → ResolvedValue → Type 0
ServesAgain told at copy = IsCopyOfRow told at (row_in copy) copy

-- each copy that is taken is that of the row at its place
abbrev pub AreRowsCopied : Option (List Stored) → AtValue → List (OutPoint × Row) → List (Option ResolvedValue) → Type 0
AreRowsCopied told at rows taken = (i : ℕ) (row : OutPoint × Row) (copy : ResolvedValue) → slice_get rows i ≡ Some row → slice_get taken i ≡ Some (Some copy)
    → IsCopyOfRow told at row copy
