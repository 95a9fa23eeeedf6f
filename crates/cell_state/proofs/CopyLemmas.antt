-- The output that a row names in the current block.
use Rattle.std.proofs.Common.{◌≡◌, ℕ, List, Option, Some, ap, subst, ◌∙◌}
use Rattle.std.specs.Prelude.{IfSome, slice_get}
use Rattle.chain_defs.specs.Schema.{OutPoint, CellOutput, Transaction, Block}
use Rattle.chain_tree.specs.Told.{Stored}
use Rattle.chain_defs.specs.Cell.{Cell, data_of}
use Rattle.chain_defs.specs.Row.{Row}
use Rattle.cell_state.specs.Copies.{ResolvedValue, IsCopyOf, CopiesOutput, NamesOutput, output_in}

in_transaction : (b : Block) (t : Transaction) (place index : ℕ) (output : CellOutput) → slice_get b.transactions place ≡ Some t
    → slice_get t.raw.outputs index ≡ Some output → output_in b place index ≡ Some (output, data_of t index)
in_transaction b t place index output there out = rw (there, out)

pub named_output : (stored : List Stored) (o : OutPoint) (row : Row) (cell : Cell) (named : NamesOutput stored o row cell)
    → output_in named.made.block row.transaction o.index ≡ Some (cell.output, cell.content)
named_output stored o row cell named =
    ap (λ (r : Row). output_in named.made.block r.transaction o.index) named.its_row
    ∙ in_transaction named.made.block named.output.t cell.transaction o.index cell.output named.output.there named.output.output
    ∙ ap (λ (content : List ℕ). Some (cell.output, content)) named.output.content

-- the current block is that of the entry that is there
pub in-hand : (view : Block) (told : Option (List Stored)) (hand : Option ℕ) (stored : List Stored) (place : ℕ) (made : Stored) → told ≡ Some stored → hand ≡ Some place
    → slice_get stored place ≡ Some made
    → IfSome told (λ all. IfSome hand (λ e. IfSome (slice_get all e) (λ it. view ≡ it.block))) → view ≡ made.block
in-hand view told hand stored place made tells taken there of_hand =
    subst (λ (it : Option Stored). IfSome it (λ found. view ≡ found.block)) there
    (subst (λ (h : Option ℕ). IfSome h (λ e. IfSome (slice_get stored e) (λ it. view ≡ it.block))) taken
    (subst (λ (all : Option (List Stored)). IfSome all (λ l. IfSome hand (λ e. IfSome (slice_get l e) (λ it. view ≡ it.block)))) tells of_hand))

pub same_output : (one other : CellOutput × List ℕ) → Some one ≡ Some other → (one.0 ≡ other.0) × (one.1 ≡ other.1)
same_output one other same =
    let both : one ≡ other = cc in
    (ap (λ (it : CellOutput × List ℕ). it.0) both, ap (λ (it : CellOutput × List ℕ). it.1) both)

pub copies : (found : Option (CellOutput × List ℕ)) (cell : Cell) (copy : ResolvedValue) → Some (cell.output, cell.content) ≡ found → IsCopyOf cell copy → CopiesOutput found copy
copies found cell copy is copied =
    subst (λ (it : Option (CellOutput × List ℕ)). CopiesOutput it copy) is (copied.output, copied.content)
