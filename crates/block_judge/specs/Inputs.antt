-- The cells of a transaction's inputs, as it is answered with them.
use Rattle.std.specs.Prelude.{◌≡◌, List, map, Option}
use Rattle.std.specs.List.{All}
use Rattle.chain_defs.specs.Schema.{Transaction}
use Rattle.chain_tree.specs.Told.{Stored}
use Rattle.cell_state.specs.Copies.{ResolvedValue}
use Rattle.tx_rules.specs.At.{AtValue}
use Rattle.tx_rules.specs.Copying.{CopiesItsRow, HoldsOutput}

-- Over any source of blocks: each input has the copy of its own out-point, which is an output, and that which its row names.
pub record AreInputsOf (told : Option (List Stored)) (at : AtValue) (t : Transaction) (copies : List ResolvedValue) : Type 0 where
  pub out_points : map (λ copy. copy.out_point) copies ≡ map (λ input. input.previous_output) t.raw.inputs
  pub outputs : All HoldsOutput copies
  pub of_rows : All (CopiesItsRow told at) copies
