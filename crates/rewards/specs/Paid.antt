-- What the transactions of a block pay, beside the bytes of its ext and their proposal ids.
use Rattle.std.specs.Prelude.{◌≡◌, ℕ, ◌+◌, List, length, map, Some, slice_get}
use Rattle.chain_defs.specs.Ext.{count_at, fee_of}
use Rattle.rule_defs.specs.Fees.{Paid}

-- An ext has their fees, one after another, and the ids are theirs.
pub record ArePaid (ext : List ℕ) (ids : List (List ℕ)) (paids : List Paid) : Type 0 where
  pub count : count_at ext 0 ≡ length paids
  pub fees : (j : ℕ) (paid : Paid) → slice_get paids j ≡ Some paid → fee_of ext (j + 1) ≡ paid.fee
  pub named : ids ≡ map (λ paid. paid.id) paids
