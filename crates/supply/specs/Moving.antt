-- A step taken back, and what the ext of a block says of its fees.
use Rattle.std.specs.Prelude.{◌≡◌, ℕ, ◌+◌, List, length, Some, slice_get}
use Rattle.chain_defs.specs.Ext.{count_at, fee_of}
use Rattle.supply_defs.specs.Step.{Change, Step}

abbrev pub change_back : Change → Change
change_back change = record { comes = change.goes; goes = change.comes }

-- what came goes, and what went comes
abbrev pub step_back : Step → Step
step_back step = record {
  live = change_back step.live;
  occupied = change_back step.occupied;
  unpaid = change_back step.unpaid;
  burned = change_back step.burned;
}

-- An ext has these fees, one after another, and no others.
pub record HasFees (ext : List ℕ) (fees : List ℕ) : Type 0 where
  pub count : count_at ext 0 ≡ length fees
  pub each : (j fee : ℕ) → slice_get fees j ≡ Some fee → fee_of ext (j + 1) ≡ fee
