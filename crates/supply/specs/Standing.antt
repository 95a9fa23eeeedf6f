-- What totals stand for, and over which kept blocks.
use Rattle.std.specs.Prelude.{◌≡◌, ◌+◌, ◌^◌, ◌<◌, List, length, Option}
use Rattle.chain_defs.specs.Schema.{Block}
use Rattle.chain_defs.specs.Specification.{Specification}
use Rattle.chain_defs.specs.FitLaws.{AreCanonical}
use Rattle.store_defs.specs.Store.{IsJoined}
use Rattle.chain_tree.specs.declared.entry.Entry.{Entry}
use Rattle.chain_tree.specs.Told.{Stored, blocks_of}
use Rattle.rewards.specs.Reading.{AreKnownBlocks}
use Rattle.supply_defs.specs.Sums.{Sums, sums_of}
use Rattle.supply.specs.declared.totals.Totals.{Totals}

-- the four sums that totals have
abbrev pub sums_in : Totals → Sums
sums_in totals = record { live = totals.live; occupied = totals.occupied; unpaid = totals.unpaid; burned = totals.burned }

-- Totals stand for a branch: they have the height of its last block, and its four sums.
pub record AreTotalsOf (spec : Specification) (branch : List Block) (totals : Totals) : Type 0 where
  pub height : totals.height + 1 ≡ length branch
  pub sums : sums_in totals ≡ sums_of spec branch

-- Each of the four is below 2^125, so that no balance of them leaves an i128.
pub record AreBounded (totals : Totals) : Type 0 where
  pub live : totals.live < 2 ^ 125
  pub occupied : totals.occupied < 2 ^ 125
  pub unpaid : totals.unpaid < 2 ^ 125
  pub burned : totals.burned < 2 ^ 125

-- Kept blocks that have joined: a source tells them, entries index them, their exts have their own fees, and they are canonical.
pub record HaveJoined (spec : Specification) (told : Option (List Stored)) (entries : List Entry) (stored : List Stored) : Type 0 where
  pub known : AreKnownBlocks spec told entries stored
  pub joined : IsJoined (record { spec = spec; blocks = blocks_of stored })
  pub canonical : AreCanonical (blocks_of stored)
