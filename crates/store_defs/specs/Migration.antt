-- What comes of giving a chain an edition of the rules (docs/STORE.md, "The edition").
use Rattle.std.specs.Prelude.{ℕ, ◌&&◌, nat_lt, nat_le, Bool, true, false, Option, Some, None, if◌then◌else◌}
use Rattle.chain_defs.specs.Schema.{Block}
use Rattle.chain_defs.specs.Epochs.{epoch_number}
use Rattle.chain_defs.specs.Tip.{tip}
use Rattle.verdict_defs.specs.Chain.{Chain}
use Rattle.store_defs.specs.declared.moved.Moved.{Moved}
use Rattle.store_defs.specs.declared.moved.Moved.TheVariants.{Done, TooEarly, Already}
use Rattle.store_defs.specs.EditionLaws.{edited_chain}

-- What comes of it where there is none yet. It is too early where the tip is not the genesis and stands in the epoch that was asked for, or later.
abbrev pub moved_at : ℕ → ℕ → Option Block → Moved
moved_at epoch_length epoch None = Done
moved_at epoch_length epoch (Some top) =
    let reached = epoch_number epoch_length top.header.number in
    if nat_lt 0 top.header.number && nat_le epoch reached then TooEarly reached else Done

abbrev pub moved_from : Option ℕ → Moved → Moved
moved_from None moved = moved
moved_from (Some first) moved = Already first

-- What comes of giving a chain an edition from this epoch on.
abbrev pub migration : Chain → ℕ → Moved
migration chain epoch = moved_from chain.spec.second_from (moved_at chain.spec.epoch_length epoch (tip chain.blocks))

abbrev pub is_done : Moved → Bool
is_done Done = true
is_done (TooEarly reached) = false
is_done (Already first) = false

-- the chain after it
abbrev pub chain_moved : Chain → ℕ → Moved → Chain
chain_moved chain epoch moved = if is_done moved then edited_chain chain epoch else chain

abbrev pub migrated : ℕ → Chain → Chain
migrated epoch chain = chain_moved chain epoch (migration chain epoch)
