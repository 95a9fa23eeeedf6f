-- Kept blocks that are read: what a source of them tells, and what comes of reading it.
use Rattle.std.specs.Prelude.{◌≡◌, ⊤, List, Option, Some, Result, Ok, Err}
use Rattle.chain_defs.specs.Specification.{Specification}
use Rattle.outside.specs.declared.disk.ReadStop.{ReadStop}
use Rattle.outside.specs.declared.disk.ReadStop.TheVariants.{DiskFault, NoMemory, Damaged}
use Rattle.chain_tree.specs.declared.entry.Entry.{Entry}
use Rattle.chain_tree.specs.Blocks.{IndexesBlocks}
use Rattle.chain_tree.specs.Told.{Stored, blocks_of}
use Rattle.rewards.specs.Own.{HaveOwnFees}

-- They are known, entries index them, and their exts have their own fees.
pub record AreKnownBlocks (spec : Specification) (told : Option (List Stored)) (entries : List Entry) (stored : List Stored) : Type 0 where
  pub is : told ≡ Some stored
  pub indexes : IndexesBlocks (blocks_of stored) entries
  pub own : HaveOwnFees spec stored

-- a stop that is no damage
abbrev pub IsUndamaged : ReadStop → Type 0
IsUndamaged (Damaged damage) = ⊥
IsUndamaged DiskFault = ⊤
IsUndamaged NoMemory = ⊤

-- It comes to a value as is expected, or is stopped, and not by damage.
abbrev pub YieldsUndamaged : {T : Type 0} → (T → Type 0) → Result T ReadStop → Type 0
YieldsUndamaged expected (Ok value) = expected value
YieldsUndamaged expected (Err stop) = IsUndamaged stop
