-- What a script may ask for, and what it is answered (RFC 0009).
use Rattle.std.specs.Prelude.{ℕ, List}

-- The number of the syscall, the index, the source and the field, each of 64 bits. Where a syscall asks for no field it is 0.
pub record Call : Type 0 where
  pub number : ℕ
  pub index : ℕ
  pub source : ℕ
  pub field : ℕ

pub data Item : Type 0 where
  -- the item's bytes
  Here : List ℕ → Item
  -- the source has no such item at the index, which may be past its end
  NoIndex : Item
  -- what stands at the index has no such field, or no header dep names the block that made it
  Missing : Item
  -- there is no such source or field
  Unknown : Item

-- What surrounds a script: what each call asks for.
abbrev pub Items : Type 0
Items = Call → Item

-- One that shows nothing, as for a program that runs alone.
abbrev pub nothing : Items
nothing call = Unknown
