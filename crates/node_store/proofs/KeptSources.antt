-- What a source of blocks tells of what is kept.
use Rattle.std.proofs.Common.{◌≡◌, ℕ, List, length, Option, Some, Result, Err, ap, ◌∙◌, arith}
use Rattle.chain_defs.specs.Specification.{Specification}
use Rattle.chain_defs.specs.Schema.{Block}
use Rattle.chain_tree.specs.declared.entry.Entry.{Entry}
use Rattle.chain_tree.specs.Told.{Stored}
use Rattle.chain_tree.specs.Blocks.{IndexesBlocks}
use Rattle.chain_tree.proofs.BlockLemmas.{len-same}
use Rattle.node_store.specs.Kept.{KeptValue, kept_of, HoldsJoined}
use Rattle.node_store.proofs.KeptRecorded.{tells-stored}

pub told-stored : (spec : Specification) (stored : List Stored) (entries : List Entry) (kept : KeptValue) (told : Option (List Stored))
    → kept_of spec stored entries ≡ kept → HoldsJoined kept told → told ≡ Some stored
told-stored spec stored entries kept told whole tells =
    tells-stored spec stored entries kept told whole tells.all

-- it tells the same after it was read
pub tells-on : (kept : KeptValue) (before now : Option (List Stored)) → now ≡ before → HoldsJoined kept before → HoldsJoined kept now
tells-on kept before now same tells = record { all = same ∙ tells.all; joined = tells.joined }

-- as many as there are entries
pub counts-entries : (kept blocks : List Block) (entries : List Entry) (count : ℕ) → kept ≡ blocks → IndexesBlocks kept entries → count ≡ length blocks
    → count ≡ length entries
counts-entries kept blocks entries count seen indexed counts = omega (arith, counts, ap length seen, len-same kept entries indexed)

pub same_stop : {T E : Type 0} (first second : E) → ◌≡◌ {A = Result T E} (Err first) (Err second) → first ≡ second
same_stop first second is = cc
