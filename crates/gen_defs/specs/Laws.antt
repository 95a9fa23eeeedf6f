-- What the definitions of a generated chain are for, in words.
use Rattle.std.specs.Prelude.{◌≡◌, ℕ, suc, ◌+◌, ◌*◌, ◌≤◌, Some, None}
use Rattle.chain_defs.specs.Specification.{specification_of, broken_specification_rule}
use Rattle.chain_defs.specs.Dao.{next_field}
use Rattle.gen_defs.specs.Start.{specification, specification_bytes}
use Rattle.gen_defs.specs.Heights.{field_after, movement_at}
use Rattle.gen_defs.specs.Chain.{block_made, child}

-- Law: the specification's bytes keep S1 to S7, and read as its numbers.
abbrev pub IsReadBack : Type 0
IsReadBack = (broken_specification_rule (specification_bytes specification) ≡ None)
    × (specification_of (specification_bytes specification) ≡ specification)

-- Law: each block is the child of one that was made before it.
abbrev pub ParentsAreEarlier : Type 0
ParentsAreEarlier = (seed i : ℕ) → (earlier : ℕ) × (earlier ≤ i) × (block_made seed (suc i) ≡ child (block_made seed earlier) (suc i))

-- Law: a block's height is at most its place, and its timestamp follows from its height, in milliseconds.
abbrev pub TimesFollowHeights : Type 0
TimesFollowHeights = (seed i : ℕ) → ((block_made seed i).header.number ≤ i)
    × ((block_made seed i).header.timestamp ≡ 1000 + 1000 * (block_made seed i).header.number)

-- Law: the DAO field of a next block is there, up to 20,000 of them.
abbrev pub FieldsAreNext : Type 0
FieldsAreNext = (height : ℕ) → suc height ≤ 20000 → next_field (field_after height) (movement_at (suc height)) ≡ Some (field_after (suc height))
