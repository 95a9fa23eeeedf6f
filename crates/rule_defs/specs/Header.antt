-- The rules on a block's header, J4 to J8, as rows of a list (docs/RULES.md, "A block"). A row has the rule's number and whether the
-- block keeps it.
use Rattle.std.specs.Prelude.{ℕ, ◌-◌, ◌==◌, nat_lt, Bool, List, [], ◌∷◌, length, Option}
use Rattle.chain_defs.specs.Schema.{Header, Block}
use Rattle.chain_defs.specs.Epochs.{epoch_field}
use Rattle.chain_defs.specs.Specification.{Specification}
use Rattle.chain_defs.specs.Kept.{block_at, follows}
use Rattle.chain_defs.specs.Median.{median_time}

-- the last block of a branch, on which the next one stands
abbrev pub parent_of : List Block → Option Block
parent_of branch = block_at branch (length branch - 1)

-- J4: its version is 0 (RFC 0027, "version").
abbrev pub has_version : Header → Bool
has_version header = header.version == 0

-- J6: its epoch field is that of its height (RFC 0027, "epoch", for the form of the field).
abbrev pub has_epoch : Specification → Header → Bool
has_epoch spec header = header.epoch == epoch_field spec.epoch_length header.number

-- J7: its compact target is the specification's: one for all blocks, where RFC 0020 adjusts it (docs/RULES.md, "A block").
abbrev pub has_target : Specification → Header → Bool
has_target spec header = header.compact_target == spec.compact_target

-- J8: its timestamp is above the median time at its parent (RFC 0027, "timestamp").
abbrev pub is_later : List Block → Header → Bool
is_later branch header = nat_lt (median_time branch) header.timestamp

-- The rules on the header of a block that stands on this branch, genesis to its parent, under the specification of its chain.
abbrev pub header_rules : Specification → List Block → Block → List (ℕ × Bool)
header_rules spec branch b =
    (4, has_version b.header)
    ∷ (5, follows b (parent_of branch))
    ∷ (6, has_epoch spec b.header)
    ∷ (7, has_target spec b.header)
    ∷ (8, is_later branch b.header)
    ∷ []
