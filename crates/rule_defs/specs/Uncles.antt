-- The rule on uncles, J15 (RFC 0020, "Uncles"; RFC 0027, "UncleBlock"; docs/RULES.md, "Uncles"). It looks at what it names and at nothing else
-- of an uncle.
use Rattle.std.specs.Prelude.{ℕ, ◌+◌, Bool, ◌&&◌, ◌==◌, not, nat_lt, nat_le, List, ◌++◌, map, take, length}
use Rattle.std.specs.List.{list_all, list_any, flat_map, enumerate_from}
use Rattle.std.specs.Str.{bytes_eq}
use Rattle.chain_defs.specs.Schema.{Header, UncleBlock, Block}
use Rattle.chain_defs.specs.Specification.{Specification}
use Rattle.chain_defs.specs.Epochs.{value_number}
use Rattle.chain_defs.specs.Kept.{header_hash}
use Rattle.chain_defs.specs.Hashes.{proposals_hash, are_distinct}

-- the uncles that the blocks of a branch embed
abbrev pub embedded_uncles : List Block → List UncleBlock
embedded_uncles branch = flat_map (λ b. b.uncles) branch

-- The headers that are known to an uncle: those of the ancestors, of the uncles that they embed, and of the uncles that stand before it in its
-- own block.
unfoldable pub known_headers : List Block → List UncleBlock → List Header
known_headers branch earlier =
    map (λ b. b.header) branch ++ (map (λ uncle. uncle.header) (embedded_uncles branch) ++ map (λ uncle. uncle.header) earlier)

-- Its parent is one of them, and its number is the parent's plus 1.
abbrev pub stands_on : List Header → Header → Bool
stands_on known header =
    list_any (λ parent. bytes_eq (header_hash parent) header.parent_hash && (header.number == parent.number + 1)) known

-- It is none of them.
abbrev pub is_new : List Header → Header → Bool
is_new known header = not (list_any (λ other. bytes_eq (header_hash other) (header_hash header)) known)

-- It has the block's compact target and the block's epoch number, and a lower number.
abbrev pub is_beside : Header → Header → Bool
is_beside block uncle =
    (uncle.compact_target == block.compact_target) && (value_number uncle.epoch == value_number block.epoch) && nat_lt uncle.number block.number

-- Its proposal ids are so many at most, all distinct, and its header commits to them.
abbrev pub proposes_well : Specification → UncleBlock → Bool
proposes_well spec uncle =
    nat_le (length uncle.proposals) spec.max_proposals && are_distinct uncle.proposals
    && bytes_eq uncle.header.proposals_hash (proposals_hash uncle.proposals)

-- an uncle of a block on a branch, after those that stand before it
abbrev pub is_uncle : Specification → List Block → Block → List UncleBlock → UncleBlock → Bool
is_uncle spec branch b earlier uncle =
    is_beside b.header uncle.header && stands_on (known_headers branch earlier) uncle.header && is_new (known_headers branch earlier) uncle.header
    && proposes_well spec uncle

-- the uncle at an index of the block
abbrev pub is_uncle_at : Specification → List Block → Block → ℕ × UncleBlock → Bool
is_uncle_at spec branch b (index, uncle) = is_uncle spec branch b (take index b.uncles) uncle

-- J15: each uncle is one.
unfoldable pub has_uncles : Specification → List Block → Block → Bool
has_uncles spec branch b = list_all (is_uncle_at spec branch b) (enumerate_from 0 b.uncles)
