-- The rules on what a block holds and its header commits to, J9 to J14, as rows of a list (docs/RULES.md, "A block"). A row has the
-- rule's number and whether the block keeps it.
use Rattle.std.specs.Prelude.{ℕ, ◌-◌, ◌*◌, ◌&&◌, nat_le, Bool, List, [], ◌∷◌, length, sum_by}
use Rattle.std.specs.Str.{bytes_eq}
use Rattle.chain_defs.specs.Shape.{encoded}
use Rattle.chain_defs.specs.Schema.{Block, block}
use Rattle.chain_defs.specs.Specification.{Specification}
use Rattle.chain_defs.specs.Hashes.{transactions_root, proposals_hash, uncles_hash, are_distinct}

-- the length of a block that counts: without the proposal ids of its uncles, of 10 bytes each (docs/RULES.md, "What the header commits to")
abbrev pub counted_length : Block → ℕ
counted_length b = length (encoded block b) - 10 * sum_by (λ uncle. length uncle.proposals) b.uncles

-- J9: that length is at most the specification's.
abbrev pub fits_length : Specification → Block → Bool
fits_length spec b = nat_le (counted_length b) spec.max_block_bytes

-- J10: it has at most so many proposal ids, all distinct (RFC 0020, "Two-Step Transaction Confirmation").
abbrev pub has_proposals : Specification → Block → Bool
has_proposals spec b = nat_le (length b.proposals) spec.max_proposals && are_distinct b.proposals

-- J11: its proposals_hash is that of its proposal ids (RFC 0027, "proposals_hash").
abbrev pub commits_to_proposals : Block → Bool
commits_to_proposals b = bytes_eq b.header.proposals_hash (proposals_hash b.proposals)

-- J12: its transactions_root is that of its transactions (RFC 0027, "transactions_root").
abbrev pub commits_to_transactions : Block → Bool
commits_to_transactions b = bytes_eq b.header.transactions_root (transactions_root b.transactions)

-- J13: it has at most 2 uncles (docs/RULES.md, "A block").
abbrev pub has_few_uncles : Block → Bool
has_few_uncles b = nat_le (length b.uncles) 2

-- J14: its uncles_hash is that of its uncles (RFC 0027, "uncles_hash").
abbrev pub commits_to_uncles : Block → Bool
commits_to_uncles b = bytes_eq b.header.uncles_hash (uncles_hash b.uncles)

-- The rules on a block under the specification of its chain.
abbrev pub body_rules : Specification → Block → List (ℕ × Bool)
body_rules spec b =
    (9, fits_length spec b)
    ∷ (10, has_proposals spec b)
    ∷ (11, commits_to_proposals b)
    ∷ (12, commits_to_transactions b)
    ∷ (13, has_few_uncles b)
    ∷ (14, commits_to_uncles b)
    ∷ []
