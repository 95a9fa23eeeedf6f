-- The verdict on an item, over the kept blocks: the frame around the rules on a block. The first case that holds decides
-- (docs/COMMANDS.md, "The text").
use Rattle.std.specs.Prelude.{ℕ, nat_lt, Bool, true, false, List, ◌++◌, length, Option, Some, None, is_some, if◌then◌else◌}
use Rattle.chain_defs.specs.Shape.{decoded}
use Rattle.chain_defs.specs.Schema.{Block, block}
use Rattle.chain_defs.specs.Kept.{block_hash, place_of, kept_limit, blocks_of_item}
use Rattle.chain_defs.specs.Branch.{branch}
use Rattle.chain_defs.specs.Specification.{Specification}
use Rattle.verdict_defs.specs.Rules.{first_broken}
use Rattle.verdict_defs.specs.declared.verdict.Verdict.{Verdict}
use Rattle.verdict_defs.specs.declared.verdict.Verdict.TheVariants.{Joined, Known, Refused, Full}

-- there is room for one more
abbrev pub has_room : List Block → Bool
has_room kept = nat_lt (length kept) kept_limit

-- A block that breaks no rule joins where there is room.
abbrev pub verdict_by_rules : List Block → Block → Option ℕ → Verdict
verdict_by_rules kept b (Some rule) = Refused rule
verdict_by_rules kept b None = if has_room kept then Joined b.header.number (block_hash b) else Full

-- J3: its parent hash is that of a kept block. The other rules are over the branch that ends with its parent.
abbrev pub verdict_on : Specification → List Block → Block → Option ℕ → Verdict
verdict_on spec kept b None = Refused 3
verdict_on spec kept b (Some parent) = verdict_by_rules kept b (first_broken spec (branch kept parent) b)

abbrev pub verdict_of_block : Specification → List Block → Block → Verdict
verdict_of_block spec kept b =
    if is_some (place_of kept (block_hash b)) then Known (block_hash b)
    else verdict_on spec kept b (place_of kept b.header.parent_hash)

-- J1: the item is a canonical `Block`.
abbrev pub verdict_of : Specification → List Block → Option Block → Verdict
verdict_of spec kept None = Refused 1
verdict_of spec kept (Some b) = verdict_of_block spec kept b

unfoldable pub verdict : Specification → List Block → List ℕ → Verdict
verdict spec kept item = verdict_of spec kept (decoded block item)

abbrev pub joins : Verdict → Bool
joins (Joined number hash) = true
joins (Known hash) = false
joins (Refused rule) = false
joins Full = false

-- whether an item was refused: it broke a rule, or there was no room for it
abbrev pub refuses : Verdict → Bool
refuses (Joined number hash) = false
refuses (Known hash) = false
refuses (Refused rule) = true
refuses Full = true

-- What is kept after an item: a block that joins is put at the end, any other item leaves it.
unfoldable pub kept_after : Specification → List Block → List ℕ → List Block
kept_after spec kept item = if joins (verdict spec kept item) then kept ++ blocks_of_item item else kept
