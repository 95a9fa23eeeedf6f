-- The numbers of the rules on a block (docs/RULES.md, "A block").
use Rattle.std.specs.Prelude.{ℕ, Bool, List, [], ◌∷◌}
use Rattle.rule_defs.specs.declared.rule.Rule.{Rule}
use Rattle.rule_defs.specs.declared.rule.Rule.TheVariants.{Encoding, Known, Parent, Version, Number, Epoch, CompactTarget, Timestamp, Length, Proposals, ProposalsHash, TransactionsRoot, UncleCount, UnclesHash, Uncles, Cellbase, CellbaseForm, TransactionForm, Proposed, Inputs, CellDeps, HeaderDeps, Maturity, Since, Outputs, Withdrawals, Capacity, ScriptCode, ScriptExit, Cycles, Reward, DaoField}

abbrev pub rule_number : Rule → ℕ
rule_number Encoding = 1
rule_number Known = 2
rule_number Parent = 3
rule_number Version = 4
rule_number Number = 5
rule_number Epoch = 6
rule_number CompactTarget = 7
rule_number Timestamp = 8
rule_number Length = 9
rule_number Proposals = 10
rule_number ProposalsHash = 11
rule_number TransactionsRoot = 12
rule_number UncleCount = 13
rule_number UnclesHash = 14
rule_number Uncles = 15
rule_number Cellbase = 16
rule_number CellbaseForm = 17
rule_number TransactionForm = 18
rule_number Proposed = 19
rule_number Inputs = 20
rule_number CellDeps = 21
rule_number HeaderDeps = 22
rule_number Maturity = 23
rule_number Since = 24
rule_number Outputs = 25
rule_number Withdrawals = 26
rule_number Capacity = 27
rule_number ScriptCode = 28
rule_number ScriptExit = 29
rule_number Cycles = 30
rule_number Reward = 31
rule_number DaoField = 32

-- those of all rules, in their order
abbrev pub rule_numbers : List ℕ
rule_numbers = 1 ∷ 2 ∷ 3 ∷ 4 ∷ 5 ∷ 6 ∷ 7 ∷ 8 ∷ 9 ∷ 10 ∷ 11 ∷ 12 ∷ 13 ∷ 14 ∷ 15 ∷ 16 ∷ 17 ∷ 18 ∷ 19 ∷ 20 ∷ 21 ∷ 22 ∷ 23 ∷ 24 ∷ 25 ∷ 26 ∷ 27 ∷ 28 ∷ 29 ∷ 30 ∷ 31 ∷ 32 ∷ []

-- a rule, and whether it is kept, by its number
abbrev pub numbered_row : Rule × Bool → ℕ × Bool
numbered_row row = (rule_number row.0, row.1)
