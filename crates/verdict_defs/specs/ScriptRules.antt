-- The rules on the scripts of a transaction, J28 to J30, as rows of a list (docs/RULES.md, "A block"). A row has the rule's number and whether
-- the transaction keeps it.
use Rattle.std.specs.Prelude.{ℕ, Bool, true, not, ◌==◌, List, [], ◌∷◌, Result, Ok, Err}
use Rattle.verdict_defs.specs.declared.failure.Failure.{Failure}
use Rattle.verdict_defs.specs.declared.failure.Failure.TheVariants.{NoCode, ManyCodes, BadElf, MachineFault, ExitNot0, Spent}
use Rattle.verdict_defs.specs.Scene.{Scene}
use Rattle.verdict_defs.specs.Outcome.{outcome_of}

-- the rule that is broken
abbrev pub rule_of : Failure → ℕ
rule_of (NoCode group) = 28
rule_of (ManyCodes group) = 28
rule_of (BadElf group condition) = 29
rule_of (MachineFault group number) = 29
rule_of (ExitNot0 group code) = 29
rule_of Spent = 30

abbrev pub keeps : ℕ → Result ℕ Failure → Bool
keeps rule (Ok cycles) = true
keeps rule (Err f) = not (rule_of f == rule)

-- Of these rules the one is broken that the first failure breaks, and the others count as kept.

-- J28: the code of every group is found, and it is one.
abbrev pub finds_each_code : Scene → ℕ → Bool
finds_each_code scene left = keeps 28 (outcome_of scene left)

-- J29: no group fails by its code, at a fault, or with an exit code that is not 0, before the cycles are spent.
abbrev pub exits_well : Scene → ℕ → Bool
exits_well scene left = keeps 29 (outcome_of scene left)

-- J30: the cycles that are left are enough up to the end, or up to such a failure.
abbrev pub runs_within : Scene → ℕ → Bool
runs_within scene left = keeps 30 (outcome_of scene left)

-- The rules on the scripts of a transaction, within the cycles that are left.
abbrev pub script_rules : Scene → ℕ → List (ℕ × Bool)
script_rules scene left = (28, finds_each_code scene left) ∷ (29, exits_well scene left) ∷ (30, runs_within scene left) ∷ []

abbrev pub cycles_in : Result ℕ Failure → ℕ
cycles_in (Ok cycles) = cycles
cycles_in (Err f) = 0

-- the cycles that they take, where they keep the rules
abbrev pub cycles_of : Scene → ℕ → ℕ
cycles_of scene left = cycles_in (outcome_of scene left)
