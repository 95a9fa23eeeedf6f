-- The first of a list of rules that is broken (docs/RULES.md, "The chain specification").
use Rattle.std.specs.Prelude.{◌≡◌, ◌↔◌, ℕ, Bool, false, IsTrue, List, [], ◌∷◌, ◌++◌, All, Option, Some, None, if◌then◌else◌}

-- Each pair is the number of a rule and whether it is kept: the number of the first that is not.
unfoldable pub first_failing : List (ℕ × Bool) → Option ℕ
first_failing [] = None
first_failing (rule ∷ rules) = if rule.1 then first_failing rules else Some rule.0

abbrev pub AllHold : List (ℕ × Bool) → Type 0
AllHold rules = All (λ rule. IsTrue rule.1) rules

-- at some place the rule of this number is broken, and all before it are kept
pub record IsFirstFailing (number : ℕ) (rules : List (ℕ × Bool)) : Type 0 where
  pub earlier : List (ℕ × Bool)
  pub later : List (ℕ × Bool)
  pub split : rules ≡ earlier ++ (number, false) ∷ later
  pub kept : AllHold earlier

-- a number comes exactly where its rule is the first that is broken
abbrev pub FindsTheFirst : Type 0
FindsTheFirst = (number : ℕ) (rules : List (ℕ × Bool)) → first_failing rules ≡ Some number ↔ IsFirstFailing number rules

-- no number comes exactly where all are kept
abbrev pub FindsNone : Type 0
FindsNone = (rules : List (ℕ × Bool)) → first_failing rules ≡ None ↔ AllHold rules
