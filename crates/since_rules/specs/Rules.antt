-- When each answer comes.
use Rattle.std.specs.Prelude.{ℕ, IsTrue, IsFalse}
use Rattle.chain_defs.specs.Since.{Spending, is_valid, is_met}
use Rattle.since_rules.specs.declared.rules.SinceFault.{SinceFault}
use Rattle.since_rules.specs.declared.rules.SinceFault.TheVariants.{Invalid, Immature}

-- The input may be spent.
pub record IsMature (since : ℕ) (at : Spending) : Type 0 where
  pub valid : IsTrue (is_valid since)
  pub met : IsTrue (is_met since at)

-- Why it may not: the fault that the answer names is there.
abbrev pub HasFault : ℕ → Spending → SinceFault → Type 0
HasFault since at Invalid = IsFalse (is_valid since)
HasFault since at Immature = IsTrue (is_valid since) × IsFalse (is_met since at)
