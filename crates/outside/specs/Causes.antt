-- When a call on the outside may answer that it failed (docs/DECISIONS.md, "The outside").
use Rattle.std.specs.Prelude.{◌≡◌, ℕ, ◌+◌, ◌-◌, ◌^◌, ◌≤◌, min, Result, IsOk, IsErr}
use Rattle.std.proofs.Math.Nat.{min-le_right}

-- a count as far as it goes
abbrev pub up_to_last : ℕ → ℕ
up_to_last n = min n (2 ^ 64 - 1)

pub within_last : (n : ℕ) → up_to_last n ≤ 2 ^ 64 - 1
within_last n = min-le_right n (2 ^ 64 - 1)

-- one more, as far as a count goes
abbrev pub counted : ℕ → ℕ
counted n = up_to_last (n + 1)

-- the count rose, or stands at its last value
abbrev pub Rose : ℕ → ℕ → Type 0
Rose before now = counted before ≤ now

-- the count of faults never falls, an `Err` comes only where it rose, and at an `Ok` it is unchanged
pub record HasCause {T E : Type 0} (before now : ℕ) (result : Result T E) : Type 0 where
  pub later : before ≤ now
  pub failed : IsErr result → Rose before now
  pub unchanged : IsOk result → now ≡ before

-- what a call does to the count that stands for one of its answers: with that answer it rose, and
-- with every other it is unchanged
pub record CountsFault (before now : ℕ) (Fault : Type 0) : Type 0 where
  pub later : before ≤ now
  pub rose : Fault → Rose before now
  pub unchanged : (Fault → ⊥) → now ≡ before
