-- How an armed disk answers its calls (docs/DECISIONS.md, "The outside").
use Rattle.std.specs.Prelude.{◌≡◌, ℕ, ◌+◌, ◌-◌, ◌≤◌, Option, Some, Result, IsErr, IfSome, option_map}
use Rattle.outside.specs.Causes.{up_to_last, HasCause}
use Rattle.outside.specs.Image.{Image}
use Rattle.outside.specs.Disk.{IsAsBefore}
use Rattle.crashing.specs.declared.armed.Armed.{Armed}

-- all calls that it lets through were made
abbrev pub IsSpent : Option ℕ → Type 0
IsSpent pass = pass ≡ Some 0

-- how many more it lets through after a call of `write`, `cut` or `sync`, where it is armed
abbrev pub one_less : Option ℕ → Option ℕ
one_less pass = option_map (λ calls. calls - 1) pass

-- How a call is answered: once the disk is spent it fails, and nothing below is called; until then it is made below, and
-- fails only for a fault there.
pub record IsAnswered {D T E : Type 0} (faults : D → ℕ) (old new : Armed D) (result : Result T E) : Type 0 where
  pub refused : IsSpent old.pass → IsErr result × (new.disk ≡ old.disk)
  pub made : (IsSpent old.pass → ⊥) → HasCause (faults old.disk) (faults new.disk) result

-- refused calls are a part of the count of faults
abbrev pub armed_faults : {D : Type 0} → (D → ℕ) → Armed D → ℕ
armed_faults faults armed = up_to_last (faults armed.disk + armed.refused)

-- what an armed disk tells is what the disk below tells
module _ {D : Type 0} (reads_as : D → Option Image) (images : D → Image → Type 0) (moment : D → ℕ) (left_since : D → ℕ → Image → Type 0) where
  pub as_below : (old new : Armed D) → IsAsBefore reads_as images moment left_since old.disk new.disk
      → IsAsBefore (λ (armed : Armed D). reads_as armed.disk) (λ armed. images armed.disk) (λ armed. moment armed.disk) (λ armed. left_since armed.disk) old new
  as_below old new below = record {
    reads = below.reads;
    images = below.images;
    moments = record { later = below.moments.later; each = below.moments.each; before = below.moments.before };
  }
