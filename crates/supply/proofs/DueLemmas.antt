-- What the next block of a branch is to pay, and what a reading comes to.
use Rattle.std.proofs.Common.{◌≡◌, ℕ, ◌+◌, ◌-◌, ◌<◌, ◌≤◌, ◌^◌, Bool, List, length, Some, None, Result, Ok, Err, pos, refl, sym, ap, ◌∙◌}
use Rattle.std.specs.Prelude.{IfOk, if◌then◌else◌}
use Rattle.std.proofs.lemmas.Bool.{le-leb, lt-leb}
use Rattle.std.proofs.lemmas.Option.{same_Some}
use Rattle.outside.specs.declared.disk.Damage.{Damage}
use Rattle.outside.specs.declared.disk.ReadStop.{ReadStop}
use Rattle.outside.specs.declared.disk.ReadStop.TheVariants.{DiskFault, NoMemory, Damaged}
use Rattle.chain_defs.specs.Schema.{Block}
use Rattle.chain_defs.specs.Specification.{Specification}
use Rattle.chain_defs.specs.Dao.{as_u64}
use Rattle.rule_defs.specs.Reward.{part}
use Rattle.rewards.specs.Reading.{IsUndamaged, YieldsUndamaged}
use Rattle.rewards.proofs.SumLemmas.{small}
use Rattle.supply_defs.specs.Sums.{due}

-- nothing yet
pub due-early : (spec : Specification) (branch : List Block) → length branch ≤ spec.w_far + 1 → due spec branch ≡ 0
unfolding due
due-early spec branch early = ap (λ (b : Bool). if b then 0 else part spec branch (length branch - (spec.w_far + 1))) (le-leb (length branch) (spec.w_far + 1) early)

-- the reward of a block
pub due-late : (spec : Specification) (branch : List Block) (target : ℕ) → spec.w_far + 1 < length branch → target ≡ length branch - (spec.w_far + 1)
    → due spec branch ≡ part spec branch target
unfolding due
due-late spec branch target late at =
    ap (λ (b : Bool). if b then 0 else part spec branch (length branch - (spec.w_far + 1))) (lt-leb (length branch) (spec.w_far + 1) late)
    ∙ ap (part spec branch) (sym at)

-- ---- 64 bits

pub is-small : (n m : ℕ) → m < 2 ^ 64 → Some n ≡ as_u64 (pos m) → n ≡ m
is-small n m fits is = same_Some n m (is ∙ sym (small m fits))

pub not-none : (m : ℕ) → m < 2 ^ 64 → None ≡ as_u64 (pos m) → ⊥
not-none m fits is = let same : None ≡ Some m = is ∙ sym (small m fits) in absurd (cc)

-- ---- What it comes to

undamaged-stop : {T : Type 0} (stop : ReadStop) → ((damage : Damage) → ◌≡◌ {A = Result T ReadStop} (Err stop) (Err (Damaged damage)) → ⊥) → IsUndamaged stop
undamaged-stop DiskFault never = tt
undamaged-stop NoMemory never = tt
undamaged-stop (Damaged damage) never = never damage refl

pub comes : {T : Type 0} (expected : T → Type 0) (result : Result T ReadStop) → IfOk result expected
    → ((damage : Damage) → result ≡ Err (Damaged damage) → ⊥) → YieldsUndamaged expected result
comes expected (Ok value) is never = is
comes expected (Err stop) is never = undamaged-stop stop never
