-- Where a function ends that reads: what it counts of faults over calls that follow one another, and what its answer is not.
use Rattle.std.proofs.Common.{◌≡◌, ℕ, Option, Some, None, Result, Ok, Err, subst, arith, rules}
use Rattle.std.specs.Prelude.{IsSome}
use Rattle.outside.specs.Causes.{CountsFault}
use Rattle.outside.specs.declared.disk.Area.TheVariants.{Log}
use Rattle.outside.specs.declared.disk.Damage.{Damage}
use Rattle.outside.specs.declared.disk.ReadStop.{ReadStop}
use Rattle.outside.specs.declared.disk.ReadStop.TheVariants.{DiskFault, NoMemory, Damaged}

-- ---- Counts

-- where nothing failed
pub no_fault : {Fault : Type 0} (before now : ℕ) → now ≡ before → (Fault → ⊥) → CountsFault before now Fault
no_fault before now same none = record {
  later = omega (arith, same);
  rose = λ fault. absurd (none fault);
  unchanged = λ _. same;
}

-- for an answer that is given just where another is
pub counts-as : {First Fault : Type 0} {before now : ℕ} → CountsFault before now First → (Fault → First) → (First → Fault) → CountsFault before now Fault
counts-as counts from to = record {
  later = counts.later;
  rose = λ fault. counts.rose (from fault);
  unchanged = λ none. counts.unchanged (λ first. none (to first));
}

-- after a call that counted nothing
pub after_still : {Fault : Type 0} {before still now : ℕ} → still ≡ before → CountsFault still now Fault → CountsFault before now Fault
after_still {Fault = Fault} {now = now} same counts = subst (λ (n : ℕ). CountsFault n now Fault) same counts

-- an error that is handed on
pub handed : {T U E : Type 0} (one other : E) → ◌≡◌ {A = Result T E} (Err one) (Err other) → ◌≡◌ {A = Result U E} (Err one) (Err other)
handed one other same = cc

-- ---- What an answer is not

pub no_answer : {T E : Type 0} (value : T) (stop : E) → Ok value ≡ Err stop → ⊥
no_answer value stop same = absurd (cc)

pub no_memory : {T : Type 0} → ◌≡◌ {A = Result T ReadStop} (Err NoMemory) (Err DiskFault) → ⊥
no_memory same = absurd (cc)

pub no_damage : {T : Type 0} (damage : Damage) → ◌≡◌ {A = Result T ReadStop} (Err (Damaged damage)) (Err DiskFault) → ⊥
no_damage damage same = absurd (cc)

pub memory_undamaged : {T : Type 0} (damage : Damage) → ◌≡◌ {A = Result T ReadStop} (Err NoMemory) (Err (Damaged damage)) → ⊥
memory_undamaged damage same = absurd (cc)

pub fault_undamaged : {T : Type 0} (damage : Damage) → ◌≡◌ {A = Result T ReadStop} (Err DiskFault) (Err (Damaged damage)) → ⊥
fault_undamaged damage same = absurd (cc)

-- a damage in LOG is one there, as it is handed on
pub in_log : {T : Type 0} (one other : Damage) → one.area ≡ Log → ◌≡◌ {A = Result T ReadStop} (Err (Damaged one)) (Err (Damaged other)) → other.area ≡ Log
in_log one other area same = let is : one ≡ other = cc in subst (λ (damage : Damage). damage.area ≡ Log) is area

-- ---- What is known

pub is_told : {T : Type 0} (told : Option T) (it : T) → told ≡ Some it → IsSome told
is_told None it tells = absurd (cc)
is_told (Some other) it tells = search rules

pub nothing_read : {T : Type 0} (it : T) → None ≡ Some it → ⊥
nothing_read it same = absurd (cc)
