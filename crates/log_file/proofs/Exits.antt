-- What a function's clauses say where it ends.
use Rattle.std.proofs.Common.{◌≡◌, ℕ, Bool, true, false, List, Result, Ok, Err, Option, Some, None, refl, sym, ap, ◌∙◌, subst, arith}
use Rattle.std.specs.Prelude.{IfSome, IfErr}
use Rattle.outside.specs.declared.disk.Damage.{Damage}
use Rattle.outside.specs.Causes.{Rose, HasCause, CountsFault}
use Rattle.outside.specs.Image.{Image}
use Rattle.outside.specs.Disk.{IsAsBefore}
use Rattle.outside.proofs.Moments.{started, leaves_also, leaves_then}
use Rattle.log_file.specs.declared.stop.LogStop.{LogStop}
use Rattle.log_file.specs.declared.stop.LogStop.TheVariants.{DiskFault, NotAStore, NoMemory}
use Rattle.log_file.specs.Stops.{IfDamage, IsDamage, in_log, IsInLog}

-- what holds of each image holds of the one that is known
pub on_each : (reads : Option Image) (P : Image → Type 0) → ((image : Image) → P image) → IfSome reads P
on_each None P holds = tt
on_each (Some image) P holds = holds image

-- a further premise
pub told_also : (E : Type 0) (reads : Option Image) (P Q : Image → Type 0) → IfSome reads (λ image. P image → Q image) → IfSome reads (λ image. P image → E → Q image)
told_also E None P Q holds = tt
told_also E (Some image) P Q holds = λ p _. holds p

-- the first of two conclusions
pub told_first : (reads : Option Image) (P Q R : Image → Type 0) → IfSome reads (λ image. P image → Q image × R image) → IfSome reads (λ image. P image → Q image)
told_first None P Q R holds = tt
told_first (Some image) P Q R holds = λ p. (holds p).0

-- an error is no answer
pub no_answer : {T E : Type 0} (stop : E) (value : T) → Err stop ≡ Ok value → ⊥
no_answer stop value is = absurd (cc)

pub no_error : {T E : Type 0} (value : T) (stop : E) → Ok value ≡ Err stop → ⊥
no_error value stop is = absurd (cc)

pub not_yes : {E : Type 0} → ◌≡◌ {A = Result Bool E} (Ok false) (Ok true) → ⊥
not_yes is = absurd (cc)

pub same_stop : {T E : Type 0} (first second : E) → ◌≡◌ {A = Result T E} (Err first) (Err second) → first ≡ second
same_stop first second is = cc

-- the disk is as before one run, and then as before one more
pub as_before_then : {D : Type 0} (reads_as : D → Option Image) (images : D → Image → Type 0) (moment : D → ℕ) (left_since : D → ℕ → Image → Type 0) (old mid new : D)
    → IsAsBefore reads_as images moment left_since old mid → IsAsBefore reads_as images moment left_since mid new → IsAsBefore reads_as images moment left_since old new
as_before_then reads_as images moment left_since old mid new first second = record {
  reads = second.reads ∙ first.reads;
  images = λ image. (λ left. (first.images image).0 ((second.images image).0 left), λ left. (second.images image).1 ((first.images image).1 left));
  moments = leaves_then moment left_since old mid new (images old) first.moments
      (leaves_also moment left_since mid new (images mid) (images old) second.moments (λ image left. (first.images image).0 left));
}

-- the disk is as before where it was not called
pub not_called : {D : Type 0} (reads_as : D → Option Image) (images : D → Image → Type 0) (moment : D → ℕ) (left_since : D → ℕ → Image → Type 0)
    → ((disk : D) (image : Image) → left_since disk (moment disk) image → images disk image) → (disk : D) → IsAsBefore reads_as images moment left_since disk disk
not_called reads_as images moment left_since only_now disk = record {
  reads = refl;
  images = λ image. (λ left. left, λ left. left);
  moments = started moment left_since disk (images disk) (only_now disk);
}

-- a stop that is handed on counts as it did
pub stop_counts : {T U E : Type 0} (before now : ℕ) (stop fault : E) → CountsFault before now (◌≡◌ {A = Result T E} (Err stop) (Err fault))
    → CountsFault before now (◌≡◌ {A = Result U E} (Err stop) (Err fault))
stop_counts before now stop fault counts = record {
  later = counts.later;
  rose = λ e. counts.rose (ap Err (same_stop stop fault e));
  unchanged = λ other. counts.unchanged (λ e. other (ap Err (same_stop stop fault e)));
}

-- with an answer the count stands still
pub answer_counts : {T E : Type 0} (before now : ℕ) (value : T) (fault : E) → now ≡ before → CountsFault before now (◌≡◌ {A = Result T E} (Ok value) (Err fault))
answer_counts before now value fault still = record {
  later = omega (arith, still);
  rose = λ e. absurd (no_error value fault e);
  unchanged = λ other. still;
}

pub answer_still : {T E : Type 0} (before now : ℕ) (value : T) (fault : E) → CountsFault before now (◌≡◌ {A = Result T E} (Ok value) (Err fault)) → now ≡ before
answer_still before now value fault counts = counts.unchanged (no_error value fault)

-- the count after calls that met no fault
pub counts_on : {Fault : Type 0} (before mid now : ℕ) → mid ≡ before → CountsFault mid now Fault → CountsFault before now Fault
counts_on before mid now still counts = record {
  later = omega (arith, still, counts.later);
  rose = λ fault. subst (λ (n : ℕ). Rose n now) still (counts.rose fault);
  unchanged = λ other. counts.unchanged other ∙ still;
}

-- the stops are distinct
pub no_memory_is_no_fault : ◌≡◌ {A = LogStop} NoMemory DiskFault → ⊥
no_memory_is_no_fault is = absurd (cc)

pub wrong_is_no_fault : (damage : Damage) → ◌≡◌ {A = LogStop} (NotAStore damage) DiskFault → ⊥
wrong_is_no_fault damage is = absurd (cc)

-- a call that failed is a fault
pub fault_counts : {T U E F : Type 0} (before now : ℕ) (failed : F) (fault : E) → HasCause {T = T} {E = F} before now (Err failed)
    → CountsFault before now (◌≡◌ {A = Result U E} (Err fault) (Err fault))
fault_counts before now failed fault cause = record {
  later = cause.later;
  rose = λ e. cause.failed refl;
  unchanged = λ other. absurd (other refl);
}

-- where nothing was called
pub no_call : {T E : Type 0} (count : ℕ) (value : T) → HasCause {T = T} {E = E} count count (Ok value)
no_call count value = record { later = omega arith; failed = λ e. absurd (cc); unchanged = λ e. refl }

pub no_fault_counts : {Fault : Type 0} (count : ℕ) → (Fault → ⊥) → CountsFault count count Fault
no_fault_counts count never = record { later = omega arith; rose = λ fault. absurd (never fault); unchanged = λ other. refl }

pub memory_not_fault : {T : Type 0} → ◌≡◌ {A = Result T LogStop} (Err NoMemory) (Err DiskFault) → ⊥
memory_not_fault is = absurd (cc)

-- a call failed after others that did not
pub failed_on : {T U E : Type 0} (before mid now : ℕ) (failed : E) → mid ≡ before → HasCause {T = T} {E = E} mid now (Err failed) → HasCause {T = U} {E = E} before now (Err failed)
failed_on before mid now failed still cause = record {
  later = omega (arith, still, cause.later);
  failed = λ e. subst (λ (n : ℕ). Rose n now) still (cause.failed refl);
  unchanged = λ e. absurd (cc);
}

pub answered : {T E : Type 0} (before now : ℕ) (value : T) → now ≡ before → HasCause {T = T} {E = E} before now (Ok value)
answered before now value still = record { later = omega (arith, still); failed = λ e. absurd (cc); unchanged = λ e. still }

pub wrong_not_fault : {T : Type 0} (damage : Damage) → ◌≡◌ {A = Result T LogStop} (Err (NotAStore damage)) (Err DiskFault) → ⊥
wrong_not_fault damage is = absurd (cc)

-- what is said of the damage that a stop names, where less is known, or it names none
pub damage_also : (P Q : Damage → Type 0) (stop : LogStop) → ((damage : Damage) → P damage → Q damage) → IfDamage P stop → IfDamage Q stop
damage_also P Q DiskFault also is = tt
damage_also P Q (NotAStore damage) also is = also damage is
damage_also P Q NoMemory also is = tt

pub no_damage : (Q : Damage → Type 0) (stop : LogStop) → IfDamage (λ _. ⊥) stop → IfDamage Q stop
no_damage Q stop none = damage_also (λ _. ⊥) Q stop (λ _ never. absurd never) none

-- a stop that is converted
pub damage_same : {T : Type 0} (result : Result T LogStop) (stop : LogStop) (Q : Damage → Type 0)
    → ((damage : Damage) → result ≡ Err (NotAStore damage) → stop ≡ NotAStore damage) → IfDamage Q stop → IfErr result (IfDamage Q)
damage_same (Ok value) stop Q same is = tt
damage_same (Err DiskFault) stop Q same is = tt
damage_same (Err (NotAStore damage)) stop Q same is = subst (IfDamage Q) (same damage refl) is
damage_same (Err NoMemory) stop Q same is = tt

-- a stop that names damage
pub damage_named : (P Q : Damage → Type 0) (stop : LogStop) → ((damage : Damage) → P damage → Q damage) → IsDamage P stop → IfDamage Q stop
damage_named P Q DiskFault also is = absurd is
damage_named P Q (NotAStore damage) also is = also damage is
damage_named P Q NoMemory also is = absurd is

pub named_no_fault : (P : Damage → Type 0) (stop : LogStop) → IsDamage P stop → stop ≡ DiskFault → ⊥
named_no_fault P stop is fault = subst (IsDamage P) fault is

-- damage in LOG, handed on by a call that knows less of its place
pub in_log_also : (reads later : Option Image) (P Q : List ℕ → ℕ → Type 0) (stop : LogStop)
    → ((at : ℕ) → IfSome later (λ image. P image.log at) → IfSome reads (λ image. Q image.log at)) → IfDamage (IsInLog later P) stop → IfDamage (IsInLog reads Q) stop
in_log_also reads later P Q stop also is =
    damage_also (IsInLog later P) (IsInLog reads Q) stop (λ damage wrong. record { area = wrong.area; at = also damage.at wrong.at }) is

-- damage in LOG at a place
pub at_place : (reads : Option Image) (P : List ℕ → ℕ → Type 0) (R : Type 0) (place : ℕ) (stop : LogStop) → (R → IfSome reads (λ image. P image.log place))
    → IfDamage (λ damage. (damage ≡ in_log place) × R) stop → IfDamage (IsInLog reads P) stop
at_place reads P R place stop also is = damage_also (λ damage. (damage ≡ in_log place) × R) (IsInLog reads P) stop
    (λ damage wrong. record {
      area = ap (λ (d : Damage). d.area) wrong.0;
      at = subst (λ (n : ℕ). IfSome reads (λ image. P image.log n)) (sym (ap (λ (d : Damage). d.at) wrong.0)) (also wrong.1);
    }) is

-- the count after calls that met no fault, and then a stop that is none
pub no_fault_behind : {Fault : Type 0} (before now : ℕ) → now ≡ before → (Fault → ⊥) → CountsFault before now Fault
no_fault_behind before now still never = counts_on before now now still (no_fault_counts now never)
