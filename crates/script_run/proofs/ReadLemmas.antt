-- Kept blocks that were read, and what a function says of it where it ends.
use Rattle.std.proofs.Common.{◌≡◌, ℕ, Option, Some, None, Result, Ok, Err, refl, ap, ◌∙◌, arith}
use Rattle.std.specs.Prelude.{IfSome}
use Rattle.outside.specs.Causes.{CountsFault}
use Rattle.outside.specs.declared.disk.Area.TheVariants.{Log}
use Rattle.outside.specs.declared.disk.Damage.{Damage}
use Rattle.outside.specs.declared.disk.ReadStop.{ReadStop}
use Rattle.outside.specs.declared.disk.ReadStop.TheVariants.{Damaged, DiskFault, NoMemory}
use Rattle.chain_tree.specs.Reading.{Findings, Finds, found_next, stop_of}
use Rattle.vm_sys.specs.Finding as finding
use Rattle.program_run.specs.declared.program.Stopped.{Stopped}
use Rattle.program_run.specs.declared.program.Stopped.TheVariants.{Loading, Running}
use Rattle.script_run.specs.declared.stop.ScriptStop.{ScriptStop}
use Rattle.script_run.specs.declared.stop.ScriptStop.TheVariants.{Read}
use Rattle.script_run.specs.Lookups.{found_in}

-- ---- Answers that are none

pub no-error : {T E : Type 0} (value : T) (stop : E) → Ok value ≡ Err stop → ⊥
no-error value stop is = absurd (cc)

pub not-there : {X : Type 0} (other : Option X) (x : X) → None ≡ other → other ≡ Some x → ⊥
not-there other x none some = absurd (cc)

pub some-stop : (stop other : ReadStop) → Some stop ≡ Some other → stop ≡ other
some-stop stop other is = cc

pub running-stop : {T : Type 0} (stop other : ReadStop) → ◌≡◌ {A = Result T Stopped} (Err (Running stop)) (Err (Running other)) → Some stop ≡ Some other
running-stop stop other same = let is : stop ≡ other = cc in ap Some is

-- what a source of blocks has found, by what its world says of it
same-found : (one other : Findings) → found_in one ≡ found_in other → one ≡ other
same-found one other same = λ i. record { count = (same i).0; last = (same i).1 }

-- so a world over it finds what it finds
pub world-finds : {before after : Findings} {stop : Option ReadStop} {Answered : Damage → Type 0} → ((damage : Damage) → stop ≡ Some (Damaged damage) → Answered damage)
    → ((damage : Damage) → Answered damage → stop ≡ Some (Damaged damage)) → Finds before after stop → finding.Finds (found_in before) (found_in after) Answered
world-finds to from finds = record {
  named = λ damage is. ap found_in (finds.named damage (from damage is));
  none = λ none. ap found_in (finds.none (λ damage is. none damage (to damage is)));
}

-- and it finds what the world finds
pub found-through : {S : Type 0} {Answered : Damage → Type 0} (damages : S → Findings) (old new world : S) (stop : Option ReadStop) → damages new ≡ damages world
    → ((damage : Damage) → stop ≡ Some (Damaged damage) → Answered damage) → ((damage : Damage) → Answered damage → stop ≡ Some (Damaged damage))
    → finding.Finds (found_in (damages old)) (found_in (damages world)) Answered → Finds (damages old) (damages new) stop
found-through damages old new world stop same to from finds = record {
  named = λ damage is. same ∙ same-found (damages world) (found_next damage (damages old)) (finds.named damage (to damage is));
  none = λ none. same ∙ same-found (damages world) (damages old) (finds.none (λ damage is. none damage (from damage is)));
}

-- where there is no memory to load, nothing ran
pub loading-unread : {T : Type 0} (stop : ReadStop) → ◌≡◌ {A = Result T Stopped} (Err Loading) (Err (Running stop)) → ⊥
loading-unread stop same = absurd (cc)

-- want of memory, where scripts are run
pub wanted-no-damage : (damage : Damage) → ◌≡◌ {A = Result ℕ ScriptStop} (Err (Read NoMemory)) (Err (Read (Damaged damage))) → ⊥
wanted-no-damage damage is = absurd (cc)

-- ---- What does not fit

-- damage of the log, or no memory
pub unfit-in-log : (T : Type 0) (found : Option ℕ) (stop : ReadStop)
    → IfSome found (λ at. ◌≡◌ {A = Result T ReadStop} (Err stop) (Err (Damaged (record { area = Log; at = at })))) → (found ≡ None → stop ≡ NoMemory)
    → (damage : Damage) → stop ≡ Damaged damage → damage.area ≡ Log
unfit-in-log T None stop unfit fit damage is = let want : stop ≡ NoMemory = fit refl in absurd (cc)
unfit-in-log T (Some at) stop unfit fit damage is = cc

pub unfit-no-fault : (T : Type 0) (found : Option ℕ) (stop : ReadStop)
    → IfSome found (λ at. ◌≡◌ {A = Result T ReadStop} (Err stop) (Err (Damaged (record { area = Log; at = at })))) → (found ≡ None → stop ≡ NoMemory)
    → stop ≡ DiskFault → ⊥
unfit-no-fault T None stop unfit fit is = let want : stop ≡ NoMemory = fit refl in absurd (cc)
unfit-no-fault T (Some at) stop unfit fit is = absurd (cc)

pub unfit-answered : (T U : Type 0) (found : Option ℕ) (stop : ReadStop) → IfSome found (λ at. ◌≡◌ {A = Result T ReadStop} (Err stop) (Err (Damaged (record { area = Log; at = at }))))
    → IfSome found (λ at. ◌≡◌ {A = Result U ScriptStop} (Err (Read stop)) (Err (Read (Damaged (record { area = Log; at = at })))))
unfit-answered T U None stop unfit = tt
unfit-answered T U (Some at) stop unfit = ap (λ (it : ReadStop). Err (Read it)) (let same : stop ≡ Damaged (record { area = Log; at = at }) = cc in same)

-- what is there fits
pub there-fits : {T : Type 0} (found : Option ℕ) (value : T) (Answered : ℕ → Type 0) → IfSome found (λ at. ◌≡◌ {A = Result T ReadStop} (Ok value) (Err (Damaged (record { area = Log; at = at }))))
    → IfSome found Answered
there-fits None value Answered unfit = tt
there-fits (Some at) value Answered unfit = absurd (no-error _ _ unfit)

pub fit-no-damage : (stop : ReadStop) → stop ≡ NoMemory → (damage : Damage) → ◌≡◌ {A = Result ℕ ScriptStop} (Err (Read stop)) (Err (Read (Damaged damage))) → ⊥
fit-no-damage stop want damage is = absurd (cc)

-- ---- Faults that are counted

pub none-counted : (count : ℕ) (Fault : Type 0) → (Fault → ⊥) → CountsFault count count Fault
none-counted count Fault none = record { later = omega arith; rose = λ fault. absurd (none fault); unchanged = λ _. refl }

-- the same fault, in other words
pub counted-as : (before now : ℕ) (Fault Other : Type 0) → (Other → Fault) → (Fault → Other) → CountsFault before now Fault → CountsFault before now Other
counted-as before now Fault Other is so counts = record {
  later = counts.later;
  rose = λ fault. counts.rose (is fault);
  unchanged = λ none. counts.unchanged (λ fault. none (so fault));
}

pub counted-stop : {T : Type 0} (before now : ℕ) (stop : ReadStop) → CountsFault before now (Some stop ≡ Some DiskFault)
    → CountsFault before now (◌≡◌ {A = Result T ReadStop} (Err stop) (Err DiskFault))
counted-stop {T = T} before now stop counts =
    counted-as before now (Some stop ≡ Some DiskFault) (◌≡◌ {A = Result T ReadStop} (Err stop) (Err DiskFault)) (λ is. ap stop_of is) (λ is. let same : stop ≡ DiskFault = cc in ap Err same) counts
