-- Kept blocks that are read: why a call was stopped, and what it leaves of their source and finds there.
use Rattle.std.specs.Prelude.{◌≡◌, ℕ, List, Option, Some, None, Result, Ok, Err}
use Rattle.outside.specs.Causes.{CountsFault, counted}
use Rattle.outside.specs.declared.disk.Area.TheVariants.{Log}
use Rattle.outside.specs.declared.disk.Damage.{Damage}
use Rattle.outside.specs.declared.disk.ReadStop.{ReadStop}
use Rattle.outside.specs.declared.disk.ReadStop.TheVariants.{DiskFault, Damaged}
use Rattle.chain_tree.specs.Told.{Stored}

-- why a call was stopped, where it was
abbrev pub stop_of : {T : Type 0} → Result T ReadStop → Option ReadStop
stop_of (Ok value) = None
stop_of (Err stop) = Some stop

-- What a source has found damaged: how often, and what it named last.
pub record Findings : Type 0 where
  pub count : ℕ
  pub last : Option Damage

-- none yet
abbrev pub nothing_found : Findings
nothing_found = record { count = 0; last = None }

-- one more
abbrev pub found_next : Damage → Findings → Findings
found_next damage before = record { count = counted before.count; last = Some damage }

-- What is found damaged is answered as it was named: a call that ends with anything else than what was found last found none.
abbrev pub AnswersFound : Findings → Findings → Option ReadStop → Type 0
AnswersFound before after stop = ((damage : Damage) → stop ≡ Some (Damaged damage) → after.last ≡ Some damage → ⊥) → after ≡ before

-- And nothing else is answered as damage: a call that ends with damage found it, once, and named it last; one that ends with anything else found none.
pub record Finds (before after : Findings) (stop : Option ReadStop) : Type 0 where
  pub named : (damage : Damage) → stop ≡ Some (Damaged damage) → after ≡ found_next damage before
  pub none : ((damage : Damage) → stop ≡ Some (Damaged damage) → ⊥) → after ≡ before

-- What a call leaves of a source and finds there: what is known of it is what was known, as many blocks, on the same loans. Damage is in LOG, a fault is counted,
-- and the damage that it answers is the one that the source found and named.
pub record HasRead {S L : Type 0} (tells : S → Option (List Stored)) (counts : S → ℕ) (loans_of : S → L) (faults : S → ℕ) (damages : S → Findings)
    (old new : S) (stop : Option ReadStop) : Type 0 where
  pub told : tells new ≡ tells old
  pub count : counts new ≡ counts old
  pub loans : loans_of new ≡ loans_of old
  pub damage : (damage : Damage) → stop ≡ Some (Damaged damage) → damage.area ≡ Log
  pub cause : CountsFault (faults old) (faults new) (stop ≡ Some DiskFault)
  pub found : Finds (damages old) (damages new) stop
