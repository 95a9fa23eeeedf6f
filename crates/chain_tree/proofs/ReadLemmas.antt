-- Calls over a source of kept blocks: one after another, and how one ends that was read to a good end before.
use Rattle.std.proofs.Common.{◌≡◌, ℕ, List, Option, Some, None, Result, Err, refl, sym, ap, ◌∙◌, subst}
use Rattle.outside.specs.declared.disk.Damage.{Damage}
use Rattle.outside.specs.declared.disk.ReadStop.{ReadStop}
use Rattle.outside.specs.declared.disk.ReadStop.TheVariants.{DiskFault, NoMemory, Damaged}
use Rattle.outside.proofs.Endings.{no_fault, after_still}
use Rattle.chain_tree.specs.Told.{Stored}
use Rattle.chain_tree.specs.Reading.{Findings, AnswersFound, Finds, HasRead, stop_of}

pub no_stop : (stop : ReadStop) → None ≡ Some stop → ⊥
no_stop stop same = absurd (cc)

pub no_memory_fault : Some NoMemory ≡ Some DiskFault → ⊥
no_memory_fault same = absurd (cc)

pub no_memory_damage : (damage : Damage) → Some NoMemory ≡ Some (Damaged damage) → ⊥
no_memory_damage damage same = absurd (cc)

pub same_stop : {T : Type 0} (one other : ReadStop) → ◌≡◌ {A = Result T ReadStop} (Err one) (Err other) → one ≡ other
same_stop one other same = cc

-- ---- What was found

-- nothing, where nothing was read
pub finds_none : (found : Findings) {stop : Option ReadStop} → ((damage : Damage) → stop ≡ Some (Damaged damage) → ⊥) → Finds found found stop
finds_none found undamaged = record { named = λ damage is. absurd (undamaged damage is); none = λ other. refl }

-- after what found nothing
pub finds_after : {first then last : Findings} {stop : Option ReadStop} → then ≡ first → Finds then last stop → Finds first last stop
finds_after {last = last} {stop = stop} same finds = subst (λ (found : Findings). Finds found last stop) same finds

pub finds_till : {first then last : Findings} {stop : Option ReadStop} → Finds first then None → Finds then last stop → Finds first last stop
finds_till before after = finds_after (before.none (λ damage is. no_stop (Damaged damage) is)) after

-- what was found is answered
pub finds_answers : {before after : Findings} {stop : Option ReadStop} → Finds before after stop → AnswersFound before after stop
finds_answers finds other = finds.none (λ damage is. other damage is (ap (λ (found : Findings). found.last) (finds.named damage is)))

-- ---- What a call leaves and finds

module _ {S L : Type 0} {tells : S → Option (List Stored)} {counts : S → ℕ} {loans_of : S → L} {faults : S → ℕ} {damages : S → Findings} where
  -- before any reading
  pub unread : (blocks : S) → HasRead tells counts loans_of faults damages blocks blocks None
  unread blocks = record {
    told = refl;
    count = refl;
    loans = refl;
    damage = λ damage is. absurd (no_stop (Damaged damage) is);
    cause = no_fault _ _ refl (no_stop DiskFault);
    found = finds_none _ (λ damage is. no_stop (Damaged damage) is);
  }

  -- reading after reading
  pub read_on : {first then last : S} {stop : Option ReadStop} → HasRead tells counts loans_of faults damages first then None
      → HasRead tells counts loans_of faults damages then last stop → HasRead tells counts loans_of faults damages first last stop
  read_on before after = record {
    told = after.told ∙ before.told;
    count = after.count ∙ before.count;
    loans = after.loans ∙ before.loans;
    damage = after.damage;
    cause = after_still (before.cause.unchanged (no_stop DiskFault)) after.cause;
    found = finds_till before.found after.found;
  }

  -- of a source that is the one which was left
  pub read_is : {old new other : S} {stop : Option ReadStop} → other ≡ new → HasRead tells counts loans_of faults damages old new stop
      → HasRead tells counts loans_of faults damages old other stop
  read_is {old = old} {stop = stop} same read = subst (λ (blocks : S). HasRead tells counts loans_of faults damages old blocks stop) (sym same) read

  -- an end after it that is no fault and no damage
  pub read_till : {old new : S} (stop : Option ReadStop) → ((damage : Damage) → stop ≡ Some (Damaged damage) → ⊥) → (stop ≡ Some DiskFault → ⊥)
      → HasRead tells counts loans_of faults damages old new None → HasRead tells counts loans_of faults damages old new stop
  read_till stop undamaged no_fault_is read = record {
    told = read.told;
    count = read.count;
    loans = read.loans;
    damage = λ damage is. absurd (undamaged damage is);
    cause = no_fault _ _ (read.cause.unchanged (no_stop DiskFault)) no_fault_is;
    found = finds_till read.found (finds_none _ undamaged);
  }

  -- a call whose stop is another's
  pub read_so : {old new : S} {stop other : Option ReadStop} → stop ≡ other → HasRead tells counts loans_of faults damages old new stop
      → HasRead tells counts loans_of faults damages old new other
  read_so {old = old} {new = new} same read = subst (λ (it : Option ReadStop). HasRead tells counts loans_of faults damages old new it) same read

  pub read_as : {T : Type 0} {old new : S} {result : Result T ReadStop} {stop : ReadStop} → result ≡ Err stop
      → HasRead tells counts loans_of faults damages old new (stop_of result) → HasRead tells counts loans_of faults damages old new (Some stop)
  read_as same read = read_so (ap stop_of same) read

  -- out of memory after it
  pub read_short : {old new : S} → HasRead tells counts loans_of faults damages old new None → HasRead tells counts loans_of faults damages old new (Some NoMemory)
  read_short read = read_till (Some NoMemory) no_memory_damage no_memory_fault read
