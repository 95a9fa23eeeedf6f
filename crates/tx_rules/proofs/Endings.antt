-- Where a function ends whose stop may be a broken rule: what its answer is not, and what it leaves of a source that was read before.
use Rattle.std.proofs.Common.{◌≡◌, ℕ, List, Option, None, Result, Err, refl}
use Rattle.outside.specs.declared.disk.Damage.{Damage}
use Rattle.outside.specs.declared.disk.ReadStop.{ReadStop}
use Rattle.outside.specs.declared.disk.ReadStop.TheVariants.{DiskFault, NoMemory, Damaged}
use Rattle.chain_tree.specs.Told.{Stored}
use Rattle.chain_tree.specs.Reading.{Findings, HasRead}
use Rattle.chain_tree.proofs.ReadLemmas.{read_short}
use Rattle.rule_defs.specs.declared.rule.Rule.{Rule}
use Rattle.tx_rules.specs.Reading.{read_stop}
use Rattle.tx_rules.specs.declared.resolving.TxStop.{TxStop}
use Rattle.tx_rules.specs.declared.resolving.TxStop.TheVariants.{Broken, Read}

-- a fault of reading, as a stop
pub fault_read : {T U : Type 0} (stop : ReadStop) → ◌≡◌ {A = Result U TxStop} (Err (Read stop)) (Err (Read DiskFault)) → ◌≡◌ {A = Result T ReadStop} (Err stop) (Err DiskFault)
fault_read stop same = cc

pub broken_unread : {T : Type 0} {rule : Rule} (stop : ReadStop) → ◌≡◌ {A = Result T TxStop} (Err (Broken rule)) (Err (Read stop)) → ⊥
broken_unread stop same = absurd (cc)

pub memory_unread : {T : Type 0} → ◌≡◌ {A = Result T TxStop} (Err (Read NoMemory)) (Err (Read DiskFault)) → ⊥
memory_unread same = absurd (cc)

pub memory_no_damage : {T : Type 0} (damage : Damage) → ◌≡◌ {A = Result T TxStop} (Err (Read NoMemory)) (Err (Read (Damaged damage))) → ⊥
memory_no_damage damage same = absurd (cc)

pub damage_unread : {T : Type 0} (damage : Damage) → ◌≡◌ {A = Result T TxStop} (Err (Read (Damaged damage))) (Err (Read DiskFault)) → ⊥
damage_unread damage same = absurd (cc)

-- a step that reads no kept block and finds nothing damaged, and stops after those that were read to a good end
pub read_stopped : {T S L : Type 0} {tells : S → Option (List Stored)} {counts : S → ℕ} {loans_of : S → L} {faults : S → ℕ} {damages : S → Findings} {old new : S}
    (stop : TxStop) → ((damage : Damage) → ◌≡◌ {A = Result T TxStop} (Err stop) (Err (Read (Damaged damage))) → ⊥)
    → (◌≡◌ {A = Result T TxStop} (Err stop) (Err (Read DiskFault)) → ⊥)
    → HasRead tells counts loans_of faults damages old new None → HasRead tells counts loans_of faults damages old new (read_stop stop)
read_stopped (Broken rule) undamaged unread read = read
read_stopped (Read DiskFault) undamaged unread read = absurd (unread refl)
read_stopped (Read NoMemory) undamaged unread read = read_short read
read_stopped (Read (Damaged damage)) undamaged unread read = absurd (undamaged damage refl)
