-- What reading comes to.
use Rattle.std.proofs.Common.{◌≡◌, List, Option, Result, Err, refl, ◌∙◌}
use Rattle.outside.specs.declared.disk.Damage.{Damage}
use Rattle.outside.specs.declared.disk.ReadStop.{ReadStop}
use Rattle.outside.specs.declared.disk.ReadStop.TheVariants.{DiskFault, NoMemory, Damaged}
use Rattle.outside.proofs.Endings.{memory_undamaged, fault_undamaged}
use Rattle.chain_defs.specs.Specification.{Specification}
use Rattle.chain_tree.specs.declared.entry.Entry.{Entry}
use Rattle.chain_tree.specs.Told.{Stored}
use Rattle.rewards.specs.Reading.{AreKnownBlocks, IsUndamaged}

-- it tells the same after reading
pub tells_still : {spec : Specification} {told now : Option (List Stored)} {entries : List Entry} {stored : List Stored} → now ≡ told
    → AreKnownBlocks spec told entries stored → AreKnownBlocks spec now entries stored
tells_still same tells = record { is = same ∙ tells.is; indexes = tells.indexes; own = tells.own }

pub not_damaged : {T : Type 0} (stop : ReadStop) (damage : Damage) → IsUndamaged stop → ◌≡◌ {A = Result T ReadStop} (Err stop) (Err (Damaged damage)) → ⊥
not_damaged DiskFault damage undamaged same = fault_undamaged damage same
not_damaged NoMemory damage undamaged same = memory_undamaged damage same
not_damaged (Damaged other) damage undamaged same = undamaged

-- a stop that is no damage
pub undamaged_is : {T : Type 0} (stop : ReadStop) → ((damage : Damage) → ◌≡◌ {A = Result T ReadStop} (Err stop) (Err (Damaged damage)) → ⊥) → IsUndamaged stop
undamaged_is DiskFault none = tt
undamaged_is NoMemory none = tt
undamaged_is (Damaged damage) none = none damage refl
