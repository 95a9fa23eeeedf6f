-- Why a log was not opened: at which place it is none.
use Rattle.std.specs.Prelude.{◌≡◌, ℕ, List, Option, IfSome}
use Rattle.outside.specs.declared.disk.Area.TheVariants.{Log}
use Rattle.outside.specs.declared.disk.Damage.{Damage}
use Rattle.outside.specs.Image.{Image}
use Rattle.log_file.specs.declared.stop.LogStop.{LogStop}
use Rattle.log_file.specs.declared.stop.LogStop.TheVariants.{DiskFault, NotAStore, NoMemory}

-- what holds of the damage that a stop names, if it names one
abbrev pub IfDamage : (Damage → Type 0) → LogStop → Type 0
IfDamage P DiskFault = Unit
IfDamage P (NotAStore damage) = P damage
IfDamage P NoMemory = Unit

-- the stop names damage, of which P holds
abbrev pub IsDamage : (Damage → Type 0) → LogStop → Type 0
IsDamage P DiskFault = ⊥
IsDamage P (NotAStore damage) = P damage
IsDamage P NoMemory = ⊥

abbrev pub in_log : ℕ → Damage
in_log place = record { area = Log; at = place }

-- LOG is damaged, and where it is known what the disk reads as, P says of its bytes at which place.
pub record IsInLog (reads : Option Image) (P : List ℕ → ℕ → Type 0) (damage : Damage) : Type 0 where
  pub area : damage.area ≡ Log
  pub at : IfSome reads (λ image. P image.log damage.at)
