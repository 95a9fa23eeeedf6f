-- What a migration leaves, and how it ends.
use Rattle.std.specs.Prelude.{◌≡◌, ◌⊎◌, ℕ, List, [], ◌∷◌}
use Rattle.outside.specs.Image.{Image}
use Rattle.verdict_defs.specs.Chain.{Chain}
use Rattle.store_defs.specs.Store.{StandsFor}
use Rattle.store_defs.specs.Migration.{migrated}
use Rattle.report_defs.specs.declared.status.Status.{Status}
use Rattle.report_defs.specs.declared.status.Status.TheVariants.{Done, SinkFault, DiskFault, NoMemory, TooEarly, AlreadyMigrated}
use Rattle.report_defs.specs.Status.{IsOneOf}
use Rattle.report_defs.specs.Survival.{Each, refusals}

-- once the store was opened
abbrev pub moving_statuses : List Status
moving_statuses = Done ∷ SinkFault ∷ DiskFault ∷ NoMemory ∷ TooEarly ∷ AlreadyMigrated ∷ []

-- those that tell what became of it
abbrev pub outcomes : List Status
outcomes = Done ∷ TooEarly ∷ AlreadyMigrated ∷ []

-- once it is known what became of it
abbrev pub telling_statuses : List Status
telling_statuses = Done ∷ SinkFault ∷ NoMemory ∷ TooEarly ∷ AlreadyMigrated ∷ []

-- Over the one image of a chain: each image is under the edition as before, but where it is done, or under that which is asked for, but where it is
-- refused.
pub record LeavesMoved (epoch : ℕ) (chain : Chain) (status : Status) (images : Image → Type 0) : Type 0 where
  pub each : Each images (λ image. ((status ≡ Done → ⊥) × StandsFor chain image) ⊎ ((IsOneOf refusals status → ⊥) × StandsFor (migrated epoch chain) image))
  -- where it is done there is one, and where it is refused the edition is as before
  pub done : status ≡ Done → (only : Image) × Each images (λ image. image ≡ only) × StandsFor (migrated epoch chain) only
  pub refused : IsOneOf refusals status → Each images (StandsFor chain)
