-- What was found, in the definitions' terms, and what was found damaged.
use Rattle.std.specs.Prelude.{◌≡◌, ℕ, List, Option, Some, None}
use Rattle.outside.specs.Causes.{counted}
use Rattle.outside.specs.declared.disk.Damage.{Damage}
use Rattle.machine_defs.specs.World as world
use Rattle.vm_sys.specs.declared.world.Found.{Found}
use Rattle.vm_sys.specs.declared.world.Found.TheVariants.{Here, NoIndex, Missing, Unknown}

-- with the bytes of the current item (where an item is here, its bytes are: the clause `here` of `find`)
abbrev pub item_of : Found → Option (List ℕ) → world.Item
item_of Here (Some bytes) = world.Here bytes
item_of Here None = world.Unknown
item_of NoIndex here = world.NoIndex
item_of Missing here = world.Missing
item_of Unknown here = world.Unknown

-- What a world finds damaged, by how often and what it named last, is what is answered as damage: a call that ends with damage found it, once, and named it
-- last; one that ends with anything else found none.
pub record Finds (before after : ℕ × Option Damage) (answered : Damage → Type 0) : Type 0 where
  pub named : (damage : Damage) → answered damage → after ≡ (counted before.0, Some damage)
  pub none : ((damage : Damage) → answered damage → ⊥) → after ≡ before
