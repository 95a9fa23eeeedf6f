-- The next item of an input: which bytes the source gave for it.
use Rattle.std.specs.Prelude.{◌≡◌, ◌⊎◌, ℕ, ◌+◌, List, [], ◌++◌, length, Bool, true, false, Option, Some, Result, Ok, Err}
use Rattle.std.specs.Io.KnownBytes.{IsAtEnd}
use Rattle.outside.specs.Streams.{Gives}
use Rattle.report_defs.specs.Items.{IsItem, IsAtWord, IsWithin, end_at}
use Rattle.report_defs.specs.declared.end.End.{End}
use Rattle.report_defs.specs.declared.end.End.TheVariants.{AtEnd}
use Rattle.report_defs.specs.declared.status.Status.{Status}
use Rattle.report_defs.specs.declared.status.Status.TheVariants.{InputFault, NoMemory}
use Rattle.run_text.specs.declared.next.Next.{Next}
use Rattle.run_text.specs.declared.next.Next.TheVariants as next

-- the source gave some bytes, which are no longer left, and P holds of them
abbrev pub SourceGave : Option (List ℕ) → Option (List ℕ) → (List ℕ → Type 0) → Type 0
SourceGave left_old left_new P = (given : List ℕ) × Gives left_old left_new given × P given

-- The bytes at an offset hold no whole item: read alone, they end there. No byte follows a size word at which the reading ends.
pub record IsPartial (limit : ℕ) (input : Option ℕ) (offset : ℕ) (given : List ℕ) : Type 0 where
  pub end : End
  pub ends : end_at (Some limit) input offset given ≡ Some end
  pub word : IsAtWord end → length given ≡ 4

-- the bytes are an item, within the limit of the input
pub record IsItemAt (limit : ℕ) (input : Option ℕ) (offset : ℕ) (item given : List ℕ) : Type 0 where
  pub same : given ≡ item
  pub is_item : IsItem limit item
  pub within : IsWithin input (offset + length item)

-- the reading ends at this offset, whatever is left after the bytes that were given there
pub record EndsAt (limit input : Option ℕ) (offset : ℕ) (left : Option (List ℕ)) (end : End) (given : List ℕ) : Type 0 where
  pub ends : (more : List ℕ) → left ≡ Some more → end_at limit input offset (given ++ more) ≡ Some end
  pub nothing : end ≡ AtEnd → given ≡ []
  pub to_end : end ≡ AtEnd → IsAtEnd left

-- what stops reading: a fault, or missing memory
abbrev pub IsReadingStop : Status → Type 0
IsReadingStop InputFault = Unit {0}
IsReadingStop NoMemory = Unit {0}
IsReadingStop _ = ⊥

abbrev pub IsNext : ℕ → Option ℕ → ℕ → Option (List ℕ) → Result Next Status → List ℕ → Type 0
IsNext limit input offset left (Ok (next.Item item)) given = IsItemAt limit input offset item.items given
IsNext limit input offset left (Ok (next.End end)) given = EndsAt (Some limit) input offset left end given × IsPartial limit input offset given
IsNext limit input offset left (Err status) given = IsReadingStop status × (IsPartial limit input offset given ⊎ IsItemAt limit input offset given given)

-- where no item is taken, no byte more than one is read, and none where the reading fails
abbrev pub IsEndProbe : Option (List ℕ) → Result Bool Status → List ℕ → Type 0
IsEndProbe left (Ok true) given = length given ≡ 1
IsEndProbe left (Ok false) given = (given ≡ []) × IsAtEnd left
IsEndProbe left (Err status) given = (status ≡ InputFault) × (given ≡ [])
