-- Where a kept block is damaged.
use Rattle.std.specs.Prelude.{◌≡◌, ℕ, List, IsSomeAnd}
use Rattle.outside.specs.declared.disk.Area.TheVariants.{Log}
use Rattle.outside.specs.declared.disk.Damage.{Damage}
use Rattle.chain_tree.specs.declared.entry.Entry.{Entry}
use Rattle.chain_tree.specs.Entries.{entry_at}

-- Damage at the record of the block at a place: where its bytes lie.
abbrev pub IsAtRecord : List Entry → ℕ → Damage → Type 0
IsAtRecord entries place damage = IsSomeAnd (entry_at entries place) (λ entry. damage.at ≡ entry.at)

-- damage in LOG at the body of one of these blocks
abbrev pub IsOfBlock : List Entry → Damage → Type 0
IsOfBlock entries damage = (damage.area ≡ Log) × ((place : ℕ) × IsAtRecord entries place damage)
