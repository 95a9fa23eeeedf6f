-- That two kept blocks have one fork, in words.
use Rattle.std.specs.Prelude.{◌≡◌, ℕ, ◌<◌, List, length}
use Rattle.chain_defs.specs.Schema.{Block}
use Rattle.chain_defs.specs.Kept.{IsKept}
use Rattle.chain_defs.specs.Branch.{branch_places, IsFork}

-- A place is the fork of two: their branches go along the places of its own, and no place after these is on both.
pub record IsForkAt (kept : List Block) (from to fork : ℕ) : Type 0 where
  pub only_from : List ℕ
  pub only_to : List ℕ
  pub is : IsFork kept from to (branch_places kept fork) only_from only_to

-- Law: any two kept blocks have a fork, and no other place is theirs.
abbrev pub AnyTwoForkOnce : Type 0
AnyTwoForkOnce = (kept : List Block) (from to : ℕ) → IsKept kept → from < length kept → to < length kept
    → (fork : ℕ) × IsForkAt kept from to fork × ((other : ℕ) → IsForkAt kept from to other → other ≡ fork)
