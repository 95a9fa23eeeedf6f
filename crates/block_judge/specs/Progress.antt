-- What the transactions of a block are judged by, beside the cells, and what they move.
use Rattle.std.specs.Prelude.{◌≡◌, ℕ, ◌*◌, ◌^◌, ◌<◌, ◌≤◌, ℤ, nat_abs, List, length, drop, is_some}
use Rattle.std.specs.List.{list_any}
use Rattle.std.specs.Str.{bytes_eq}
use Rattle.chain_defs.specs.Schema.{Block}
use Rattle.chain_defs.specs.Specification.{Specification}
use Rattle.rule_defs.specs.Window.{earliest}
use Rattle.rule_defs.specs.Field.{freed_from, interest_from}

-- The ids are those that are proposed for the block after the last of a branch.
abbrev pub AreProposed : Specification → List Block → List (List ℕ) → Type 0
AreProposed spec branch ids = (id : List ℕ) → list_any (bytes_eq id) ids ≡ is_some (earliest spec branch id (length branch))

-- So much interest is withdrawn and so much freed as so many transactions can: each has below 2^32 inputs, of below 2^64 shannons each.
pub record CanMove (count : ℕ) (interest : ℤ) (freed : ℕ) : Type 0 where
  pub interest_fits : nat_abs interest ≤ count * 2 ^ 96
  pub freed_fits : freed ≤ count * 2 ^ 96

-- So many transactions are few, they leave few cycles, and they move no more than so many can.
pub record AreFew (count left : ℕ) (interest : ℤ) (freed : ℕ) : Type 0 where
  pub few : count < 2 ^ 30
  pub left_fits : left ≤ 2 ^ 40
  pub moves : CanMove count interest freed

-- The interest is what the transactions of a block on a branch withdraw, and what is freed is what all cells occupy that they spend.
pub record AreMoved (spec : Specification) (on : List Block) (b : Block) (interest : ℤ) (freed : ℕ) : Type 0 where
  pub interest_is : interest ≡ interest_from spec on b 1 (drop 1 b.transactions)
  pub freed_is : freed ≡ freed_from spec on b 1 (drop 1 b.transactions)
