-- What the cellbase of the next block of a branch pays (RFC 0020, "Two-Step Transaction Confirmation": a block's reward is paid once all that it
-- proposed is committed or cannot be any more; docs/RULES.md, "The reward").
use Rattle.std.specs.Prelude.{ℕ, ◌+◌, ◌-◌, ◌^◌, Bool, false, ◌&&◌, ◌==◌, not, nat_lt, nat_le, List, [], ◌∷◌, length, Option, Some, None, is_some, slice_get, if◌then◌else◌}
use Rattle.std.specs.Option.{option_and_then}
use Rattle.std.specs.Str.{bytes_eq}
use Rattle.chain_defs.specs.Shape.{encoded}
use Rattle.chain_defs.specs.Schema.{Script, script, CellOutput, Block}
use Rattle.chain_defs.specs.Specification.{Specification}
use Rattle.chain_defs.specs.Dao.{occupied_capacity}
use Rattle.chain_defs.specs.Kept.{block_at}
use Rattle.rule_defs.specs.Cellbase.{lock_named}
use Rattle.rule_defs.specs.Reward.{part}

-- What a cellbase owes.
pub data Owed : Type 0 where
  -- no output
  NoOutput : Owed
  -- one output: to this lock so many shannons
  Pays : Script → ℕ → Owed
  -- what no cellbase can pay
  Unpayable : Owed

-- what an output with a lock, no type script and no data occupies
abbrev pub occupied_with : Script → ℕ
occupied_with lock = occupied_capacity (length lock.args) None 0

-- A reward is paid where it is at least what its output occupies. One that is above the greatest u64, or has no lock to go to, no cellbase can pay.
abbrev pub owed_to : Option Script → ℕ → Owed
owed_to None reward = Unpayable
owed_to (Some lock) reward =
    if nat_lt reward (2 ^ 64) then (if nat_le (occupied_with lock) reward then Pays lock reward else NoOutput) else Unpayable

-- the lock in the first witness of a block's cellbase. Each block that joined names one: J17 asks it.
abbrev pub lock_of : Option Block → Option Script
lock_of None = None
lock_of (Some b) = option_and_then lock_named (slice_get b.transactions 0)

-- The block at height h pays that at h - (w_far + 1), and none where h is at most w_far + 1. The branch then has all blocks that the reward stands
-- on, up to w_far after the one that is paid.
unfoldable pub owed_after : Specification → List Block → Owed
owed_after spec branch =
    let target = length branch - (spec.w_far + 1) in
    if nat_le (length branch) (spec.w_far + 1) then NoOutput else owed_to (lock_of (block_at branch target)) (part spec branch target)

-- ---- What a cellbase has

-- an output holds so much, with this lock and no type script; that its data is empty is J17's
abbrev pub is_output_to : Script → ℕ → CellOutput → Bool
is_output_to lock capacity output =
    (output.capacity == capacity) && bytes_eq (encoded script output.lock) (encoded script lock) && not (is_some output.type_script)

abbrev pub is_one_output_to : Script → ℕ → List CellOutput → Bool
is_one_output_to lock capacity [] = false
is_one_output_to lock capacity (output ∷ []) = is_output_to lock capacity output
is_one_output_to lock capacity (output ∷ other ∷ later) = false

-- outputs are exactly what is owed
abbrev pub are_owed : Owed → List CellOutput → Bool
are_owed NoOutput outputs = length outputs == 0
are_owed (Pays lock capacity) outputs = is_one_output_to lock capacity outputs
are_owed Unpayable outputs = false

-- the outputs of a block's first transaction
abbrev pub cellbase_outputs : Block → List CellOutput
cellbase_outputs b = elim b.transactions [
  | [] ↦ []
  | first ∷ later ↦ first.raw.outputs
]
