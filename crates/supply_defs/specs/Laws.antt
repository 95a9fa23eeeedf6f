-- The supply law: nothing comes from nowhere and nothing is lost, along each branch of a chain that has joined (docs/RULES.md, "The reward").
use Rattle.std.specs.Prelude.{◌≡◌, ℕ, ◌+◌, ◌^◌, ◌<◌, ℤ, pos, ◌-ℤ◌, List, [], ◌∷◌, length, Some, None, IsTrue}
use Rattle.std.specs.List.{sum_by}
use Rattle.chain_defs.specs.Schema.{Block}
use Rattle.chain_defs.specs.First.{first_failing}
use Rattle.chain_defs.specs.Specification.{Specification, keeps_s3}
use Rattle.chain_defs.specs.Kept.{block_at, parent_place}
use Rattle.chain_defs.specs.Branch.{branch}
use Rattle.chain_defs.specs.FitLaws.{IsCanonical, AreCanonical}
use Rattle.rule_defs.specs.Genesis.{genesis_rules}
use Rattle.rule_defs.specs.Capacity.{held_out}
use Rattle.rule_defs.specs.Field.{made_by}
use Rattle.verdict_defs.specs.Chain.{Chain}
use Rattle.store_defs.specs.Store.{IsJoined}
use Rattle.supply_defs.specs.Sums.{Sums, sums_of, due, live_capacity, live_occupied, unpaid, burned}
use Rattle.supply_defs.specs.Step.{last_field, step_of, MovesBy}

-- ---- The two balances

-- What was issued, by the DAO field, less what is saved, in live cells, unpaid or burned.
unfoldable pub supply_balance : Specification → List Block → ℤ
supply_balance spec branch =
    pos (last_field branch).issued -ℤ pos (last_field branch).savings -ℤ pos (live_capacity branch) -ℤ pos (unpaid spec branch) -ℤ pos (burned spec branch)

-- What live cells occupy by the DAO field, less what they do.
unfoldable pub occupied_balance : List Block → ℤ
occupied_balance branch = pos (last_field branch).occupied -ℤ pos (live_occupied branch)

-- ---- The laws

-- Law: on each branch what was issued is saved, in live cells, unpaid or burned, but for what the genesis itself has amiss.
abbrev pub NothingIsLost : Type 0
NothingIsLost = (chain : Chain) (place : ℕ) → IsJoined chain → IsTrue (keeps_s3 chain.spec.w_close chain.spec.w_far) → place < length chain.blocks
    → supply_balance chain.spec (branch chain.blocks place) ≡ supply_balance chain.spec (branch chain.blocks 0)

-- Law: so it is with what live cells occupy.
abbrev pub OccupiedStays : Type 0
OccupiedStays = (chain : Chain) (place : ℕ) → IsJoined chain → place < length chain.blocks
    → occupied_balance (branch chain.blocks place) ≡ occupied_balance (branch chain.blocks 0)

-- What a block is to the branch of its parent: one block more, of its height; it moves the sums by its step; and what its cellbase is to pay fits 64 bits.
pub record StepsOn (spec : Specification) (on : List Block) (b : Block) (after : List Block) : Type 0 where
  pub height : length on ≡ b.header.number
  pub grown : length after ≡ length on + 1
  pub payable : due spec on < 2 ^ 64
  pub moves : MovesBy (step_of spec on b) (sums_of spec on) (sums_of spec after)

-- Law: so it is with each block after the genesis.
abbrev pub BlocksStep : Type 0
BlocksStep = (chain : Chain) (place parent : ℕ) (b : Block) → IsJoined chain → IsTrue (keeps_s3 chain.spec.w_close chain.spec.w_far) → 0 < place
    → block_at chain.blocks place ≡ Some b → parent_place chain.blocks place ≡ Some parent
    → StepsOn chain.spec (branch chain.blocks parent) b (branch chain.blocks place)

-- Law: at the genesis, where it keeps its rules, the live cells are all its outputs, and nothing is unpaid or burned.
abbrev pub StartsWithItsOutputs : Type 0
StartsWithItsOutputs = (spec : Specification) (genesis : Block) → first_failing (genesis_rules genesis) ≡ None
    → sums_of spec (genesis ∷ [])
    ≡ record { live = sum_by held_out genesis.transactions; occupied = sum_by made_by genesis.transactions; unpaid = 0; burned = 0 }

-- each of the four is below 2^120
pub record AreSmall (sums : Sums) : Type 0 where
  pub live : sums.live < 2 ^ 120
  pub occupied : sums.occupied < 2 ^ 120
  pub unpaid : sums.unpaid < 2 ^ 120
  pub burned : sums.burned < 2 ^ 120

-- Law: so they are along each branch of canonical blocks, since what was issued fits 64 bits.
abbrev pub SumsAreSmall : Type 0
SumsAreSmall = (chain : Chain) (place : ℕ) → IsJoined chain → IsTrue (keeps_s3 chain.spec.w_close chain.spec.w_far) → AreCanonical chain.blocks
    → place < length chain.blocks → AreSmall (sums_of chain.spec (branch chain.blocks place))

-- Law: so they are at a canonical genesis that keeps its rules, under any specification.
abbrev pub StartsSmall : Type 0
StartsSmall = (spec : Specification) (genesis : Block) → first_failing (genesis_rules genesis) ≡ None → IsCanonical genesis → AreSmall (sums_of spec (genesis ∷ []))
