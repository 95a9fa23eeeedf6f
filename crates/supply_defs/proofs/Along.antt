-- Each block moves the sums by its step, and so the two balances stay along a branch.
use Rattle.std.proofs.Common.{◌≡◌, ℕ, zero, suc, ◌+◌, ◌-◌, ◌<◌, ℤ, pos, ◌-ℤ◌, List, [], ◌∷◌, ◌++◌, length, take, drop, Option, Some, None, refl, sym, ap, ◌∙◌, subst, arith}
use Rattle.std.specs.Prelude.{IsTrue}
use Rattle.std.specs.Option.{option_and_then}
use Rattle.std.specs.List.{sum_by}
use Rattle.std.proofs.lemmas.Int.{ints}
use Rattle.std.proofs.lemmas.List.{length_push}
use Rattle.std.proofs.lemmas.Option.{slice_get_within, same_Some}
use Rattle.chain_defs.specs.Schema.{Block}
use Rattle.chain_defs.specs.Specification.{Specification, keeps_s3}
use Rattle.chain_defs.specs.Dao.{DaoField, field_of_bytes, miner_part}
use Rattle.chain_defs.specs.Kept.{block_at, place_of}
use Rattle.chain_defs.specs.Branch.{branch}
use Rattle.chain_defs.proofs.KeptLaws.{slice_get-below, slice_get-push}
use Rattle.chain_defs.proofs.BranchLaws.{IsBranch-branch}
use Rattle.rule_defs.specs.Shares.{primary_at, secondary_at}
use Rattle.rule_defs.specs.Field.{made_by, freed_from, interest_from, movement}
use Rattle.rule_defs.specs.Reward.{dao_of, field_at}
use Rattle.verdict_defs.specs.Chain.{Chain}
use Rattle.verdict_defs.specs.Rules.{first_broken}
use Rattle.store_defs.specs.Store.{IsJoined}
use Rattle.store_defs.proofs.JoinedLemmas.{is_kept_of_joined}
use Rattle.store_defs.proofs.KeptLemmas.{Grows, grows}
use Rattle.store_defs.proofs.HeaderLaws.{numbers-are-heights}
use Rattle.store_defs.proofs.RuleLemmas.{alone-good, reward-unbroken, dao-unbroken}
use Rattle.supply_defs.specs.Sums.{live_capacity, live_occupied, unpaid, burned, sums_of}
use Rattle.supply_defs.specs.Step.{last_field, fees_of, paid_by, step_of, MovesBy}
use Rattle.supply_defs.specs.Laws.{supply_balance, occupied_balance, NothingIsLost, OccupiedStays, StepsOn, BlocksStep}
use Rattle.supply_defs.proofs.Blocks.{live-moves-by}
use Rattle.supply_defs.proofs.Fields.{field-follows}
use Rattle.supply_defs.proofs.Unpaid.{ProposesNothing, genesis-proposes-nothing, unpaid-moves}
use Rattle.supply_defs.proofs.Burned.{burned-moves, due-fits}

-- ---- One block

-- What a block stands on that joined: a branch with a genesis that proposes nothing, on which it breaks no rule.
pub record StandsWell (spec : Specification) (on : List Block) (b : Block) : Type 0 where
  pub unbroken : first_broken spec on b ≡ None
  pub above : 0 < length on
  pub nothing : ProposesNothing on

-- the fields of a block and its parent, by what it moves
record FieldMoves (spec : Specification) (on : List Block) (b : Block) : Type 0 where
  issued : (field_of_bytes b.header.dao).issued ≡ (last_field on).issued + primary_at spec (length on) + secondary_at spec (length on)
  savings : pos (field_of_bytes b.header.dao).savings ≡ pos ((last_field on).savings + secondary_at spec (length on))
      -ℤ pos (miner_part (last_field on) (secondary_at spec (length on))) -ℤ interest_from spec on b 1 (drop 1 b.transactions)
  occupied : pos (field_of_bytes b.header.dao).occupied ≡ pos ((last_field on).occupied + sum_by made_by b.transactions)
      -ℤ pos (freed_from spec on b 1 (drop 1 b.transactions))

field-moves : (spec : Specification) (on : List Block) (b : Block) → first_broken spec on b ≡ None → FieldMoves spec on b
unfolding movement
field-moves spec on b unbroken =
    let next = field-follows spec on b (dao-unbroken spec on b unbroken) in
    record { issued = next.issued; savings = next.savings; occupied = next.occupied }

occupied-moves : (spec : Specification) (on : List Block) (b : Block) → 0 < length on → first_broken spec on b ≡ None
    → live_occupied (on ++ b ∷ []) + (last_field on).occupied ≡ live_occupied on + (field_of_bytes b.header.dao).occupied
occupied-moves spec on b above unbroken =
    let field = (field-moves spec on b unbroken).occupied in
    let live = (live-moves-by spec on b above unbroken).occupied in
    omega (arith, ints, field, live)

live-step : (spec : Specification) (on : List Block) (b : Block) → 0 < length on → first_broken spec on b ≡ None
    → live_capacity (on ++ b ∷ []) + (fees_of spec on b + (field_of_bytes b.header.dao).savings + miner_part (last_field on) (secondary_at spec (length on)))
    ≡ live_capacity on + (paid_by b + (last_field on).savings + secondary_at spec (length on))
live-step spec on b above unbroken =
    let field = (field-moves spec on b unbroken).savings in
    let live = (live-moves-by spec on b above unbroken).capacity in
    omega (arith, ints, field, live)

moves-by-step : (spec : Specification) (on : List Block) (b : Block) → IsTrue (keeps_s3 spec.w_close spec.w_far) → StandsWell spec on b
    → MovesBy (step_of spec on b) (sums_of spec on) (sums_of spec (on ++ b ∷ []))
unfolding step_of
moves-by-step spec on b keeps stands = record {
  live = live-step spec on b stands.above stands.unbroken;
  occupied = occupied-moves spec on b stands.above stands.unbroken;
  unpaid = unpaid-moves spec on b keeps stands.nothing stands.above stands.unbroken;
  burned = burned-moves spec on b keeps (reward-unbroken spec on b stands.unbroken);
}

-- ---- A block of a chain that has joined

starts-well : (chain : Chain) (place : ℕ) → IsJoined chain → place < length chain.blocks → (0 < length (branch chain.blocks place)) × ProposesNothing (branch chain.blocks place)
starts-well chain place joined below =
    let is = IsBranch-branch chain.blocks place (is_kept_of_joined chain joined) below in
    let first : block_at (branch chain.blocks place) 0 ≡ Some joined.genesis = is.first ∙ joined.first in (
      slice_get_within (branch chain.blocks place) 0 joined.genesis first,
      genesis-proposes-nothing (branch chain.blocks place) joined.genesis first (alone-good joined.genesis joined.good),
    )

stands-well : (chain : Chain) (place : ℕ) (b : Block) (joined : IsJoined chain) → place < length chain.blocks → (its : Grows chain place b)
    → StandsWell chain.spec (branch chain.blocks its.may.parent) b
stands-well chain place b joined below its =
    let under = its.below in
    let start = starts-well chain its.may.parent joined (omega (arith, under, below)) in
    record {
      unbroken = ap (λ (on : List Block). first_broken chain.spec on b) (sym its.on) ∙ its.may.unbroken;
      above = start.0;
      nothing = start.1;
    }

-- its branch is that of its parent and the block
steps-on : (chain : Chain) (place : ℕ) (b : Block) → IsJoined chain → IsTrue (keeps_s3 chain.spec.w_close chain.spec.w_far) → place < length chain.blocks
    → (on : List Block) → branch chain.blocks place ≡ on ++ b ∷ [] → StandsWell chain.spec on b → StepsOn chain.spec on b (branch chain.blocks place)
steps-on chain place b joined keeps below on grown stands = record {
  height = sym (numbers-are-heights chain place (length on) b joined below (ap (λ (blocks : List Block). block_at blocks (length on)) grown ∙ slice_get-push on b));
  grown = ap length grown ∙ length_push on b;
  payable = due-fits chain.spec on b (reward-unbroken chain.spec on b stands.unbroken);
  moves = subst (λ (after : List Block). MovesBy (step_of chain.spec on b) (sums_of chain.spec on) (sums_of chain.spec after)) (sym grown)
      (moves-by-step chain.spec on b keeps stands);
}

pub blocks-step : BlocksStep
blocks-step chain place parent b joined keeps above there found =
    subst (λ (up : ℕ). StepsOn chain.spec (branch chain.blocks up) b (branch chain.blocks place)) same
    (steps-on chain place b joined keeps below (branch chain.blocks its.may.parent) its.grown (stands-well chain place b joined below its))
  where
    below : place < length chain.blocks
    below = slice_get_within chain.blocks place b there

    its : Grows chain place b
    its = grows chain place b joined above there

    same : its.may.parent ≡ parent
    same = same_Some its.may.parent parent
        (sym its.may.on_kept ∙ ap (option_and_then (λ (x : Block). place_of (take place chain.blocks) x.header.parent_hash)) (sym there) ∙ found)

-- ---- Along a branch

last-pushed : (on : List Block) (b : Block) → last_field (on ++ b ∷ []) ≡ field_of_bytes b.header.dao
last-pushed on b =
    let long = length_push on b in
    let at : length (on ++ b ∷ []) - 1 ≡ length on = omega (arith, long) in
    ap (field_at (on ++ b ∷ [])) at ∙ ap (λ (found : Option Block). field_of_bytes (dao_of found)) (slice_get-push on b)

supply-stays : (spec : Specification) (on : List Block) (b : Block) → IsTrue (keeps_s3 spec.w_close spec.w_far) → StandsWell spec on b
    → supply_balance spec (on ++ b ∷ []) ≡ supply_balance spec on
unfolding supply_balance
supply-stays spec on b keeps stands =
    let issued : (last_field (on ++ b ∷ [])).issued ≡ (last_field on).issued + primary_at spec (length on) + secondary_at spec (length on) =
    ap (λ (f : DaoField). f.issued) (last-pushed on b) ∙ (field-moves spec on b stands.unbroken).issued in
    let savings : (last_field (on ++ b ∷ [])).savings ≡ (field_of_bytes b.header.dao).savings = ap (λ (f : DaoField). f.savings) (last-pushed on b) in
    let live = live-step spec on b stands.above stands.unbroken in
    let given = unpaid-moves spec on b keeps stands.nothing stands.above stands.unbroken in
    let lost = burned-moves spec on b keeps (reward-unbroken spec on b stands.unbroken) in
    omega (arith, ints, issued, savings, live, given, lost)

occupied-stays-by : (spec : Specification) (on : List Block) (b : Block) → StandsWell spec on b → occupied_balance (on ++ b ∷ []) ≡ occupied_balance on
unfolding occupied_balance
occupied-stays-by spec on b stands =
    let field : (last_field (on ++ b ∷ [])).occupied ≡ (field_of_bytes b.header.dao).occupied = ap (λ (f : DaoField). f.occupied) (last-pushed on b) in
    let live = occupied-moves spec on b stands.above stands.unbroken in
    omega (arith, ints, field, live)

-- what each block keeps, a branch keeps
pub along : (chain : Chain) → IsJoined chain → (value : List Block → ℤ) → ((on : List Block) (b : Block) → StandsWell chain.spec on b → value (on ++ b ∷ []) ≡ value on)
    → (most place : ℕ) → place < most → place < length chain.blocks → value (branch chain.blocks place) ≡ value (branch chain.blocks 0)
along chain joined value stays zero place few below = absurd (omega (arith, few))
along chain joined value stays (suc most) zero few below = refl
along chain joined value stays (suc most) (suc before) few below =
    let here = slice_get-below chain.blocks (suc before) below in
    let its : Grows chain (suc before) here.0 = grows chain (suc before) here.0 joined (omega arith) here.1 in
    let under = its.below in
    ap value its.grown ∙ stays (branch chain.blocks its.may.parent) here.0 (stands-well chain (suc before) here.0 joined below its)
    ∙ along chain joined value stays most its.may.parent (omega (arith, under, few)) (omega (arith, under, below))

pub nothing-is-lost : NothingIsLost
nothing-is-lost chain place joined keeps below =
    along chain joined (supply_balance chain.spec) (λ on b stands. supply-stays chain.spec on b keeps stands) (suc place) place (omega arith) below

pub occupied-stays : OccupiedStays
occupied-stays chain place joined below =
    along chain joined occupied_balance (λ on b stands. occupied-stays-by chain.spec on b stands) (suc place) place (omega arith) below
