-- What a step leads to.
use Rattle.std.proofs.Common.{◌≡◌, ℕ, ◌+◌, ◌^◌, ◌<◌, List, length, Option, Some, refl, sym, subst, ◌∙◌, arith}
use Rattle.std.specs.Prelude.{IsTrue}
use Rattle.std.proofs.lemmas.Option.{slice_get_within}
use Rattle.chain_defs.specs.Schema.{Block}
use Rattle.chain_defs.specs.Specification.{Specification, keeps_s3}
use Rattle.chain_defs.specs.Dao.{DaoField, field_of_bytes, miner_part}
use Rattle.chain_defs.specs.Kept.{block_at, parent_place}
use Rattle.chain_defs.specs.Branch.{branch}
use Rattle.chain_defs.proofs.BranchLaws.{parent_place-below}
use Rattle.chain_tree.specs.declared.entry.Entry.{Entry}
use Rattle.chain_tree.specs.Entries.{entry_at}
use Rattle.chain_tree.specs.Told.{Stored, blocks_of}
use Rattle.supply_defs.specs.Sums.{Sums, sums_of, due}
use Rattle.rule_defs.specs.Shares.{primary_at, secondary_at}
use Rattle.rewards.proofs.ReadLemmas.{tells_still}
use Rattle.supply_defs.specs.Step.{Change, Step, Moves, MovesBy, last_field, fees_of, paid_by, step_by, step_of}
use Rattle.supply_defs.specs.Laws.{StepsOn, AreSmall}
use Rattle.supply_defs.proofs.Along.{blocks-step}
use Rattle.supply_defs.proofs.Small.{sums-are-small}
use Rattle.supply.specs.declared.totals.Totals.{Totals}
use Rattle.supply.specs.Moving.{change_back, step_back}
use Rattle.supply.specs.Standing.{sums_in, AreTotalsOf, AreBounded, HaveJoined}
use Rattle.supply.proofs.KeptLemmas.{describes}

abbrev pub totals_at : ℕ → Sums → Totals
totals_at height sums = record { height = height; live = sums.live; occupied = sums.occupied; unpaid = sums.unpaid; burned = sums.burned }

-- What a block leads to from the branch of its parent, by the law.
pub record Leads (spec : Specification) (on after : List Block) (b : Block) (number : ℕ) : Type 0 where
  pub moves : MovesBy (step_of spec on b) (sums_of spec on) (sums_of spec after)
  pub height : number ≡ length on
  pub grown : number + 1 ≡ length after
  pub payable : due spec on < 2 ^ 64
  pub miner : miner_part (last_field on) (secondary_at spec (length on)) < 2 ^ 121
  pub small_before : AreSmall (sums_of spec on)
  pub small_after : AreSmall (sums_of spec after)

-- the miner's part is unpaid
miner-small : (spec : Specification) (on : List Block) (b : Block) (before after : Sums) → MovesBy (step_of spec on b) before after → AreSmall after → due spec on < 2 ^ 64
    → miner_part (last_field on) (secondary_at spec (length on)) < 2 ^ 121
unfolding step_of
miner-small spec on b before after moves small payable =
    let unpaid = moves.unpaid in
    let fits = small.unpaid in
    omega (arith, unpaid, fits, payable)

pub leads : (spec : Specification) (told : Option (List Stored)) (entries : List Entry) (stored : List Stored) (place parent : ℕ) (entry : Entry) (b : Block)
    → HaveJoined spec told entries stored → IsTrue (keeps_s3 spec.w_close spec.w_far) → 0 < place → entry_at entries place ≡ Some entry
    → block_at (blocks_of stored) place ≡ Some b → parent_place (blocks_of stored) place ≡ Some parent
    → Leads spec (branch (blocks_of stored) parent) (branch (blocks_of stored) place) b entry.number
leads spec told entries stored place parent entry b have keeps later here there on =
    let law : StepsOn spec (branch (blocks_of stored) parent) b (branch (blocks_of stored) place) =
    blocks-step (record { spec = spec; blocks = blocks_of stored }) place parent b have.joined keeps later there on in
    let within : place < length (blocks_of stored) = slice_get_within (blocks_of stored) place b there in
    let earlier : parent < place = parent_place-below (blocks_of stored) place parent on in
    let number : entry.number ≡ b.header.number = (describes (blocks_of stored) entries place entry b have.known.indexes here there).number in
    let small : AreSmall (sums_of spec (branch (blocks_of stored) place)) =
    sums-are-small (record { spec = spec; blocks = blocks_of stored }) place have.joined keeps have.canonical within in
    let long = law.height in
    let grown = law.grown in
    record {
      moves = law.moves;
      height = number ∙ sym long;
      grown = omega (arith, number, long, grown);
      payable = law.payable;
      miner = miner-small spec (branch (blocks_of stored) parent) b (sums_of spec (branch (blocks_of stored) parent)) (sums_of spec (branch (blocks_of stored) place))
          law.moves small law.payable;
      small_before = sums-are-small (record { spec = spec; blocks = blocks_of stored }) parent have.joined keeps have.canonical (omega (arith, earlier, within));
      small_after = small;
    }

-- ---- A step by its numbers

pub step-is : (spec : Specification) (on : List Block) (b : Block) (before after : DaoField) (primary secondary fees paid owed : ℕ) → last_field on ≡ before
    → field_of_bytes b.header.dao ≡ after → primary ≡ primary_at spec (length on) → secondary ≡ secondary_at spec (length on) → ◌≡◌ {A = ℕ × ℕ} (fees, paid) (fees_of spec on b, paid_by b)
    → owed ≡ due spec on → step_by before after primary secondary fees paid owed ≡ step_of spec on b
unfolding step_of
step-is spec on b before after primary secondary fees paid owed field next first second flows owes =
    (λ i. step_by (sym field i) (sym next i) (first i) (second i) (flows i).0 (flows i).1 (owes i))

-- it tells the same after reading
pub joined-still : {spec : Specification} {told now : Option (List Stored)} {entries : List Entry} {stored : List Stored} → now ≡ told
    → HaveJoined spec told entries stored → HaveJoined spec now entries stored
joined-still same have = record { known = tells_still same have.known; joined = have.joined; canonical = have.canonical }

-- ---- A step is made

small-bounded : (height : ℕ) (sums : Sums) → AreSmall sums → AreBounded (totals_at height sums)
small-bounded height sums small =
    let live = small.live in
    let occupied = small.occupied in
    let unpaid = small.unpaid in
    let burned = small.burned in
    record { live = omega (arith, live); occupied = omega (arith, occupied); unpaid = omega (arith, unpaid); burned = omega (arith, burned) }

-- where a step leads from totals to small sums, it is made to them
pub reached : (found : Option Totals) (step : Step) (before after : Sums) (old : Totals) (height : ℕ)
    → ((totals : Totals) → MovesBy step (sums_in old) (sums_in totals) → totals.height ≡ height → AreBounded totals → found ≡ Some totals)
    → sums_in old ≡ before → MovesBy step before after → AreSmall after → found ≡ Some (totals_at height after)
reached found step before after old height made same moves small =
    made (totals_at height after) (subst (λ (sums : Sums). MovesBy step sums after) (sym same) moves) refl (small-bounded height after small)

pub stands : (spec : Specification) (branch : List Block) (height : ℕ) → height + 1 ≡ length branch → AreTotalsOf spec branch (totals_at height (sums_of spec branch))
stands spec branch height long = record { height = long; sums = refl }

-- ---- And taken back

moves-back : (change : Change) (before after : ℕ) → Moves change before after → Moves (change_back change) after before
moves-back change before after moves = sym moves

pub back : (step : Step) (before after : Sums) → MovesBy step before after → MovesBy (step_back step) after before
back step before after moves = record {
  live = moves-back step.live before.live after.live moves.live;
  occupied = moves-back step.occupied before.occupied after.occupied moves.occupied;
  unpaid = moves-back step.unpaid before.unpaid after.unpaid moves.unpaid;
  burned = moves-back step.burned before.burned after.burned moves.burned;
}
