-- The DAO field of a chain: what was issued never falls, and up to 20,000 blocks no number leaves u64.
use Rattle.std.proofs.Common.{◌≡◌, ℕ, zero, suc, ◌+◌, ◌-◌, ◌*◌, ◌/◌, ◌^◌, ◌<◌, ◌≤◌, ℤ, pos, Bool, true, false, Option, Some, None, refl, sym, ap, subst, ◌∙◌, arith, add-mul}
use Rattle.std.specs.Prelude.{unwrap_or, ◌-ℤ◌, nat_abs, if◌then◌else◌}
use Rattle.std.proofs.Math.Nat.{mul-le-mul}
use Rattle.std.proofs.Math.IntN.{pos-+ℤ-pos, +ℤ-neg_ℤ_cancel}
use Rattle.std.proofs.lemmas.Bool.{and_from}
use Rattle.std.proofs.lemmas.Bool.Decides.{Decides-ltb}
use Rattle.std.proofs.lemmas.Nat.{div_below}
use Rattle.chain_defs.specs.Dao.{DaoField, Movement, fits_u64, miner_part, next_issued, next_rate, next_savings, next_occupied, next_field}
use Rattle.rule_defs.proofs.DaoLaws.{is-next, rates-never-fall}
use Rattle.gen_defs.specs.Start.{genesis_field, coin_capacity, lock}
use Rattle.gen_defs.specs.Heights.{commits, pays, count_if, plain_cell, field_after, movement_at}
use Rattle.gen_defs.specs.Laws.{FieldsAreNext}
use Rattle.gen_defs.proofs.Numbers.{part_below, primary_bound, secondary_bound}

-- ---- What was issued

issued-kept : (least : ℕ) (old : DaoField) (move : Movement) (found : Option DaoField) → next_field old move ≡ found → least ≤ old.issued
    → least ≤ (unwrap_or found old).issued
issued-kept least old move None is bound = bound
issued-kept least old move (Some new) is bound = omega (arith, bound, (rates-never-fall old move new is).0)

at_genesis : coin_capacity ≤ genesis_field.issued
unfolding genesis_field
at_genesis = omega arith

pub issued-bound : (height : ℕ) → coin_capacity ≤ (field_after height).issued
unfolding field_after
issued-bound zero = at_genesis
issued-bound (suc before) = issued-kept coin_capacity (field_after before) (movement_at (suc before)) _ refl (issued-bound before)

-- ---- What cells occupy

occupied-kept : (old : DaoField) (move : Movement) (found : Option DaoField) → next_field old move ≡ found → old.occupied < 2 ^ 64
    → (unwrap_or found old).occupied < 2 ^ 64
occupied-kept old move None is fits = fits
occupied-kept old move (Some new) is _ = (is-next old move new is).occupied_fits

genesis_fits : genesis_field.occupied < 2 ^ 64
unfolding genesis_field
genesis_fits = omega arith

pub occupied-fits : (height : ℕ) → (field_after height).occupied < 2 ^ 64
unfolding field_after
occupied-fits zero = genesis_fits
occupied-fits (suc before) = occupied-kept (field_after before) (movement_at (suc before)) _ refl (occupied-fits before)

-- ---- A next field, where its four numbers fit

difference : (a b : ℕ) → b ≤ a → pos a -ℤ pos b ≡ pos (a - b)
difference a b le =
    let whole : a ≡ a - b + b = omega (arith, le) in
    ap (λ (n : ℕ). pos n -ℤ pos b) whole ∙ ap (λ (z : ℤ). z -ℤ pos b) (sym (pos-+ℤ-pos (a - b) b)) ∙ +ℤ-neg_ℤ_cancel (pos (a - b)) (pos b)

fits : (z : ℤ) (n : ℕ) → z ≡ pos n → n < 2 ^ 64 → fits_u64 z ≡ true
fits z n is below = ap fits_u64 is ∙ (Decides-ltb n (2 ^ 64)).1 below

chosen : {A : Type 0} (test : Bool) (a : A) → test ≡ true → (if test then Some a else None) ≡ Some a
chosen true a is = refl
chosen false a is = absurd (cc)

-- a field whose numbers are these, and fit
pub record HasNext (old : DaoField) (move : Movement) (savings occupied : ℕ) : Type 0 where
  pub issued_fits : next_issued old move < 2 ^ 64
  pub rate_fits : next_rate old move < 2 ^ 64
  pub savings_is : next_savings old move ≡ pos savings
  pub savings_fit : savings < 2 ^ 64
  pub occupied_is : next_occupied old move ≡ pos occupied
  pub occupied_fit : occupied < 2 ^ 64

abbrev next_of : DaoField → Movement → ℕ → ℕ → DaoField
next_of old move savings occupied = record { issued = next_issued old move; rate = next_rate old move; savings = savings; occupied = occupied }

next_there : (old : DaoField) (move : Movement) (savings occupied : ℕ) → HasNext old move savings occupied → next_field old move ≡ Some (next_of old move savings occupied)
unfolding next_field
next_there old move savings occupied has =
    let issued = fits (pos (next_issued old move)) (next_issued old move) refl has.issued_fits in
    let rate = fits (pos (next_rate old move)) (next_rate old move) refl has.rate_fits in
    let left = fits (next_savings old move) savings has.savings_is has.savings_fit in
    let held = fits (next_occupied old move) occupied has.occupied_is has.occupied_fit in
    let all = and_from _ _ (and_from _ _ (and_from _ _ issued rate) left) held in
    chosen _ _ all
    ∙ ap (λ (n : ℕ). Some (next_of old move n (nat_abs (next_occupied old move)))) (ap nat_abs has.savings_is)
    ∙ ap (λ (n : ℕ). Some (next_of old move savings n)) (ap nat_abs has.occupied_is)

-- ---- The fields of a chain

-- what a block moves at most
record MovesLittle (move : Movement) : Type 0 where
  primary : move.primary ≤ 100000000001
  secondary : move.secondary ≤ 10000000001
  interest : move.interest ≡ pos 0
  freed : move.freed ≤ move.made
  made : move.made ≤ move.freed + 8200000000

plain_cell_is : plain_cell ≡ 4100000000
unfolding plain_cell lock
plain_cell_is = refl

count_bound : (there : Bool) → count_if there ≤ 1
count_bound true = omega arith
count_bound false = omega arith

made_parts : (paid committed cell : ℕ) → paid ≤ 1 → cell ≡ 4100000000 → (committed * cell ≤ (paid + committed) * cell) × ((paid + committed) * cell ≤ committed * cell + 8200000000)
made_parts paid committed cell paid_bound is =
    let parts : (paid + committed) * cell ≡ paid * cell + committed * cell = add-mul paid committed cell in
    let one : paid * cell ≤ 1 * cell = mul-le-mul {n₁ = paid} {m₁ = cell} {n₂ = 1} {m₂ = cell} paid_bound (omega arith) in
    (omega (arith, parts), omega (arith, parts, one, is))

moves-little : (height : ℕ) → MovesLittle (movement_at height)
unfolding movement_at
moves-little height =
    let made = made_parts (count_if (pays height)) (count_if (commits height)) plain_cell (count_bound (pays height)) plain_cell_is in
    record { primary = primary_bound height; secondary = secondary_bound height; interest = refl; freed = made.0; made = made.1 }

-- how large a field is after so many blocks, at most
pub record Small (height : ℕ) (field : DaoField) : Type 0 where
  pub least : coin_capacity ≤ field.issued
  pub issued : field.issued ≤ 1000017300000000 + height * 200000000000
  pub rate : field.rate ≤ 10000000000000000 + height * 300000000000
  pub savings : field.savings ≤ height * 20000000000
  pub occupied : field.occupied ≤ 21400000000 + height * 8200000000

miner-bound : (s u c : ℕ) → 0 < c → u ≤ c → s * u / c ≤ s
miner-bound s u c above le =
    let product : s * u ≤ s * c = mul-le-mul {n₁ = s} {m₁ = u} {n₂ = s} {m₂ = c} (omega arith) le in
    let more : (s + 1) * c ≡ s * c + 1 * c = add-mul s 1 c in
    let below = div_below (s * u) c (s + 1) above (omega (arith, product, more, above)) in
    omega (arith, below)

-- one block more
record Next (height : ℕ) (old : DaoField) (move : Movement) : Type 0 where
  new : DaoField
  is : next_field old move ≡ Some new
  small : Small (suc height) new

next_small : (height : ℕ) (old : DaoField) (move : Movement) → height < 20000 → Small height old → MovesLittle move → Next height old move
next_small height old move few small moves =
    let growth : old.rate * move.secondary / old.issued < 300000000000 =
    part_below 16000000000000000 10000000001 (10 ^ 15) 300000000000 (omega (arith, small.rate, few)) moves.secondary small.least (omega arith) (omega arith) in
    let miner : miner_part old move.secondary ≤ move.secondary =
    miner-bound move.secondary old.occupied old.issued (omega (arith, small.least)) (omega (arith, small.least, small.occupied, few)) in
    let savings : ℕ = old.savings + move.secondary - miner_part old move.secondary in
    let occupied : ℕ = old.occupied + move.made - move.freed in
    let savings_is : next_savings old move ≡ pos savings =
    ap (λ (z : ℤ). pos (old.savings + move.secondary) -ℤ pos (miner_part old move.secondary) -ℤ z) moves.interest
    ∙ ap (λ (z : ℤ). z -ℤ pos 0) (difference (old.savings + move.secondary) (miner_part old move.secondary) (omega (arith, miner)))
    ∙ difference savings 0 (omega arith) ∙ ap pos (omega arith) in
    let occupied_is : next_occupied old move ≡ pos occupied = difference (old.occupied + move.made) move.freed (omega (arith, moves.freed)) in
    let has : HasNext old move savings occupied = record {
      issued_fits = omega (arith, small.issued, moves.primary, moves.secondary, few);
      rate_fits = omega (arith, small.rate, growth, few);
      savings_is = savings_is;
      savings_fit = omega (arith, small.savings, moves.secondary, few);
      occupied_is = occupied_is;
      occupied_fit = omega (arith, small.occupied, moves.made, moves.freed, few);
    } in
    record {
      new = next_of old move savings occupied;
      is = next_there old move savings occupied has;
      small = record {
        least = omega (arith, small.least);
        issued = omega (arith, small.issued, moves.primary, moves.secondary);
        rate = omega (arith, small.rate, growth);
        savings = omega (arith, small.savings, moves.secondary);
        occupied = omega (arith, small.occupied, moves.made, moves.freed);
      };
    }

genesis_small : Small 0 genesis_field
unfolding genesis_field
genesis_small = record { least = omega arith; issued = omega arith; rate = omega arith; savings = omega arith; occupied = omega arith }

-- the field after a block is the one that is there
found_is : (old new : DaoField) (move : Movement) → next_field old move ≡ Some new → unwrap_or (next_field old move) old ≡ new
found_is old new move is = ap (λ (found : Option DaoField). unwrap_or found old) is

pub small_after : (height : ℕ) → height ≤ 20000 → Small height (field_after height)
unfolding field_after
small_after zero few = genesis_small
small_after (suc height) few =
    let next = next_small height (field_after height) (movement_at (suc height)) (omega (arith, few)) (small_after height (omega (arith, few))) (moves-little (suc height)) in
    subst (Small (suc height)) (sym (found_is (field_after height) next.new (movement_at (suc height)) next.is)) next.small

pub fields-are-next : FieldsAreNext
unfolding field_after
fields-are-next height few =
    let next = next_small height (field_after height) (movement_at (suc height)) (omega (arith, few)) (small_after height (omega (arith, few))) (moves-little (suc height)) in
    next.is ∙ ap Some (sym (found_is (field_after height) next.new (movement_at (suc height)) next.is))
