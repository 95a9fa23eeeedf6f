-- The DAO field of the next block, by the chain's rules.
use Rattle.std.proofs.Common.{◌≡◌, ℕ, suc, ◌+◌, ◌-◌, ◌*◌, ◌<◌, ◌≤◌, ℤ, pos, Bool, true, false, List, [], ◌∷◌, length, map, drop, Option, Some, refl, sym, ap, subst, ◌∙◌, arith, add-mul}
use Rattle.std.specs.Prelude.{IsTrue, if◌then◌else◌}
use Rattle.std.specs.List.{sum_by}
use Rattle.std.proofs.lemmas.Slice.Eq.{bytes_eq-Decides}
use Rattle.chain_defs.specs.Shape.{encoded}
use Rattle.chain_defs.specs.Schema.{CellOutput, Transaction, Block, cellbase_witness}
use Rattle.chain_defs.specs.Dao.{DaoField, Movement, field_bytes, field_of_bytes, next_field}
use Rattle.chain_defs.proofs.FieldBytes.{field_of_bytes-field_bytes}
use Rattle.rule_defs.specs.Shares.{primary_at, secondary_at}
use Rattle.rule_defs.specs.Reward.{field_at}
use Rattle.rule_defs.specs.Field.{made_by, freed_from, movement, next_dao}
use Rattle.rule_defs.specs.RewardRules.{are_bytes_of, has_next_dao}
use Rattle.gen_defs.specs.Start.{specification, lock, output_of, cellbase_input}
use Rattle.gen_defs.specs.Heights.{Coin, pays, commits, count_if, plain_cell, transfer, coin_after, cellbase, transactions_at, field_after, movement_at, reward_of}
use Rattle.gen_defs.specs.Paid.{PaysItsTransfers}
use Rattle.gen_defs.proofs.FieldLemmas.{small_after, fields-are-next}
use Rattle.gen_defs.specs.GenesisLaws.{IsNext, SpendsTheCoin, HasItsField}

-- ---- What a block's cells occupy

made_by_transfer : (coin : Coin) → made_by (transfer coin) ≡ plain_cell
unfolding made_by transfer plain_cell lock
made_by_transfer coin = refl

-- a cellbase by its outputs
abbrev with_outputs : ℕ → List CellOutput → Transaction
with_outputs height outputs = record {
  raw = record {
    version = 0;
    cell_deps = [];
    header_deps = [];
    inputs = cellbase_input height ∷ [];
    outputs = outputs;
    outputs_data = map (λ output. []) outputs;
  };
  witnesses = encoded cellbase_witness (record { lock = lock; message = [] }) ∷ [];
}

made_by_outputs : (height reward : ℕ) (paid : Bool) → made_by (with_outputs height (if paid then output_of reward ∷ [] else [])) ≡ count_if paid * plain_cell
unfolding made_by plain_cell lock
made_by_outputs height reward true = refl
made_by_outputs height reward false = refl

made_by_cellbase : (height : ℕ) → made_by (cellbase height) ≡ count_if (pays height) * plain_cell
unfolding cellbase
made_by_cellbase height = made_by_outputs height (reward_of (height - 11)) (pays height)

made_is : (height : ℕ) → sum_by made_by (transactions_at height) ≡ (count_if (pays height) + count_if (commits height)) * plain_cell
unfolding transactions_at
made_is height = by_test (commits height)
  where
    by_test : (there : Bool) → sum_by made_by (cellbase height ∷ (if there then transfer (coin_after (height - 1)) ∷ [] else []))
        ≡ (count_if (pays height) + count_if there) * plain_cell
    by_test true =
        let parts : (count_if (pays height) + 1) * plain_cell ≡ count_if (pays height) * plain_cell + 1 * plain_cell = add-mul (count_if (pays height)) 1 plain_cell in
        omega (arith, parts, made_by_cellbase height, made_by_transfer (coin_after (height - 1)))
    by_test false =
        let parts : (count_if (pays height) + 0) * plain_cell ≡ count_if (pays height) * plain_cell + 0 * plain_cell = add-mul (count_if (pays height)) 0 plain_cell in
        omega (arith, parts, made_by_cellbase height)

-- ---- The law

abbrev move : ℕ → ℕ → ℤ → ℕ → ℕ → Movement
move primary secondary interest made freed = record { primary = primary; secondary = secondary; interest = interest; made = made; freed = freed }

movement_is : (branch : List Block) (b : Block) → IsNext branch b → SpendsTheCoin branch b → movement specification branch b ≡ movement_at (length branch)
unfolding movement movement_at
movement_is branch b next spends =
    let primary : ℕ = primary_at specification (length branch) in
    let secondary : ℕ = secondary_at specification (length branch) in
    ap (λ (z : ℤ). move primary secondary z (sum_by made_by b.transactions) (freed_from specification branch b 1 (drop 1 b.transactions))) spends.interest
    ∙ ap (λ (n : ℕ). move primary secondary (pos 0) n (freed_from specification branch b 1 (drop 1 b.transactions)))
    (ap (sum_by made_by) next.transactions ∙ made_is (length branch))
    ∙ ap (λ (n : ℕ). move primary secondary (pos 0) ((count_if (pays (length branch)) + count_if (commits (length branch))) * plain_cell) n) spends.freed

field_is : (branch : List Block) (height : ℕ) → PaysItsTransfers branch → height ≤ 20000 → height < length branch → field_at branch height ≡ field_after height
field_is branch height transfers few within =
    let small = small_after height few in
    ap field_of_bytes (transfers.fields height within)
    ∙ field_of_bytes-field_bytes (field_after height) (omega (arith, small.issued, few)) (omega (arith, small.rate, few)) (omega (arith, small.savings, few))
    (omega (arith, small.occupied, few))

next_is : (branch : List Block) (b : Block) → PaysItsTransfers branch → IsNext branch b → SpendsTheCoin branch b → 1 ≤ length branch → length branch ≤ 20000
    → next_dao specification branch b ≡ Some (field_after (length branch))
unfolding next_dao
next_is branch b transfers next spends above few =
    let place : length branch ≡ suc (length branch - 1) = omega (arith, above) in
    ap (λ (f : DaoField). next_field f (movement specification branch b)) (field_is branch (length branch - 1) transfers (omega (arith, few)) (omega (arith, above)))
    ∙ ap (next_field (field_after (length branch - 1))) (movement_is branch b next spends ∙ ap movement_at place)
    ∙ fields-are-next (length branch - 1) (omega (arith, above, few)) ∙ ap (λ (height : ℕ). Some (field_after height)) (sym place)

pub has-its-field : HasItsField
unfolding has_next_dao
has-its-field branch b transfers next spends above few =
    subst (λ (found : Option DaoField). IsTrue (are_bytes_of found b.header.dao)) (sym (next_is branch b transfers next spends above few))
    ((bytes_eq-Decides b.header.dao (field_bytes (field_after (length branch)))).1 next.dao)
