-- What a cellbase owes, and what that of a height pays.
use Rattle.std.proofs.Common.{◌≡◌, ℕ, zero, suc, ◌+◌, ◌-◌, ◌*◌, ◌/◌, ◌^◌, ◌<◌, ◌≤◌, Bool, true, false, List, [], ◌∷◌, length, Option, Some, refl, sym, ap, subst, ◌∙◌, arith}
use Rattle.std.specs.Prelude.{◌==◌, nat_lt, nat_le, IsTrue, if◌then◌else◌}
use Rattle.std.proofs.lemmas.Bool.{and_from}
use Rattle.std.proofs.lemmas.Bool.Decides.{nat_tests}
use Rattle.std.proofs.lemmas.Slice.Eq.{bytes_eq-Decides}
use Rattle.std.proofs.Math.Nat.{mul-le-mul}
use Rattle.std.proofs.lemmas.Nat.{le-div, div_below, pow_pos}
use Rattle.chain_defs.specs.Shape.{encoded}
use Rattle.chain_defs.specs.Schema.{Script, script, CellOutput, Transaction, Block}
use Rattle.chain_defs.specs.Dao.{miner_part}
use Rattle.chain_defs.specs.Kept.{block_at}
use Rattle.rule_defs.specs.Shares.{primary_at, secondary_at}
use Rattle.rule_defs.specs.Reward.{part}
use Rattle.rule_defs.specs.Payment as payment
use Rattle.rule_defs.specs.Payment.{Owed, NoOutput, Pays, owed_to, owed_after, occupied_with, lock_of, are_owed, is_output_to}
use Rattle.rule_defs.specs.RewardRules.{pays_reward}
use Rattle.gen_defs.specs.Start.{specification, lock, output_of}
use Rattle.gen_defs.specs.Heights.{pays, commits, proposes, count_if, cellbase, cellbase_outputs, transactions_at, field_after, reward_by, reward_of}
use Rattle.gen_defs.proofs.Numbers.{part_below, primary_bound, secondary_bound}
use Rattle.gen_defs.proofs.FieldLemmas.{issued-bound, occupied-fits}
use Rattle.gen_defs.proofs.PaidLemmas.{pays-what-is-given}
use Rattle.gen_defs.specs.GenesisLaws.{PaysWhatIsOwed}

-- ---- How large a reward is

power-bound : (k : ℕ) → k ≤ 2 → 2 ^ k ≤ 4
power-bound zero few = omega arith
power-bound (suc zero) few = omega arith
power-bound (suc (suc zero)) few = omega arith
power-bound (suc (suc (suc k))) few = absurd (omega (arith, few))

quotient-bound : (n d q most : ℕ) → 0 < d → d ≤ most → q * most ≤ n → q ≤ n / d
quotient-bound n d q most above few product =
    let smaller : q * d ≤ q * most = mul-le-mul {n₁ = q} {m₁ = d} {n₂ = q} {m₂ = most} (omega arith) few in
    le-div q n d above (omega (arith, smaller, product))

primary-least : (height : ℕ) → height ≤ 20000 → 25000000000 ≤ primary_at specification height
unfolding specification
primary-least height few =
    let epochs : height / 10 < 2001 = div_below height 10 2001 (omega arith) (omega (arith, few)) in
    let halvings : height / 10 / 1000 < 3 = div_below (height / 10) 1000 3 (omega arith) (omega (arith, epochs)) in
    let whole : 250000000000 ≤ 1000000000000 / 2 ^ (height / 10 / 1000) =
    quotient-bound 1000000000000 (2 ^ (height / 10 / 1000)) 250000000000 4 (pow_pos (height / 10 / 1000)) (power-bound (height / 10 / 1000) (omega (arith, halvings))) (omega arith) in
    let one : 25000000000 ≤ 1000000000000 / 2 ^ (height / 10 / 1000) / 10 =
    le-div 25000000000 (1000000000000 / 2 ^ (height / 10 / 1000)) 10 (omega arith) (omega (arith, whole)) in
    omega (arith, one)

count-bound : (there : Bool) → count_if there ≤ 1
count-bound true = omega arith
count-bound false = omega arith

-- it is a u64, and its output holds what it occupies
reward-within : (height : ℕ) → height ≤ 20000 → (reward_of height < 2 ^ 64) × (occupied_with lock ≤ reward_of height)
unfolding reward_by lock
reward-within height few =
    let miner : miner_part (field_after (height - 1)) (secondary_at specification height) < 2 ^ 50 =
    part_below 10000000001 (2 ^ 64) (10 ^ 15) (2 ^ 50) (secondary_bound height) (omega (arith, occupied-fits (height - 1))) (issued-bound (height - 1)) (omega arith) (omega arith) in
    let committed = count-bound (commits height) in
    let proposed = count-bound (proposes height) in
    (omega (arith, primary_bound height, miner, committed, proposed), omega (arith, primary-least height few))

-- ---- What is owed

abbrev owed_by : ℕ → List Block → Owed
owed_by far branch =
    if nat_le (length branch) (far + 1) then NoOutput
    else owed_to (lock_of (block_at branch (length branch - (far + 1)))) (part specification branch (length branch - (far + 1)))

far_is : specification.w_far ≡ 10
unfolding specification
far_is = refl

owed_is : (branch : List Block) → owed_after specification branch ≡ owed_by 10 branch
unfolding owed_after
owed_is branch = ap (λ (far : ℕ). owed_by far branch) far_is

owed_to_lock : (reward : ℕ) → reward < 2 ^ 64 → occupied_with lock ≤ reward → owed_to (Some lock) reward ≡ Pays lock reward
owed_to_lock reward fits holds = by_tests (nat_lt reward (2 ^ 64)) (nat_le (occupied_with lock) reward) (grind (arith, nat_tests)) (grind (arith, nat_tests))
  where
    by_tests : (fit hold : Bool) → fit ≡ true → hold ≡ true → (if fit then (if hold then Pays lock reward else NoOutput) else payment.Unpayable) ≡ Pays lock reward
    by_tests true true fit hold = refl
    by_tests true false fit hold = absurd (cc)
    by_tests false hold fit _ = absurd (cc)

paid_output : (reward : ℕ) → are_owed (Pays lock reward) (output_of reward ∷ []) ≡ true
paid_output reward =
    let same : (reward == reward) ≡ true = grind (arith, nat_tests) in
    and_from _ _ (and_from _ _ same ((bytes_eq-Decides (encoded script lock) (encoded script lock)).1 refl)) refl

-- ---- The law

outputs_are : (b : Block) (height : ℕ) → b.transactions ≡ transactions_at height → payment.cellbase_outputs b ≡ cellbase_outputs height
unfolding transactions_at cellbase
outputs_are b height is = ap (λ (ts : List Transaction). elim ts [ [] ↦ [] | first ∷ later ↦ first.raw.outputs ]) is

pub pays-what-is-owed : PaysWhatIsOwed
unfolding pays_reward
pays-what-is-owed branch b transfers names next few =
    subst (λ (owed : Owed). IsTrue (are_owed owed (payment.cellbase_outputs b))) (sym (owed_is branch))
    (subst (λ (outputs : List CellOutput). IsTrue (are_owed (owed_by 10 branch) outputs)) (sym (outputs_are b (length branch) next.transactions))
    (by_height (nat_le (length branch) 11) (pays (length branch)) refl refl))
  where
    by_height : (early paid : Bool) → nat_le (length branch) 11 ≡ early → pays (length branch) ≡ paid
        → IsTrue (are_owed (if early then NoOutput else owed_to (lock_of (block_at branch (length branch - 11))) (part specification branch (length branch - 11)))
        (if paid then output_of (reward_of (length branch - 11)) ∷ [] else []))
    by_height true true early paid = absurd (grind (arith, nat_tests))
    by_height false false early paid = absurd (grind (arith, nat_tests))
    by_height true false early paid = refl
    by_height false true early paid =
        let above : 12 ≤ length branch = grind (arith, nat_tests) in
        let given = pays-what-is-given branch (length branch - 11) transfers (omega (arith, above)) (omega (arith, few)) (omega (arith, above)) in
        let within = reward-within (length branch - 11) (omega (arith, few)) in
        subst (λ (owed : Owed). IsTrue (are_owed owed (output_of (reward_of (length branch - 11)) ∷ [])))
        (sym (ap (λ (named : Option Script). owed_to named (part specification branch (length branch - 11))) (names (length branch - 11) (omega (arith, above)) (omega (arith, above)))
        ∙ ap (owed_to (Some lock)) given ∙ owed_to_lock (reward_of (length branch - 11)) within.0 within.1))
        (paid_output (reward_of (length branch - 11)))
