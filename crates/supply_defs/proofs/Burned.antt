-- What a block moves of what is burned: the reward that its cellbase is to pay is paid by it, or burned.
use Rattle.std.proofs.Common.{◌≡◌, ℕ, ◌+◌, ◌-◌, ◌<◌, ◌≤◌, ◌^◌, Bool, true, false, List, [], ◌∷◌, ◌++◌, length, Option, Some, None, ⊎_elim, refl, sym, ap, ◌∙◌, arith}
use Rattle.std.specs.Prelude.{◌==◌, nat_le, nat_lt, IsTrue, is_some, not, if◌then◌else◌}
use Rattle.std.specs.List.{sum_by, range_with_len}
use Rattle.std.specs.Str.{bytes_eq}
use Rattle.std.proofs.lemmas.Bool.{and_parts, eqb-true, ltb-true, cases_lt}
use Rattle.std.proofs.lemmas.Bool.Decides.{nat_tests}
use Rattle.std.proofs.lemmas.List.{nil_from_length, length_push}
use Rattle.chain_defs.specs.Shape.{encoded}
use Rattle.chain_defs.specs.Schema.{Script, script, CellOutput, Block}
use Rattle.chain_defs.specs.Specification.{Specification, keeps_s3}
use Rattle.chain_defs.specs.Kept.{block_at}
use Rattle.chain_defs.proofs.KeptLaws.{slice_get-before, slice_get-push}
use Rattle.rule_defs.specs.Reward.{part}
use Rattle.rule_defs.specs.Payment.{NoOutput, Pays, Unpayable, owed_to, owed_after, lock_of, occupied_with, are_owed, cellbase_outputs}
use Rattle.rule_defs.specs.RewardRules.{pays_reward}
use Rattle.rule_defs.proofs.PartLaws.{part-stays, sum-agree}
use Rattle.supply_defs.specs.Sums.{due, pays_nothing, burned_at, burned}
use Rattle.supply_defs.specs.Step.{paid_by}
use Rattle.supply_defs.proofs.Ranges.{range-last}

-- ---- J31

-- what outputs pay, and what goes to none
abbrev paid_to : List CellOutput → ℕ
paid_to outputs = sum_by (λ (output : CellOutput). output.capacity) outputs

abbrev lost : List CellOutput → ℕ → ℕ
lost outputs reward = if length outputs == 0 then reward else 0

paid-or-lost : (lock : Option Script) (reward : ℕ) (outputs : List CellOutput) → are_owed (owed_to lock reward) outputs ≡ true
    → paid_to outputs + lost outputs reward ≡ reward
paid-or-lost None reward outputs owed = absurd (cc)
paid-or-lost (Some lock) reward outputs owed = by_tests (nat_lt reward (2 ^ 64)) (nat_le (occupied_with lock) reward) outputs owed
  where
    by_tests : (fits pays : Bool) (outputs : List CellOutput)
        → are_owed (if fits then (if pays then Pays lock reward else NoOutput) else Unpayable) outputs ≡ true → paid_to outputs + lost outputs reward ≡ reward
    by_tests false pays outputs owed = absurd (cc)
    by_tests true false [] owed = omega arith
    by_tests true false (output ∷ later) owed = let none = eqb-true (length (output ∷ later)) 0 owed in absurd (omega (arith, none))
    by_tests true true [] owed = absurd (cc)
    by_tests true true (output ∷ other ∷ later) owed = absurd (cc)
    by_tests true true (output ∷ []) owed =
        let both = and_parts _ (not (is_some output.type_script)) owed in
        let same : output.capacity ≡ reward = eqb-true output.capacity reward
        (and_parts (output.capacity == reward) (bytes_eq (encoded script output.lock) (encoded script lock)) both.0).0 in
        omega (arith, same)

owed-fits : (lock : Option Script) (reward : ℕ) (outputs : List CellOutput) → are_owed (owed_to lock reward) outputs ≡ true → reward < 2 ^ 64
owed-fits None reward outputs owed = absurd (cc)
owed-fits (Some lock) reward outputs owed = by_test (nat_lt reward (2 ^ 64)) refl owed
  where
    by_test : (fits : Bool) → nat_lt reward (2 ^ 64) ≡ fits
        → are_owed (if fits then (if nat_le (occupied_with lock) reward then Pays lock reward else NoOutput) else Unpayable) outputs ≡ true → reward < 2 ^ 64
    by_test true fits is = ltb-true reward (2 ^ 64) fits
    by_test false fits is = absurd (cc)

nothing-owed : (outputs : List CellOutput) → are_owed NoOutput outputs ≡ true → paid_to outputs ≡ 0
nothing-owed outputs owed = ap paid_to (nil_from_length outputs (eqb-true (length outputs) 0 owed))

-- ---- One block more

abbrev first_paying : Specification → ℕ
first_paying spec = spec.w_far + 2

burned-before : (spec : Specification) (on : List Block) (b : Block) (height : ℕ) → IsTrue (keeps_s3 spec.w_close spec.w_far) → first_paying spec ≤ height
    → height < length on → burned_at spec (on ++ b ∷ []) height ≡ burned_at spec on height
burned-before spec on b height keeps least below =
    (λ i. if pays_nothing (slice_get-before on (b ∷ []) height below i)
    then part-stays spec on (b ∷ []) (height - (spec.w_far + 1)) keeps (omega (arith, least, below)) i else 0)

pub burned-moves : (spec : Specification) (on : List Block) (b : Block) → IsTrue (keeps_s3 spec.w_close spec.w_far) → IsTrue (pays_reward spec on b)
    → burned spec (on ++ b ∷ []) + paid_by b ≡ burned spec on + due spec on
unfolding burned due pays_reward owed_after
burned-moves spec on b keeps pays = ⊎_elim late early (cases_lt (spec.w_far + 1) (length on)) pays
  where
    long : length (on ++ b ∷ []) ≡ length on + 1
    long = length_push on b

    target : ℕ
    target = length on - (spec.w_far + 1)

    early : length on ≤ spec.w_far + 1
        → are_owed (if nat_le (length on) (spec.w_far + 1) then NoOutput else owed_to (lock_of (block_at on target)) (part spec on target)) (cellbase_outputs b) ≡ true
        → sum_by (burned_at spec (on ++ b ∷ [])) (range_with_len (first_paying spec) (length (on ++ b ∷ []) - first_paying spec)) + paid_by b
        ≡ sum_by (burned_at spec on) (range_with_len (first_paying spec) (length on - first_paying spec))
        + (if nat_le (length on) (spec.w_far + 1) then 0 else part spec on target)
    early least owed =
        let test : nat_le (length on) (spec.w_far + 1) ≡ true = grind (arith, nat_tests, least) in
        let none : length on - first_paying spec ≡ 0 = omega (arith, least) in
        let none_after : length (on ++ b ∷ []) - first_paying spec ≡ 0 = omega (arith, least, long) in
        let empty : sum_by (burned_at spec on) (range_with_len (first_paying spec) (length on - first_paying spec)) ≡ 0 =
        ap (λ (n : ℕ). sum_by (burned_at spec on) (range_with_len (first_paying spec) n)) none in
        let empty_after : sum_by (burned_at spec (on ++ b ∷ [])) (range_with_len (first_paying spec) (length (on ++ b ∷ []) - first_paying spec)) ≡ 0 =
        ap (λ (n : ℕ). sum_by (burned_at spec (on ++ b ∷ [])) (range_with_len (first_paying spec) n)) none_after in
        let unowed = nothing-owed (cellbase_outputs b)
        (sym (ap (λ (t : Bool). are_owed (if t then NoOutput else owed_to (lock_of (block_at on target)) (part spec on target)) (cellbase_outputs b)) test) ∙ owed) in
        rw test (omega (arith, empty, empty_after, unowed))

    late : spec.w_far + 1 < length on
        → are_owed (if nat_le (length on) (spec.w_far + 1) then NoOutput else owed_to (lock_of (block_at on target)) (part spec on target)) (cellbase_outputs b) ≡ true
        → sum_by (burned_at spec (on ++ b ∷ [])) (range_with_len (first_paying spec) (length (on ++ b ∷ []) - first_paying spec)) + paid_by b
        ≡ sum_by (burned_at spec on) (range_with_len (first_paying spec) (length on - first_paying spec))
        + (if nat_le (length on) (spec.w_far + 1) then 0 else part spec on target)
    late more owed =
        let test : nat_le (length on) (spec.w_far + 1) ≡ false = grind (arith, nat_tests, more) in
        let count : length (on ++ b ∷ []) - first_paying spec ≡ (length on - first_paying spec) + 1 = omega (arith, more, long) in
        let end : first_paying spec + (length on - first_paying spec) ≡ length on = omega (arith, more) in
        let after : sum_by (burned_at spec (on ++ b ∷ [])) (range_with_len (first_paying spec) (length (on ++ b ∷ []) - first_paying spec))
        ≡ sum_by (burned_at spec (on ++ b ∷ [])) (range_with_len (first_paying spec) (length on - first_paying spec)) + burned_at spec (on ++ b ∷ []) (length on) =
        ap (λ (n : ℕ). sum_by (burned_at spec (on ++ b ∷ [])) (range_with_len (first_paying spec) n)) count
        ∙ range-last (burned_at spec (on ++ b ∷ [])) (first_paying spec) (length on - first_paying spec)
        ∙ ap (λ (n : ℕ). sum_by (burned_at spec (on ++ b ∷ [])) (range_with_len (first_paying spec) (length on - first_paying spec)) + burned_at spec (on ++ b ∷ []) n) end in
        let before = sum-agree (burned_at spec (on ++ b ∷ [])) (burned_at spec on) (first_paying spec) (length on - first_paying spec)
        (λ height least below. burned-before spec on b height keeps least (omega (arith, below, end))) in
        let here : burned_at spec (on ++ b ∷ []) (length on) ≡ lost (cellbase_outputs b) (part spec on target) =
        (λ i. if pays_nothing (slice_get-push on b i) then part-stays spec on (b ∷ []) target keeps (omega (arith, more)) i else 0) in
        let whole = paid-or-lost (lock_of (block_at on target)) (part spec on target) (cellbase_outputs b)
        (sym (ap (λ (t : Bool). are_owed (if t then NoOutput else owed_to (lock_of (block_at on target)) (part spec on target)) (cellbase_outputs b)) test) ∙ owed) in
        rw test (omega (arith, after, before, here, whole))

-- a reward above the greatest u64 no cellbase can pay
pub due-fits : (spec : Specification) (on : List Block) (b : Block) → IsTrue (pays_reward spec on b) → due spec on < 2 ^ 64
unfolding due pays_reward owed_after
due-fits spec on b pays = by_test (nat_le (length on) (spec.w_far + 1)) pays
  where
    target : ℕ
    target = length on - (spec.w_far + 1)

    by_test : (early : Bool) → are_owed (if early then NoOutput else owed_to (lock_of (block_at on target)) (part spec on target)) (cellbase_outputs b) ≡ true
        → (if early then 0 else part spec on target) < 2 ^ 64
    by_test true owed = omega arith
    by_test false owed = owed-fits (lock_of (block_at on target)) (part spec on target) (cellbase_outputs b) owed
