-- The reward by the chain's rules, and the reward of a height.
use Rattle.std.proofs.Common.{◌≡◌, ℕ, zero, suc, ◌+◌, ◌-◌, ◌*◌, ◌<◌, ◌≤◌, Bool, true, false, List, [], ◌∷◌, length, Option, Some, refl, ap, ◌∙◌, arith}
use Rattle.std.specs.Prelude.{◌&&◌, ◌==◌, IsTrue, if◌then◌else◌}
use Rattle.std.specs.List.{filter, sum_by, range_with_len}
use Rattle.std.proofs.lemmas.List.Sums.{sum_by-cons}
use Rattle.std.proofs.lemmas.Bool.Decides.{nat_tests}
use Rattle.chain_defs.specs.Schema.{Block}
use Rattle.chain_defs.specs.Dao.{DaoField, field_of_bytes, miner_part}
use Rattle.chain_defs.proofs.FieldBytes.{field_of_bytes-field_bytes}
use Rattle.rule_defs.specs.Shares.{primary_at, secondary_at}
use Rattle.rule_defs.specs.Fees.{Paid, paid_at, proposer_share, committer_share}
use Rattle.rule_defs.specs.Reward.{part, proposer_part, commit_heights, is_at, is_first_proposed_at, field_at}
use Rattle.rule_defs.specs.Window.{earliest}
use Rattle.gen_defs.specs.Start.{specification}
use Rattle.gen_defs.specs.Heights.{commits, proposes, count_if, transfer_fee, field_after, reward_by}
use Rattle.gen_defs.specs.Paid.{id_at, PaysItsTransfers, PaysWhatIsGiven}
use Rattle.gen_defs.proofs.FieldLemmas.{small_after}

-- ---- The field before the block

field_is : (branch : List Block) (height : ℕ) → PaysItsTransfers branch → height ≤ 20000 → height < length branch → field_at branch height ≡ field_after height
field_is branch height pays few within =
    let small = small_after height few in
    ap field_of_bytes (pays.fields height within)
    ∙ field_of_bytes-field_bytes (field_after height) (omega (arith, small.issued, few)) (omega (arith, small.rate, few)) (omega (arith, small.savings, few))
    (omega (arith, small.occupied, few))

-- ---- The committer's share

committed : (there : Bool) (p : Paid) → p.fee ≡ transfer_fee → sum_by (λ (paid : Paid). committer_share paid.fee) (if there then p ∷ [] else []) ≡ count_if there * committer_share transfer_fee
committed true p is = ap (λ (fee : ℕ). 0 + committer_share fee) is
committed false p is = refl

-- ---- The proposer's share

abbrev given : Bool → Bool → ℕ
given there first = count_if (there && first) * proposer_share transfer_fee

proposer_of : (branch : List Block) (proposer height : ℕ) (there : Bool) → commits height ≡ there → paid_at specification branch height ≡ (if there then record { id = id_at height; fee = transfer_fee } ∷ [] else [])
    → (IsTrue there → earliest specification branch (id_at height) height ≡ Some (height - 2))
    → proposer_part specification branch proposer height ≡ given there (height - 2 == proposer)
unfolding proposer_part
proposer_of branch proposer height false is paid proposed =
    ap (λ (paids : List Paid). sum_by (λ (p : Paid). proposer_share p.fee) (filter (is_first_proposed_at specification branch proposer height) paids)) paid
proposer_of branch proposer height true is paid proposed =
    ap (λ (paids : List Paid). sum_by (λ (p : Paid). proposer_share p.fee) (filter (is_first_proposed_at specification branch proposer height) paids)) paid
    ∙ ap (λ (found : Option ℕ). sum_by (λ (p : Paid). proposer_share p.fee) (if is_at proposer found then record { id = id_at height; fee = transfer_fee } ∷ [] else []))
    (proposed refl)
    ∙ one (height - 2 == proposer)
  where
    one : (first : Bool) → sum_by (λ (p : Paid). proposer_share p.fee) (if first then record { id = id_at height; fee = transfer_fee } ∷ [] else [])
        ≡ count_if first * proposer_share transfer_fee
    one true = refl
    one false = refl

part_at : (branch : List Block) (proposer height : ℕ) → PaysItsTransfers branch → height < length branch
    → proposer_part specification branch proposer height ≡ given (commits height) (height - 2 == proposer)
part_at branch proposer height pays within =
    proposer_of branch proposer height (commits height) refl (pays.paid height within) (pays.proposed height within)

later_none : (there first : Bool) → first ≡ false → given there first ≡ 0
later_none true first is = ap (given true) is
later_none false first is = refl

-- no height after the second one
none_after : (branch : List Block) (proposer low count : ℕ) → PaysItsTransfers branch → proposer + 2 < low → low + count ≤ length branch
    → sum_by (proposer_part specification branch proposer) (range_with_len low count) ≡ 0
none_after branch proposer low zero pays above within = refl
none_after branch proposer low (suc count) pays above within =
    let other : (low - 2 == proposer) ≡ false = grind (arith, nat_tests) in
    let this : proposer_part specification branch proposer low ≡ 0 =
    part_at branch proposer low pays (omega (arith, within)) ∙ later_none (commits low) (low - 2 == proposer) other in
    let rest = none_after branch proposer (low + 1) count pays (omega (arith, above)) (omega (arith, within)) in
    sum_by-cons (proposer_part specification branch proposer) low (range_with_len (low + 1) count) ∙ omega (arith, this, rest)

window_is : (height : ℕ) → commit_heights specification height ≡ range_with_len (height + 2) 9
unfolding specification
window_is height = refl

commits_what_is_proposed : (height : ℕ) → commits (height + 2) ≡ proposes height
commits_what_is_proposed height = grind (arith, nat_tests)

first_of_all : (height : ℕ) → (height + 2 - 2 == height) ≡ true
first_of_all height = grind (arith, nat_tests)

given_there : (there first : Bool) → first ≡ true → given there first ≡ count_if there * proposer_share transfer_fee
given_there true first is = ap (given true) is
given_there false first is = refl

proposed_part : (branch : List Block) (height : ℕ) → PaysItsTransfers branch → height + 10 < length branch
    → sum_by (proposer_part specification branch height) (commit_heights specification height) ≡ count_if (proposes height) * proposer_share transfer_fee
proposed_part branch height pays within =
    let first : proposer_part specification branch height (height + 2) ≡ count_if (proposes height) * proposer_share transfer_fee =
    part_at branch height (height + 2) pays (omega (arith, within))
    ∙ given_there (commits (height + 2)) (height + 2 - 2 == height) (first_of_all height)
    ∙ ap (λ (there : Bool). count_if there * proposer_share transfer_fee) (commits_what_is_proposed height) in
    let rest = none_after branch height (height + 2 + 1) 8 pays (omega arith) (omega (arith, within)) in
    ap (sum_by (proposer_part specification branch height)) (window_is height)
    ∙ sum_by-cons (proposer_part specification branch height) (height + 2) (range_with_len (height + 2 + 1) 8) ∙ omega (arith, first, rest)

-- ---- The whole

pub pays-what-is-given : PaysWhatIsGiven
unfolding part reward_by
pays-what-is-given branch height pays above few within =
    let field = field_is branch (height - 1) pays (omega (arith, few)) (omega (arith, within)) in
    let committer : sum_by (λ (paid : Paid). committer_share paid.fee) (paid_at specification branch height) ≡ count_if (commits height) * committer_share transfer_fee =
    ap (sum_by (λ (paid : Paid). committer_share paid.fee)) (pays.paid height (omega (arith, within)))
    ∙ committed (commits height) (record { id = id_at height; fee = transfer_fee }) refl in
    ap (λ (f : DaoField). primary_at specification height + miner_part f (secondary_at specification height)
    + sum_by (λ (paid : Paid). committer_share paid.fee) (paid_at specification branch height)
    + sum_by (proposer_part specification branch height) (commit_heights specification height)) field
    ∙ ap (λ (n : ℕ). primary_at specification height + miner_part (field_after (height - 1)) (secondary_at specification height) + n
    + sum_by (proposer_part specification branch height) (commit_heights specification height)) committer
    ∙ ap (λ (n : ℕ). primary_at specification height + miner_part (field_after (height - 1)) (secondary_at specification height)
    + count_if (commits height) * committer_share transfer_fee + n) (proposed_part branch height pays within)
