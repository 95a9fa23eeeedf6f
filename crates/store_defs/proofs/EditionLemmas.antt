-- What is judged by its own epoch: a specification with another edition tells it alike.
use Rattle.std.proofs.Common.{◌≡◌, ℕ, zero, suc, ◌+◌, ◌-◌, ◌*◌, ◌/◌, ◌<◌, ◌≤◌, Bool, true, false, leb, List, [], ◌∷◌, ◌++◌, length, take, drop, Option, Some, None, refl, sym, ap, ◌∙◌, arith}
use Rattle.std.specs.Prelude.{◌+ℤ◌, if◌then◌else◌}
use Rattle.std.proofs.lemmas.Bool.{leb-true}
use Rattle.std.specs.List.{filter, sum_by}
use Rattle.chain_defs.specs.Dao.{Movement, miner_part, next_field}
use native.Mathlib.Nat as nat
use Rattle.chain_defs.specs.Schema.{Transaction, Block}
use Rattle.chain_defs.specs.Specification.{Specification, with_edition, has_begun, is_second_at}
use Rattle.chain_defs.specs.Epochs.{epoch_number}
use Rattle.chain_defs.specs.Kept.{block_at}
use Rattle.chain_defs.specs.Branch.{branch}
use Rattle.chain_defs.specs.Hashes.{proposal_id}
use Rattle.chain_defs.specs.Events.{cell_seen, live_cell}
use Rattle.rule_defs.specs.Site.{Site, site_at, site_after}
use Rattle.rule_defs.specs.Resolving.{input_cells, cells_of_dep, dep_cells, header_heights}
use Rattle.rule_defs.specs.Age.{block_start}
use Rattle.rule_defs.specs.Capacity.{counted, counted_in, fee, fees_from, interest}
use Rattle.rule_defs.specs.Window.{window, earliest}
use Rattle.rule_defs.specs.Fees.{Paid, paid_from, paid_in, paid_at, committer_share}
use Rattle.rule_defs.specs.Shares.{primary_at, secondary_at}
use Rattle.rule_defs.specs.Reward.{field_at, commit_heights, is_first_proposed_at, proposer_part, part}
use Rattle.rule_defs.specs.Payment.{Owed, NoOutput, owed_to, lock_of, owed_after, are_owed, cellbase_outputs}
use Rattle.rule_defs.specs.Field.{made_by, freed_by, freed_from, interest_from, movement, next_dao}
use Rattle.rule_defs.specs.RewardRules.{pays_reward, are_bytes_of, has_next_dao}
use Rattle.rule_defs.specs.Header.{header_rules}
use Rattle.rule_defs.specs.Body.{body_rules}
use Rattle.rule_defs.specs.FamilyRules.{uncle_and_cellbase_rules}
use Rattle.rule_defs.specs.Uncles.{has_uncles}
use Rattle.verdict_defs.specs.Scene.{scene_of}
use Rattle.verdict_defs.specs.Transactions.{transaction_rules, left_after, rules_from}
use Rattle.verdict_defs.specs.Ext.{rows_spent, spent_from, ext_of}
use Rattle.verdict_defs.specs.Judged.{judged_alone}
use Rattle.verdict_defs.specs.Rules.{all_rules}
use Rattle.verdict_defs.specs.Trial.{trial_by, trial_on}
use Rattle.store_defs.specs.EditionLaws.{AgreesUpTo, JudgesByItsEpoch, OldBlocksStay}

-- ---- A site

-- the same, told anew
abbrev anew : Option ℕ → Site → Site
anew edition site = record {
  spec = with_edition edition site.spec;
  branch = site.branch;
  timestamp = site.timestamp;
  second = site.second;
  cell = site.cell;
}

module _ (edition : Option ℕ) (site : Site) where
  rules-anew : (left : ℕ) (t : Transaction) → transaction_rules (anew edition site) left t ≡ transaction_rules site left t
  unfolding input_cells cells_of_dep dep_cells header_heights block_start counted counted_in scene_of earliest window
  rules-anew left t = refl

  left-anew : (left : ℕ) (t : Transaction) → left_after (anew edition site) left t ≡ left_after site left t
  unfolding input_cells cells_of_dep dep_cells header_heights scene_of
  left-anew left t = refl

  fee-anew : (t : Transaction) → fee (anew edition site) t ≡ fee site t
  unfolding input_cells header_heights counted counted_in
  fee-anew t = refl

  interest-anew : (t : Transaction) → interest (anew edition site) t ≡ interest site t
  unfolding input_cells header_heights counted counted_in
  interest-anew t = refl

  freed-anew : (t : Transaction) → freed_by (anew edition site) t ≡ freed_by site t
  unfolding freed_by input_cells
  freed-anew t = refl

  spent-anew : (kept : List Block) (parent : ℕ) (t : Transaction) → rows_spent kept parent (anew edition site) t ≡ rows_spent kept parent site t
  unfolding input_cells
  spent-anew kept parent t = refl

  alone-anew : (left : ℕ) (t : Transaction) → judged_alone (anew edition site) left t ≡ judged_alone site left t
  unfolding judged_alone input_cells cells_of_dep dep_cells header_heights block_start counted counted_in freed_by scene_of
  alone-anew left t = refl

-- ---- A block after a branch at whose height both tell the same

module _ (spec : Specification) (edition : Option ℕ) where
  abbrev other : Specification
  other = with_edition edition spec

  -- a branch at the height after which both tell the same
  abbrev Agrees : List Block → Type 0
  Agrees on = is_second_at (with_edition edition spec) (length on) ≡ is_second_at spec (length on)

  site-anew : (on : List Block) (b : Block) (place : ℕ) → Agrees on → site_at other on b place ≡ anew edition (site_at spec on b place)
  site-anew on b place same =
      ap (λ (second : Bool). record { spec = with_edition edition spec; branch = on; timestamp = b.header.timestamp; second = second; cell = cell_seen on b place }) same

  after-anew : (on : List Block) → Agrees on → site_after other on ≡ anew edition (site_after spec on)
  after-anew on same =
      ap (λ (second : Bool). record { spec = with_edition edition spec; branch = on; timestamp = 0; second = second; cell = live_cell on }) same

  module _ (on : List Block) (b : Block) (same : Agrees on) where
    abbrev at : ℕ → Site
    at place = site_at spec on b place

    rules-same : (place left : ℕ) (txs : List Transaction) → rules_from other on b place left txs ≡ rules_from spec on b place left txs
    unfolding rules_from
    rules-same place left [] = refl
    rules-same place left (t ∷ later) =
        ap (λ (site : Site). transaction_rules site left t ++ rules_from other on b (suc place) (left_after site left t) later) (site-anew on b place same)
        ∙ ap (λ (rules : List (ℕ × Bool)). rules ++ rules_from other on b (suc place) (left_after (anew edition (at place)) left t) later) (rules-anew edition (at place) left t)
        ∙ ap (λ (n : ℕ). transaction_rules (at place) left t ++ rules_from other on b (suc place) n later) (left-anew edition (at place) left t)
        ∙ ap (λ (rules : List (ℕ × Bool)). transaction_rules (at place) left t ++ rules) (rules-same (suc place) (left_after (at place) left t) later)

    fee-same : (place : ℕ) (t : Transaction) → fee (site_at other on b place) t ≡ fee (at place) t
    fee-same place t = ap (λ (site : Site). fee site t) (site-anew on b place same) ∙ fee-anew edition (at place) t

    fees-same : (place : ℕ) (txs : List Transaction) → fees_from other on b place txs ≡ fees_from spec on b place txs
    unfolding fees_from
    fees-same place [] = refl
    fees-same place (t ∷ later) = λ i. fee-same place t i ∷ fees-same (suc place) later i

    paid-same : (place : ℕ) (txs : List Transaction) → paid_from other on b place txs ≡ paid_from spec on b place txs
    unfolding paid_from
    paid-same place [] = refl
    paid-same place (t ∷ later) = λ i. record { id = proposal_id t; fee = fee-same place t i } ∷ paid-same (suc place) later i

    freed-same : (place : ℕ) (txs : List Transaction) → freed_from other on b place txs ≡ freed_from spec on b place txs
    unfolding freed_from
    freed-same place [] = refl
    freed-same place (t ∷ later) =
        let here : freed_by (site_at other on b place) t ≡ freed_by (at place) t =
        ap (λ (site : Site). freed_by site t) (site-anew on b place same) ∙ freed-anew edition (at place) t in
        λ i. here i + freed-same (suc place) later i

    interest-same : (place : ℕ) (txs : List Transaction) → interest_from other on b place txs ≡ interest_from spec on b place txs
    unfolding interest_from
    interest-same place [] = refl
    interest-same place (t ∷ later) =
        let here : interest (site_at other on b place) t ≡ interest (at place) t =
        ap (λ (site : Site). interest site t) (site-anew on b place same) ∙ interest-anew edition (at place) t in
        λ i. here i +ℤ interest-same (suc place) later i

  spent-same : (kept : List Block) (parent : ℕ) (b : Block) → Agrees (branch kept parent) → (place : ℕ) (txs : List Transaction)
      → spent_from other kept parent b place txs ≡ spent_from spec kept parent b place txs
  unfolding spent_from
  spent-same kept parent b same place [] = refl
  spent-same kept parent b same place (t ∷ later) =
      let here : rows_spent kept parent (site_at other (branch kept parent) b place) t ≡ rows_spent kept parent (site_at spec (branch kept parent) b place) t =
      ap (λ (site : Site). rows_spent kept parent site t) (site-anew (branch kept parent) b place same)
      ∙ spent-anew edition (site_at spec (branch kept parent) b place) kept parent t in
      λ i. here i ++ spent-same kept parent b same (suc place) later i

  -- ---- The reward, where both tell the same up to the height of the branch

  module _ (on : List Block) (agrees : AgreesUpTo (length on) edition spec) where
    front-agrees : (height : ℕ) → Agrees (take height on)
    front-agrees height = agrees (length (take height on)) (within height on)
      where
        within : (n : ℕ) (l : List Block) → length (take n l) ≤ length l
        within zero l = omega arith
        within (suc n) [] = omega arith
        within (suc n) (x ∷ l) = let rest = within n l in omega (arith, rest)

    paid_at-same : (height : ℕ) → paid_at other on height ≡ paid_at spec on height
    unfolding paid_at
    paid_at-same height = by_block (block_at on height)
      where
        by_block : (found : Option Block) → paid_in other (take height on) found ≡ paid_in spec (take height on) found
        by_block None = refl
        by_block (Some b) = paid-same (take height on) b (front-agrees height) 1 (drop 1 b.transactions)

    proposer-same : (proposer committed : ℕ) → proposer_part other on proposer committed ≡ proposer_part spec on proposer committed
    unfolding proposer_part earliest window
    proposer-same proposer committed =
        ap (λ (paid : List Paid). sum_by (λ one. 4 * one.fee / 10) (filter (is_first_proposed_at spec on proposer committed) paid)) (paid_at-same committed)

    part-same : (height : ℕ) → part other on height ≡ part spec on height
    unfolding part
    part-same height = λ i.
        primary_at spec height + miner_part (field_at on (height - 1)) (secondary_at spec height)
        + sum_by (λ paid. committer_share paid.fee) (paid_at-same height i)
        + sum_by (λ committed. proposer-same height committed i) (commit_heights spec height)

    owed-same : owed_after other on ≡ owed_after spec on
    unfolding owed_after
    owed-same =
        let target : ℕ = length on - (spec.w_far + 1) in
        ap (λ (n : ℕ). if leb (length on) (spec.w_far + 1) then NoOutput else owed_to (lock_of (block_at on target)) n) (part-same target)

    -- ---- All rules

    here-agrees : Agrees on
    here-agrees = agrees (length on) (omega arith)

    movement-same : (b : Block) → movement other on b ≡ movement spec on b
    unfolding movement
    movement-same b = λ i. record {
      primary = primary_at spec (length on);
      secondary = secondary_at spec (length on);
      interest = interest-same on b here-agrees 1 (drop 1 b.transactions) i;
      made = sum_by made_by b.transactions;
      freed = freed-same on b here-agrees 1 (drop 1 b.transactions) i;
    }

    dao-same : (b : Block) → has_next_dao other on b ≡ has_next_dao spec on b
    unfolding has_next_dao next_dao
    dao-same b = ap (λ (it : Movement). are_bytes_of (next_field (field_at on (length on - 1)) it) b.header.dao) (movement-same b)

    pays-same : (b : Block) → pays_reward other on b ≡ pays_reward spec on b
    unfolding pays_reward
    pays-same b = ap (λ (owed : Owed). are_owed owed (cellbase_outputs b)) owed-same

    pub all-same : (b : Block) → all_rules other on b ≡ all_rules spec on b
    unfolding all_rules has_uncles
    all-same b = λ i.
        header_rules spec on b
        ++ (body_rules spec b ++ (uncle_and_cellbase_rules spec on b
        ++ (rules-same on b here-agrees 1 spec.max_cycles (drop 1 b.transactions) i ++ ((31, pays-same b i) ∷ (32, dao-same b i) ∷ []))))

  pub ext-same : (kept : List Block) (parent : ℕ) (b : Block) → Agrees (branch kept parent) → ext_of other kept parent b ≡ ext_of spec kept parent b
  unfolding ext_of
  ext-same kept parent b same = λ i. record {
    fees = fees-same (branch kept parent) b same 1 (drop 1 b.transactions) i;
    spent = spent-same kept parent b same 1 (drop 1 b.transactions) i;
  }

  pub trial-same : (on : List Block) (t : Transaction) → Agrees on → trial_on other on t ≡ trial_on spec on t
  unfolding trial_on
  trial-same on t same =
      ap (λ (site : Site). trial_by (judged_alone site spec.max_cycles t)) (after-anew on same)
      ∙ ap trial_by (alone-anew edition (site_after spec on) spec.max_cycles t)

pub judges_by_its_epoch : JudgesByItsEpoch
judges_by_its_epoch spec edition = record {
  rules = λ on b agrees. all-same spec edition on agrees b;
  ext = λ kept parent b agrees. ext-same spec edition kept parent b (agrees (length (branch kept parent)) (omega arith));
  trial = λ on t agrees. trial-same spec edition on t (agrees (length on) (omega arith));
}

-- ---- Before the first epoch

pub earlier : (blocks height other first : ℕ) → other ≤ height → epoch_number blocks height < first → epoch_number blocks other < first
earlier zero height other first within below = omega (arith, nat.div-zero height, nat.div-zero other, below)
earlier (suc blocks) height other first within below =
    let above : height < first * suc blocks = (nat.div-lt_iff_lt-mul {k = suc blocks} {x = height} {y = first} (omega arith)).0 below in
    (nat.div-lt_iff_lt-mul {k = suc blocks} {x = other} {y = first} (omega arith)).1 (omega (arith, above, within))

not_begun : (first epoch : ℕ) → epoch < first → leb first epoch ≡ false
not_begun first epoch below = by_test (leb first epoch) refl
  where
    by_test : (t : Bool) → leb first epoch ≡ t → leb first epoch ≡ false
    by_test false is = is
    by_test true is = absurd (omega (arith, leb-true first epoch is, below))

pub old_blocks_stay : OldBlocksStay
unfolding is_second_at
old_blocks_stay spec first height none before other within =
    not_begun first (epoch_number spec.epoch_length other) (earlier spec.epoch_length height other first within before)
    ∙ sym (ap (λ (edition : Option ℕ). has_begun edition (epoch_number spec.epoch_length other)) none)
