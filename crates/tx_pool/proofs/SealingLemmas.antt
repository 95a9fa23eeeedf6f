-- The header and the block after a kept block, by what the code makes them of.
use Rattle.std.proofs.Common.{◌≡◌, ℕ, ◌-◌, List, [], length, replicate, ℤ, Option, Some, sym, ap, ◌∙◌, subst}
use Rattle.std.proofs.lemmas.Option.{slice_get_within}
use Rattle.chain_defs.specs.Schema.{Transaction, Block}
use Rattle.chain_defs.specs.Specification.{Specification}
use Rattle.chain_defs.specs.Epochs.{epoch_number, epoch_index, epoch_value, epoch_field}
use Rattle.chain_defs.specs.Dao.{DaoField, Movement, next_field}
use Rattle.chain_defs.specs.Branch.{branch}
use Rattle.chain_defs.specs.Median.{median_time}
use Rattle.chain_defs.specs.Hashes.{transactions_root, proposals_hash, uncles_hash}
use Rattle.chain_defs.proofs.BranchLaws.{branch-last}
use Rattle.chain_tree.specs.declared.entry.Entry.{Entry}
use Rattle.chain_tree.specs.Entries.{entry_at}
use Rattle.chain_tree.specs.Blocks.{IndexesBlocks}
use Rattle.chain_tree.proofs.BlockLemmas.{DescribedAt, described}
use Rattle.rule_defs.specs.Header.{parent_of}
use Rattle.rule_defs.specs.Reward.{field_at}
use Rattle.rule_defs.specs.Field.{movement, next_dao}
use Rattle.block_judge.specs.Progress.{AreMoved}
use Rattle.pool_defs.specs.Start.{zero_bytes, hash_of_parent, next_timestamp, header_after, dao_bytes, committed, sealed}
use Rattle.pool_rows.specs.declared.header.Commitments.{Commitments}
use Rattle.pool_rows.specs.Header.{header_with}
use Rattle.pool_rows.specs.Block.{block_with}
use Rattle.tx_pool.specs.Sealing.{Fills, commitments_to, header_on}

-- ---- The field

-- the field that is found is that of the block
pub next-same : (spec : Specification) (on : List Block) (b : Block) (old : DaoField) (move : Movement) (found : Option DaoField) → found ≡ next_field old move
    → old ≡ field_at on (length on - 1) → move ≡ movement spec on b → found ≡ next_dao spec on b
unfolding next_dao
next-same spec on b old move found is old_is move_is = is ∙ (λ i. next_field (old_is i) (move_is i))

-- so much interest, as the code has it
pub moved-as : (spec : Specification) (on : List Block) (b other : Block) (interest seen : ℤ) (freed : ℕ) → seen ≡ interest → other ≡ b
    → AreMoved spec on b interest freed → AreMoved spec on other seen freed
moved-as spec on b other interest seen freed same block_is moved =
    subst (λ (it : Block). AreMoved spec on it seen freed) (sym block_is) (record { interest_is = same ∙ moved.interest_is; freed_is = moved.freed_is })

-- ---- The header

parent-there : (kept : List Block) (entries : List Entry) (place : ℕ) (entry : Entry) → IndexesBlocks kept entries → entry_at entries place ≡ Some entry
    → entry.hash ≡ hash_of_parent (parent_of (branch kept place))
parent-there kept entries place entry indexes there =
    let here : DescribedAt kept place entry = described kept entries place entry indexes.each there in
    let last : parent_of (branch kept place) ≡ Some here.block = branch-last kept place (slice_get_within kept place here.block here.there) ∙ here.there in
    here.is.hash ∙ sym (ap hash_of_parent last)

pub header-same : (spec : Specification) (kept : List Block) (entries : List Entry) (place : ℕ) (entry : Entry) (commitments : Commitments)
    (compact_target timestamp number epoch : ℕ) → IndexesBlocks kept entries → entry_at entries place ≡ Some entry
    → compact_target ≡ spec.compact_target → timestamp ≡ next_timestamp (median_time (branch kept place)) → number ≡ length (branch kept place)
    → epoch ≡ epoch_field spec.epoch_length (length (branch kept place))
    → header_with compact_target timestamp number epoch entry.hash commitments ≡ header_on spec (branch kept place) commitments
unfolding header_after
header-same spec kept entries place entry commitments compact_target timestamp number epoch indexes there target_is timestamp_is number_is epoch_is =
    let hash_is = parent-there kept entries place entry indexes there in
    λ i. record {
      version = 0;
      compact_target = target_is i;
      timestamp = timestamp_is i;
      number = number_is i;
      epoch = epoch_is i;
      parent_hash = hash_is i;
      transactions_root = commitments.transactions_root;
      proposals_hash = commitments.proposals_hash;
      uncles_hash = commitments.uncles_hash;
      dao = commitments.dao;
      nonce = 0;
    }

pub epoch-same : (epoch number index size blocks height : ℕ) (spec : Specification) (on : List Block) → epoch ≡ epoch_value number index size
    → number ≡ epoch_number blocks height → index ≡ epoch_index blocks height → size ≡ blocks → blocks ≡ spec.epoch_length → height ≡ length on
    → epoch ≡ epoch_field spec.epoch_length (length on)
epoch-same epoch number index size blocks height spec on is number_is index_is size_is blocks_are height_is =
    is ∙ (λ i. epoch_value (number_is i) (index_is i) (size_is i)) ∙ (λ i. epoch_field (blocks_are i) (height_is i))

-- ---- The block

module _ (spec : Specification) (on : List Block) (b : Block) (transactions : List Transaction) (ids : List (List ℕ)) (fills : Fills spec on b transactions ids) where
  -- the block whose header commits to nothing
  pub open-same : (nothing : Commitments) → nothing.transactions_root ≡ replicate 32 0 → nothing.proposals_hash ≡ replicate 32 0 → nothing.uncles_hash ≡ replicate 32 0
      → nothing.dao ≡ replicate 32 0 → block_with (header_on spec on nothing) transactions ids ≡ b
  unfolding header_after zero_bytes
  open-same nothing root proposals uncles dao =
      let same : header_on spec on nothing ≡ header_after spec on =
      (λ i. record (header_after spec on) { transactions_root = root i; proposals_hash = proposals i; uncles_hash = uncles i; dao = dao i }) in
      let header_is : header_on spec on nothing ≡ b.header = same ∙ sym fills.header_is in
      let none : [] ≡ b.uncles = sym fills.no_uncles in
      let transactions_are = fills.transactions_are in
      let ids_are = fills.ids_are in
      λ i. record { header = header_is i; uncles = none i; transactions = transactions_are i; proposals = ids_are i }

  -- the block whose header commits to it
  pub sealed-same : (before : Block) (commitments : Commitments) → before ≡ b → commitments ≡ commitments_to spec on before
      → block_with (header_on spec on commitments) transactions ids ≡ sealed spec on b
  unfolding committed
  sealed-same before commitments same is =
      let none : [] ≡ b.uncles = sym fills.no_uncles in
      let header_is : header_after spec on ≡ b.header = sym fills.header_is in
      let transactions_are = fills.transactions_are in
      let ids_are = fills.ids_are in
      ap (λ (c : Commitments). block_with (header_on spec on c) transactions ids) (is ∙ ap (commitments_to spec on) same)
      ∙ (λ i. record {
        header = record (header_is i) {
          transactions_root = transactions_root b.transactions;
          proposals_hash = proposals_hash b.proposals;
          uncles_hash = uncles_hash b.uncles;
          dao = dao_bytes (next_dao spec on b);
        };
        uncles = none i;
        transactions = transactions_are i;
        proposals = ids_are i;
      })
