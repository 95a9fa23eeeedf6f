-- The header of the child of a block, by its fields.
use Rattle.std.proofs.Common.{◌≡◌, ℕ, ◌+◌, List, ap, ◌∙◌}
use Rattle.chain_defs.specs.Schema.{Header, Block}
use Rattle.chain_defs.specs.Epochs.{epoch_value, epoch_number, epoch_index, epoch_field}
use Rattle.chain_defs.specs.Dao.{field_bytes}
use Rattle.chain_defs.specs.Kept.{block_hash}
use Rattle.chain_defs.specs.Hashes.{transactions_root, proposals_hash}
use Rattle.gen_defs.specs.Start.{specification}
use Rattle.gen_defs.specs.Heights.{field_after, transactions_at, proposals_at}
use Rattle.gen_defs.specs.Chain.{child, block_after}
use Rattle.chain_gen.specs.Headers.{header_of}

pub epoch_is : (length height : ℕ) {number index blocks value : ℕ} → value ≡ epoch_value number index blocks → number ≡ epoch_number length height
    → index ≡ epoch_index length height → blocks ≡ length → value ≡ epoch_field length height
epoch_is length height {index = index} {blocks = blocks} value_is number_is index_is blocks_is =
    value_is ∙ ap (λ (n : ℕ). epoch_value n index blocks) number_is ∙ ap (λ (n : ℕ). epoch_value (epoch_number length height) n blocks) index_is
    ∙ ap (λ (n : ℕ). epoch_value (epoch_number length height) (epoch_index length height) n) blocks_is

abbrev of_fields : ℕ → ℕ → ℕ → List ℕ → List ℕ → List ℕ → List ℕ → ℕ → Header
of_fields time height epoch parent top proposed dao nonce = header_of (record {
  timestamp = time;
  number = height;
  epoch = epoch;
  parent_hash = parent;
  transactions_root = top;
  proposals_hash = proposed;
  dao = dao;
  nonce = nonce;
})

pub child_header_is : (b : Block) (i : ℕ) {time height epoch : ℕ} {parent top proposed dao : List ℕ} {nonce : ℕ}
    → time ≡ b.header.timestamp → height ≡ b.header.number → epoch ≡ epoch_field specification.epoch_length (b.header.number + 1)
    → parent ≡ block_hash b → top ≡ transactions_root (transactions_at (b.header.number + 1)) → proposed ≡ proposals_hash (proposals_at (b.header.number + 1))
    → dao ≡ field_bytes (field_after (b.header.number + 1)) → nonce ≡ i
    → of_fields (time + 1000) (height + 1) epoch parent top proposed dao nonce ≡ (child b i).header
unfolding block_after
child_header_is b i {time = time} {height = height} {epoch = epoch} {parent = parent} {top = top} {proposed = proposed} {dao = dao} {nonce = nonce}
    time_is height_is epoch_is parent_is top_is proposed_is dao_is nonce_is =
    let h : ℕ = b.header.number + 1 in
    ap (λ (t : ℕ). of_fields (t + 1000) (height + 1) epoch parent top proposed dao nonce) time_is
    ∙ ap (λ (n : ℕ). of_fields (b.header.timestamp + 1000) (n + 1) epoch parent top proposed dao nonce) height_is
    ∙ ap (λ (e : ℕ). of_fields (b.header.timestamp + 1000) h e parent top proposed dao nonce) epoch_is
    ∙ ap (λ (l : List ℕ). of_fields (b.header.timestamp + 1000) h (epoch_field specification.epoch_length h) l top proposed dao nonce) parent_is
    ∙ ap (λ (l : List ℕ). of_fields (b.header.timestamp + 1000) h (epoch_field specification.epoch_length h) (block_hash b) l proposed dao nonce) top_is
    ∙ ap (λ (l : List ℕ). of_fields (b.header.timestamp + 1000) h (epoch_field specification.epoch_length h) (block_hash b) (transactions_root (transactions_at h)) l dao nonce) proposed_is
    ∙ ap (λ (l : List ℕ). of_fields (b.header.timestamp + 1000) h (epoch_field specification.epoch_length h) (block_hash b) (transactions_root (transactions_at h)) (proposals_hash (proposals_at h)) l nonce) dao_is
    ∙ ap (λ (n : ℕ). of_fields (b.header.timestamp + 1000) h (epoch_field specification.epoch_length h) (block_hash b) (transactions_root (transactions_at h)) (proposals_hash (proposals_at h)) (field_bytes (field_after h)) n) nonce_is
