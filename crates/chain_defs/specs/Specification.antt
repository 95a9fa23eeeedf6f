-- The chain specification: 100 bytes, little-endian, and the rules S1 to S7 that it keeps (docs/RULES.md, "The chain specification").
use Rattle.std.specs.Prelude.{ℕ, ◌+◌, ◌^◌, Bool, false, IsTrue, ◌==◌, ◌&&◌, nat_lt, nat_le, List, [], ◌∷◌, length, Option, Some, None}
use Rattle.std.specs.List.{slice_range}
use Rattle.std.specs.Int.{w32, w64, from_le_bytes}
use Rattle.chain_defs.specs.First.{first_failing}
use Rattle.chain_defs.specs.Epochs.{is_well_formed, epoch_number}

pub record Specification : Type 0 where
  pub compact_target : ℕ
  -- blocks in an epoch
  pub epoch_length : ℕ
  -- the proposal window, in blocks: closest and farthest
  pub w_close : ℕ
  pub w_far : ℕ
  pub max_block_bytes : ℕ
  pub max_proposals : ℕ
  pub max_cycles : ℕ
  -- an epoch value
  pub maturity : ℕ
  -- shannons an epoch
  pub primary_reward : ℕ
  pub secondary_reward : ℕ
  -- epochs
  pub halving_interval : ℕ
  pub dao_code_hash : List ℕ
  -- the epoch from which on the second edition of the rules holds, where there is one. It does not stand in the bytes.
  pub second_from : Option ℕ

-- the numbers of 4 and of 8 bytes at a place
abbrev pub u32_field : List ℕ → ℕ → ℕ
u32_field bytes place = from_le_bytes w32 (slice_range bytes place (place + 4))

abbrev pub u64_field : List ℕ → ℕ → ℕ
u64_field bytes place = from_le_bytes w64 (slice_range bytes place (place + 8))

-- The fields of the bytes, in their order; the first four bytes hold the size. They have no edition.
unfoldable pub specification_of : List ℕ → Specification
specification_of bytes = record {
  compact_target = u32_field bytes 4;
  epoch_length = u32_field bytes 8;
  w_close = u32_field bytes 12;
  w_far = u32_field bytes 16;
  max_block_bytes = u32_field bytes 20;
  max_proposals = u32_field bytes 24;
  max_cycles = u64_field bytes 28;
  maturity = u64_field bytes 36;
  primary_reward = u64_field bytes 44;
  secondary_reward = u64_field bytes 52;
  halving_interval = u64_field bytes 60;
  dao_code_hash = slice_range bytes 68 100;
  second_from = None;
}

-- ---- The edition (docs/RULES.md, "The two editions")

-- the same specification, with this edition
abbrev pub with_edition : Option ℕ → Specification → Specification
with_edition edition spec = record spec { second_from = edition }

-- whether an edition begins at an epoch or before it
abbrev pub has_begun : Option ℕ → ℕ → Bool
has_begun None epoch = false
has_begun (Some first) epoch = nat_le first epoch

-- Whether the block of a height stands under the second edition: its epoch's number is at least that of the edition.
unfoldable pub is_second_at : Specification → ℕ → Bool
is_second_at spec height = has_begun spec.second_from (epoch_number spec.epoch_length height)

-- ---- S1 to S7

-- S1: there are 100 bytes, and the size says so.
abbrev pub keeps_s1 : List ℕ → Bool
keeps_s1 bytes = (length bytes == 100) && (u32_field bytes 0 == 100)

-- S2: an epoch has 1 to 65,535 blocks.
abbrev pub keeps_s2 : ℕ → Bool
keeps_s2 epoch_length = nat_le 1 epoch_length && nat_lt epoch_length (2 ^ 16)

-- S3: the proposal window is not empty, begins after its block, and reaches at most 100 blocks.
abbrev pub keeps_s3 : ℕ → ℕ → Bool
keeps_s3 w_close w_far = nat_le 1 w_close && nat_le w_close w_far && nat_le w_far 100

-- S4: a block has 1 to 1,048,576 bytes.
abbrev pub keeps_s4 : ℕ → Bool
keeps_s4 max_block_bytes = nat_le 1 max_block_bytes && nat_le max_block_bytes (2 ^ 20)

-- S5: a block has 1 to 2^40 cycles.
abbrev pub keeps_s5 : ℕ → Bool
keeps_s5 max_cycles = nat_le 1 max_cycles && nat_le max_cycles (2 ^ 40)

-- S6: the maturity is a well-formed epoch value, and nothing stands above it.
abbrev pub keeps_s6 : ℕ → Bool
keeps_s6 maturity = nat_lt maturity (2 ^ 56) && is_well_formed maturity

-- S7: the primary reward halves each so many epochs, at least 1.
abbrev pub keeps_s7 : ℕ → Bool
keeps_s7 halving_interval = nat_le 1 halving_interval

-- what S2 to S7 say of a specification's fields
pub record KeepsItsRules (epoch_length w_close w_far max_block_bytes max_cycles maturity halving_interval : ℕ) : Type 0 where
  pub s2 : IsTrue (keeps_s2 epoch_length)
  pub s3 : IsTrue (keeps_s3 w_close w_far)
  pub s4 : IsTrue (keeps_s4 max_block_bytes)
  pub s5 : IsTrue (keeps_s5 max_cycles)
  pub s6 : IsTrue (keeps_s6 maturity)
  pub s7 : IsTrue (keeps_s7 halving_interval)

-- the number of the first of S1 to S7 that the bytes break
abbrev pub broken_specification_rule : List ℕ → Option ℕ
broken_specification_rule bytes =
    let spec = specification_of bytes in
    first_failing (
    (1, keeps_s1 bytes)
    ∷ (2, keeps_s2 spec.epoch_length)
    ∷ (3, keeps_s3 spec.w_close spec.w_far)
    ∷ (4, keeps_s4 spec.max_block_bytes)
    ∷ (5, keeps_s5 spec.max_cycles)
    ∷ (6, keeps_s6 spec.maturity)
    ∷ (7, keeps_s7 spec.halving_interval)
    ∷ [])
