-- Epochs, epoch values and issuance. Every epoch has `length` blocks: that it is so, where RFC 0020 adjusts it, is a choice of this chain
-- (docs/RULES.md, "Epochs and issuance").
use Rattle.std.specs.Prelude.{ℕ, ◌+◌, ◌-◌, ◌*◌, ◌/◌, ◌%◌, ◌^◌, Bool, ◌==◌, ◌&&◌, ◌||◌, nat_lt, nat_le, if◌then◌else◌}

-- ---- Epochs

-- the epoch in which the block of this height stands, and its index there
abbrev pub epoch_number : ℕ → ℕ → ℕ
epoch_number length height = height / length

abbrev pub epoch_index : ℕ → ℕ → ℕ
epoch_index length height = height % length

-- ---- Epoch values (RFC 0027, "epoch" of the header; RFC 0017, the metric epoch)

-- the number in bits 0 to 23, the index in bits 24 to 39, the length in bits 40 to 55
abbrev pub epoch_value : ℕ → ℕ → ℕ → ℕ
epoch_value number index length = number + index * 2 ^ 24 + length * 2 ^ 40

abbrev pub value_number : ℕ → ℕ
value_number value = value % 2 ^ 24

abbrev pub value_index : ℕ → ℕ
value_index value = value / 2 ^ 24 % 2 ^ 16

abbrev pub value_length : ℕ → ℕ
value_length value = value / 2 ^ 40 % 2 ^ 16

-- the epoch field of the header of the block of this height
abbrev pub epoch_field : ℕ → ℕ → ℕ
epoch_field length height = epoch_value (epoch_number length height) (epoch_index length height) length

-- the index is below the length (RFC 0017), or both are zero, which stands for whole epochs (docs/RULES.md, "Epochs and issuance")
abbrev pub is_well_formed : ℕ → Bool
is_well_formed value = nat_lt (value_index value) (value_length value) || ((value_index value == 0) && (value_length value == 0))

-- ---- Fractions

-- numerator / denominator, of a denominator that is not zero
pub record Fraction : Type 0 where
  pub numerator : ℕ
  pub denominator : ℕ

-- a / b is at least c / d where a * d is at least c * b
abbrev pub is_at_least : Fraction → Fraction → Bool
is_at_least x y = nat_le (y.numerator * x.denominator) (x.numerator * y.denominator)

-- number + index / length, and number where the length is zero
abbrev pub epochs_in : ℕ → Fraction
epochs_in value =
    if value_length value == 0
    then record { numerator = value_number value; denominator = 1 }
    else record { numerator = value_number value * value_length value + value_index value; denominator = value_length value }

-- The span of `value` epochs is over from the block of height `made` to that of height `now`:
-- (now - made) / length is at least the value.
abbrev pub is_span_over : ℕ → ℕ → ℕ → ℕ → Bool
is_span_over value length made now =
    is_at_least (record { numerator = now - made; denominator = length }) (epochs_in value)

-- ---- Issuance (RFC 0020, the reward of each block)

-- The share that the block of this index has in the reward of its epoch: the blocks share alike, and the
-- first ones take one more each, as many as the division leaves.
abbrev pub share_of_index : ℕ → ℕ → ℕ → ℕ
share_of_index length index reward = reward / length + (if nat_lt index (reward % length) then 1 else 0)

abbrev pub share : ℕ → ℕ → ℕ → ℕ
share length height reward = share_of_index length (epoch_index length height) reward

-- The primary reward of an epoch is halved once for each `interval` epochs before it.
abbrev pub primary_reward_of : ℕ → ℕ → ℕ → ℕ
primary_reward_of reward interval epoch = reward / 2 ^ (epoch / interval)

-- the share of the block of this height in the primary reward of its epoch
abbrev pub primary_share : ℕ → ℕ → ℕ → ℕ → ℕ
primary_share length reward interval height =
    share length height (primary_reward_of reward interval (epoch_number length height))
