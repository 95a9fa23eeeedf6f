-- The since of an input (RFC 0017, "Specification"): 64 bits that say from when on it may be spent.
use Rattle.std.specs.Prelude.{◌≡◌, ℕ, ◌+◌, ◌*◌, ◌/◌, ◌%◌, ◌^◌, Bool, true, false, ◌==◌, ◌&&◌, ◌≤◌, nat_le, if◌then◌else◌}
use Rattle.chain_defs.specs.Epochs.{is_well_formed, is_span_over}

-- Bit 63: relative to the block that made the cell, and otherwise absolute.
abbrev pub is_relative : ℕ → Bool
is_relative since = since / 2 ^ 63 % 2 == 1

-- Bits 62 and 61.
pub data Metric : Type 0 where
  block_number : Metric
  epoch : Metric
  timestamp : Metric
  no_metric : Metric

abbrev pub metric_of : ℕ → Metric
metric_of since =
    if since / 2 ^ 61 % 4 == 0 then block_number
    else if since / 2 ^ 61 % 4 == 1 then epoch
    else if since / 2 ^ 61 % 4 == 2 then timestamp
    else no_metric

-- Bits 60 to 56, which are zero.
abbrev pub reserved_of : ℕ → ℕ
reserved_of since = since / 2 ^ 56 % 2 ^ 5

-- Bits 55 to 0: blocks, an epoch value, or seconds.
abbrev pub since_value : ℕ → ℕ
since_value since = since % 2 ^ 56

-- a value that its metric can take
abbrev pub fits_metric : Metric → ℕ → Bool
fits_metric block_number value = true
fits_metric epoch value = is_well_formed value
fits_metric timestamp value = true
fits_metric no_metric value = false

abbrev pub is_valid : ℕ → Bool
is_valid since = (reserved_of since == 0) && fits_metric (metric_of since) (since_value since)

-- An input that is spent. The block that spends it has the height `number`, and the median time at its
-- parent is `median`; the block that made the cell has the height `made`. From `start` a relative
-- timestamp counts: the median time at that block's parent by the first edition of the rules, its own
-- timestamp by the second. Times are in milliseconds, and an epoch has `length` blocks.
pub record Spending : Type 0 where
  pub number : ℕ
  pub median : ℕ
  pub made : ℕ
  pub start : ℕ
  pub length : ℕ

-- the median time has come to an instant, in milliseconds
abbrev pub is_past : ℕ → Spending → Bool
is_past instant at = nat_le instant at.median

-- the absolute lock: height, fraction of epochs, or median time is at least the value
abbrev pub is_reached : Metric → ℕ → Spending → Bool
is_reached block_number value at = nat_le value at.number
is_reached epoch value at = is_span_over value at.length 0 at.number
is_reached timestamp value at = is_past (1000 * value) at
is_reached no_metric value at = false

-- the relative lock: the same from the block that made the cell
abbrev pub is_passed : Metric → ℕ → Spending → Bool
is_passed block_number value at = nat_le (at.made + value) at.number
is_passed epoch value at = is_span_over value at.length at.made at.number
is_passed timestamp value at = is_past (at.start + 1000 * value) at
is_passed no_metric value at = false

abbrev pub is_met : ℕ → Spending → Bool
is_met since at =
    if is_relative since then is_passed (metric_of since) (since_value since) at
    else is_reached (metric_of since) (since_value since) at

-- The same cell spent later: no lower, with no smaller median.
pub record IsLater (at later : Spending) : Type 0 where
  pub number : at.number ≤ later.number
  pub median : at.median ≤ later.median
  pub made : later.made ≡ at.made
  pub start : later.start ≡ at.start
  pub length : later.length ≡ at.length
