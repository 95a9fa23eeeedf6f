-- What the definitions of time and money come to, in the terms of the RFCs.
use Rattle.std.specs.Prelude.{◌≡◌, ℕ, ◌+◌, ◌*◌, ◌^◌, ◌<◌, ◌≤◌, IsTrue, nat_le}
use Rattle.chain_defs.specs.Epochs.{epoch_number, epoch_field, is_span_over}
use Rattle.chain_defs.specs.Specification.{keeps_s2}
use Rattle.chain_defs.specs.Since.{block_number, timestamp, Spending, is_relative, metric_of, since_value, is_met, is_reached, is_past}

-- The span that the epoch field of the block of height `blocks` stands for is over exactly from so many blocks later on.
abbrev pub SpansItsBlocks : Type 0
SpansItsBlocks = (length blocks made now : ℕ) → IsTrue (keeps_s2 length) → epoch_number length blocks < 2 ^ 24 → made ≤ now
    → is_span_over (epoch_field length blocks) length made now ≡ nat_le (made + blocks) now

-- A relative since of blocks is met exactly where the absolute one of its value and the height of the block that made
-- the cell would be (RFC 0017: the same, from the block that made the cell).
abbrev pub CountsFromTheBlock : Type 0
CountsFromTheBlock = (since : ℕ) (at : Spending) → IsTrue (is_relative since) → metric_of since ≡ block_number
    → is_met since at ≡ is_reached block_number (at.made + since_value since) at

-- One of seconds is met exactly where the absolute one of its value and the time at the parent of that block would be.
abbrev pub CountsFromTheTime : Type 0
CountsFromTheTime = (since : ℕ) (at : Spending) → IsTrue (is_relative since) → metric_of since ≡ timestamp
    → is_met since at ≡ is_past (at.start + 1000 * since_value since) at
