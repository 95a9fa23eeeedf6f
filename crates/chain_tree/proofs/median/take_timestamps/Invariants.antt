use Rattle.std.proofs.Common.{◌≡◌, ◌-◌, ◌<◌, ◌++◌, length, take}
use Rattle.chain_tree.specs.Timestamps.{timestamps_up}
use Rattle.chain_tree.proofs.median.take_timestamps.Given as goal

-- what was taken, and what is left up the path
abbrev pub invariant-up : goal.invariant-up
invariant-up l =
    (l.at < length l.entries)
    × (take l.count l.timestamps ++ timestamps_up l.entries (37 - l.count) l.at ≡ timestamps_up l.entries 37 l.fn.place)
