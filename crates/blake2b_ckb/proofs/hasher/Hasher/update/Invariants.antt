use Rattle.std.proofs.Common.{ℕ, List, ◌++◌, ◌+◌, ◌-◌, ◌*◌, ◌/◌, length, take}
use Rattle.blake2b_ckb.specs.Hasher.{Holds}
use Rattle.blake2b_ckb.proofs.Absorbing.{IsWhole}
use Rattle.blake2b_ckb.proofs.hasher.Hasher.update.Given as goal

abbrev pub invariant-whole_blocks : goal.invariant-whole_blocks
invariant-whole_blocks l = (m : List ℕ) → Holds l.fn.self m
    → IsWhole l.self-inside.state l.self-inside.count ((m ++ take l.room l.piece) ++ take (128 * l.i) l.rest) ((length m - 1) / 128 + 1 + l.i)
