use Rattle.std.proofs.Common.{◌≡◌}
use Rattle.store_vectors.proofs.brought.are_brought.Given as goal

-- the source has as many blocks as at the start
abbrev pub invariant-places : goal.invariant-places
invariant-places g l = l.count ≡ g.B.Blocks.count l.blocks
