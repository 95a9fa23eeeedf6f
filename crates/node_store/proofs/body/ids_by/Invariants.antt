use Rattle.std.proofs.Common.{◌≡◌, ◌++◌, map, take, drop}
use Rattle.node_store.proofs.body.ids_by.Given as goal

abbrev pub invariant-later : goal.invariant-later
invariant-later l = l.ids.items ++ map (take 10) (drop l.i l.hashes) ≡ map (take 10) (drop 1 l.hashes)
