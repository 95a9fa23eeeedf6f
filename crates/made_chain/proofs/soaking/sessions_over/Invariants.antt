use Rattle.std.proofs.Common.{◌≡◌, map, replicate}
use Rattle.std.specs.Prelude.{All}
use Rattle.std.specs.List.{range_with_len}
use Rattle.made_chain.specs.Sessions.{items_in, items_of, IsShort}
use Rattle.made_chain.specs.Soak.{stop_of, stop_at}
use Rattle.made_chain.proofs.soaking.sessions_over.Given as goal

-- the sessions so far import all items, and are stopped in turn
abbrev pub invariant-stopping : goal.invariant-stopping
invariant-stopping l = record {
  items : map items_of l.sessions.items ≡ replicate l.k (items_in l.items);
  short : All IsShort l.sessions.items;
  stops : map stop_of l.sessions.items ≡ map (stop_at l.seed) (range_with_len 0 l.k);
}
