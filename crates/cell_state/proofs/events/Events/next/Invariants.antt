use Rattle.std.proofs.Common.{◌≡◌, ◌-◌, length, map}
use Rattle.chain_defs.specs.Hashes.{transaction_hash}
use Rattle.cell_state.specs.Walk.{height_of, events_left}
use Rattle.cell_state.proofs.events.Events.next.Given as goal

abbrev pub invariant-loop-self : goal.invariant-loop-self
invariant-loop-self l =
    (events_left l.self-inside.block.now.transactions (height_of l.self-inside.genesis) l.self-inside.place l.self-inside.index
    ≡ events_left l.initial.self-inside.block.now.transactions (height_of l.initial.self-inside.genesis) l.initial.self-inside.place l.initial.self-inside.index)
    × (l.self-inside.hashes.now ≡ map transaction_hash l.self-inside.block.now.transactions)

abbrev pub decreases-loop-self : goal.decreases-loop-self
decreases-loop-self l = length l.self-inside.block.now.transactions - l.self-inside.place
