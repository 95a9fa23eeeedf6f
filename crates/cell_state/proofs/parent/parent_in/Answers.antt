use Rattle.std.proofs.Common.{arith}
use Rattle.std.proofs.lemmas.Option.{slice_get_within}
use Rattle.cell_state.proofs.WayLemmas.{parent-earlier}
use Rattle.cell_state.proofs.parent.parent_in.Goals as goal

pub returns-clause-earlier : goal.returns-clause-earlier
returns-clause-earlier c = parent-earlier c.args.tree.now.entries c.args.place c.entry.result.now c.len.ensures.tree (omega arith) c.entry.ensures.entry

pub returns-clause-within : goal.returns-clause-within
returns-clause-within c =
    let earlier = returns-clause-earlier c in
    let there = slice_get_within c.args.tree.now.entries c.args.place c.entry.result.now c.entry.ensures.entry in
    omega (arith, earlier, there)
