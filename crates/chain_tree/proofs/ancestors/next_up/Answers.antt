use Rattle.std.proofs.Common.{◌≤◌, arith}
use Rattle.chain_tree.proofs.EntryLemmas.{jump-read, above-there, number-read, parent-high}
use Rattle.chain_tree.proofs.ancestors.next_up.Goals as goal

pub bounds-entries-jump : goal.bounds-entries-jump
bounds-entries-jump c =
    let above = above-there c.args.entries.now c.args.place c.args.number c.requires.tree c.requires.above in
    let jump = jump-read c.args.entries.now c.args.jumps.now c.args.place c.requires.tree c.requires.jumps above.within in
    omega (arith, above.within, jump.at_most)

pub bounds-entries-place : goal.bounds-entries-place
bounds-entries-place c = (above-there c.args.entries.now c.args.place c.args.number c.requires.tree c.requires.above).within

pub returns-then-number-entries-clause-up : goal.returns-then-number-entries-clause-up
returns-then-number-entries-clause-up c =
    let above = above-there c.args.entries.now c.args.place c.args.number c.requires.tree c.requires.above in
    (jump-read c.args.entries.now c.args.jumps.now c.args.place c.requires.tree c.requires.jumps above.within).up

pub returns-then-number-entries-clause-nearer : goal.returns-then-number-entries-clause-nearer
returns-then-number-entries-clause-nearer c =
    let above = above-there c.args.entries.now c.args.place c.args.number c.requires.tree c.requires.above in
    (jump-read c.args.entries.now c.args.jumps.now c.args.place c.requires.tree c.requires.jumps above.within).earlier above.behind

pub returns-then-number-entries-clause-at_least : goal.returns-then-number-entries-clause-at_least
returns-then-number-entries-clause-at_least c =
    let above = above-there c.args.entries.now c.args.place c.args.number c.requires.tree c.requires.above in
    let jump = jump-read c.args.entries.now c.args.jumps.now c.args.place c.requires.tree c.requires.jumps above.within in
    number-read c.args.entries.now _ (λ number. c.args.number ≤ number) _ (omega (arith, above.within, jump.at_most)) c.if-number-entries.true

pub returns-else-number-entries-clause-up : goal.returns-else-number-entries-clause-up
returns-else-number-entries-clause-up c =
    ((above-there c.args.entries.now c.args.place c.args.number c.requires.tree c.requires.above).parent _).up

pub returns-else-number-entries-clause-nearer : goal.returns-else-number-entries-clause-nearer
returns-else-number-entries-clause-nearer c =
    ((above-there c.args.entries.now c.args.place c.args.number c.requires.tree c.requires.above).parent _).earlier

pub returns-else-number-entries-clause-at_least : goal.returns-else-number-entries-clause-at_least
returns-else-number-entries-clause-at_least c =
    parent-high _ _ c.args.number _ (above-there c.args.entries.now c.args.place c.args.number c.requires.tree c.requires.above)
