use Rattle.std.proofs.Common.{arith}
use Rattle.std.specs.Prelude.{slice_index_or}
use Rattle.chain_tree.proofs.EntryLemmas.{ancestor-ancestor, jump-read}
use Rattle.chain_tree.proofs.ancestors.jump_over.Goals as goal

pub bounds-entries-first : goal.bounds-entries-first
bounds-entries-first c =
    let first = jump-read c.args.entries.now c.args.jumps.now c.args.parent c.requires.tree c.requires.jumps c.requires.within in
    omega (arith, first.at_most, c.requires.within)

pub bounds-jumps-first : goal.bounds-jumps-first
bounds-jumps-first c =
    let first = jump-read c.args.entries.now c.args.jumps.now c.args.parent c.requires.tree c.requires.jumps c.requires.within in
    omega (arith, first.at_most, c.requires.within, c.requires.jumps.each)

pub overflow_sub-entries : goal.overflow_sub-entries
overflow_sub-entries c =
    (jump-read c.args.entries.now c.args.jumps.now c.args.parent c.requires.tree c.requires.jumps c.requires.within).lower _

pub bounds-entries-second : goal.bounds-entries-second
bounds-entries-second c =
    let first = jump-read c.args.entries.now c.args.jumps.now c.args.parent c.requires.tree c.requires.jumps c.requires.within in
    let second = jump-read c.args.entries.now c.args.jumps.now (slice_index_or c.args.jumps.now c.args.parent 0) c.requires.tree c.requires.jumps
    (omega (arith, first.at_most, c.requires.within)) in
    omega (arith, first.at_most, second.at_most, c.requires.within)

pub overflow_sub-middle : goal.overflow_sub-middle
overflow_sub-middle c =
    let first = jump-read c.args.entries.now c.args.jumps.now c.args.parent c.requires.tree c.requires.jumps c.requires.within in
    (jump-read c.args.entries.now c.args.jumps.now (slice_index_or c.args.jumps.now c.args.parent 0) c.requires.tree c.requires.jumps
    (omega (arith, first.at_most, c.requires.within))).lower _

pub returns-then-entries-parent-clause-up : goal.returns-then-entries-parent-clause-up
returns-then-entries-parent-clause-up c =
    let first = jump-read c.args.entries.now c.args.jumps.now c.args.parent c.requires.tree c.requires.jumps c.requires.within in
    let second = jump-read c.args.entries.now c.args.jumps.now (slice_index_or c.args.jumps.now c.args.parent 0) c.requires.tree c.requires.jumps
    (omega (arith, first.at_most, c.requires.within)) in
    ancestor-ancestor c.args.entries.now c.args.parent _ _ first.up second.up

pub returns-then-entries-parent-clause-within : goal.returns-then-entries-parent-clause-within
returns-then-entries-parent-clause-within c =
    let first = jump-read c.args.entries.now c.args.jumps.now c.args.parent c.requires.tree c.requires.jumps c.requires.within in
    let second = jump-read c.args.entries.now c.args.jumps.now (slice_index_or c.args.jumps.now c.args.parent 0) c.requires.tree c.requires.jumps
    (omega (arith, first.at_most, c.requires.within)) in
    omega (arith, first.at_most, second.at_most, c.requires.within)
