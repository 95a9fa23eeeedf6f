use Rattle.std.proofs.Common.{ap, subst, length, arith}
use Rattle.std.specs.Prelude.{Err}
use Rattle.outside.proofs.Endings.{counts-as, after_still, no_answer}
use Rattle.verdict_defs.specs.Chain.{Chain}
use Rattle.node_store.specs.Node.{StandsOnDisk}
use Rattle.node_store.specs.Steps.{steps_over}
use Rattle.made_chain.specs.Sessions.{items_in, KeepsPrefix}
use Rattle.made_chain.proofs.ItemLemmas.{only_told, only_sound, only_keeps, only_opened, only_if_told, told_still, stopped_opening, ends_unopened, same_error}
use Rattle.made_chain.proofs.playing.open_and_import.Goals as goal

pub import_items-requires-clause-on : goal.import_items-requires-clause-on
import_items-requires-clause-on g c =
    let store = c.requires.store in
    let reads = g.D.Disk.reads_as c.args.disk.now in
    let images = g.D.Disk.images c.args.disk.now in
    only_if_told store.0 reads images store.1 (StandsOnDisk c.in-Ok.node (g.D.Disk.reads_as c.open.new.disk) (g.D.Disk.images c.open.new.disk))
    (c.in-Ok.ensures.opened.on (only_sound store.0 reads images store.1))

pub returns-in-Ok-clause-kept : goal.returns-in-Ok-clause-kept
returns-in-Ok-clause-kept g c = λ chain only image left.
    subst (λ (k : Chain). KeepsPrefix k (items_in c.args.items.now) c.import_items.result.0 image)
    (only_opened chain (g.D.Disk.reads_as c.args.disk.now) (g.D.Disk.images c.args.disk.now) only c.in-Ok.node.chain c.in-Ok.ensures.opened.kept)
    (c.import_items.ensures.kept image left)

pub returns-in-Ok-clause-fault : goal.returns-in-Ok-clause-fault
returns-in-Ok-clause-fault g c = after_still (c.in-Ok.ensures.cause.unchanged (no_answer _ _)) c.import_items.ensures.fault

pub returns-in-Ok-clause-steps : goal.returns-in-Ok-clause-steps
returns-in-Ok-clause-steps g c = λ chain only.
    let same = only_opened chain (g.D.Disk.reads_as c.args.disk.now) (g.D.Disk.images c.args.disk.now) only c.in-Ok.node.chain c.in-Ok.ensures.opened.kept in
    let moves = ap (λ (k : Chain). steps_over k (items_in c.args.items.now)) same in
    omega (arith, c.in-Ok.ensures.most only.now only.told, c.import_items.ensures.steps, moves)

pub returns-in-Err-clause-told : goal.returns-in-Err-clause-told
returns-in-Err-clause-told g c =
    let store = c.requires.store in
    told_still _ _ c.in-Err.ensures.left.others (only_told store.0 (g.D.Disk.reads_as c.args.disk.now) (g.D.Disk.images c.args.disk.now) store.1)

pub returns-in-Err-clause-kept : goal.returns-in-Err-clause-kept
returns-in-Err-clause-kept g c = λ chain only.
    let reads = g.D.Disk.reads_as c.args.disk.now in
    let images = g.D.Disk.images c.args.disk.now in
    stopped_opening g.D.Disk.images g.D.Disk.moment g.D.Disk.left_since g.met.D.Disk.counts_now c.args.disk.now c.open.new.disk chain reads
    (items_in c.args.items.now) only
    (c.in-Err.ensures.moments only.now chain only.told (only_keeps chain reads images only) (only_sound chain reads images only))

pub returns-in-Err-clause-end : goal.returns-in-Err-clause-end
returns-in-Err-clause-end g c = ends_unopened (length c.args.items.now) c.end_of_opening.result c.end_of_opening.ensures.stopped

pub returns-in-Err-clause-fault : goal.returns-in-Err-clause-fault
returns-in-Err-clause-fault g c =
    counts-as c.in-Err.ensures.cause
    (λ e. ap Err (c.end_of_opening.ensures.fault.0 e)) (λ e. c.end_of_opening.ensures.fault.1 (same_error _ _ e))

pub returns-in-Err-clause-steps : goal.returns-in-Err-clause-steps
returns-in-Err-clause-steps g c = λ chain only.
    omega (arith, c.in-Err.ensures.most only.now only.told)

pub returns-in-Ok-clause-opened : goal.returns-in-Ok-clause-opened
returns-in-Ok-clause-opened g c = λ chain only whole.
    omega (arith, c.in-Ok.ensures.exactly only.now only.told, c.import_items.ensures.counted whole)

pub returns-in-Err-clause-opened : goal.returns-in-Err-clause-opened
returns-in-Err-clause-opened g c = λ chain only whole. absurd (c.end_of_opening.ensures.stopped whole)
