use Rattle.std.proofs.Common.{List, ℕ, ◌∷◌, [], length, refl, ap, sym, ◌∙◌, subst, arith}
use Rattle.std.specs.Prelude.{Option, Some, None, Err}
use Rattle.std.proofs.lemmas.Option.{same_Some}
use Rattle.outside.proofs.Endings.{no_fault, counts-as, no_answer, nothing_read}
use Rattle.chain_tree.specs.Reading.{stop_of}
use Rattle.node_store.specs.Snapshot.{snapshot_at}
use Rattle.node_store.specs.Node.{NodeValue}
use Rattle.report_defs.specs.Status.{IsOneOf}
use Rattle.report_defs.specs.declared.status.Status.TheVariants.{NotAStore}
use Rattle.rewards.specs.Reading.{IsUndamaged}
use Rattle.run_text.specs.Store.{opening_stops}
use Rattle.run_text.proofs.Exits.{same_stop}
use Rattle.run_text.proofs.Faults.{then_counts}
use Rattle.run_text.proofs.Tables.{held}
use Rattle.run_store.proofs.LookLemmas.{tells_looked, none_no_fault}
use Rattle.run_import.proofs.SnapshotLemmas.{tells_but}
use Rattle.run_import.proofs.KeepLemmas.{watch-there, still-below, left-looked, settled-looked, followed, sound-there}
use Rattle.run_import.proofs.importing.keep_item.Goals as goal

-- ---- The import was stopped

pub returns-in-Err-clause-imported : goal.returns-in-Err-clause-imported
returns-in-Err-clause-imported g c = tt

pub returns-in-Err-clause-left : goal.returns-in-Err-clause-left
returns-in-Err-clause-left g c = c.in-Err.ensures.left

pub returns-in-Err-clause-status : goal.returns-in-Err-clause-status
returns-in-Err-clause-status g c = λ status e.
    subst (λ s. IsOneOf opening_stops s) (same_stop _ _ e) c.status_of_reading.ensures.one_of

pub returns-in-Err-clause-sound : goal.returns-in-Err-clause-sound
returns-in-Err-clause-sound g c = λ watched is e.
    let damaged = c.status_of_reading.ensures.none (same_stop _ _ e) in
    c.in-Err.ensures.undamaged is.sound damaged.0 (ap Err damaged.1)

pub returns-in-Err-clause-told : goal.returns-in-Err-clause-told
returns-in-Err-clause-told g c = tells_but (snapshot_at (length c.args.node.chain.blocks)) _ _ c.in-Err.ensures.logged.others

pub returns-in-Err-clause-settled : goal.returns-in-Err-clause-settled
returns-in-Err-clause-settled g c = λ _ _. tt

pub returns-in-Err-clause-still : goal.returns-in-Err-clause-still
returns-in-Err-clause-still g c = c.in-Err.ensures.logged.still

pub returns-in-Err-clause-cause : goal.returns-in-Err-clause-cause
returns-in-Err-clause-cause g c =
    counts-as c.in-Err.ensures.cause
    (λ e. ap Err (c.status_of_reading.ensures.fault.0 (same_stop _ _ e)))
    (λ e. ap Err (c.status_of_reading.ensures.fault.1 (same_stop _ _ e)))

pub returns-in-Err-clause-most : goal.returns-in-Err-clause-most
returns-in-Err-clause-most g c = c.in-Err.ensures.stepped.most

-- ---- The tip before is no block after it

pub returns-then-before-len-clause-imported : goal.returns-then-before-len-clause-imported
returns-then-before-len-clause-imported g c = tt

pub returns-then-before-len-clause-left : goal.returns-then-before-len-clause-left
returns-then-before-len-clause-left g c = c.in-Ok.ensures.left

pub returns-then-before-len-clause-status : goal.returns-then-before-len-clause-status
returns-then-before-len-clause-status g c = λ status e. subst (λ s. IsOneOf opening_stops s) (same_stop _ _ e) (held opening_stops NotAStore refl)

pub returns-then-before-len-clause-sound : goal.returns-then-before-len-clause-sound
returns-then-before-len-clause-sound g c = λ watched is e.
    let below = still-below c.args.node.chain c.in-Ok.answer.0 c.args.item.now c.tip-before.result (c.tip-before.ensures.of_blocks c.args.node.chain.blocks c.tree.ensures.indexed)
    (c.in-Ok.ensures.imported.kept is.sound) in
    absurd (omega (arith, below, c.len.ensures.of_blocks c.in-Ok.answer.0.chain.blocks c.tree-2.ensures.indexed, c.if-before-len.true))

pub returns-then-before-len-clause-told : goal.returns-then-before-len-clause-told
returns-then-before-len-clause-told g c = tells_but (snapshot_at (length c.args.node.chain.blocks)) _ _ c.in-Ok.ensures.logged.others

pub returns-then-before-len-clause-settled : goal.returns-then-before-len-clause-settled
returns-then-before-len-clause-settled g c = λ _ _. tt

pub returns-then-before-len-clause-still : goal.returns-then-before-len-clause-still
returns-then-before-len-clause-still g c = c.in-Ok.ensures.logged.still

pub returns-then-before-len-clause-cause : goal.returns-then-before-len-clause-cause
returns-then-before-len-clause-cause g c = no_fault _ _ (c.in-Ok.ensures.cause.unchanged (no_answer _ _)) none_no_fault

pub returns-then-before-len-clause-most : goal.returns-then-before-len-clause-most
returns-then-before-len-clause-most g c = c.in-Ok.ensures.stepped.most

pub follow-requires-clause-from : goal.follow-requires-clause-from
follow-requires-clause-from g c = omega (arith, c.if-before-len.false, c.len.ensures.of_blocks c.in-Ok.answer.0.chain.blocks c.tree-2.ensures.indexed)

pub follow-requires-clause-own : goal.follow-requires-clause-own
follow-requires-clause-own g c = c.in-Ok.ensures.imported.own

-- ---- What is watched did not follow

pub returns-in-Err-follow-clause-left : goal.returns-in-Err-follow-clause-left
returns-in-Err-follow-clause-left g c =
    left-looked g.D.Disk.content_of g.D.Disk.reads_as g.D.Disk.images g.D.Disk.moment g.D.Disk.left_since g.met.D.Disk.content_rests g.met.D.Disk.counts_now
    c.args.disk.now c.import.new.disk c.follow.new.disk _ c.args.node c.args.item.now c.in-Ok.ensures.left c.in-Err-follow.ensures.left.content

pub returns-in-Err-follow-clause-told : goal.returns-in-Err-follow-clause-told
returns-in-Err-follow-clause-told g c =
    tells_looked g.D.Disk.content_of g.D.Disk.reads_as g.D.Disk.images g.D.Disk.moment g.D.Disk.left_since g.met.D.Disk.content_rests
    c.args.disk.now c.import.new.disk c.follow.new.disk (tells_but (snapshot_at (length c.args.node.chain.blocks)) _ _ c.in-Ok.ensures.logged.others) c.in-Err-follow.ensures.left.content

pub returns-in-Err-follow-clause-still : goal.returns-in-Err-follow-clause-still
returns-in-Err-follow-clause-still g c = λ sound stays. c.in-Err-follow.ensures.left.content ∙ c.in-Ok.ensures.logged.still sound stays

pub returns-in-Err-follow-clause-most : goal.returns-in-Err-follow-clause-most
returns-in-Err-follow-clause-most g c = c.in-Ok.ensures.stepped.most

pub returns-in-Err-follow-clause-imported : goal.returns-in-Err-follow-clause-imported
returns-in-Err-follow-clause-imported g c = tt

pub returns-in-Err-follow-clause-settled : goal.returns-in-Err-follow-clause-settled
returns-in-Err-follow-clause-settled g c = λ _ _. tt

pub returns-in-Err-follow-clause-status : goal.returns-in-Err-follow-clause-status
returns-in-Err-follow-clause-status g c = λ status e.
    subst (λ s. IsOneOf opening_stops s) (same_stop _ _ e) c.status_of_reading-in-Err-follow.ensures.one_of

pub returns-in-Err-follow-clause-sound : goal.returns-in-Err-follow-clause-sound
returns-in-Err-follow-clause-sound g c = λ watched is e.
    let damaged = c.status_of_reading-in-Err-follow.ensures.none (same_stop _ _ e) in
    let is_tip = c.tip-before.ensures.of_blocks c.args.node.chain.blocks c.tree.ensures.indexed in
    let told = tells_but (snapshot_at (length c.args.node.chain.blocks)) (g.D.Disk.reads_as c.args.disk.now) (g.D.Disk.reads_as c.import.new.disk) c.in-Ok.ensures.logged.others in
    let undamaged = c.in-Err-follow.ensures.followed watched
    (sound-there c.args.node c.in-Ok.answer.0 (g.D.Disk.reads_as c.args.disk.now) (g.D.Disk.reads_as c.import.new.disk) told c.in-Ok.ensures.imported.sound is.sound)
    (watch-there c.args.node.chain c.in-Ok.answer.0 c.args.item.now watched c.args.watch c.tip-before.result is_tip (c.in-Ok.ensures.imported.kept is.sound) is.watching) in
    subst IsUndamaged damaged.1 undamaged

pub returns-in-Err-follow-clause-cause : goal.returns-in-Err-follow-clause-cause
returns-in-Err-follow-clause-cause g c =
    then_counts (g.D.Disk.faults c.args.disk.now) (g.D.Disk.faults c.import.new.disk) (g.D.Disk.faults c.follow.new.disk)
    (c.in-Ok.ensures.cause.unchanged (no_answer _ _)) c.in-Err-follow.ensures.left.cause
    (λ e. ap Some (c.status_of_reading-in-Err-follow.ensures.fault.0 (same_stop _ _ e)))
    (λ e. ap Err (c.status_of_reading-in-Err-follow.ensures.fault.1 (same_Some _ _ e)))

-- ---- It followed

pub returns-in-Ok-follow-clause-left : goal.returns-in-Ok-follow-clause-left
returns-in-Ok-follow-clause-left g c =
    left-looked g.D.Disk.content_of g.D.Disk.reads_as g.D.Disk.images g.D.Disk.moment g.D.Disk.left_since g.met.D.Disk.content_rests g.met.D.Disk.counts_now
    c.args.disk.now c.import.new.disk c.follow.new.disk _ c.args.node c.args.item.now c.in-Ok.ensures.left c.in-Ok-follow.ensures.left.content

pub returns-in-Ok-follow-clause-told : goal.returns-in-Ok-follow-clause-told
returns-in-Ok-follow-clause-told g c =
    tells_looked g.D.Disk.content_of g.D.Disk.reads_as g.D.Disk.images g.D.Disk.moment g.D.Disk.left_since g.met.D.Disk.content_rests
    c.args.disk.now c.import.new.disk c.follow.new.disk (tells_but (snapshot_at (length c.args.node.chain.blocks)) _ _ c.in-Ok.ensures.logged.others) c.in-Ok-follow.ensures.left.content

pub returns-in-Ok-follow-clause-still : goal.returns-in-Ok-follow-clause-still
returns-in-Ok-follow-clause-still g c = λ sound stays. c.in-Ok-follow.ensures.left.content ∙ c.in-Ok.ensures.logged.still sound stays

pub returns-in-Ok-follow-clause-most : goal.returns-in-Ok-follow-clause-most
returns-in-Ok-follow-clause-most g c = c.in-Ok.ensures.stepped.most

pub returns-in-Ok-follow-clause-imported : goal.returns-in-Ok-follow-clause-imported
returns-in-Ok-follow-clause-imported g c =
    let is_tip = c.tip-before.ensures.of_blocks c.args.node.chain.blocks c.tree.ensures.indexed in
    let told = tells_but (snapshot_at (length c.args.node.chain.blocks)) (g.D.Disk.reads_as c.args.disk.now) (g.D.Disk.reads_as c.import.new.disk) c.in-Ok.ensures.logged.others in
    followed g.D.Disk.content_of g.D.Disk.reads_as g.D.Disk.images g.D.Disk.moment g.D.Disk.left_since g.met.D.Disk.content_rests
    c.args.disk.now c.import.new.disk c.follow.new.disk c.args.node c.in-Ok.answer.0 c.follow.new.node c.args.watch c.in-Ok-follow.watch c.args.item.now c.in-Ok.answer.1
    c.in-Ok.ensures.imported c.in-Ok-follow.ensures.left
    (λ watched is. c.in-Ok-follow.ensures.followed watched
    (sound-there c.args.node c.in-Ok.answer.0 (g.D.Disk.reads_as c.args.disk.now) (g.D.Disk.reads_as c.import.new.disk) told c.in-Ok.ensures.imported.sound is.sound)
    (watch-there c.args.node.chain c.in-Ok.answer.0 c.args.item.now watched c.args.watch c.tip-before.result is_tip (c.in-Ok.ensures.imported.kept is.sound) is.watching))

pub returns-in-Ok-follow-clause-settled : goal.returns-in-Ok-follow-clause-settled
returns-in-Ok-follow-clause-settled g c = λ records settled.
    settled-looked g.D.Disk.content_of g.D.Disk.reads_as g.D.Disk.images g.D.Disk.moment g.D.Disk.left_since g.met.D.Disk.content_rests
    c.import.new.disk c.follow.new.disk c.in-Ok.answer.0 c.follow.new.node records c.args.item.now c.in-Ok.answer.1
    (sym (ap (λ (n : NodeValue). n.place) c.in-Ok-follow.ensures.left.node)) c.in-Ok-follow.ensures.left.content (c.in-Ok.ensures.logged.settled records settled)

pub returns-in-Ok-follow-clause-status : goal.returns-in-Ok-follow-clause-status
returns-in-Ok-follow-clause-status g c = λ status e. absurd (no_answer _ _ e)

pub returns-in-Ok-follow-clause-sound : goal.returns-in-Ok-follow-clause-sound
returns-in-Ok-follow-clause-sound g c = λ watched is e. absurd (no_answer _ _ e)

pub returns-in-Ok-follow-clause-cause : goal.returns-in-Ok-follow-clause-cause
returns-in-Ok-follow-clause-cause g c =
    no_fault _ _ (c.in-Ok-follow.ensures.left.cause.unchanged (nothing_read _) ∙ c.in-Ok.ensures.cause.unchanged (no_answer _ _)) (no_answer _ _)
