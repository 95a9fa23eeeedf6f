use Rattle.std.proofs.Common.{◌≡◌, ℕ, ◌+◌, ◌<◌, ◌≤◌, length, drop, get_or, ap, ◌∙◌, subst, arith}
use Rattle.std.specs.Prelude.{Err}
use Rattle.outside.proofs.Endings.{counts-as, after_still, no_answer}
use Rattle.verdict_defs.specs.Chain.{Chain}
use Rattle.node_store.specs.Steps.{steps_over}
use Rattle.node_store.proofs.StayingLemmas.{moments-on}
use Rattle.made_chain.specs.Sessions.{items_in, KeepsPrefix}
use Rattle.made_chain.proofs.ItemLemmas.{only_stands, all_keep, same_error, on_sound, one_in, as_many, chain_more, steps_left, stopped_import}
use Rattle.made_chain.proofs.playing.import_items.Goals as goal

pub returns-in-Err-clause-kept : goal.returns-in-Err-clause-kept
returns-in-Err-clause-kept g c =
    let items = c.args.items.now in
    let item = c.deref.result.now in
    let within : c.importing.i < length (items_in items) = omega (arith, c.importing-test.true, as_many items) in
    let at : get_or (items_in items) c.importing.i item ≡ item =
    one_in items c.importing.i c.index-items-i.result item (omega (arith, c.importing-test.true)) c.index-items-i.is c.deref.ensures.value in
    stopped_import g.D.Disk.images g.D.Disk.moment g.D.Disk.left_since g.met.D.Disk.counts_now c.importing.disk c.import.new.disk
    c.args.opened.chain c.importing.node.chain (items_in items) c.importing.i item within at c.importing.invariant.kept
    (moments-on _ _ c.in-Err.ensures.left c.importing.invariant.on)

pub returns-in-Err-clause-steps : goal.returns-in-Err-clause-steps
returns-in-Err-clause-steps g c =
    let items = c.args.items.now in
    let item = c.deref.result.now in
    let within : c.importing.i < length (items_in items) = omega (arith, c.importing-test.true, as_many items) in
    let at : get_or (items_in items) c.importing.i item ≡ item =
    one_in items c.importing.i c.index-items-i.result item (omega (arith, c.importing-test.true)) c.index-items-i.is c.deref.ensures.value in
    let left = steps_left (items_in items) c.importing.i item within at c.importing.node.chain in
    omega (arith, c.in-Err.ensures.stepped.most, left, c.importing.invariant.left)

pub importing-preserved : goal.importing-preserved
importing-preserved g c =
    let items = c.args.items.now in
    let item = c.deref.result.now in
    let within : c.importing.i < length (items_in items) = omega (arith, c.importing-test.true, as_many items) in
    let at : get_or (items_in items) c.importing.i item ≡ item =
    one_in items c.importing.i c.index-items-i.result item (omega (arith, c.importing-test.true)) c.index-items-i.is c.deref.ensures.value in
    let now = c.importing.node.chain in
    let sound = on_sound c.importing.node (g.D.Disk.reads_as c.importing.disk) (g.D.Disk.images c.importing.disk) c.importing.invariant.on in
    let kept = c.in-Ok.ensures.imported.kept sound in
    let left = steps_left (items_in items) c.importing.i item within at now in
    let same = ap (λ (k : Chain). steps_over k (drop (c.importing.i + 1) (items_in items))) kept in
    record {
      on = c.in-Ok.ensures.imported.on c.importing.invariant.on;
      kept = kept ∙ chain_more (items_in items) c.importing.i item within at c.args.opened.chain now c.importing.invariant.kept;
      unchanged = c.in-Ok.ensures.cause.unchanged (no_answer _ _) ∙ c.importing.invariant.unchanged;
      left = omega (arith, c.in-Ok.ensures.stepped.most, left, same, c.importing.invariant.left);
      rising = omega (arith, c.in-Ok.ensures.stepped.exactly, c.importing.invariant.rising);
      within = omega (arith, c.importing-test.true);
    }

pub returns-in-Err-clause-counted : goal.returns-in-Err-clause-counted
returns-in-Err-clause-counted g c = λ whole. absurd (c.end_of_import.ensures.stopped whole)

pub returns-in-Err-clause-fault : goal.returns-in-Err-clause-fault
returns-in-Err-clause-fault g c =
    after_still c.importing.invariant.unchanged
    (counts-as c.in-Err.ensures.cause (λ e. ap Err (c.end_of_import.ensures.fault.0 e)) (λ e. c.end_of_import.ensures.fault.1 (same_error _ _ e)))

pub returns-clause-kept : goal.returns-clause-kept
returns-clause-kept g c = λ image left.
    let items = c.args.items.now in
    let chain = c.args.opened.chain in
    let now = c.importing.node.chain in
    let past : length (items_in items) ≤ c.importing.i = omega (arith, c.importing-test.false, as_many items) in
    let stands = only_stands now (g.D.Disk.reads_as c.importing.disk) (g.D.Disk.images c.importing.disk) c.importing.invariant.on.image image left in
    subst (λ (n : ℕ). KeepsPrefix chain (items_in items) n image) (as_many items)
    (all_keep chain now (items_in items) c.importing.i past c.importing.invariant.kept image stands)
