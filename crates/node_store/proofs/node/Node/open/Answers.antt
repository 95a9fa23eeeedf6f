use Rattle.std.proofs.Common.{Err, sym, ap, ◌∙◌}
use Rattle.outside.proofs.Moments.{leaves_also}
use Rattle.log_file.proofs.Exits.{stop_counts, answer_still, damage_also}
use Rattle.node_store.specs.Node.{NodeValue}
use Rattle.node_store.proofs.StayingLemmas.{not_stopped}
use Rattle.node_store.proofs.OpenLemmas.{leaves_on, stands_while_opened, own_read, keeps_led, settled_led, own_led, one_still, sound_led, on_led, whole_led, numbers_led, not_led, cells_stopped, no_store_at, moved_to_open, moved_exactly, led_counts, no_step, ok_err, same_stop}
use Rattle.node_store.proofs.node.Node.open.Goals as goal

pub returns-in-Err-clause-not_a_store : goal.returns-in-Err-clause-not_a_store
returns-in-Err-clause-not_a_store g c = c.in-Err.ensures.not_a_store

pub returns-in-Err-clause-left : goal.returns-in-Err-clause-left
returns-in-Err-clause-left g c = c.read_store.ensures.left

pub returns-in-Err-clause-moments : goal.returns-in-Err-clause-moments
returns-in-Err-clause-moments g c now chain told keeps sound =
    leaves_also g.D.Disk.moment g.D.Disk.left_since _ _ _ _ (c.read_store.ensures.left.stays now told)
    (stands_while_opened (g.D.Disk.images c.args.disk.now) sound (g.D.Disk.reads_as c.args.disk.now) now chain (g.met.D.Disk.reads_image c.args.disk.now) told keeps)

pub returns-in-Err-clause-cause : goal.returns-in-Err-clause-cause
returns-in-Err-clause-cause g c = stop_counts _ _ _ _ c.in-Err.ensures.cause

pub returns-in-Err-clause-most : goal.returns-in-Err-clause-most
returns-in-Err-clause-most g c = λ _ _. no_step _ _

pub returns-in-Err-clause-one_image : goal.returns-in-Err-clause-one_image
returns-in-Err-clause-one_image g c = tt

pub to_tip-requires : goal.to_tip-requires
to_tip-requires g c = record {
  own =
      own_read g.D.Disk.reads_as g.D.Disk.images _ _ c.node.inside.kept c.node.inside.log.place c.node.inside.state c.node.inside.cache _ c.node.view_is
      c.read_store.ensures.left.others c.in-Ok.ensures.read c.in-Ok.ensures.cells;
}

pub invariant_of-result : goal.invariant_of-result
invariant_of-result g c = record {
  few = c.node.invariant.few;
  within = c.node.invariant.within;
  below = c.in-Ok-to_tip.ensures.below c.node.invariant.below;
}

pub returns-in-Ok-to_tip-clause-not_a_store : goal.returns-in-Ok-to_tip-clause-not_a_store
returns-in-Ok-to_tip-clause-not_a_store g c = tt

pub returns-in-Ok-to_tip-clause-left : goal.returns-in-Ok-to_tip-clause-left
returns-in-Ok-to_tip-clause-left g c =
    leaves_on g.D.Disk.reads_as g.D.Disk.images g.D.Disk.moment g.D.Disk.left_since g.met.D.Disk.counts_now _ _ _ c.read_store.ensures.left (g.met.D.Disk.content_rests _ _ c.to_tip.ensures.content)

pub returns-in-Ok-to_tip-clause-one_image : goal.returns-in-Ok-to_tip-clause-one_image
returns-in-Ok-to_tip-clause-one_image g c =
    one_still g.D.Disk.reads_as g.D.Disk.images g.D.Disk.moment g.D.Disk.left_since _ _ (g.met.D.Disk.content_rests _ _ c.to_tip.ensures.content) c.in-Ok.ensures.one_image

pub returns-in-Ok-to_tip-clause-moments : goal.returns-in-Ok-to_tip-clause-moments
returns-in-Ok-to_tip-clause-moments g c now chain told keeps sound =
    leaves_also g.D.Disk.moment g.D.Disk.left_since _ _ _ _ ((leaves_on g.D.Disk.reads_as g.D.Disk.images g.D.Disk.moment g.D.Disk.left_since g.met.D.Disk.counts_now _ _ _ c.read_store.ensures.left (g.met.D.Disk.content_rests _ _ c.to_tip.ensures.content)).stays now told)
    (stands_while_opened (g.D.Disk.images c.args.disk.now) sound (g.D.Disk.reads_as c.args.disk.now) now chain (g.met.D.Disk.reads_image c.args.disk.now) told keeps)

pub returns-in-Ok-to_tip-clause-cause : goal.returns-in-Ok-to_tip-clause-cause
returns-in-Ok-to_tip-clause-cause g c =
    led_counts _ _ _ (answer_still _ _ _ _ c.in-Ok.ensures.cause) c.to_tip.ensures.cause
    (λ stop. absurd (ok_err _ _ (sym c.in-Ok-to_tip.is ∙ stop))) (λ e. absurd (ok_err _ _ e))

pub returns-in-Ok-to_tip-clause-most : goal.returns-in-Ok-to_tip-clause-most
returns-in-Ok-to_tip-clause-most g c =
    moved_to_open g.D.Disk.reads_as g.D.Disk.images _ _ c.node.inside.kept c.node.inside.log.place c.node.inside.state c.node.inside.cache _ c.node.view_is
    c.read_store.ensures.left.others c.in-Ok.ensures.read c.in-Ok.ensures.cells
    _ _ c.to_tip.ensures.most

pub returns-in-Err-clause-exactly : goal.returns-in-Err-clause-exactly
returns-in-Err-clause-exactly g c = λ _ _. tt

pub returns-in-Err-to_tip-clause-exactly : goal.returns-in-Err-to_tip-clause-exactly
returns-in-Err-to_tip-clause-exactly g c = λ _ _. tt

pub returns-in-Ok-to_tip-clause-exactly : goal.returns-in-Ok-to_tip-clause-exactly
returns-in-Ok-to_tip-clause-exactly g c =
    moved_exactly g.D.Disk.reads_as g.D.Disk.images _ _ c.node.inside.kept c.node.inside.log.place c.node.inside.state c.node.inside.cache _ c.node.view_is
    c.read_store.ensures.left.others c.in-Ok.ensures.read c.in-Ok.ensures.cells
    _ _ c.in-Ok-to_tip.ensures.exactly

pub returns-in-Err-to_tip-clause-not_a_store : goal.returns-in-Err-to_tip-clause-not_a_store
returns-in-Err-to_tip-clause-not_a_store g c =
    damage_also _ _ c.stop_of_move.result (λ damage found.
    not_led g.D.Disk.reads_as g.D.Disk.images _ _ c.node.inside.kept c.node.inside.log.place c.node.inside.state c.node.inside.cache _ c.node.view_is
    c.read_store.ensures.left.others c.in-Ok.ensures.read c.in-Ok.ensures.cells
    (λ there at areas joined cells. c.to_tip.ensures.undamaged there at areas joined cells damage (c.in-Err-to_tip.is ∙ ap Err found))) c.stop_of_move.ensures.damaged

pub returns-in-Err-to_tip-clause-left : goal.returns-in-Err-to_tip-clause-left
returns-in-Err-to_tip-clause-left g c =
    leaves_on g.D.Disk.reads_as g.D.Disk.images g.D.Disk.moment g.D.Disk.left_since g.met.D.Disk.counts_now _ _ _ c.read_store.ensures.left (g.met.D.Disk.content_rests _ _ c.to_tip.ensures.content)

pub returns-in-Err-to_tip-clause-moments : goal.returns-in-Err-to_tip-clause-moments
returns-in-Err-to_tip-clause-moments g c now chain told keeps sound =
    leaves_also g.D.Disk.moment g.D.Disk.left_since _ _ _ _ ((leaves_on g.D.Disk.reads_as g.D.Disk.images g.D.Disk.moment g.D.Disk.left_since g.met.D.Disk.counts_now _ _ _ c.read_store.ensures.left (g.met.D.Disk.content_rests _ _ c.to_tip.ensures.content)).stays now told)
    (stands_while_opened (g.D.Disk.images c.args.disk.now) sound (g.D.Disk.reads_as c.args.disk.now) now chain (g.met.D.Disk.reads_image c.args.disk.now) told keeps)

pub returns-in-Err-to_tip-clause-cause : goal.returns-in-Err-to_tip-clause-cause
returns-in-Err-to_tip-clause-cause g c =
    led_counts _ _ _ (answer_still _ _ _ _ c.in-Ok.ensures.cause) c.to_tip.ensures.cause
    (λ stop. ap Err (c.stop_of_move.ensures.fault.1 (same_stop _ _ (sym c.in-Err-to_tip.is ∙ stop))))
    (λ fault. c.in-Err-to_tip.is ∙ ap Err (c.stop_of_move.ensures.fault.0 (same_stop _ _ fault)))

pub returns-in-Err-to_tip-clause-most : goal.returns-in-Err-to_tip-clause-most
returns-in-Err-to_tip-clause-most g c =
    moved_to_open g.D.Disk.reads_as g.D.Disk.images _ _ c.node.inside.kept c.node.inside.log.place c.node.inside.state c.node.inside.cache _ c.node.view_is
    c.read_store.ensures.left.others c.in-Ok.ensures.read c.in-Ok.ensures.cells
    _ _ c.to_tip.ensures.most

pub returns-in-Err-to_tip-clause-one_image : goal.returns-in-Err-to_tip-clause-one_image
returns-in-Err-to_tip-clause-one_image g c = tt

pub returns-in-Err-clause-damage : goal.returns-in-Err-clause-damage
returns-in-Err-clause-damage g c = damage_also _ _ c.in-Err.stop (λ damage is. no_store_at _ damage is) c.in-Err.ensures.damage

pub returns-in-Ok-to_tip-clause-damage : goal.returns-in-Ok-to_tip-clause-damage
returns-in-Ok-to_tip-clause-damage g c = tt

pub returns-in-Err-to_tip-clause-damage : goal.returns-in-Err-to_tip-clause-damage
returns-in-Err-to_tip-clause-damage g c =
    damage_also _ _ c.stop_of_move.result (λ damage found.
    cells_stopped g.D.Disk.reads_as g.D.Disk.images _ _ c.node.inside.kept c.node.inside.log.place c.node.inside.state c.node.inside.cache _ c.node.view_is
    c.read_store.ensures.left.others c.in-Ok.ensures.read c.in-Ok.ensures.cells damage c.in-Ok.ensures.named
    (λ there at. c.to_tip.ensures.damage there at damage (c.in-Err-to_tip.is ∙ ap Err found))) c.stop_of_move.ensures.damaged

pub returns-in-Err-clause-opened : goal.returns-in-Err-clause-opened
returns-in-Err-clause-opened g c = tt

pub returns-in-Err-to_tip-clause-opened : goal.returns-in-Err-to_tip-clause-opened
returns-in-Err-to_tip-clause-opened g c = tt

pub returns-in-Ok-to_tip-clause-opened : goal.returns-in-Ok-to_tip-clause-opened
returns-in-Ok-to_tip-clause-opened g c = record {
  kept =
      keeps_led g.D.Disk.reads_as g.D.Disk.images _ _ c.node.inside.kept c.node.inside.log.place c.node.inside.state c.node.inside.cache _ c.node.view_is
      c.read_store.ensures.left.others c.in-Ok.ensures.read c.in-Ok.ensures.cells;
  whole =
      whole_led g.D.Disk.reads_as g.D.Disk.images _ _ c.node.inside.kept c.node.inside.log.place c.node.inside.state c.node.inside.cache _ c.node.view_is
      c.read_store.ensures.left.others c.in-Ok.ensures.read c.in-Ok.ensures.cells
      (λ there at. (c.in-Ok-to_tip.ensures.whole there at).0);
  numbered =
      numbers_led g.D.Disk.reads_as g.D.Disk.images _ _ c.node.inside.kept c.node.inside.log.place c.node.inside.state c.node.inside.cache _ c.node.view_is
      c.read_store.ensures.left.others c.in-Ok.ensures.read c.in-Ok.ensures.cells
      (λ there at. (c.in-Ok-to_tip.ensures.whole there at).1);
  own =
      own_led g.D.Disk.reads_as g.D.Disk.images _ _ c.node.inside.kept c.node.inside.log.place c.node.inside.state c.node.inside.cache _ c.node.view_is
      c.read_store.ensures.left.others c.in-Ok.ensures.read c.in-Ok.ensures.cells g.D.Disk.moment g.D.Disk.left_since _ (g.met.D.Disk.content_rests _ _ c.to_tip.ensures.content) c.in-Ok-to_tip.state c.to_tip.new.cache c.to_tip.ensures.agrees;
  settled =
      settled_led g.D.Disk.reads_as g.D.Disk.images _ _ c.node.inside.kept c.node.inside.log.place c.node.inside.state c.node.inside.cache _ c.node.view_is
      c.read_store.ensures.left.others c.in-Ok.ensures.read c.in-Ok.ensures.cells g.D.Disk.moment g.D.Disk.left_since _ (g.met.D.Disk.content_rests _ _ c.to_tip.ensures.content) c.in-Ok-to_tip.state c.to_tip.new.cache;
  on = λ sound.
      on_led g.D.Disk.reads_as g.D.Disk.images _ _ c.node.inside.kept c.node.inside.log.place c.node.inside.state c.node.inside.cache _ c.node.view_is
      c.read_store.ensures.left.others c.in-Ok.ensures.read c.in-Ok.ensures.cells g.D.Disk.moment g.D.Disk.left_since _ (g.met.D.Disk.content_rests _ _ c.to_tip.ensures.content) c.in-Ok-to_tip.state c.to_tip.new.cache
      c.in-Ok-to_tip.ensures.cells
      (g.met.D.Disk.reads_image c.args.disk.now) sound (c.in-Ok.ensures.image sound) c.to_tip.ensures.agrees;
  sound =
      sound_led g.D.Disk.reads_as g.D.Disk.images _ _ c.node.inside.kept c.node.inside.log.place c.node.inside.state c.node.inside.cache _ c.node.view_is
      c.read_store.ensures.left.others c.in-Ok.ensures.read c.in-Ok.ensures.cells g.D.Disk.moment g.D.Disk.left_since _ (g.met.D.Disk.content_rests _ _ c.to_tip.ensures.content) c.in-Ok-to_tip.state c.to_tip.new.cache
      c.in-Ok-to_tip.ensures.cells;
  found =
      c.in-Ok-to_tip.ensures.found (λ _ stop last. not_stopped _ stop)
      ∙ ap (λ (v : NodeValue). v.damages) c.node.view_is ∙ c.in-Ok.ensures.found;
  room =
      c.to_tip.ensures.room ∙ ap (λ (v : NodeValue). v.most) c.node.view_is ∙ c.in-Ok.ensures.room;
}
