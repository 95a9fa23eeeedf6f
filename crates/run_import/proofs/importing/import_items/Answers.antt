use Rattle.std.proofs.Common.{◌≡◌, List, ◌∷◌, ◌++◌, inl, inr, false, length, ap, sym, ◌∙◌, arith, refl, subst, []}
use Rattle.std.specs.Prelude.{Ok, Err, Some, ◌||◌}
use Rattle.outside.proofs.Endings.{no_fault, no_answer}
use Rattle.outside.proofs.Streams.{gives_none}
use Rattle.outside.specs.Disk.{LeavesOnly}
use Rattle.disk_defs.specs.Log.{Record}
use Rattle.disk_defs.specs.Rest.{IsSettled}
use Rattle.outside.proofs.Moments.{leaves_also}
use Rattle.node_store.specs.Node.{IsSoundWhereTold, StandsOnDisk}
use Rattle.report_defs.specs.declared.status.Status.TheVariants.{InputFault, NoMemory}
use Rattle.report_defs.specs.Report.{item_limit, input_limit}
use Rattle.report_defs.specs.Survival.{NoneJoins, AreOfSome, GoesOn}
use Rattle.verdict_defs.specs.Verdict as rules
use Rattle.run_text.specs.Items.{IsReadingStop, IsItemAt, IsPartial, EndsAt, IsNext}
use Rattle.run_text.specs.declared.next.Next.{Next}
use Rattle.report_defs.specs.Status.{IsOneOf}
use Rattle.run_import.specs.Import.{item_stops}
use Rattle.run_import.specs.Watching.{IsSoundWatching}
use Rattle.run_text.proofs.Exits.{same_stop}
use Rattle.run_text.proofs.Faults.{then_counts}
use Rattle.run_import.proofs.ImportLemmas.{whole_none, whole_more, imported_to_end, imported_to_fault, imported_to_line, leaves_none, leaves_item, exit_of_item, on_stands, no_input_fault, reading_stopped, keeps_more, or_then, or_else, input_limit-is}
use Rattle.run_text.proofs.Reading.{few_partial}
use Rattle.run_text.proofs.Faults.{IsMemory}
use Rattle.run_text.proofs.Limits.{item_limit-is}
use Rattle.run_store.proofs.DiskLemmas.{sound_after, sound_on}
use Rattle.run_import.proofs.RecordLemmas.{HasGrown, grown_none, grown_more, grown_moments, goes_more}
use Rattle.run_import.proofs.CountLemmas.{counted_to_part, counted_to_stop, counted_to_item, part_also, stop_also, item_also, none-push, stays_there}
use Rattle.node_store.proofs.StayingLemmas.{moments-on}
use Rattle.run_import.proofs.importing.import_items.Goals as goal
use Rattle.run_import.proofs.importing.import_items.Goals.{then-refused, else-refused}

pub items-init : goal.items-init
items-init g c = record {
  whole = (
    whole_none c.args.watched c.args.opened.chain (g.S.Source.left c.args.input.now) (g.K.Sink.taken c.args.out.now)
        (IsSoundWhereTold c.args.opened (g.D.Disk.reads_as c.args.disk.now)) (IsSoundWatching c.args.watched c.args.opened c.in-Ok.watch (g.D.Disk.reads_as c.args.disk.now))
        (StandsOnDisk c.args.opened (g.D.Disk.reads_as c.args.disk.now) (g.D.Disk.images c.args.disk.now)) (LeavesOnly g.D.Disk.moment g.D.Disk.left_since c.args.disk.now c.args.disk.now)
        c.args.steps.now (λ sound. record { sound = sound; watching = c.in-Ok.ensures sound.sound.live })
        (leaves_none g.D.Disk.images g.D.Disk.moment g.D.Disk.left_since g.met.D.Disk.counts_now g.met.D.Disk.only_now c.args.disk.now c.args.opened
        (g.D.Disk.reads_as c.args.disk.now)),
    λ sound none. refl,
    λ records settled. grown_none g.D.Disk.images g.D.Disk.moment g.D.Disk.left_since g.met.D.Disk.counts_now g.met.D.Disk.only_now c.args.disk.now records
        c.args.opened.place (g.D.Disk.reads_as c.args.disk.now) settled,
  );
  own = c.requires.own;
  told = refl;
  input_unchanged = refl;
  out_unchanged = refl;
  disk_unchanged = refl;
}

pub next_block-requires : goal.next_block-requires
next_block-requires g c = c.items.invariant.whole.0.within

pub returns-in-Ok-End-clause-imported : goal.returns-in-Ok-End-clause-imported
returns-in-Ok-End-clause-imported g c =
    let next = c.in-Ok-End.ensures.next in
    let left = g.S.Source.left c.next_block.new.input in
    let ends : EndsAt (Some item_limit) (Some input_limit) c.items.offset left c.in-Ok-End.end next.0 × IsPartial item_limit (Some input_limit) c.items.offset next.0 =
    subst (λ (n : Next). IsNext item_limit (Some input_limit) c.items.offset left (Ok n) next.0) c.in-Ok-End.field-0-is next.2 in
    imported_to_end c.args.watched c.args.opened.chain c.items.offset (g.S.Source.left c.args.input.now) (g.S.Source.left c.items.input) (g.S.Source.left c.next_block.new.input)
    (g.K.Sink.taken c.args.out.now) (g.K.Sink.taken c.items.out) c.items.node.chain (record { end = c.in-Ok-End.end; offset = c.items.offset; refused = c.items.refused })
    (IsSoundWhereTold c.args.opened (g.D.Disk.reads_as c.args.disk.now)) (IsSoundWatching c.args.watched c.items.node c.items.watch (g.D.Disk.reads_as c.items.disk))
    (StandsOnDisk c.args.opened (g.D.Disk.reads_as c.args.disk.now) (g.D.Disk.images c.args.disk.now)) (StandsOnDisk c.items.node (g.D.Disk.reads_as c.items.disk) (g.D.Disk.images c.items.disk))
    (g.D.Disk.images c.items.disk) (LeavesOnly g.D.Disk.moment g.D.Disk.left_since c.args.disk.now c.items.disk) c.args.steps.now c.items.steps next.0 c.items.invariant.whole.0 next.1 ends.0 ends.1 refl
    (on_stands c.items.node c.items.node.chain (g.D.Disk.reads_as c.items.disk) (g.D.Disk.images c.items.disk) refl)

pub returns-in-Ok-End-clause-status : goal.returns-in-Ok-End-clause-status
returns-in-Ok-End-clause-status g c = λ status e. absurd (no_answer _ _ e)

pub returns-in-Ok-End-clause-input_faults : goal.returns-in-Ok-End-clause-input_faults
returns-in-Ok-End-clause-input_faults g c =
    no_fault (g.S.Source.faults c.args.input.now) (g.S.Source.faults c.next_block.new.input)
    (c.in-Ok-End.ensures.faults.unchanged (no_answer _ _) ∙ c.items.invariant.input_unchanged) (no_answer _ _)

pub returns-in-Ok-End-clause-out_faults : goal.returns-in-Ok-End-clause-out_faults
returns-in-Ok-End-clause-out_faults g c = no_fault (g.K.Sink.faults c.args.out.now) (g.K.Sink.faults c.items.out) c.items.invariant.out_unchanged (no_answer _ _)

pub returns-in-Ok-End-clause-disk_faults : goal.returns-in-Ok-End-clause-disk_faults
returns-in-Ok-End-clause-disk_faults g c = no_fault (g.D.Disk.faults c.args.disk.now) (g.D.Disk.faults c.items.disk) c.items.invariant.disk_unchanged (no_answer _ _)

pub import_item-requires-clause-own : goal.import_item-requires-clause-own
import_item-requires-clause-own g c = c.items.invariant.own

pub returns-in-Err-next_block-clause-imported : goal.returns-in-Err-next_block-clause-imported
returns-in-Err-next_block-clause-imported g c =
    let next = c.in-Err-next_block.ensures.next in
    let whole = c.items.invariant.whole.0 in
    imported_to_fault c.args.watched c.args.opened.chain c.items.offset (g.S.Source.left c.args.input.now) (g.S.Source.left c.items.input) (g.S.Source.left c.next_block.new.input)
    (g.K.Sink.taken c.args.out.now) (g.K.Sink.taken c.items.out) c.items.node.chain c.items.refused
    (IsSoundWhereTold c.args.opened (g.D.Disk.reads_as c.args.disk.now)) (IsSoundWatching c.args.watched c.items.node c.items.watch (g.D.Disk.reads_as c.items.disk))
    (StandsOnDisk c.args.opened (g.D.Disk.reads_as c.args.disk.now) (g.D.Disk.images c.args.disk.now)) (StandsOnDisk c.items.node (g.D.Disk.reads_as c.items.disk) (g.D.Disk.images c.items.disk))
    (g.D.Disk.images c.items.disk) (LeavesOnly g.D.Disk.moment g.D.Disk.left_since c.args.disk.now c.items.disk) c.args.steps.now c.items.steps c.in-Err-next_block.status
    next.0 whole next.1 next.2.0 next.2.1
    (on_stands c.items.node c.items.node.chain (g.D.Disk.reads_as c.items.disk) (g.D.Disk.images c.items.disk) refl)
    (λ so_far. leaves_also g.D.Disk.moment g.D.Disk.left_since _ _ _ _ so_far (keeps_more c.args.opened.chain whole.items next.0))

pub returns-in-Err-import_item-clause-imported : goal.returns-in-Err-import_item-clause-imported
returns-in-Err-import_item-clause-imported g c =
    let next = c.in-Ok-Item.ensures.next in
    let found : IsItemAt item_limit (Some input_limit) c.items.offset c.in-Ok-Item.item.items next.0 =
    subst (λ (n : Next). IsNext item_limit (Some input_limit) c.items.offset (g.S.Source.left c.next_block.new.input) (Ok n) next.0) c.in-Ok-Item.field-0-is next.2 in
    let whole = c.items.invariant.whole.0 in
    let written = c.in-Err-import_item.ensures.written in
    let at : IsItemAt item_limit (Some input_limit) c.items.offset c.deref.result.now next.0 =
    subst (λ bytes. IsItemAt item_limit (Some input_limit) c.items.offset bytes next.0) (sym c.deref.ensures.value) found in
    imported_to_line c.args.watched c.args.opened.chain c.items.offset (g.S.Source.left c.args.input.now) (g.S.Source.left c.items.input) (g.S.Source.left c.next_block.new.input)
    (g.K.Sink.taken c.args.out.now) (g.K.Sink.taken c.items.out) (g.K.Sink.taken c.import_item.new.out) c.items.node.chain c.items.refused
    (IsSoundWhereTold c.args.opened (g.D.Disk.reads_as c.args.disk.now)) (IsSoundWatching c.args.watched c.items.node c.items.watch (g.D.Disk.reads_as c.items.disk))
    (StandsOnDisk c.args.opened (g.D.Disk.reads_as c.args.disk.now) (g.D.Disk.images c.args.disk.now)) (StandsOnDisk c.items.node (g.D.Disk.reads_as c.items.disk) (g.D.Disk.images c.items.disk))
    (g.D.Disk.images c.import_item.new.disk) (LeavesOnly g.D.Disk.moment g.D.Disk.left_since c.args.disk.now c.items.disk) (LeavesOnly g.D.Disk.moment g.D.Disk.left_since c.args.disk.now c.import_item.new.disk)
    c.args.steps.now c.items.steps c.in-Err-import_item.status c.deref.result.now next.0 written.0 whole at next.1 written.1 (written.2 c.args.watched)
    (λ sound on. exit_of_item g.D.Disk.images g.D.Disk.moment g.D.Disk.left_since g.met.D.Disk.counts_now c.items.disk c.import_item.new.disk c.args.opened.chain c.items.node.chain
    whole.items c.deref.result.now (whole.kept_now sound) (moments-on _ _ c.in-Err-import_item.ensures.left on))
    (λ was. leaves_item g.D.Disk.images g.D.Disk.moment g.D.Disk.left_since g.met.D.Disk.counts_now c.args.disk.now c.items.disk c.import_item.new.disk c.args.opened.chain
    c.items.node.chain whole.items c.deref.result.now
    (whole.kept_now (sound_on c.args.opened (g.D.Disk.reads_as c.args.disk.now) (g.D.Disk.images c.args.disk.now) was))
    (whole.moments was) (moments-on _ _ c.in-Err-import_item.ensures.left (whole.on was)))

pub returns-in-Err-next_block-clause-input_faults : goal.returns-in-Err-next_block-clause-input_faults
returns-in-Err-next_block-clause-input_faults g c =
    then_counts (g.S.Source.faults c.args.input.now) (g.S.Source.faults c.items.input) (g.S.Source.faults c.next_block.new.input)
    c.items.invariant.input_unchanged c.in-Err-next_block.ensures.faults
    (λ e. ap Err (same_stop _ _ e)) (λ e. ap Err (same_stop _ _ e))

pub returns-in-Err-next_block-clause-out_faults : goal.returns-in-Err-next_block-clause-out_faults
returns-in-Err-next_block-clause-out_faults g c =
    no_fault (g.K.Sink.faults c.args.out.now) (g.K.Sink.faults c.items.out) c.items.invariant.out_unchanged
    (λ e. subst IsReadingStop (same_stop _ _ e) c.in-Err-next_block.ensures.next.2.0)

pub returns-in-Err-next_block-clause-disk_faults : goal.returns-in-Err-next_block-clause-disk_faults
returns-in-Err-next_block-clause-disk_faults g c =
    no_fault (g.D.Disk.faults c.args.disk.now) (g.D.Disk.faults c.items.disk) c.items.invariant.disk_unchanged
    (λ e. subst IsReadingStop (same_stop _ _ e) c.in-Err-next_block.ensures.next.2.0)

pub returns-in-Err-import_item-clause-input_faults : goal.returns-in-Err-import_item-clause-input_faults
returns-in-Err-import_item-clause-input_faults g c =
    no_fault (g.S.Source.faults c.args.input.now) (g.S.Source.faults c.next_block.new.input)
    (c.in-Ok-Item.ensures.faults.unchanged (no_answer _ _) ∙ c.items.invariant.input_unchanged)
    (λ e. no_input_fault c.in-Err-import_item.status (c.in-Err-import_item.ensures.status c.in-Err-import_item.status refl) (same_stop _ _ e))

pub returns-in-Err-import_item-clause-out_faults : goal.returns-in-Err-import_item-clause-out_faults
returns-in-Err-import_item-clause-out_faults g c =
    then_counts (g.K.Sink.faults c.args.out.now) (g.K.Sink.faults c.items.out) (g.K.Sink.faults c.import_item.new.out)
    c.items.invariant.out_unchanged c.in-Err-import_item.ensures.out_faults
    (λ e. ap Err (same_stop _ _ e)) (λ e. ap Err (same_stop _ _ e))

pub returns-in-Err-import_item-clause-disk_faults : goal.returns-in-Err-import_item-clause-disk_faults
returns-in-Err-import_item-clause-disk_faults g c =
    then_counts (g.D.Disk.faults c.args.disk.now) (g.D.Disk.faults c.items.disk) (g.D.Disk.faults c.import_item.new.disk)
    c.items.invariant.disk_unchanged c.in-Err-import_item.ensures.disk_faults
    (λ e. ap Err (same_stop _ _ e)) (λ e. ap Err (same_stop _ _ e))

pub returns-in-Err-next_block-clause-status : goal.returns-in-Err-next_block-clause-status
returns-in-Err-next_block-clause-status g c = λ status e.
    subst (λ s. IsOneOf (InputFault ∷ item_stops) s) (same_stop _ _ e) (reading_stopped c.in-Err-next_block.status c.in-Err-next_block.ensures.next.2.0)

pub returns-in-Err-import_item-clause-status : goal.returns-in-Err-import_item-clause-status
returns-in-Err-import_item-clause-status g c = λ status e.
    subst (λ s. IsOneOf (InputFault ∷ item_stops) s) (same_stop _ _ e) (inr (c.in-Err-import_item.ensures.status c.in-Err-import_item.status refl))

pub import_item-requires-clause-size : goal.import_item-requires-clause-size
import_item-requires-clause-size g c =
    let next = c.in-Ok-Item.ensures.next in
    let found : IsItemAt item_limit (Some input_limit) c.items.offset c.in-Ok-Item.item.items next.0 =
    subst (λ (n : Next). IsNext item_limit (Some input_limit) c.items.offset (g.S.Source.left c.next_block.new.input) (Ok n) next.0) c.in-Ok-Item.field-0-is next.2 in
    omega (arith, item_limit-is, found.is_item.most, ap length c.deref.ensures.value)

pub overflow_add-offset : goal.overflow_add-offset
overflow_add-offset g c =
    let next = c.in-Ok-Item.ensures.next in
    let found : IsItemAt item_limit (Some input_limit) c.items.offset c.in-Ok-Item.item.items next.0 =
    subst (λ (n : Next). IsNext item_limit (Some input_limit) c.items.offset (g.S.Source.left c.next_block.new.input) (Ok n) next.0) c.in-Ok-Item.field-0-is next.2 in
    omega (arith, input_limit-is, found.within, c.len.ensures, c.in-Ok-Item.item.ok)

pub items-smaller : goal.items-smaller
items-smaller g c =
    let next = c.in-Ok-Item.ensures.next in
    let found : IsItemAt item_limit (Some input_limit) c.items.offset c.in-Ok-Item.item.items next.0 =
    subst (λ (n : Next). IsNext item_limit (Some input_limit) c.items.offset (g.S.Source.left c.next_block.new.input) (Ok n) next.0) c.in-Ok-Item.field-0-is next.2 in
    let size : c.len.result ≡ length c.in-Ok-Item.item.items = omega (arith, c.len.ensures, c.in-Ok-Item.item.ok) in
    omega (arith, size, found.within, found.is_item.least)

pub items-preserved : goal.items-preserved
items-preserved g c =
    let next = c.in-Ok-Item.ensures.next in
    let found : IsItemAt item_limit (Some input_limit) c.items.offset c.in-Ok-Item.item.items next.0 =
    subst (λ (n : Next). IsNext item_limit (Some input_limit) c.items.offset (g.S.Source.left c.next_block.new.input) (Ok n) next.0) c.in-Ok-Item.field-0-is next.2 in
    let whole = c.items.invariant.whole.0 in
    let written = c.in-Ok-import_item.ensures.written in
    let item = c.deref.result.now in
    let size : c.len.result ≡ length item = omega (arith, c.len.ensures, c.in-Ok-Item.item.ok, ap length c.deref.ensures.value) in
    let at : IsItemAt item_limit (Some input_limit) c.items.offset item next.0 =
    subst (λ bytes. IsItemAt item_limit (Some input_limit) c.items.offset bytes next.0) (sym c.deref.ensures.value) found in
    let any : c.if-refused.refused ≡ (c.items.refused || rules.refuses c.in-Ok-import_item.answer.2) = elim c.if-refused.branch [
      | then-refused w ↦
          let yes = w.if-refused.true in
          let is = w.refused-is in
          let same : c.if-refused.refused ≡ c.items.refused = cc in same ∙ sym (or_then c.items.refused (rules.refuses c.in-Ok-import_item.answer.2) yes)
      | else-refused w ↦
          let refuses = w.refuses-refused.ensures in
          let is = w.refused-is in
          let same : c.if-refused.refused ≡ rules.refuses c.in-Ok-import_item.answer.2 = cc in same ∙ sym (or_else c.items.refused (rules.refuses c.in-Ok-import_item.answer.2) w.if-refused.false)
    ] in
    let more = whole_more c.args.watched c.args.opened.chain c.items.offset (g.S.Source.left c.args.input.now) (g.S.Source.left c.items.input) (g.S.Source.left c.next_block.new.input)
    (g.K.Sink.taken c.args.out.now) (g.K.Sink.taken c.items.out) (g.K.Sink.taken c.import_item.new.out) c.items.node.chain c.in-Ok-import_item.answer.0.chain c.items.refused
    (IsSoundWhereTold c.args.opened (g.D.Disk.reads_as c.args.disk.now)) (IsSoundWatching c.args.watched c.items.node c.items.watch (g.D.Disk.reads_as c.items.disk)) (IsSoundWatching c.args.watched c.in-Ok-import_item.answer.0 c.in-Ok-import_item.answer.1 (g.D.Disk.reads_as c.import_item.new.disk))
    (StandsOnDisk c.args.opened (g.D.Disk.reads_as c.args.disk.now) (g.D.Disk.images c.args.disk.now)) (StandsOnDisk c.items.node (g.D.Disk.reads_as c.items.disk) (g.D.Disk.images c.items.disk))
    (StandsOnDisk c.in-Ok-import_item.answer.0 (g.D.Disk.reads_as c.import_item.new.disk) (g.D.Disk.images c.import_item.new.disk)) (LeavesOnly g.D.Disk.moment g.D.Disk.left_since c.args.disk.now c.items.disk)
    (LeavesOnly g.D.Disk.moment g.D.Disk.left_since c.args.disk.now c.import_item.new.disk) c.args.steps.now c.items.steps c.import_item.new.steps item next.0 written.0 c.in-Ok-import_item.answer.2 c.len.result c.if-refused.refused size any
    whole at next.1 written.1 (λ is. c.in-Ok-import_item.ensures.imported.verdict is.sound) (λ is. c.in-Ok-import_item.ensures.imported.kept is.sound)
    (written.2 c.args.watched)
    (λ is. record {
      sound = sound_after c.in-Ok-import_item.answer.0 (g.D.Disk.reads_as c.items.disk) (g.D.Disk.reads_as c.import_item.new.disk) is.sound.told c.in-Ok-import_item.ensures.told
          (c.in-Ok-import_item.ensures.imported.sound is.sound);
      watching = c.in-Ok-import_item.ensures.imported.watching c.args.watched is;
    }) c.in-Ok-import_item.ensures.imported.on
    (λ was. leaves_item g.D.Disk.images g.D.Disk.moment g.D.Disk.left_since g.met.D.Disk.counts_now c.args.disk.now c.items.disk c.import_item.new.disk c.args.opened.chain
    c.items.node.chain whole.items item (whole.kept_now (sound_on c.args.opened (g.D.Disk.reads_as c.args.disk.now) (g.D.Disk.images c.args.disk.now) was))
    (whole.moments was) (moments-on _ _ c.in-Ok-import_item.ensures.left (whole.on was))) c.import_item.ensures.most in
    record {
      whole = (
        more.0,
        λ sound none.
            let parts = none-push c.args.opened.chain whole.items item (subst (λ xs. NoneJoins c.args.opened.chain xs) more.1 none) in
            c.in-Ok-import_item.ensures.still (whole.sound sound).sound (stays_there c.args.opened.chain c.items.node.chain whole.items item (whole.kept_now sound) parts.1)
            ∙ c.items.invariant.whole.1 sound parts.0,
        λ records settled.
            let grown = c.items.invariant.whole.2 records settled in
            subst (λ xs. HasGrown xs records c.in-Ok-import_item.answer.0.place (g.D.Disk.reads_as c.import_item.new.disk) (g.D.Disk.images c.import_item.new.disk)
            (LeavesOnly g.D.Disk.moment g.D.Disk.left_since c.args.disk.now c.import_item.new.disk)) (sym more.1)
            (grown_more g.D.Disk.images g.D.Disk.moment g.D.Disk.left_since g.met.D.Disk.counts_now c.args.disk.now c.items.disk c.import_item.new.disk whole.items item records
            c.items.node.place c.in-Ok-import_item.answer.0.place (g.D.Disk.reads_as c.items.disk) (g.D.Disk.reads_as c.import_item.new.disk) c.in-Ok-import_item.answer.2 grown
            (c.in-Ok-import_item.ensures.left.keeps (records ++ grown.added) grown.settled) (c.in-Ok-import_item.ensures.settled (records ++ grown.added) grown.settled)),
      );
      own = c.in-Ok-import_item.ensures.imported.own;
      told = c.in-Ok-import_item.ensures.told ∙ c.items.invariant.told;
      input_unchanged = c.in-Ok-Item.ensures.faults.unchanged (no_answer _ _) ∙ c.items.invariant.input_unchanged;
      out_unchanged = c.in-Ok-import_item.ensures.out_faults.unchanged (no_answer _ _) ∙ c.items.invariant.out_unchanged;
      disk_unchanged = c.in-Ok-import_item.ensures.disk_faults.unchanged (no_answer _ _) ∙ c.items.invariant.disk_unchanged;
    }

pub returns-in-Ok-End-clause-steps : goal.returns-in-Ok-End-clause-steps
returns-in-Ok-End-clause-steps g c =
    let next = c.in-Ok-End.ensures.next in
    let left = g.S.Source.left c.next_block.new.input in
    let ends : EndsAt (Some item_limit) (Some input_limit) c.items.offset left c.in-Ok-End.end next.0 × IsPartial item_limit (Some input_limit) c.items.offset next.0 =
    subst (λ (n : Next). IsNext item_limit (Some input_limit) c.items.offset left (Ok n) next.0) c.in-Ok-End.field-0-is next.2 in
    counted_to_part c.args.watched c.args.opened.chain c.items.offset (g.S.Source.left c.args.input.now) (g.S.Source.left c.items.input) (g.S.Source.left c.next_block.new.input)
    (g.K.Sink.taken c.args.out.now) (g.K.Sink.taken c.items.out) c.items.node.chain c.items.refused
    (IsSoundWhereTold c.args.opened (g.D.Disk.reads_as c.args.disk.now)) (IsSoundWatching c.args.watched c.items.node c.items.watch (g.D.Disk.reads_as c.items.disk))
    (StandsOnDisk c.args.opened (g.D.Disk.reads_as c.args.disk.now) (g.D.Disk.images c.args.disk.now)) (StandsOnDisk c.items.node (g.D.Disk.reads_as c.items.disk) (g.D.Disk.images c.items.disk))
    (LeavesOnly g.D.Disk.moment g.D.Disk.left_since c.args.disk.now c.items.disk) c.args.steps.now c.items.steps c.items.invariant.whole.0 next.0 next.1 ends.1

pub returns-in-Err-next_block-clause-steps : goal.returns-in-Err-next_block-clause-steps
returns-in-Err-next_block-clause-steps g c =
    let next = c.in-Err-next_block.ensures.next in
    counted_to_stop c.args.watched c.args.opened.chain c.items.offset (g.S.Source.left c.args.input.now) (g.S.Source.left c.items.input) (g.S.Source.left c.next_block.new.input)
    (g.K.Sink.taken c.args.out.now) (g.K.Sink.taken c.items.out) c.items.node.chain c.items.refused
    (IsSoundWhereTold c.args.opened (g.D.Disk.reads_as c.args.disk.now)) (IsSoundWatching c.args.watched c.items.node c.items.watch (g.D.Disk.reads_as c.items.disk))
    (StandsOnDisk c.args.opened (g.D.Disk.reads_as c.args.disk.now) (g.D.Disk.images c.args.disk.now)) (StandsOnDisk c.items.node (g.D.Disk.reads_as c.items.disk) (g.D.Disk.images c.items.disk))
    (LeavesOnly g.D.Disk.moment g.D.Disk.left_since c.args.disk.now c.items.disk) c.args.steps.now c.items.steps c.items.invariant.whole.0 next.0 next.1 next.2.1

pub returns-in-Err-import_item-clause-steps : goal.returns-in-Err-import_item-clause-steps
returns-in-Err-import_item-clause-steps g c =
    let next = c.in-Ok-Item.ensures.next in
    let found : IsItemAt item_limit (Some input_limit) c.items.offset c.in-Ok-Item.item.items next.0 =
    subst (λ (n : Next). IsNext item_limit (Some input_limit) c.items.offset (g.S.Source.left c.next_block.new.input) (Ok n) next.0) c.in-Ok-Item.field-0-is next.2 in
    let at : IsItemAt item_limit (Some input_limit) c.items.offset c.deref.result.now next.0 =
    subst (λ bytes. IsItemAt item_limit (Some input_limit) c.items.offset bytes next.0) (sym c.deref.ensures.value) found in
    counted_to_item c.args.watched c.args.opened.chain c.items.offset (g.S.Source.left c.args.input.now) (g.S.Source.left c.items.input) (g.S.Source.left c.next_block.new.input)
    (g.K.Sink.taken c.args.out.now) (g.K.Sink.taken c.items.out) c.items.node.chain c.items.refused
    (IsSoundWhereTold c.args.opened (g.D.Disk.reads_as c.args.disk.now)) (IsSoundWatching c.args.watched c.items.node c.items.watch (g.D.Disk.reads_as c.items.disk))
    (StandsOnDisk c.args.opened (g.D.Disk.reads_as c.args.disk.now) (g.D.Disk.images c.args.disk.now)) (StandsOnDisk c.items.node (g.D.Disk.reads_as c.items.disk) (g.D.Disk.images c.items.disk))
    (LeavesOnly g.D.Disk.moment g.D.Disk.left_since c.args.disk.now c.items.disk) c.args.steps.now c.items.steps c.items.invariant.whole.0 c.import_item.new.steps c.deref.result.now next.0 at next.1 c.import_item.ensures.most

pub returns-in-Ok-End-clause-told : goal.returns-in-Ok-End-clause-told
returns-in-Ok-End-clause-told g c = c.items.invariant.told

pub returns-in-Err-next_block-clause-told : goal.returns-in-Err-next_block-clause-told
returns-in-Err-next_block-clause-told g c = c.items.invariant.told

pub returns-in-Err-import_item-clause-told : goal.returns-in-Err-import_item-clause-told
returns-in-Err-import_item-clause-told g c = c.in-Err-import_item.ensures.told ∙ c.items.invariant.told

pub returns-in-Ok-End-clause-still : goal.returns-in-Ok-End-clause-still
returns-in-Ok-End-clause-still g c =
    let next = c.in-Ok-End.ensures.next in
    let left = g.S.Source.left c.next_block.new.input in
    let ends : EndsAt (Some item_limit) (Some input_limit) c.items.offset left c.in-Ok-End.end next.0 × IsPartial item_limit (Some input_limit) c.items.offset next.0 =
    subst (λ (n : Next). IsNext item_limit (Some input_limit) c.items.offset left (Ok n) next.0) c.in-Ok-End.field-0-is next.2 in
    part_also c.args.watched c.args.opened.chain c.items.offset (g.S.Source.left c.args.input.now) (g.S.Source.left c.items.input) (g.S.Source.left c.next_block.new.input)
    (g.K.Sink.taken c.args.out.now) (g.K.Sink.taken c.items.out) c.items.node.chain c.items.refused
    (IsSoundWhereTold c.args.opened (g.D.Disk.reads_as c.args.disk.now)) (IsSoundWatching c.args.watched c.items.node c.items.watch (g.D.Disk.reads_as c.items.disk))
    (StandsOnDisk c.args.opened (g.D.Disk.reads_as c.args.disk.now) (g.D.Disk.images c.args.disk.now)) (StandsOnDisk c.items.node (g.D.Disk.reads_as c.items.disk) (g.D.Disk.images c.items.disk))
    (LeavesOnly g.D.Disk.moment g.D.Disk.left_since c.args.disk.now c.items.disk) c.args.steps.now c.items.steps c.items.invariant.whole.0
    (λ xs. IsSoundWhereTold c.args.opened (g.D.Disk.reads_as c.args.disk.now) → NoneJoins c.args.opened.chain xs → g.D.Disk.content_of c.items.disk ≡ g.D.Disk.content_of c.args.disk.now) c.items.invariant.whole.1 next.0 next.1 ends.1

pub returns-in-Err-next_block-clause-still : goal.returns-in-Err-next_block-clause-still
returns-in-Err-next_block-clause-still g c =
    let next = c.in-Err-next_block.ensures.next in
    stop_also c.args.watched c.args.opened.chain c.items.offset (g.S.Source.left c.args.input.now) (g.S.Source.left c.items.input) (g.S.Source.left c.next_block.new.input)
    (g.K.Sink.taken c.args.out.now) (g.K.Sink.taken c.items.out) c.items.node.chain c.items.refused
    (IsSoundWhereTold c.args.opened (g.D.Disk.reads_as c.args.disk.now)) (IsSoundWatching c.args.watched c.items.node c.items.watch (g.D.Disk.reads_as c.items.disk))
    (StandsOnDisk c.args.opened (g.D.Disk.reads_as c.args.disk.now) (g.D.Disk.images c.args.disk.now)) (StandsOnDisk c.items.node (g.D.Disk.reads_as c.items.disk) (g.D.Disk.images c.items.disk))
    (LeavesOnly g.D.Disk.moment g.D.Disk.left_since c.args.disk.now c.items.disk) c.args.steps.now c.items.steps c.items.invariant.whole.0
    (λ xs. IsSoundWhereTold c.args.opened (g.D.Disk.reads_as c.args.disk.now) → NoneJoins c.args.opened.chain xs → g.D.Disk.content_of c.items.disk ≡ g.D.Disk.content_of c.args.disk.now) c.items.invariant.whole.1 next.0 next.1
    (λ sound none. c.items.invariant.whole.1 sound (none-push c.args.opened.chain c.items.invariant.whole.0.items next.0 none).0) next.2.1

pub returns-in-Err-import_item-clause-still : goal.returns-in-Err-import_item-clause-still
returns-in-Err-import_item-clause-still g c =
    let next = c.in-Ok-Item.ensures.next in
    let found : IsItemAt item_limit (Some input_limit) c.items.offset c.in-Ok-Item.item.items next.0 =
    subst (λ (n : Next). IsNext item_limit (Some input_limit) c.items.offset (g.S.Source.left c.next_block.new.input) (Ok n) next.0) c.in-Ok-Item.field-0-is next.2 in
    let at : IsItemAt item_limit (Some input_limit) c.items.offset c.deref.result.now next.0 =
    subst (λ bytes. IsItemAt item_limit (Some input_limit) c.items.offset bytes next.0) (sym c.deref.ensures.value) found in
    let whole = c.items.invariant.whole.0 in
    item_also c.args.watched c.args.opened.chain c.items.offset (g.S.Source.left c.args.input.now) (g.S.Source.left c.items.input) (g.S.Source.left c.next_block.new.input)
    (g.K.Sink.taken c.args.out.now) (g.K.Sink.taken c.items.out) c.items.node.chain c.items.refused
    (IsSoundWhereTold c.args.opened (g.D.Disk.reads_as c.args.disk.now)) (IsSoundWatching c.args.watched c.items.node c.items.watch (g.D.Disk.reads_as c.items.disk))
    (StandsOnDisk c.args.opened (g.D.Disk.reads_as c.args.disk.now) (g.D.Disk.images c.args.disk.now)) (StandsOnDisk c.items.node (g.D.Disk.reads_as c.items.disk) (g.D.Disk.images c.items.disk))
    (LeavesOnly g.D.Disk.moment g.D.Disk.left_since c.args.disk.now c.items.disk) c.args.steps.now c.items.steps c.items.invariant.whole.0
    (λ xs. IsSoundWhereTold c.args.opened (g.D.Disk.reads_as c.args.disk.now) → NoneJoins c.args.opened.chain xs → g.D.Disk.content_of c.import_item.new.disk ≡ g.D.Disk.content_of c.args.disk.now) c.deref.result.now next.0 at next.1
    (λ sound none.
    let parts = none-push c.args.opened.chain whole.items c.deref.result.now none in
    c.in-Err-import_item.ensures.still (whole.sound sound).sound (stays_there c.args.opened.chain c.items.node.chain whole.items c.deref.result.now (whole.kept_now sound) parts.1)
    ∙ c.items.invariant.whole.1 sound parts.0)

pub returns-in-Ok-End-clause-records : goal.returns-in-Ok-End-clause-records
returns-in-Ok-End-clause-records g c =
    let next = c.in-Ok-End.ensures.next in
    let left = g.S.Source.left c.next_block.new.input in
    let ends : EndsAt (Some item_limit) (Some input_limit) c.items.offset left c.in-Ok-End.end next.0 × IsPartial item_limit (Some input_limit) c.items.offset next.0 =
    subst (λ (n : Next). IsNext item_limit (Some input_limit) c.items.offset left (Ok n) next.0) c.in-Ok-End.field-0-is next.2 in
    part_also c.args.watched c.args.opened.chain c.items.offset (g.S.Source.left c.args.input.now) (g.S.Source.left c.items.input) (g.S.Source.left c.next_block.new.input)
    (g.K.Sink.taken c.args.out.now) (g.K.Sink.taken c.items.out) c.items.node.chain c.items.refused
    (IsSoundWhereTold c.args.opened (g.D.Disk.reads_as c.args.disk.now)) (IsSoundWatching c.args.watched c.items.node c.items.watch (g.D.Disk.reads_as c.items.disk))
    (StandsOnDisk c.args.opened (g.D.Disk.reads_as c.args.disk.now) (g.D.Disk.images c.args.disk.now)) (StandsOnDisk c.items.node (g.D.Disk.reads_as c.items.disk) (g.D.Disk.images c.items.disk))
    (LeavesOnly g.D.Disk.moment g.D.Disk.left_since c.args.disk.now c.items.disk) c.args.steps.now c.items.steps c.items.invariant.whole.0
    (λ xs. (records : List Record) → IsSettled c.args.opened.place records (g.D.Disk.reads_as c.args.disk.now) (g.D.Disk.images c.args.disk.now)
    → LeavesOnly g.D.Disk.moment g.D.Disk.left_since c.args.disk.now c.items.disk (λ image. GoesOn (AreOfSome xs) records image.log))
    (λ records settled. (c.items.invariant.whole.2 records settled).moments) next.0 next.1 ends.1

pub returns-in-Err-next_block-clause-records : goal.returns-in-Err-next_block-clause-records
returns-in-Err-next_block-clause-records g c =
    let next = c.in-Err-next_block.ensures.next in
    stop_also c.args.watched c.args.opened.chain c.items.offset (g.S.Source.left c.args.input.now) (g.S.Source.left c.items.input) (g.S.Source.left c.next_block.new.input)
    (g.K.Sink.taken c.args.out.now) (g.K.Sink.taken c.items.out) c.items.node.chain c.items.refused
    (IsSoundWhereTold c.args.opened (g.D.Disk.reads_as c.args.disk.now)) (IsSoundWatching c.args.watched c.items.node c.items.watch (g.D.Disk.reads_as c.items.disk))
    (StandsOnDisk c.args.opened (g.D.Disk.reads_as c.args.disk.now) (g.D.Disk.images c.args.disk.now)) (StandsOnDisk c.items.node (g.D.Disk.reads_as c.items.disk) (g.D.Disk.images c.items.disk))
    (LeavesOnly g.D.Disk.moment g.D.Disk.left_since c.args.disk.now c.items.disk) c.args.steps.now c.items.steps c.items.invariant.whole.0
    (λ xs. (records : List Record) → IsSettled c.args.opened.place records (g.D.Disk.reads_as c.args.disk.now) (g.D.Disk.images c.args.disk.now)
    → LeavesOnly g.D.Disk.moment g.D.Disk.left_since c.args.disk.now c.items.disk (λ image. GoesOn (AreOfSome xs) records image.log))
    (λ records settled. (c.items.invariant.whole.2 records settled).moments) next.0 next.1
    (λ records settled. leaves_also g.D.Disk.moment g.D.Disk.left_since c.args.disk.now c.items.disk (λ image. GoesOn (AreOfSome c.items.invariant.whole.0.items) records image.log)
    (λ image. GoesOn (AreOfSome (c.items.invariant.whole.0.items ++ next.0 ∷ [])) records image.log)
    (c.items.invariant.whole.2 records settled).moments (λ image goes. goes_more c.items.invariant.whole.0.items next.0 records image.log goes)) next.2.1

pub returns-in-Err-import_item-clause-records : goal.returns-in-Err-import_item-clause-records
returns-in-Err-import_item-clause-records g c =
    let next = c.in-Ok-Item.ensures.next in
    let found : IsItemAt item_limit (Some input_limit) c.items.offset c.in-Ok-Item.item.items next.0 =
    subst (λ (n : Next). IsNext item_limit (Some input_limit) c.items.offset (g.S.Source.left c.next_block.new.input) (Ok n) next.0) c.in-Ok-Item.field-0-is next.2 in
    let at : IsItemAt item_limit (Some input_limit) c.items.offset c.deref.result.now next.0 =
    subst (λ bytes. IsItemAt item_limit (Some input_limit) c.items.offset bytes next.0) (sym c.deref.ensures.value) found in
    item_also c.args.watched c.args.opened.chain c.items.offset (g.S.Source.left c.args.input.now) (g.S.Source.left c.items.input) (g.S.Source.left c.next_block.new.input)
    (g.K.Sink.taken c.args.out.now) (g.K.Sink.taken c.items.out) c.items.node.chain c.items.refused
    (IsSoundWhereTold c.args.opened (g.D.Disk.reads_as c.args.disk.now)) (IsSoundWatching c.args.watched c.items.node c.items.watch (g.D.Disk.reads_as c.items.disk))
    (StandsOnDisk c.args.opened (g.D.Disk.reads_as c.args.disk.now) (g.D.Disk.images c.args.disk.now)) (StandsOnDisk c.items.node (g.D.Disk.reads_as c.items.disk) (g.D.Disk.images c.items.disk))
    (LeavesOnly g.D.Disk.moment g.D.Disk.left_since c.args.disk.now c.items.disk) c.args.steps.now c.items.steps c.items.invariant.whole.0
    (λ xs. (records : List Record) → IsSettled c.args.opened.place records (g.D.Disk.reads_as c.args.disk.now) (g.D.Disk.images c.args.disk.now)
    → LeavesOnly g.D.Disk.moment g.D.Disk.left_since c.args.disk.now c.import_item.new.disk (λ image. GoesOn (AreOfSome xs) records image.log))
    c.deref.result.now next.0 at next.1
    (λ records settled.
    let grown = c.items.invariant.whole.2 records settled in
    grown_moments g.D.Disk.images g.D.Disk.moment g.D.Disk.left_since g.met.D.Disk.counts_now c.args.disk.now c.items.disk c.import_item.new.disk c.items.invariant.whole.0.items
    c.deref.result.now records c.items.node.place (g.D.Disk.reads_as c.items.disk) grown (c.in-Err-import_item.ensures.left.keeps (records ++ grown.added) grown.settled))

-- ---- There was no memory for what is watched

pub returns-in-Err-clause-imported : goal.returns-in-Err-clause-imported
returns-in-Err-clause-imported g c =
    imported_to_fault c.args.watched c.args.opened.chain 0 (g.S.Source.left c.args.input.now) (g.S.Source.left c.args.input.now) (g.S.Source.left c.args.input.now)
    (g.K.Sink.taken c.args.out.now) (g.K.Sink.taken c.args.out.now) c.args.opened.chain false
    (IsSoundWhereTold c.args.opened (g.D.Disk.reads_as c.args.disk.now)) (IsSoundWhereTold c.args.opened (g.D.Disk.reads_as c.args.disk.now))
    (StandsOnDisk c.args.opened (g.D.Disk.reads_as c.args.disk.now) (g.D.Disk.images c.args.disk.now)) (StandsOnDisk c.args.opened (g.D.Disk.reads_as c.args.disk.now) (g.D.Disk.images c.args.disk.now))
    (g.D.Disk.images c.args.disk.now) (LeavesOnly g.D.Disk.moment g.D.Disk.left_since c.args.disk.now c.args.disk.now) c.args.steps.now c.args.steps.now NoMemory []
    (whole_none c.args.watched c.args.opened.chain (g.S.Source.left c.args.input.now) (g.K.Sink.taken c.args.out.now)
    (IsSoundWhereTold c.args.opened (g.D.Disk.reads_as c.args.disk.now)) (IsSoundWhereTold c.args.opened (g.D.Disk.reads_as c.args.disk.now))
    (StandsOnDisk c.args.opened (g.D.Disk.reads_as c.args.disk.now) (g.D.Disk.images c.args.disk.now)) (LeavesOnly g.D.Disk.moment g.D.Disk.left_since c.args.disk.now c.args.disk.now)
    c.args.steps.now (λ sound. sound)
    (leaves_none g.D.Disk.images g.D.Disk.moment g.D.Disk.left_since g.met.D.Disk.counts_now g.met.D.Disk.only_now c.args.disk.now c.args.opened
    (g.D.Disk.reads_as c.args.disk.now)))
    (gives_none (g.S.Source.left c.args.input.now)) tt (inl (few_partial item_limit (Some input_limit) 0 [] (omega arith)))
    (on_stands c.args.opened c.args.opened.chain (g.D.Disk.reads_as c.args.disk.now) (g.D.Disk.images c.args.disk.now) refl)
    (λ so_far. leaves_also g.D.Disk.moment g.D.Disk.left_since _ _ _ _ so_far (keeps_more c.args.opened.chain [] []))

pub returns-in-Err-clause-told : goal.returns-in-Err-clause-told
returns-in-Err-clause-told g c = refl

pub returns-in-Err-clause-status : goal.returns-in-Err-clause-status
returns-in-Err-clause-status g c = λ status e. subst (λ s. IsOneOf (InputFault ∷ item_stops) s) (same_stop _ _ e) (reading_stopped NoMemory tt)

pub returns-in-Err-clause-input_faults : goal.returns-in-Err-clause-input_faults
returns-in-Err-clause-input_faults g c = no_fault _ _ refl (λ e. subst IsMemory (same_stop _ _ e) tt)

pub returns-in-Err-clause-out_faults : goal.returns-in-Err-clause-out_faults
returns-in-Err-clause-out_faults g c = no_fault _ _ refl (λ e. subst IsMemory (same_stop _ _ e) tt)

pub returns-in-Err-clause-disk_faults : goal.returns-in-Err-clause-disk_faults
returns-in-Err-clause-disk_faults g c = no_fault _ _ refl (λ e. subst IsMemory (same_stop _ _ e) tt)

pub returns-in-Err-clause-steps : goal.returns-in-Err-clause-steps
returns-in-Err-clause-steps g c =
    counted_to_part c.args.watched c.args.opened.chain 0 (g.S.Source.left c.args.input.now) (g.S.Source.left c.args.input.now) (g.S.Source.left c.args.input.now)
    (g.K.Sink.taken c.args.out.now) (g.K.Sink.taken c.args.out.now) c.args.opened.chain false
    (IsSoundWhereTold c.args.opened (g.D.Disk.reads_as c.args.disk.now)) (IsSoundWhereTold c.args.opened (g.D.Disk.reads_as c.args.disk.now))
    (StandsOnDisk c.args.opened (g.D.Disk.reads_as c.args.disk.now) (g.D.Disk.images c.args.disk.now)) (StandsOnDisk c.args.opened (g.D.Disk.reads_as c.args.disk.now) (g.D.Disk.images c.args.disk.now))
    (LeavesOnly g.D.Disk.moment g.D.Disk.left_since c.args.disk.now c.args.disk.now) c.args.steps.now c.args.steps.now
    (whole_none c.args.watched c.args.opened.chain (g.S.Source.left c.args.input.now) (g.K.Sink.taken c.args.out.now)
    (IsSoundWhereTold c.args.opened (g.D.Disk.reads_as c.args.disk.now)) (IsSoundWhereTold c.args.opened (g.D.Disk.reads_as c.args.disk.now))
    (StandsOnDisk c.args.opened (g.D.Disk.reads_as c.args.disk.now) (g.D.Disk.images c.args.disk.now)) (LeavesOnly g.D.Disk.moment g.D.Disk.left_since c.args.disk.now c.args.disk.now)
    c.args.steps.now (λ sound. sound)
    (leaves_none g.D.Disk.images g.D.Disk.moment g.D.Disk.left_since g.met.D.Disk.counts_now g.met.D.Disk.only_now c.args.disk.now c.args.opened
    (g.D.Disk.reads_as c.args.disk.now)))
    [] (gives_none (g.S.Source.left c.args.input.now)) (few_partial item_limit (Some input_limit) 0 [] (omega arith))

pub returns-in-Err-clause-still : goal.returns-in-Err-clause-still
returns-in-Err-clause-still g c =
    part_also c.args.watched c.args.opened.chain 0 (g.S.Source.left c.args.input.now) (g.S.Source.left c.args.input.now) (g.S.Source.left c.args.input.now)
    (g.K.Sink.taken c.args.out.now) (g.K.Sink.taken c.args.out.now) c.args.opened.chain false
    (IsSoundWhereTold c.args.opened (g.D.Disk.reads_as c.args.disk.now)) (IsSoundWhereTold c.args.opened (g.D.Disk.reads_as c.args.disk.now))
    (StandsOnDisk c.args.opened (g.D.Disk.reads_as c.args.disk.now) (g.D.Disk.images c.args.disk.now)) (StandsOnDisk c.args.opened (g.D.Disk.reads_as c.args.disk.now) (g.D.Disk.images c.args.disk.now))
    (LeavesOnly g.D.Disk.moment g.D.Disk.left_since c.args.disk.now c.args.disk.now) c.args.steps.now c.args.steps.now
    (whole_none c.args.watched c.args.opened.chain (g.S.Source.left c.args.input.now) (g.K.Sink.taken c.args.out.now)
    (IsSoundWhereTold c.args.opened (g.D.Disk.reads_as c.args.disk.now)) (IsSoundWhereTold c.args.opened (g.D.Disk.reads_as c.args.disk.now))
    (StandsOnDisk c.args.opened (g.D.Disk.reads_as c.args.disk.now) (g.D.Disk.images c.args.disk.now)) (LeavesOnly g.D.Disk.moment g.D.Disk.left_since c.args.disk.now c.args.disk.now)
    c.args.steps.now (λ sound. sound)
    (leaves_none g.D.Disk.images g.D.Disk.moment g.D.Disk.left_since g.met.D.Disk.counts_now g.met.D.Disk.only_now c.args.disk.now c.args.opened
    (g.D.Disk.reads_as c.args.disk.now)))
    (λ xs. IsSoundWhereTold c.args.opened (g.D.Disk.reads_as c.args.disk.now) → NoneJoins c.args.opened.chain xs → g.D.Disk.content_of c.args.disk.now ≡ g.D.Disk.content_of c.args.disk.now)
    (λ sound none. refl) [] (gives_none (g.S.Source.left c.args.input.now)) (few_partial item_limit (Some input_limit) 0 [] (omega arith))

pub returns-in-Err-clause-records : goal.returns-in-Err-clause-records
returns-in-Err-clause-records g c =
    part_also c.args.watched c.args.opened.chain 0 (g.S.Source.left c.args.input.now) (g.S.Source.left c.args.input.now) (g.S.Source.left c.args.input.now)
    (g.K.Sink.taken c.args.out.now) (g.K.Sink.taken c.args.out.now) c.args.opened.chain false
    (IsSoundWhereTold c.args.opened (g.D.Disk.reads_as c.args.disk.now)) (IsSoundWhereTold c.args.opened (g.D.Disk.reads_as c.args.disk.now))
    (StandsOnDisk c.args.opened (g.D.Disk.reads_as c.args.disk.now) (g.D.Disk.images c.args.disk.now)) (StandsOnDisk c.args.opened (g.D.Disk.reads_as c.args.disk.now) (g.D.Disk.images c.args.disk.now))
    (LeavesOnly g.D.Disk.moment g.D.Disk.left_since c.args.disk.now c.args.disk.now) c.args.steps.now c.args.steps.now
    (whole_none c.args.watched c.args.opened.chain (g.S.Source.left c.args.input.now) (g.K.Sink.taken c.args.out.now)
    (IsSoundWhereTold c.args.opened (g.D.Disk.reads_as c.args.disk.now)) (IsSoundWhereTold c.args.opened (g.D.Disk.reads_as c.args.disk.now))
    (StandsOnDisk c.args.opened (g.D.Disk.reads_as c.args.disk.now) (g.D.Disk.images c.args.disk.now)) (LeavesOnly g.D.Disk.moment g.D.Disk.left_since c.args.disk.now c.args.disk.now)
    c.args.steps.now (λ sound. sound)
    (leaves_none g.D.Disk.images g.D.Disk.moment g.D.Disk.left_since g.met.D.Disk.counts_now g.met.D.Disk.only_now c.args.disk.now c.args.opened
    (g.D.Disk.reads_as c.args.disk.now)))
    (λ xs. (records : List Record) → IsSettled c.args.opened.place records (g.D.Disk.reads_as c.args.disk.now) (g.D.Disk.images c.args.disk.now)
    → LeavesOnly g.D.Disk.moment g.D.Disk.left_since c.args.disk.now c.args.disk.now (λ image. GoesOn (AreOfSome xs) records image.log))
    (λ records settled. (grown_none g.D.Disk.images g.D.Disk.moment g.D.Disk.left_since g.met.D.Disk.counts_now g.met.D.Disk.only_now c.args.disk.now records
    c.args.opened.place (g.D.Disk.reads_as c.args.disk.now) settled).moments) [] (gives_none (g.S.Source.left c.args.input.now)) (few_partial item_limit (Some input_limit) 0 [] (omega arith))
