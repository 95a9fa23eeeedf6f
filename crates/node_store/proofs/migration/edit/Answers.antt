use Rattle.std.proofs.Common.{◌≡◌, ◌⊎◌, ℕ, List, ◌∷◌, Option, None, length, refl, ap, sym, ◌∙◌, subst}
use Rattle.outside.proofs.Endings.{no_answer}
use Rattle.outside.proofs.Moments.{leaves_also, now_too}
use Rattle.outside.specs.declared.disk.Area.TheVariants.{Log}
use Rattle.outside.specs.Disk.{LeavesOnly}
use Rattle.disk_defs.specs.Log.{Record, edition_record}
use Rattle.disk_defs.specs.Rest.{IsSettled, HasAppended}
use Rattle.store_defs.specs.EditionLaws.{edited_chain}
use Rattle.log_file.specs.Grammar.{record_of}
use Rattle.log_file.proofs.Creating.{others_same}
use Rattle.node_store.specs.Kept.{KeptValue}
use Rattle.node_store.specs.Node.{NodeValue, node_of, IsOwnDiskWhereTold, IsBounded}
use Rattle.node_store.specs.Migration.{kept_edited, IsEdited}
use Rattle.node_store.proofs.ImportLemmas.{place_limit}
use Rattle.node_store.proofs.AppendLemmas.{of_told}
use Rattle.node_store.proofs.DiskLemmas.{counts_none, only_edited}
use Rattle.node_store.proofs.MigrationLemmas.{own_edited, appended_none, stands_before, edited_moments, bounded_edited}
use Rattle.node_store.proofs.migration.edit.Goals as goal

pub returns-in-Err-clause-moments : goal.returns-in-Err-clause-moments
returns-in-Err-clause-moments g c = λ all only.
    stands_before g.D.Disk.moment g.D.Disk.left_since g.D.Disk.images g.met.D.Disk.only_now c.args.node.chain (edited_chain c.args.node.chain c.args.epoch) _ c.args.disk.now only

pub returns-in-Err-clause-keeps : goal.returns-in-Err-clause-keeps
returns-in-Err-clause-keeps g c = λ records settled.
    appended_none g.D.Disk.moment g.D.Disk.left_since g.D.Disk.images g.met.D.Disk.only_now c.args.node.place records (edition_record c.args.epoch) _ c.args.disk.now settled

pub returns-in-Err-clause-others : goal.returns-in-Err-clause-others
returns-in-Err-clause-others g c = others_same Log (g.D.Disk.reads_as c.args.disk.now)

pub append-requires-clause-limit : goal.append-requires-clause-limit
append-requires-clause-limit g c =
    place_limit (length c.node.inside.kept.chain.blocks) c.node.inside.log.place c.node.inside.kept.chain.spec.second_from c.node.invariant.few c.node.invariant.within

pub invariant_of-result : goal.invariant_of-result
invariant_of-result g c =
    subst (λ (k : KeptValue). IsBounded k c.in-Ok-append.log.place c.node.inside.state) (sym c.edited.ensures)
    (bounded_edited c.node.inside.kept c.node.inside.log.place c.in-Ok-append.log.place c.args.epoch c.node.inside.state c.fill_edition.new.self c.node.invariant
    (ap (λ (v : NodeValue). v.chain.spec.second_from) c.node.view_is ∙ c.requires.none) c.in-Ok-append.ensures.place c.in-Ok.ensures.filled)

pub returns-in-Err-append-clause-moments : goal.returns-in-Err-append-clause-moments
returns-in-Err-append-clause-moments g c =
    λ all only. edited_moments c.args.node c.args.epoch (g.D.Disk.reads_as c.args.disk.now) (g.D.Disk.images c.args.disk.now) (LeavesOnly g.D.Disk.moment g.D.Disk.left_since c.args.disk.now c.append.new.disk)
    (λ P Q left also. leaves_also g.D.Disk.moment g.D.Disk.left_since _ _ P Q left also)
    (subst (λ (v : NodeValue). (records : List Record) → IsSettled v.place records (g.D.Disk.reads_as c.args.disk.now) (g.D.Disk.images c.args.disk.now)
    → LeavesOnly g.D.Disk.moment g.D.Disk.left_since c.args.disk.now c.append.new.disk (HasAppended v.place records (edition_record c.args.epoch) (g.D.Disk.images c.args.disk.now))) c.node.view_is
    (λ records settled. c.append.ensures.moments records (edition_record c.args.epoch) c.in-Ok.ensures.filled settled)) c.requires.own c.requires.none c.ranges.epoch.fits all only

pub returns-in-Err-append-clause-keeps : goal.returns-in-Err-append-clause-keeps
returns-in-Err-append-clause-keeps g c =
    subst (λ (v : NodeValue). (records : List Record) → IsSettled v.place records (g.D.Disk.reads_as c.args.disk.now) (g.D.Disk.images c.args.disk.now)
    → LeavesOnly g.D.Disk.moment g.D.Disk.left_since c.args.disk.now c.append.new.disk (HasAppended v.place records (edition_record c.args.epoch) (g.D.Disk.images c.args.disk.now))) c.node.view_is
    (λ records settled. c.append.ensures.moments records (edition_record c.args.epoch) c.in-Ok.ensures.filled settled)

pub returns-in-Ok-append-clause-moments : goal.returns-in-Ok-append-clause-moments
returns-in-Ok-append-clause-moments g c =
    λ all only. edited_moments c.args.node c.args.epoch (g.D.Disk.reads_as c.args.disk.now) (g.D.Disk.images c.args.disk.now) (LeavesOnly g.D.Disk.moment g.D.Disk.left_since c.args.disk.now c.append.new.disk)
    (λ P Q left also. leaves_also g.D.Disk.moment g.D.Disk.left_since _ _ P Q left also)
    (subst (λ (v : NodeValue). (records : List Record) → IsSettled v.place records (g.D.Disk.reads_as c.args.disk.now) (g.D.Disk.images c.args.disk.now)
    → LeavesOnly g.D.Disk.moment g.D.Disk.left_since c.args.disk.now c.append.new.disk (HasAppended v.place records (edition_record c.args.epoch) (g.D.Disk.images c.args.disk.now))) c.node.view_is
    (λ records settled. c.append.ensures.moments records (edition_record c.args.epoch) c.in-Ok.ensures.filled settled)) c.requires.own c.requires.none c.ranges.epoch.fits all only

pub returns-in-Ok-append-clause-keeps : goal.returns-in-Ok-append-clause-keeps
returns-in-Ok-append-clause-keeps g c =
    subst (λ (v : NodeValue). (records : List Record) → IsSettled v.place records (g.D.Disk.reads_as c.args.disk.now) (g.D.Disk.images c.args.disk.now)
    → LeavesOnly g.D.Disk.moment g.D.Disk.left_since c.args.disk.now c.append.new.disk (HasAppended v.place records (edition_record c.args.epoch) (g.D.Disk.images c.args.disk.now))) c.node.view_is
    (λ records settled. c.append.ensures.moments records (edition_record c.args.epoch) c.in-Ok.ensures.filled settled)

pub returns-in-Ok-append-clause-edited : goal.returns-in-Ok-append-clause-edited
returns-in-Ok-append-clause-edited g c =
    let own : IsOwnDiskWhereTold (node_of c.node.inside.kept c.node.inside.log.place c.node.inside.state c.node.inside.cache) (g.D.Disk.reads_as c.args.disk.now) (g.D.Disk.images c.args.disk.now) =
    subst (λ (v : NodeValue). IsOwnDiskWhereTold v (g.D.Disk.reads_as c.args.disk.now) (g.D.Disk.images c.args.disk.now)) (sym c.node.view_is) c.requires.own in
    let none : c.node.inside.kept.chain.spec.second_from ≡ None = ap (λ (v : NodeValue). v.chain.spec.second_from) c.node.view_is ∙ c.requires.none in
    subst (λ (v : NodeValue). IsEdited v (node_of c.edited.result c.in-Ok-append.log.place c.node.inside.state c.node.inside.cache) c.args.epoch
    (g.D.Disk.reads_as c.args.disk.now) (g.D.Disk.reads_as c.append.new.disk) (g.D.Disk.images c.args.disk.now) (g.D.Disk.images c.append.new.disk)) c.node.view_is
    (subst (λ (k : KeptValue). IsEdited (node_of c.node.inside.kept c.node.inside.log.place c.node.inside.state c.node.inside.cache) (node_of k c.in-Ok-append.log.place c.node.inside.state c.node.inside.cache) c.args.epoch
    (g.D.Disk.reads_as c.args.disk.now) (g.D.Disk.reads_as c.append.new.disk) (g.D.Disk.images c.args.disk.now) (g.D.Disk.images c.append.new.disk)) (sym c.edited.ensures) (record {
      same = refl;
      own =
          own_edited c.node.inside.kept c.node.inside.log.place c.in-Ok-append.log.place c.args.epoch c.node.inside.state c.node.inside.cache
          (g.D.Disk.reads_as c.args.disk.now) (g.D.Disk.reads_as c.append.new.disk) (g.D.Disk.images c.args.disk.now) (g.D.Disk.images c.append.new.disk) none c.ranges.epoch.fits
          (λ records settled. c.in-Ok-append.ensures.settled records (edition_record c.args.epoch) c.in-Ok.ensures.filled settled) own c.append.ensures.others;
      settled = λ records settled. c.in-Ok-append.ensures.settled records (edition_record c.args.epoch) c.in-Ok.ensures.filled settled;
      image = λ all only.
          let of = of_told (node_of c.node.inside.kept c.node.inside.log.place c.node.inside.state c.node.inside.cache) (g.D.Disk.reads_as c.args.disk.now) (g.D.Disk.images c.args.disk.now) only.now only.told own in
          let records = record_of 1 of.read.specification ∷ of.read.records in
          only_edited c.node.inside.kept.chain (g.D.Disk.reads_as c.args.disk.now) (g.D.Disk.images c.args.disk.now) only c.node.inside.log.place records of.settled c.args.epoch none all c.ranges.epoch.fits
          c.in-Ok-append.log.place (g.D.Disk.reads_as c.append.new.disk) (g.D.Disk.images c.append.new.disk)
          (c.in-Ok-append.ensures.settled records (edition_record c.args.epoch) c.in-Ok.ensures.filled of.settled) c.append.ensures.others
          (now_too g.D.Disk.moment g.D.Disk.left_since g.D.Disk.images g.met.D.Disk.counts_now _ _ _
          (c.append.ensures.moments records (edition_record c.args.epoch) c.in-Ok.ensures.filled of.settled));
    }))

pub returns-in-Ok-append-clause-cause : goal.returns-in-Ok-append-clause-cause
returns-in-Ok-append-clause-cause g c = counts_none _ _ (c.in-Ok-append.ensures.cause.unchanged refl) (λ e. no_answer _ _ e)
