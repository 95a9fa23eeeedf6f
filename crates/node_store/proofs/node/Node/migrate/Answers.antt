use Rattle.std.proofs.Common.{refl, ap, sym, ◌∙◌}
use Rattle.outside.proofs.Endings.{no_answer}
use Rattle.outside.specs.declared.disk.Area.TheVariants.{Log}
use Rattle.log_file.proofs.Creating.{others_same}
use Rattle.log_file.proofs.Exits.{stop_counts}
use Rattle.node_store.specs.Node.{NodeValue}
use Rattle.store_defs.specs.Migration.{migration}
use Rattle.node_store.proofs.DiskLemmas.{counts_none}
use Rattle.node_store.proofs.MigrationLemmas.{migrated_edited, migrated_still, leaves_still, leaves_edited, other_than_done}
use Rattle.node_store.proofs.node.Node.migrate.Goals as goal

pub returns-in_default : goal.returns-in_default
returns-in_default g c = record {
  migrated = migrated_still c.args.self c.args.epoch c.answer.result _ _ (c.answer.ensures ∙ ap (λ (v : NodeValue). migration v.chain c.args.epoch) c.self.view_is)
      (other_than_done c.answer.result c.in_default.not-Done) c.requires.own;
  left = leaves_still g.D.Disk.reads_as g.D.Disk.images g.D.Disk.moment g.D.Disk.left_since c.args.self c.args.epoch g.met.D.Disk.only_now c.args.disk.now;
  uncalled = λ _. refl;
  others = others_same Log (g.D.Disk.reads_as c.args.disk.now);
  untouched = tt;
  cause = counts_none _ _ refl (λ e. no_answer _ _ e);
}

pub returns-in-Ok-clause-migrated : goal.returns-in-Ok-clause-migrated
returns-in-Ok-clause-migrated g c =
    migrated_edited c.args.self c.in-Ok.node c.args.epoch _ _ _ _
    (ap (λ (v : NodeValue). migration v.chain c.args.epoch) (sym c.self.view_is) ∙ sym c.answer.ensures ∙ c.in-Done.is) c.in-Ok.ensures.edited

pub returns-in-Ok-clause-left : goal.returns-in-Ok-clause-left
returns-in-Ok-clause-left g c =
    leaves_edited g.D.Disk.reads_as g.D.Disk.images g.D.Disk.moment g.D.Disk.left_since c.args.self c.args.epoch _ _
    (ap (λ (v : NodeValue). migration v.chain c.args.epoch) (sym c.self.view_is) ∙ sym c.answer.ensures ∙ c.in-Done.is) c.edit.ensures.moments c.edit.ensures.keeps

pub returns-in-Err-clause-left : goal.returns-in-Err-clause-left
returns-in-Err-clause-left g c =
    leaves_edited g.D.Disk.reads_as g.D.Disk.images g.D.Disk.moment g.D.Disk.left_since c.args.self c.args.epoch _ _
    (ap (λ (v : NodeValue). migration v.chain c.args.epoch) (sym c.self.view_is) ∙ sym c.answer.ensures ∙ c.in-Done.is) c.edit.ensures.moments c.edit.ensures.keeps

pub returns-in-Err-clause-cause : goal.returns-in-Err-clause-cause
returns-in-Err-clause-cause g c = stop_counts _ _ _ _ c.in-Err.ensures.cause
