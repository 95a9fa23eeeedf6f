use Rattle.std.proofs.Common.{◌+◌, length, Err, inl, refl, sym, ap, ◌∙◌, subst}
use Rattle.outside.specs.declared.disk.Area.TheVariants.{Log, SnapA, SnapB}
use Rattle.outside.proofs.Moments.{leaves_also, leaves_then, now_too}
use Rattle.log_file.proofs.Creating.{fault_is_no_memory}
use Rattle.log_file.proofs.Exits.{no_error, fault_counts, stop_counts, answer_counts, counts_on}
use Rattle.node_store.specs.Node.{NewStoreValue, IsNew, KeepsLog}
use Rattle.node_store.proofs.KeepingLemmas.{known_as_before}
use Rattle.node_store.proofs.OpenLemmas.{same_stop}
use Rattle.node_store.proofs.NewLemmas.{log_kept_a, log_kept_b, keeps_log, made_new, cleared_first}
use Rattle.node_store.proofs.new_store.NewStore.create.Goals as goal

pub returns-in-Ok-create-clause-made : goal.returns-in-Ok-create-clause-made
returns-in-Ok-create-clause-made g c some =
    subst (λ (v : NewStoreValue). IsNew v.specification v.genesis (g.D.Disk.reads_as c.create.new.disk) (g.D.Disk.images c.create.new.disk)) c.self.view_is
    (made_new c.self.inside.spec.now c.self.inside.genesis.now c.self.inside.hash c.in-Ok-create.field-0.place (20 + length c.self.inside.spec.now + length c.self.inside.genesis.now) _ _ _ _ _ _ _ c.self.invariant some
    c.in-Ok.ensures.cleared c.in-Ok.ensures.durable c.in-Ok-clear.ensures.cleared c.in-Ok-clear.ensures.durable
    c.clear-2.ensures.images c.in-Ok-create.ensures.settled c.in-Ok-create.ensures.made
    (now_too g.D.Disk.moment g.D.Disk.left_since g.D.Disk.images g.met.D.Disk.counts_now _ _ _ c.create.ensures.moments))

pub returns-in-Err-create-clause-unmade : goal.returns-in-Err-create-clause-unmade
returns-in-Err-create-clause-unmade g c e =
    subst (λ disk. KeepsLog (g.D.Disk.reads_as c.args.disk.now) (g.D.Disk.reads_as disk) (g.D.Disk.images c.args.disk.now) (g.D.Disk.images disk))
    (sym (c.in-Err-create.ensures.unchanged (ap Err (same_stop _ _ e))))
    (keeps_log _ _ _ _ _ _ c.clear.ensures.others c.clear-2.ensures.others c.clear.ensures.images c.clear-2.ensures.images)

pub returns-in-Err-clause-moments : goal.returns-in-Err-clause-moments
returns-in-Err-clause-moments g c = λ some.
    leaves_also g.D.Disk.moment g.D.Disk.left_since _ _ _ _ c.clear.ensures.moments (λ image left. inl (log_kept_a _ image left))

pub returns-in-Err-clear-clause-moments : goal.returns-in-Err-clear-clause-moments
returns-in-Err-clear-clause-moments g c = λ some. leaves_then g.D.Disk.moment g.D.Disk.left_since _ _ _ _
    (leaves_also g.D.Disk.moment g.D.Disk.left_since _ _ _ _ c.clear.ensures.moments (λ image left. inl (log_kept_a _ image left)))
    (leaves_also g.D.Disk.moment g.D.Disk.left_since _ _ _ _ c.clear-2.ensures.moments (λ image left. inl (log_kept_b _ _ c.clear.ensures.images image left)))

pub returns-in-Err-create-clause-moments : goal.returns-in-Err-create-clause-moments
returns-in-Err-create-clause-moments g c = λ some. leaves_then g.D.Disk.moment g.D.Disk.left_since _ _ _ _
    (leaves_then g.D.Disk.moment g.D.Disk.left_since _ _ _ _
    (leaves_also g.D.Disk.moment g.D.Disk.left_since _ _ _ _ c.clear.ensures.moments (λ image left. inl (log_kept_a _ image left)))
    (leaves_also g.D.Disk.moment g.D.Disk.left_since _ _ _ _ c.clear-2.ensures.moments (λ image left. inl (log_kept_b _ _ c.clear.ensures.images image left))))
    (leaves_also g.D.Disk.moment g.D.Disk.left_since _ _ _ _ c.create.ensures.moments
    (cleared_first (20 + length c.self.inside.spec.now + length c.self.inside.genesis.now) _ _ _ _ _ _ some c.in-Ok.ensures.cleared c.in-Ok.ensures.durable c.in-Ok-clear.ensures.cleared c.in-Ok-clear.ensures.durable c.clear-2.ensures.images))

pub returns-in-Ok-create-clause-moments : goal.returns-in-Ok-create-clause-moments
returns-in-Ok-create-clause-moments g c = λ some. leaves_then g.D.Disk.moment g.D.Disk.left_since _ _ _ _
    (leaves_then g.D.Disk.moment g.D.Disk.left_since _ _ _ _
    (leaves_also g.D.Disk.moment g.D.Disk.left_since _ _ _ _ c.clear.ensures.moments (λ image left. inl (log_kept_a _ image left)))
    (leaves_also g.D.Disk.moment g.D.Disk.left_since _ _ _ _ c.clear-2.ensures.moments (λ image left. inl (log_kept_b _ _ c.clear.ensures.images image left))))
    (leaves_also g.D.Disk.moment g.D.Disk.left_since _ _ _ _ c.create.ensures.moments
    (cleared_first (20 + length c.self.inside.spec.now + length c.self.inside.genesis.now) _ _ _ _ _ _ some c.in-Ok.ensures.cleared c.in-Ok.ensures.durable c.in-Ok-clear.ensures.cleared c.in-Ok-clear.ensures.durable c.clear-2.ensures.images))

pub returns-in-Err-clause-unmade : goal.returns-in-Err-clause-unmade
returns-in-Err-clause-unmade g c = λ e. absurd (fault_is_no_memory e)

pub returns-in-Err-clear-clause-unmade : goal.returns-in-Err-clear-clause-unmade
returns-in-Err-clear-clause-unmade g c = λ e. absurd (fault_is_no_memory e)

pub returns-in-Ok-create-clause-unmade : goal.returns-in-Ok-create-clause-unmade
returns-in-Ok-create-clause-unmade g c = λ e. absurd (no_error _ _ e)

pub returns-in-Err-clause-cause : goal.returns-in-Err-clause-cause
returns-in-Err-clause-cause g c = fault_counts _ _ _ _ c.in-Err.ensures.cause

pub returns-in-Err-clear-clause-cause : goal.returns-in-Err-clear-clause-cause
returns-in-Err-clear-clause-cause g c = counts_on _ _ _ (c.in-Ok.ensures.cause.unchanged refl) (fault_counts _ _ _ _ c.in-Err-clear.ensures.cause)

pub returns-in-Err-create-clause-cause : goal.returns-in-Err-create-clause-cause
returns-in-Err-create-clause-cause g c =
    counts_on _ _ _ (c.in-Ok-clear.ensures.cause.unchanged refl ∙ c.in-Ok.ensures.cause.unchanged refl) (stop_counts _ _ _ _ c.in-Err-create.ensures.cause)

pub returns-in-Ok-create-clause-cause : goal.returns-in-Ok-create-clause-cause
returns-in-Ok-create-clause-cause g c =
    answer_counts _ _ _ _ (c.in-Ok-create.ensures.cause.unchanged (no_error _ _) ∙ c.in-Ok-clear.ensures.cause.unchanged refl ∙ c.in-Ok.ensures.cause.unchanged refl)

pub returns-in-Err-clause-told : goal.returns-in-Err-clause-told
returns-in-Err-clause-told g c = known_as_before SnapA _ _ c.clear.ensures.others

pub returns-in-Err-clear-clause-told : goal.returns-in-Err-clear-clause-told
returns-in-Err-clear-clause-told g c = known_as_before SnapB _ _ c.clear-2.ensures.others ∙ known_as_before SnapA _ _ c.clear.ensures.others

pub returns-in-Err-create-clause-told : goal.returns-in-Err-create-clause-told
returns-in-Err-create-clause-told g c =
    known_as_before Log _ _ c.create.ensures.others ∙ known_as_before SnapB _ _ c.clear-2.ensures.others ∙ known_as_before SnapA _ _ c.clear.ensures.others

pub returns-in-Ok-create-clause-told : goal.returns-in-Ok-create-clause-told
returns-in-Ok-create-clause-told g c =
    known_as_before Log _ _ c.create.ensures.others ∙ known_as_before SnapB _ _ c.clear-2.ensures.others ∙ known_as_before SnapA _ _ c.clear.ensures.others
