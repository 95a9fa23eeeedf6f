use Rattle.std.proofs.Common.{◌∙◌, ap}
use Rattle.outside_os.proofs.Reaching.{done_from, when_done, err_then, when_err, reaches, fails_at, lent_as, others_lent, no_err}
use Rattle.outside_os.proofs.folder.Folder.sync.Goals as goal

pub returns-clause-synced : goal.returns-clause-synced
returns-clause-synced g c =
    let lent = c.in-Ok.ensures.lent in
    let sync = c.sync-answer.ensures in
    done_from c.sync-answer.result _ (λ done.
    reaches _ _ _ _ _ _ _ (lent_as _ _ _ _ _ (ap (λ v. v.log) c.self.view_is) (ap (λ v. v.snap_a) c.self.view_is) (ap (λ v. v.snap_b) c.self.view_is)
    (c.is_err-self-inside.ensures.value ∙ no_err c.sync-answer.result done) lent) c.give_back.ensures
    (when_done c.sync-answer.result _ sync.synced done))

pub returns-clause-kept : goal.returns-clause-kept
returns-clause-kept g c =
    let lent = c.in-Ok.ensures.lent in
    let sync = c.sync-answer.ensures in
    err_then c.sync-answer.result _ (λ fails. fails_at _ _ _ _ _ _ _ lent.was
    (others_lent _ _ _ _ _ (ap (λ v. v.log) c.self.view_is) (ap (λ v. v.snap_a) c.self.view_is) (ap (λ v. v.snap_b) c.self.view_is) lent)
    lent.no_doubt c.give_back.ensures (when_err c.sync-answer.result _ sync.same fails) (sync.cause.failed fails))
