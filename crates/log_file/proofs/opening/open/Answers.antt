use Rattle.std.proofs.Common.{refl, sym, subst, ◌∙◌, arith, inl}
use Rattle.outside.proofs.Moments.{leaves_also, leaves_then}
use Rattle.log_file.proofs.Exits.{on_each, fault_counts, stop_counts, answer_counts, answer_still, counts_on, damage_also, in_log_also}
use Rattle.log_file.proofs.Front.{on_same}
use Rattle.log_file.proofs.Judging.{kept_limit_is}
use Rattle.log_file.proofs.Settling.{others_kept, durable_on, told_settled, told_moments, read_only, told_log, told_at_rest, told_rests, others_on}
use Rattle.outside.specs.Disk.{IsOnlyRead}
use Rattle.log_file.proofs.opening.open.Goals as goal

pub returns-in-Err-clause-others : goal.returns-in-Err-clause-others
returns-in-Err-clause-others g c = others_kept _ _ c.synced_len.ensures.same

pub returns-in-Err-read_log-clause-others : goal.returns-in-Err-read_log-clause-others
returns-in-Err-read_log-clause-others g c = others_kept _ _ (c.read_log.ensures.as_before.reads ∙ c.synced_len.ensures.same)

pub mend-requires-clause-limit : goal.mend-requires-clause-limit
mend-requires-clause-limit g c = omega (arith, c.in-Ok-read_log.ensures.place, c.in-Ok-read_log.ensures.blocks.few, kept_limit_is)

pub returns-in-Err-mend-clause-moments : goal.returns-in-Err-mend-clause-moments
returns-in-Err-mend-clause-moments g c =
    let moment = g.D.Disk.moment in
    let left_since = g.D.Disk.left_since in
    let sync = c.in-Ok.ensures in
    let read = c.in-Ok-read_log.ensures in
    told_moments _ _ _ c.in-Ok-read_log.found.0.log.place (g.D.Disk.images c.args.disk.now) (g.D.Disk.images c.read_log.new.disk) _ _ sync.same (read.as_before.reads ∙ sync.same) read.ends
    (durable_on _ _ (g.D.Disk.images c.synced_len.new.disk) _ (read.as_before.reads ∙ sync.same) read.as_before.images sync.durable)
    (λ image left. sync.images image ((read.as_before.images image).0 left)) c.mend.ensures.moments
    (λ P Q here ends weaker. leaves_then moment left_since _ _ _ P
    (leaves_then moment left_since _ _ _ P (leaves_also moment left_since _ _ _ P sync.moments here)
    (leaves_also moment left_since _ _ _ P read.as_before.moments (λ image left. here image (sync.images image left))))
    (leaves_also moment left_since _ _ Q P ends weaker))

pub returns-in-Ok-mend-clause-settled : goal.returns-in-Ok-mend-clause-settled
returns-in-Ok-mend-clause-settled g c =
    let sync = c.in-Ok.ensures in
    let read = c.in-Ok-read_log.ensures in
    told_settled _ _ _ _ c.in-Ok-read_log.found.0.log.place (g.D.Disk.images c.mend.new.disk) sync.same (read.as_before.reads ∙ sync.same) read.ends c.in-Ok-mend.ensures.mended
    (c.in-Ok-mend.ensures.durable (durable_on _ _ (g.D.Disk.images c.synced_len.new.disk) _ (read.as_before.reads ∙ sync.same) read.as_before.images sync.durable))

pub returns-in-Ok-mend-clause-moments : goal.returns-in-Ok-mend-clause-moments
returns-in-Ok-mend-clause-moments g c =
    let moment = g.D.Disk.moment in
    let left_since = g.D.Disk.left_since in
    let sync = c.in-Ok.ensures in
    let read = c.in-Ok-read_log.ensures in
    told_moments _ _ _ c.in-Ok-read_log.found.0.log.place (g.D.Disk.images c.args.disk.now) (g.D.Disk.images c.read_log.new.disk) _ _ sync.same (read.as_before.reads ∙ sync.same) read.ends
    (durable_on _ _ (g.D.Disk.images c.synced_len.new.disk) _ (read.as_before.reads ∙ sync.same) read.as_before.images sync.durable)
    (λ image left. sync.images image ((read.as_before.images image).0 left)) c.mend.ensures.moments
    (λ P Q here ends weaker. leaves_then moment left_since _ _ _ P
    (leaves_then moment left_since _ _ _ P (leaves_also moment left_since _ _ _ P sync.moments here)
    (leaves_also moment left_since _ _ _ P read.as_before.moments (λ image left. here image (sync.images image left))))
    (leaves_also moment left_since _ _ Q P ends weaker))

pub returns-in-Err-clause-opened : goal.returns-in-Err-clause-opened
returns-in-Err-clause-opened g c = on_each (g.D.Disk.reads_as c.args.disk.now) _ (λ _. tt)

pub returns-in-Err-clause-settled : goal.returns-in-Err-clause-settled
returns-in-Err-clause-settled g c = on_each (g.D.Disk.reads_as c.args.disk.now) _ (λ _. tt)

pub returns-in-Err-clause-mended : goal.returns-in-Err-clause-mended
returns-in-Err-clause-mended g c = on_each (g.D.Disk.reads_as c.args.disk.now) _ (λ _. tt)

pub returns-in-Err-clause-blocks : goal.returns-in-Err-clause-blocks
returns-in-Err-clause-blocks g c = tt

pub returns-in-Err-clause-place : goal.returns-in-Err-clause-place
returns-in-Err-clause-place g c = tt

pub returns-in-Err-clause-there : goal.returns-in-Err-clause-there
returns-in-Err-clause-there g c = tt

pub returns-in-Err-clause-not_a_store : goal.returns-in-Err-clause-not_a_store
returns-in-Err-clause-not_a_store g c = tt

pub returns-in-Err-clause-at_rest : goal.returns-in-Err-clause-at_rest
returns-in-Err-clause-at_rest g c = on_each (g.D.Disk.reads_as c.args.disk.now) _ (λ _ _. c.in-Err.ensures.same)

pub returns-in-Err-clause-unwritten : goal.returns-in-Err-clause-unwritten
returns-in-Err-clause-unwritten g c = λ _. c.in-Err.ensures.same

pub returns-in-Err-clause-only_read : goal.returns-in-Err-clause-only_read
returns-in-Err-clause-only_read g c = tt

pub returns-in-Err-clause-no_log : goal.returns-in-Err-clause-no_log
returns-in-Err-clause-no_log g c =
    on_each (g.D.Disk.reads_as c.args.disk.now) _ (λ _ _. record { reads = c.in-Err.ensures.same; images = c.in-Err.ensures.images; moments = c.in-Err.ensures.moments })

pub returns-in-Err-clause-cause : goal.returns-in-Err-clause-cause
returns-in-Err-clause-cause g c = fault_counts _ _ _ _ c.in-Err.ensures.cause

pub returns-in-Err-clause-moments : goal.returns-in-Err-clause-moments
returns-in-Err-clause-moments g c =
    on_each (g.D.Disk.reads_as c.args.disk.now) _ (λ _. leaves_also g.D.Disk.moment g.D.Disk.left_since _ _ _ _ c.in-Err.ensures.moments (λ image left. inl left))

pub returns-in-Err-read_log-clause-opened : goal.returns-in-Err-read_log-clause-opened
returns-in-Err-read_log-clause-opened g c = on_each (g.D.Disk.reads_as c.args.disk.now) _ (λ _. tt)

pub returns-in-Err-read_log-clause-settled : goal.returns-in-Err-read_log-clause-settled
returns-in-Err-read_log-clause-settled g c = on_each (g.D.Disk.reads_as c.args.disk.now) _ (λ _. tt)

pub returns-in-Err-read_log-clause-mended : goal.returns-in-Err-read_log-clause-mended
returns-in-Err-read_log-clause-mended g c = on_each (g.D.Disk.reads_as c.args.disk.now) _ (λ _. tt)

pub returns-in-Err-read_log-clause-blocks : goal.returns-in-Err-read_log-clause-blocks
returns-in-Err-read_log-clause-blocks g c = tt

pub returns-in-Err-read_log-clause-place : goal.returns-in-Err-read_log-clause-place
returns-in-Err-read_log-clause-place g c = tt

pub returns-in-Err-read_log-clause-there : goal.returns-in-Err-read_log-clause-there
returns-in-Err-read_log-clause-there g c = tt

pub returns-in-Err-read_log-clause-not_a_store : goal.returns-in-Err-read_log-clause-not_a_store
returns-in-Err-read_log-clause-not_a_store g c = in_log_also _ _ _ _ c.in-Err-read_log.stop (λ at wrong. on_same _ _ _ c.in-Ok.ensures.same wrong) c.in-Err-read_log.ensures.not_a_store

pub returns-in-Err-read_log-clause-at_rest : goal.returns-in-Err-read_log-clause-at_rest
returns-in-Err-read_log-clause-at_rest g c = on_each (g.D.Disk.reads_as c.args.disk.now) _ (λ _ _. c.in-Err-read_log.ensures.as_before.reads ∙ c.in-Ok.ensures.same)

pub returns-in-Err-read_log-clause-unwritten : goal.returns-in-Err-read_log-clause-unwritten
returns-in-Err-read_log-clause-unwritten g c = λ _. c.in-Err-read_log.ensures.as_before.reads ∙ c.in-Ok.ensures.same

pub returns-in-Err-read_log-clause-only_read : goal.returns-in-Err-read_log-clause-only_read
returns-in-Err-read_log-clause-only_read g c =
    damage_also _ _ c.in-Err-read_log.stop (λ _ _.
    read_only g.D.Disk.reads_as g.D.Disk.images g.D.Disk.moment g.D.Disk.left_since _ _ _ c.in-Ok.ensures.same c.in-Ok.ensures.images c.in-Ok.ensures.moments c.in-Err-read_log.ensures.as_before)
    c.in-Err-read_log.ensures.not_a_store

pub returns-in-Err-read_log-clause-no_log : goal.returns-in-Err-read_log-clause-no_log
returns-in-Err-read_log-clause-no_log g c =
    on_each (g.D.Disk.reads_as c.args.disk.now) _ (λ _ _.
    read_only g.D.Disk.reads_as g.D.Disk.images g.D.Disk.moment g.D.Disk.left_since _ _ _ c.in-Ok.ensures.same c.in-Ok.ensures.images c.in-Ok.ensures.moments c.in-Err-read_log.ensures.as_before)

pub returns-in-Err-read_log-clause-cause : goal.returns-in-Err-read_log-clause-cause
returns-in-Err-read_log-clause-cause g c = counts_on _ _ _ (c.in-Ok.ensures.cause.unchanged refl) (stop_counts _ _ _ _ c.in-Err-read_log.ensures.cause)

pub returns-in-Err-read_log-clause-moments : goal.returns-in-Err-read_log-clause-moments
returns-in-Err-read_log-clause-moments g c =
    let only = read_only g.D.Disk.reads_as g.D.Disk.images g.D.Disk.moment g.D.Disk.left_since _ _ _ c.in-Ok.ensures.same c.in-Ok.ensures.images c.in-Ok.ensures.moments c.in-Err-read_log.ensures.as_before in
    on_each (g.D.Disk.reads_as c.args.disk.now) _ (λ _. leaves_also g.D.Disk.moment g.D.Disk.left_since _ _ _ _ only.moments (λ image left. inl left))

pub returns-in-Err-mend-clause-opened : goal.returns-in-Err-mend-clause-opened
returns-in-Err-mend-clause-opened g c = on_each (g.D.Disk.reads_as c.args.disk.now) _ (λ _. tt)

pub returns-in-Err-mend-clause-settled : goal.returns-in-Err-mend-clause-settled
returns-in-Err-mend-clause-settled g c = on_each (g.D.Disk.reads_as c.args.disk.now) _ (λ _. tt)

pub returns-in-Err-mend-clause-mended : goal.returns-in-Err-mend-clause-mended
returns-in-Err-mend-clause-mended g c = on_each (g.D.Disk.reads_as c.args.disk.now) _ (λ _. tt)

pub returns-in-Err-mend-clause-blocks : goal.returns-in-Err-mend-clause-blocks
returns-in-Err-mend-clause-blocks g c = tt

pub returns-in-Err-mend-clause-place : goal.returns-in-Err-mend-clause-place
returns-in-Err-mend-clause-place g c = tt

pub returns-in-Err-mend-clause-there : goal.returns-in-Err-mend-clause-there
returns-in-Err-mend-clause-there g c = tt

pub returns-in-Err-mend-clause-not_a_store : goal.returns-in-Err-mend-clause-not_a_store
returns-in-Err-mend-clause-not_a_store g c = tt

pub returns-in-Err-mend-clause-at_rest : goal.returns-in-Err-mend-clause-at_rest
returns-in-Err-mend-clause-at_rest g c = told_at_rest _ _ _ _ _ c.in-Ok.ensures.same (c.in-Ok-read_log.ensures.as_before.reads ∙ c.in-Ok.ensures.same) c.in-Ok-read_log.ensures.ends c.mend.ensures.at_rest

pub returns-in-Err-mend-clause-unwritten : goal.returns-in-Err-mend-clause-unwritten
returns-in-Err-mend-clause-unwritten g c = λ other. absurd (other refl)

pub returns-in-Err-mend-clause-only_read : goal.returns-in-Err-mend-clause-only_read
returns-in-Err-mend-clause-only_read g c = tt

pub returns-in-Err-mend-clause-no_log : goal.returns-in-Err-mend-clause-no_log
returns-in-Err-mend-clause-no_log g c = told_log _ _ _ _ _ _ c.in-Ok.ensures.same c.in-Ok-read_log.ensures.opened

pub returns-in-Err-mend-clause-cause : goal.returns-in-Err-mend-clause-cause
returns-in-Err-mend-clause-cause g c =
    counts_on _ _ _ (c.in-Ok.ensures.cause.unchanged refl) (counts_on _ _ _ (answer_still _ _ _ _ c.in-Ok-read_log.ensures.cause) (fault_counts _ _ _ _ c.in-Err-mend.ensures.cause))

pub returns-in-Err-mend-clause-others : goal.returns-in-Err-mend-clause-others
returns-in-Err-mend-clause-others g c = others_on _ _ _ (c.in-Ok-read_log.ensures.as_before.reads ∙ c.in-Ok.ensures.same) c.mend.ensures.others

pub returns-in-Ok-mend-clause-opened : goal.returns-in-Ok-mend-clause-opened
returns-in-Ok-mend-clause-opened g c = on_same _ _ _ c.in-Ok.ensures.same c.in-Ok-read_log.ensures.opened

pub returns-in-Ok-mend-clause-blocks : goal.returns-in-Ok-mend-clause-blocks
returns-in-Ok-mend-clause-blocks g c = c.in-Ok-read_log.ensures.blocks

pub returns-in-Ok-mend-clause-place : goal.returns-in-Ok-mend-clause-place
returns-in-Ok-mend-clause-place g c = c.in-Ok-read_log.ensures.place

pub returns-in-Ok-mend-clause-there : goal.returns-in-Ok-mend-clause-there
returns-in-Ok-mend-clause-there g c = c.in-Ok-mend.ensures.there

pub returns-in-Ok-mend-clause-mended : goal.returns-in-Ok-mend-clause-mended
returns-in-Ok-mend-clause-mended g c = on_same _ _ _ (c.in-Ok-read_log.ensures.as_before.reads ∙ c.in-Ok.ensures.same) c.in-Ok-mend.ensures.mended

pub returns-in-Ok-mend-clause-unwritten : goal.returns-in-Ok-mend-clause-unwritten
returns-in-Ok-mend-clause-unwritten g c = tt

pub returns-in-Ok-mend-clause-not_a_store : goal.returns-in-Ok-mend-clause-not_a_store
returns-in-Ok-mend-clause-not_a_store g c = tt

pub returns-in-Ok-mend-clause-only_read : goal.returns-in-Ok-mend-clause-only_read
returns-in-Ok-mend-clause-only_read g c = tt

pub returns-in-Ok-mend-clause-no_log : goal.returns-in-Ok-mend-clause-no_log
returns-in-Ok-mend-clause-no_log g c = told_log _ _ _ _ _ _ c.in-Ok.ensures.same c.in-Ok-read_log.ensures.opened

pub returns-in-Ok-mend-clause-others : goal.returns-in-Ok-mend-clause-others
returns-in-Ok-mend-clause-others g c = others_on _ _ _ (c.in-Ok-read_log.ensures.as_before.reads ∙ c.in-Ok.ensures.same) c.mend.ensures.others

pub returns-in-Ok-mend-clause-cause : goal.returns-in-Ok-mend-clause-cause
returns-in-Ok-mend-clause-cause g c =
    counts_on _ _ _ (c.in-Ok.ensures.cause.unchanged refl) (counts_on _ _ _ (answer_still _ _ _ _ c.in-Ok-read_log.ensures.cause) (answer_counts _ _ _ _ (c.in-Ok-mend.ensures.cause.unchanged refl)))

pub returns-in-Ok-mend-clause-at_rest : goal.returns-in-Ok-mend-clause-at_rest
returns-in-Ok-mend-clause-at_rest g c = told_at_rest _ _ _ _ _ c.in-Ok.ensures.same (c.in-Ok-read_log.ensures.as_before.reads ∙ c.in-Ok.ensures.same) c.in-Ok-read_log.ensures.ends c.mend.ensures.at_rest

pub returns-in-Err-clause-rests : goal.returns-in-Err-clause-rests
returns-in-Err-clause-rests g c =
    on_each (g.D.Disk.reads_as c.args.disk.now) _ (λ _ _. record { reads = c.in-Err.ensures.same; images = c.in-Err.ensures.images; moments = c.in-Err.ensures.moments })

pub returns-in-Err-read_log-clause-rests : goal.returns-in-Err-read_log-clause-rests
returns-in-Err-read_log-clause-rests g c =
    on_each (g.D.Disk.reads_as c.args.disk.now) _ (λ _ _.
    read_only g.D.Disk.reads_as g.D.Disk.images g.D.Disk.moment g.D.Disk.left_since _ _ _ c.in-Ok.ensures.same c.in-Ok.ensures.images c.in-Ok.ensures.moments c.in-Err-read_log.ensures.as_before)

pub returns-in-Err-mend-clause-rests : goal.returns-in-Err-mend-clause-rests
returns-in-Err-mend-clause-rests g c =
    told_rests _ _ _ _ _ _ c.in-Ok.ensures.same (c.in-Ok-read_log.ensures.as_before.reads ∙ c.in-Ok.ensures.same) c.in-Ok-read_log.ensures.ends c.mend.ensures.uncalled
    (λ uncalled. subst (λ d. IsOnlyRead g.D.Disk.reads_as g.D.Disk.images g.D.Disk.moment g.D.Disk.left_since c.args.disk.now d) (sym uncalled)
    (read_only g.D.Disk.reads_as g.D.Disk.images g.D.Disk.moment g.D.Disk.left_since _ _ _ c.in-Ok.ensures.same c.in-Ok.ensures.images c.in-Ok.ensures.moments c.in-Ok-read_log.ensures.as_before))

pub returns-in-Ok-mend-clause-rests : goal.returns-in-Ok-mend-clause-rests
returns-in-Ok-mend-clause-rests g c =
    told_rests _ _ _ _ _ _ c.in-Ok.ensures.same (c.in-Ok-read_log.ensures.as_before.reads ∙ c.in-Ok.ensures.same) c.in-Ok-read_log.ensures.ends c.mend.ensures.uncalled
    (λ uncalled. subst (λ d. IsOnlyRead g.D.Disk.reads_as g.D.Disk.images g.D.Disk.moment g.D.Disk.left_since c.args.disk.now d) (sym uncalled)
    (read_only g.D.Disk.reads_as g.D.Disk.images g.D.Disk.moment g.D.Disk.left_since _ _ _ c.in-Ok.ensures.same c.in-Ok.ensures.images c.in-Ok.ensures.moments c.in-Ok-read_log.ensures.as_before))
