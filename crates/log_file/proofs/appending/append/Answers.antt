use Rattle.std.proofs.Common.{◌+◌, ◌∷◌, [], ◌∙◌, refl}
use Rattle.outside.proofs.Moments.{leaves_also, leaves_then}
use Rattle.log_file.proofs.Gates.{leaves_while_written, leaves_while_opened, settles_after, ends_there, ends_no_later}
use Rattle.log_file.proofs.Creating.{others_then, others_written}
use Rattle.log_file.proofs.Exits.{failed_on, answered}
use Rattle.log_file.proofs.appending.append.Goals as goal

pub returns-in-Err-clause-moments : goal.returns-in-Err-clause-moments
returns-in-Err-clause-moments g c = λ records r is settled.
    leaves_also g.D.Disk.moment g.D.Disk.left_since _ _ _ _ c.write_durably.ensures.moments
    (leaves_while_written c.args.log.place records r c.piece-piece.result.now _ _ (c.piece-piece.ensures.value ∙ is) settled)

pub returns-in-Err-write_durably-clause-moments : goal.returns-in-Err-write_durably-clause-moments
returns-in-Err-write_durably-clause-moments g c = λ records r is settled.
    leaves_then g.D.Disk.moment g.D.Disk.left_since _ _ _ _
    (leaves_also g.D.Disk.moment g.D.Disk.left_since _ _ _ _ c.write_durably.ensures.moments
    (leaves_while_written c.args.log.place records r c.piece-piece.result.now _ _ (c.piece-piece.ensures.value ∙ is) settled))
    (leaves_also g.D.Disk.moment g.D.Disk.left_since _ _ _ _ c.write_durably-2.ensures.moments
    (leaves_while_opened c.args.log.place records r c.piece-piece.result.now _ _ _ _ (c.piece-piece.ensures.value ∙ is) c.piece-piece.ensures.fits settled
    c.in-Ok.ensures.written c.in-Ok.ensures.durable c.write_durably.ensures.images))

pub returns-clause-moments : goal.returns-clause-moments
returns-clause-moments g c = λ records r is settled.
    leaves_then g.D.Disk.moment g.D.Disk.left_since _ _ _ _
    (leaves_also g.D.Disk.moment g.D.Disk.left_since _ _ _ _ c.write_durably.ensures.moments
    (leaves_while_written c.args.log.place records r c.piece-piece.result.now _ _ (c.piece-piece.ensures.value ∙ is) settled))
    (leaves_also g.D.Disk.moment g.D.Disk.left_since _ _ _ _ c.write_durably-2.ensures.moments
    (leaves_while_opened c.args.log.place records r c.piece-piece.result.now _ _ _ _ (c.piece-piece.ensures.value ∙ is) c.piece-piece.ensures.fits settled
    c.in-Ok.ensures.written c.in-Ok.ensures.durable c.write_durably.ensures.images))

pub returns-clause-settled : goal.returns-clause-settled
returns-clause-settled g c = λ records r is settled.
    settles_after c.args.log.place records r c.piece-piece.result.now _ _ _ _ _ _ (c.piece-piece.ensures.value ∙ is) c.piece-piece.ensures.fits settled
    c.in-Ok.ensures.written c.in-Ok.ensures.durable
    c.in-Ok-write_durably.ensures.written c.in-Ok-write_durably.ensures.durable

pub returns-clause-there : goal.returns-clause-there
returns-clause-there g c =
    ends_there c.args.log.place c.piece-piece.result.now _ _ _ c.requires.there c.in-Ok.ensures.written c.in-Ok-write_durably.ensures.written

pub returns-clause-size : goal.returns-clause-size
returns-clause-size g c =
    ends_no_later c.args.log.place c.piece-piece.result.now _ _ _ c.requires.there c.in-Ok.ensures.written c.in-Ok-write_durably.ensures.written

pub returns-in-Err-clause-settled : goal.returns-in-Err-clause-settled
returns-in-Err-clause-settled g c = λ _ _ _ _. tt

pub returns-in-Err-clause-place : goal.returns-in-Err-clause-place
returns-in-Err-clause-place g c = tt

pub returns-in-Err-clause-there : goal.returns-in-Err-clause-there
returns-in-Err-clause-there g c = tt

pub returns-in-Err-clause-named : goal.returns-in-Err-clause-named
returns-in-Err-clause-named g c = λ _ _. tt

pub returns-in-Err-write_durably-clause-settled : goal.returns-in-Err-write_durably-clause-settled
returns-in-Err-write_durably-clause-settled g c = λ _ _ _ _. tt

pub returns-in-Err-write_durably-clause-place : goal.returns-in-Err-write_durably-clause-place
returns-in-Err-write_durably-clause-place g c = tt

pub returns-in-Err-write_durably-clause-there : goal.returns-in-Err-write_durably-clause-there
returns-in-Err-write_durably-clause-there g c = tt

pub returns-in-Err-write_durably-clause-named : goal.returns-in-Err-write_durably-clause-named
returns-in-Err-write_durably-clause-named g c = λ _ _. tt

pub returns-in-Err-clause-others : goal.returns-in-Err-clause-others
returns-in-Err-clause-others g c = c.in-Err.ensures.others

pub returns-in-Err-clause-cause : goal.returns-in-Err-clause-cause
returns-in-Err-clause-cause g c = failed_on _ _ _ _ refl c.in-Err.ensures.cause

pub returns-in-Err-write_durably-clause-cause : goal.returns-in-Err-write_durably-clause-cause
returns-in-Err-write_durably-clause-cause g c = failed_on _ _ _ _ (c.in-Ok.ensures.cause.unchanged refl) c.in-Err-write_durably.ensures.cause

pub returns-clause-cause : goal.returns-clause-cause
returns-clause-cause g c = answered _ _ _ (c.in-Ok-write_durably.ensures.cause.unchanged refl ∙ c.in-Ok.ensures.cause.unchanged refl)

pub returns-in-Err-write_durably-clause-others : goal.returns-in-Err-write_durably-clause-others
returns-in-Err-write_durably-clause-others g c =
    others_then _ _ _ (others_written (c.args.log.place + 1) c.piece-piece.result.now _ _ c.in-Ok.ensures.written) c.in-Err-write_durably.ensures.others

pub returns-clause-others : goal.returns-clause-others
returns-clause-others g c =
    others_then _ _ _ (others_written (c.args.log.place + 1) c.piece-piece.result.now _ _ c.in-Ok.ensures.written)
    (others_written c.args.log.place (1 ∷ []) _ _ c.in-Ok-write_durably.ensures.written)

pub returns-clause-named : goal.returns-clause-named
returns-clause-named g c = c.next_rec-rec.ensures
