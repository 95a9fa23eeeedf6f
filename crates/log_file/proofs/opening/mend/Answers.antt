use Rattle.std.proofs.Common.{◌∷◌, [], refl}
use Rattle.outside.specs.declared.disk.Area.TheVariants.{Log}
use Rattle.outside.proofs.Moments.{leaves_also}
use Rattle.log_file.proofs.Creating.{others_same, others_written}
use Rattle.log_file.proofs.Mending.{told_leaves, told_mended_open, told_mended_closed, told_open, told_there_open}
use Rattle.log_file.proofs.Exits.{on_each, no_call}
use Rattle.log_file.proofs.opening.mend.Goals as goal

pub returns-in-Err-clause-moments : goal.returns-in-Err-clause-moments
returns-in-Err-clause-moments g c =
    told_leaves _ c.args.place c.args.open_gate (g.D.Disk.images c.args.disk.now) _ c.if-open_gate.true c.requires.gate
    (λ P weaker. leaves_also g.D.Disk.moment g.D.Disk.left_since _ _ _ P c.write_durably.ensures.moments weaker)

pub returns-in-Ok-clause-moments : goal.returns-in-Ok-clause-moments
returns-in-Ok-clause-moments g c =
    told_leaves _ c.args.place c.args.open_gate (g.D.Disk.images c.args.disk.now) _ c.if-open_gate.true c.requires.gate
    (λ P weaker. leaves_also g.D.Disk.moment g.D.Disk.left_since _ _ _ P c.write_durably.ensures.moments weaker)

pub returns-else-open_gate-clause-others : goal.returns-else-open_gate-clause-others
returns-else-open_gate-clause-others g c = others_same Log (g.D.Disk.reads_as c.args.disk.now)

pub returns-in-Err-clause-mended : goal.returns-in-Err-clause-mended
returns-in-Err-clause-mended g c = on_each (g.D.Disk.reads_as c.args.disk.now) _ (λ _. tt)

pub returns-in-Err-clause-durable : goal.returns-in-Err-clause-durable
returns-in-Err-clause-durable g c = λ _. tt

pub returns-in-Err-clause-at_rest : goal.returns-in-Err-clause-at_rest
returns-in-Err-clause-at_rest g c = told_open _ _ _ _ c.if-open_gate.true c.requires.gate

pub returns-in-Err-clause-there : goal.returns-in-Err-clause-there
returns-in-Err-clause-there g c = tt

pub returns-in-Err-clause-others : goal.returns-in-Err-clause-others
returns-in-Err-clause-others g c = c.in-Err.ensures.others

pub returns-in-Err-clause-cause : goal.returns-in-Err-clause-cause
returns-in-Err-clause-cause g c = c.in-Err.ensures.cause

pub returns-in-Ok-clause-mended : goal.returns-in-Ok-clause-mended
returns-in-Ok-clause-mended g c = told_mended_open _ _ _ _ c.if-open_gate.true c.requires.gate c.in-Ok.ensures.written

pub returns-in-Ok-clause-at_rest : goal.returns-in-Ok-clause-at_rest
returns-in-Ok-clause-at_rest g c = told_open _ _ _ _ c.if-open_gate.true c.requires.gate

pub returns-in-Ok-clause-there : goal.returns-in-Ok-clause-there
returns-in-Ok-clause-there g c = told_there_open _ _ _ c.requires.within c.in-Ok.ensures.written

pub returns-in-Ok-clause-cause : goal.returns-in-Ok-clause-cause
returns-in-Ok-clause-cause g c = c.in-Ok.ensures.cause

pub returns-else-open_gate-clause-mended : goal.returns-else-open_gate-clause-mended
returns-else-open_gate-clause-mended g c = told_mended_closed _ _ _ c.if-open_gate.false c.requires.gate

pub returns-else-open_gate-clause-durable : goal.returns-else-open_gate-clause-durable
returns-else-open_gate-clause-durable g c = λ durable. durable

pub returns-else-open_gate-clause-at_rest : goal.returns-else-open_gate-clause-at_rest
returns-else-open_gate-clause-at_rest g c = on_each (g.D.Disk.reads_as c.args.disk.now) _ (λ _ _. refl)

pub returns-else-open_gate-clause-there : goal.returns-else-open_gate-clause-there
returns-else-open_gate-clause-there g c = c.requires.within

pub returns-else-open_gate-clause-cause : goal.returns-else-open_gate-clause-cause
returns-else-open_gate-clause-cause g c = no_call _ _

pub returns-in-Err-clause-uncalled : goal.returns-in-Err-clause-uncalled
returns-in-Err-clause-uncalled g c = told_open _ _ _ _ c.if-open_gate.true c.requires.gate

pub returns-in-Ok-clause-uncalled : goal.returns-in-Ok-clause-uncalled
returns-in-Ok-clause-uncalled g c = told_open _ _ _ _ c.if-open_gate.true c.requires.gate

pub returns-else-open_gate-clause-uncalled : goal.returns-else-open_gate-clause-uncalled
returns-else-open_gate-clause-uncalled g c = on_each (g.D.Disk.reads_as c.args.disk.now) _ (λ _ _. refl)

pub returns-in-Ok-clause-others : goal.returns-in-Ok-clause-others
returns-in-Ok-clause-others g c = others_written c.args.place (0 ∷ []) _ _ c.in-Ok.ensures.written
