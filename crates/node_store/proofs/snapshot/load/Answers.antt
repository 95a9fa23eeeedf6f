use Rattle.std.proofs.Common.{◌≡◌, ◌+◌, Err, Option, sym, ap, ◌∙◌, subst}
use Rattle.std.specs.Prelude.{IfOk}
use Rattle.outside.specs.declared.disk.Area.{Area}
use Rattle.chain_defs.specs.Tip.{tip_place}
use Rattle.log_file.proofs.Exits.{same_stop}
use Rattle.node_store.specs.Opening.{HaveNumbers}
use Rattle.node_store.specs.OpeningSteps.{distance_to, moves_by}
use Rattle.node_store.proofs.LoadingLemmas.{newest-at, newest-none, newest-found, whole-also, at-told}
use Rattle.node_store.proofs.snapshot.load.Goals as goal

pub returns-in-Err-clause-undamaged : goal.returns-in-Err-clause-undamaged
returns-in-Err-clause-undamaged g c = λ now told areas joined damage e.
    c.newest_in.ensures.undamaged c.args.kept.now.chain.blocks now told areas damage (c.in-Err.is ∙ ap Err (same_stop _ _ e))

pub returns-in-Some-clause-undamaged : goal.returns-in-Some-clause-undamaged
returns-in-Some-clause-undamaged g c = λ now told areas joined damage e.
    c.load_from.ensures.undamaged now ((g.met.D.Disk.content_rests c.args.disk.now c.newest_in.new.disk c.newest_in.ensures.content).reads ∙ told)
    (newest-at (g.D.Disk.reads_as c.args.disk.now) now c.in-Ok.found c.in-Some.area told c.in-Ok.ensures.newest c.in-Some.is) areas joined damage e

pub returns-in-Some-clause-led : goal.returns-in-Some-clause-led
returns-in-Some-clause-led g c = λ now told.
    subst (λ (n : Option Area). IfOk c.load_from.result (λ it. c.load_from.new.steps + distance_to c.args.kept.now.chain.blocks it.0 (tip_place c.args.kept.now.chain.blocks)
    ≡ c.args.steps.now + moves_by c.args.kept.now.chain.blocks now n))
    (sym (newest-at (g.D.Disk.reads_as c.args.disk.now) now c.in-Ok.found c.in-Some.area told c.in-Ok.ensures.newest c.in-Some.is))
    (c.load_from.ensures.led now ((g.met.D.Disk.content_rests c.args.disk.now c.newest_in.new.disk c.newest_in.ensures.content).reads ∙ told))

pub returns-in-Err-clause-damage : goal.returns-in-Err-clause-damage
returns-in-Err-clause-damage g c = λ now told damage e.
    c.newest_in.ensures.damage c.args.kept.now.entries now told damage (c.in-Err.is ∙ ap Err (same_stop _ _ e))

pub returns-in-Some-clause-damage : goal.returns-in-Some-clause-damage
returns-in-Some-clause-damage g c = λ now told damage e.
    c.load_from.ensures.damage now ((g.met.D.Disk.content_rests c.args.disk.now c.newest_in.new.disk c.newest_in.ensures.content).reads ∙ told)
    (newest-at (g.D.Disk.reads_as c.args.disk.now) now c.in-Ok.found c.in-Some.area told c.in-Ok.ensures.newest c.in-Some.is) damage e

pub returns-in-None-clause-below : goal.returns-in-None-clause-below
returns-in-None-clause-below g c = λ are. are

pub returns-in-Some-clause-below : goal.returns-in-Some-clause-below
returns-in-Some-clause-below g c = λ _. c.load_from.ensures.below

pub returns-in-None-clause-whole : goal.returns-in-None-clause-whole
returns-in-None-clause-whole g c = λ now told. (
  newest-none c.args.kept.now.entries (g.D.Disk.reads_as c.args.disk.now) now c.in-Ok.found told c.in-Ok.ensures.newest c.in-None.is,
  at-told HaveNumbers (g.D.Disk.reads_as c.args.disk.now) now told c.in-Ok.ensures.numbered,
)

pub returns-in-Some-clause-whole : goal.returns-in-Some-clause-whole
returns-in-Some-clause-whole g c = λ now told.
    whole-also c.load_from.result
    (λ holds. (
      newest-found c.args.kept.now.entries now c.in-Some.area (newest-at (g.D.Disk.reads_as c.args.disk.now) now c.in-Ok.found c.in-Some.area told c.in-Ok.ensures.newest c.in-Some.is) holds,
      at-told HaveNumbers (g.D.Disk.reads_as c.args.disk.now) now told c.in-Ok.ensures.numbered,
    ))
    (c.load_from.ensures.whole now ((g.met.D.Disk.content_rests c.args.disk.now c.newest_in.new.disk c.newest_in.ensures.content).reads ∙ told))
