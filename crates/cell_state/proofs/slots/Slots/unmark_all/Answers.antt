use Rattle.std.proofs.Common.{List, if◌then◌else◌, ap, ◌∙◌, subst}
use Rattle.chain_defs.specs.Schema.{OutPoint}
use Rattle.chain_defs.specs.Events.{Event, same_out_point}
use Rattle.cell_state.specs.Slots.{at}
use Rattle.cell_state.specs.Walk.{value_of}
use Rattle.cell_state.specs.Passes.{unmarked}
use Rattle.cell_state.proofs.PassLemmas.{Unmarking, unmarking-none, unmarking-push, changes-at}
use Rattle.cell_state.proofs.slots.Slots.unmark_all.Goals as goal

pub loop-event-init : goal.loop-event-init
loop-event-init c = unmarking-none _ _

pub loop-event-preserved : goal.loop-event-preserved
loop-event-preserved c =
    let event = value_of c.in-Some.ensures.0 c.in-Some.event in
    let now = c.loop-event.self in
    unmarking-push c.args.events event c.next.new.self c.args.self.now now c.unmark.new.self
    (subst (λ (es : List Event). Unmarking c.args.events es c.args.self.now now) c.in-Some.ensures.1 c.loop-event.invariant)
    (changes-at unmarked event now c.unmark.new.self
    (λ o. c.unmark.ensures.at o
    ∙ ap (λ (p : OutPoint). if same_out_point p o then unmarked (at now p) else at now o) (c.out_point.ensures c.in-Some.ensures.0)))
    c.unmark.ensures.spare
