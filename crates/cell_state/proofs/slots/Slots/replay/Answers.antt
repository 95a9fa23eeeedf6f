use Rattle.std.proofs.Common.{◌≡◌, ◌∷◌, List, Some, if◌then◌else◌, ap, ◌∙◌, subst}
use Rattle.chain_defs.specs.Events.{Event, Makes, Spends, same_out_point}
use Rattle.chain_defs.specs.Row.{Row}
use Rattle.cell_state.specs.Slots.{at}
use Rattle.cell_state.specs.Walk.{made_cell, value_of}
use Rattle.cell_state.specs.declared.slots.Slot.TheVariants.{Live}
use Rattle.cell_state.specs.declared.events.Event as walked
use Rattle.cell_state.proofs.PassLemmas.{Replaying, replaying-none, replaying-push}
use Rattle.cell_state.proofs.slots.Slots.replay.Goals as goal

pub loop-event-init : goal.loop-event-init
loop-event-init c = replaying-none _ _ _

pub loop-event-preserved-in-Continue-1 : goal.loop-event-preserved-in-Continue-1
loop-event-preserved-in-Continue-1 c =
    let cell = made_cell c.in-Some.ensures.0 c.in-Makes.made in
    let now = c.loop-event.self in
    let first : c.loop-event.events ≡ Makes c.in-Makes.o cell ∷ c.next.new.self =
    c.in-Some.ensures.1 ∙ ap (λ (e : walked.Event). value_of c.in-Some.ensures.0 e ∷ c.next.new.self) c.in-Makes.is in
    replaying-push c.args.block c.args.events (Makes c.in-Makes.o cell) c.next.new.self c.args.self.now now c.write.new.self
    (subst (λ (es : List Event). Replaying c.args.block c.args.events es c.args.self.now now) first c.loop-event.invariant)
    (λ o. c.in_ok-write-in-Makes.ensures.at o
    ∙ ap (λ (r : Row). if same_out_point c.in-Makes.o o then Some (Live r) else at now o) (c.row.ensures c.in-Some.ensures.0))

pub loop-event-preserved : goal.loop-event-preserved
loop-event-preserved c =
    let now = c.loop-event.self in
    let first : c.loop-event.events ≡ Spends c.in-Spends.o ∷ c.next.new.self =
    c.in-Some.ensures.1 ∙ ap (λ (e : walked.Event). value_of c.in-Some.ensures.0 e ∷ c.next.new.self) c.in-Spends.is in
    replaying-push c.args.block c.args.events (Spends c.in-Spends.o) c.next.new.self c.args.self.now now c.remove.new.self
    (subst (λ (es : List Event). Replaying c.args.block c.args.events es c.args.self.now now) first c.loop-event.invariant)
    c.remove.ensures.at
