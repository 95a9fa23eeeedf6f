use Rattle.std.proofs.Common.{◌≡◌, ◌∷◌, List, refl, sym, ap, ◌∙◌, subst}
use Rattle.chain_defs.specs.Events.{Event, Makes, Spends}
use Rattle.chain_defs.specs.CellLaws.{makes}
use Rattle.cell_state.specs.Walk.{made_cell, value_of}
use Rattle.cell_state.specs.Passes.{spent_mark}
use Rattle.cell_state.specs.Slots.{at}
use Rattle.cell_state.specs.Undo.{passed}
use Rattle.cell_state.specs.declared.events.Event as walked
use Rattle.cell_state.proofs.UndoPasses.{Passing, passing-none, passing-push, made-changes}
use Rattle.cell_state.proofs.slots.Slots.mark_made_dropped.Goals as goal

pub loop-event-init : goal.loop-event-init
loop-event-init c = passing-none _ _ _ _

pub loop-event-preserved-in-Makes : goal.loop-event-preserved-in-Makes
loop-event-preserved-in-Makes c =
    let height = c.in-Some.ensures.0 in
    let cell = made_cell height c.in-Makes.field-1 in
    let first : c.loop-event.events ≡ Makes c.in-Makes.o cell ∷ c.next.new.self =
    c.in-Some.ensures.1 ∙ ap (λ (e : walked.Event). value_of height e ∷ c.next.new.self) c.in-Makes.is in
    passing-push makes (λ event. spent_mark) c.args.events (Makes c.in-Makes.o cell) c.next.new.self c.args.self.now c.loop-event.self c.mark_dropped.new.self
    (subst (λ (es : List Event). Passing makes (λ event. spent_mark) c.args.events es c.args.self.now c.loop-event.self) first c.loop-event.invariant)
    (made-changes spent_mark c.in-Makes.o cell c.loop-event.self c.mark_dropped.new.self c.mark_dropped.ensures.at) c.mark_dropped.ensures.spare

pub loop-event-preserved : goal.loop-event-preserved
loop-event-preserved c =
    let first : c.loop-event.events ≡ Spends c.in-Spends.field-0 ∷ c.next.new.self =
    c.in-Some.ensures.1 ∙ ap (λ (e : walked.Event). value_of c.in-Some.ensures.0 e ∷ c.next.new.self) c.in-Spends.is in
    passing-push makes (λ event. spent_mark) c.args.events (Spends c.in-Spends.field-0) c.next.new.self c.args.self.now c.loop-event.self c.loop-event.self
    (subst (λ (es : List Event). Passing makes (λ event. spent_mark) c.args.events es c.args.self.now c.loop-event.self) first c.loop-event.invariant)
    (λ o. refl) refl

pub returns-clause-at : goal.returns-clause-at
returns-clause-at c o =
    sym (c.loop-event.invariant.at-all o ∙ ap (λ (es : List Event). passed (makes o) (λ event. spent_mark) es (at c.loop-event.self o)) c.in_default.ensures)
