use Rattle.std.proofs.Common.{◌≡◌, ◌∷◌, List, ap, ◌∙◌, subst}
use Rattle.chain_defs.specs.Events.{Event, Makes, Spends}
use Rattle.chain_defs.specs.Row.{row_of}
use Rattle.cell_state.specs.Walk.{made_cell, value_of}
use Rattle.cell_state.specs.Passes.{settled_made, settled_spent}
use Rattle.cell_state.specs.declared.events.Event as walked
use Rattle.cell_state.proofs.PassLemmas.{Settling, settling-none, settling-made, settling-spent, changes-at}
use Rattle.cell_state.proofs.slots.Slots.settle.Goals as goal

pub loop-event-init : goal.loop-event-init
loop-event-init c = settling-none _ _ _

pub loop-event-preserved-in-Makes : goal.loop-event-preserved-in-Makes
loop-event-preserved-in-Makes c =
    let height = c.in-Some.ensures.0 in
    let cell = made_cell height c.in-Makes.made in
    let first : c.loop-event.events ≡ Makes c.in-Makes.o cell ∷ c.next.new.self =
    c.in-Some.ensures.1 ∙ ap (λ (e : walked.Event). value_of height e ∷ c.next.new.self) c.in-Makes.is in
    settling-made c.args.block c.args.events c.in-Makes.o cell c.next.new.self c.args.self.now c.loop-event.self c.settle_made.new.self
    (subst (λ (es : List Event). Settling c.args.block c.args.events es c.args.self.now c.loop-event.self) first c.loop-event.invariant)
    (changes-at (settled_made (row_of c.args.block cell)) (Makes c.in-Makes.o cell) c.loop-event.self c.settle_made.new.self (c.settle_made.ensures.at height))
    c.settle_made.ensures.spare

pub loop-event-preserved : goal.loop-event-preserved
loop-event-preserved c =
    let first : c.loop-event.events ≡ Spends c.in-Spends.o ∷ c.next.new.self =
    c.in-Some.ensures.1 ∙ ap (λ (e : walked.Event). value_of c.in-Some.ensures.0 e ∷ c.next.new.self) c.in-Spends.is in
    settling-spent c.args.block c.args.events c.in-Spends.o c.next.new.self c.args.self.now c.loop-event.self c.settle_spent.new.self
    (subst (λ (es : List Event). Settling c.args.block c.args.events es c.args.self.now c.loop-event.self) first c.loop-event.invariant)
    (changes-at settled_spent (Spends c.in-Spends.o) c.loop-event.self c.settle_spent.new.self c.settle_spent.ensures.at) c.settle_spent.ensures.spare
