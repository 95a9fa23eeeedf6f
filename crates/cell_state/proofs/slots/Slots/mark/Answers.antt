use Rattle.std.proofs.Common.{◌≡◌, ◌∷◌, List, ap, ◌∙◌, subst}
use Rattle.std.proofs.lemmas.Result.{err_from_is_err_and}
use Rattle.chain_defs.specs.Events.{Event, Makes, Spends}
use Rattle.cell_state.specs.Walk.{made_cell, value_of}
use Rattle.cell_state.specs.Passes.{made_mark, spent_mark}
use Rattle.cell_state.specs.declared.events.Event as walked
use Rattle.cell_state.proofs.PassLemmas.{Marking, marking-none, marking-made, marking-spent, marking-unnamed, odd-made, odd-spent, changes-at}
use Rattle.cell_state.proofs.slots.Slots.mark.Goals as goal

pub loop-event-init : goal.loop-event-init
loop-event-init c = marking-none _ _

pub loop-event-preserved-in-Continue-1 : goal.loop-event-preserved-in-Continue-1
loop-event-preserved-in-Continue-1 c =
    let cell = made_cell c.in-Some.ensures.0 c.in-Makes.field-1 in
    let first : c.loop-event.events ≡ Makes c.in-Makes.o cell ∷ c.next.new.self =
    c.in-Some.ensures.1 ∙ ap (λ (e : walked.Event). value_of c.in-Some.ensures.0 e ∷ c.next.new.self) c.in-Makes.is in
    marking-made c.args.events c.in-Makes.o cell c.next.new.self c.args.self.now c.loop-event.self c.mark_made.new.self c.requires.settled
    (subst (λ (es : List Event). Marking c.args.events es c.args.self.now c.loop-event.self) first c.loop-event.invariant)
    c.in_ok-mark_made-in-Makes.ensures.ok
    (changes-at made_mark (Makes c.in-Makes.o cell) c.loop-event.self c.mark_made.new.self c.in_ok-mark_made-in-Makes.ensures.at)
    c.mark_made.ensures.spare

pub returns-in_err-mark_made-in-Makes-clause-odd : goal.returns-in_err-mark_made-in-Makes-clause-odd
returns-in_err-mark_made-in-Makes-clause-odd c =
    let cell = made_cell c.in-Some.ensures.0 c.in-Makes.field-1 in
    let first : c.loop-event.events ≡ Makes c.in-Makes.o cell ∷ c.next.new.self =
    c.in-Some.ensures.1 ∙ ap (λ (e : walked.Event). value_of c.in-Some.ensures.0 e ∷ c.next.new.self) c.in-Makes.is in
    let p = err_from_is_err_and c.from_residual.result c.from_residual.ensures.1 in
    rw (p.1, p.2, c.in_err-mark_made-in-Makes.ensures.odd)
    (odd-made c.args.events c.in-Makes.o cell c.next.new.self c.args.self.now c.loop-event.self c.requires.settled
    (subst (λ (es : List Event). Marking c.args.events es c.args.self.now c.loop-event.self) first c.loop-event.invariant)
    c.in_err-mark_made-in-Makes.ensures.err)

pub returns-in_err-mark_made-in-Makes-clause-unnamed : goal.returns-in_err-mark_made-in-Makes-clause-unnamed
returns-in_err-mark_made-in-Makes-clause-unnamed c =
    marking-unnamed c.args.events c.loop-event.events c.args.self.now c.loop-event.self c.mark_made.new.self c.loop-event.invariant
    c.in_err-mark_made-in-Makes.ensures.same

pub loop-event-preserved : goal.loop-event-preserved
loop-event-preserved c =
    let first : c.loop-event.events ≡ Spends c.in-Spends.o ∷ c.next.new.self =
    c.in-Some.ensures.1 ∙ ap (λ (e : walked.Event). value_of c.in-Some.ensures.0 e ∷ c.next.new.self) c.in-Spends.is in
    marking-spent c.args.events c.in-Spends.o c.next.new.self c.args.self.now c.loop-event.self c.mark_spent.new.self c.requires.settled
    (subst (λ (es : List Event). Marking c.args.events es c.args.self.now c.loop-event.self) first c.loop-event.invariant)
    c.in_ok-mark_spent-in-Spends.ensures.ok
    (changes-at spent_mark (Spends c.in-Spends.o) c.loop-event.self c.mark_spent.new.self c.in_ok-mark_spent-in-Spends.ensures.at)
    c.mark_spent.ensures.spare

pub returns-in_err-mark_spent-in-Spends-clause-odd : goal.returns-in_err-mark_spent-in-Spends-clause-odd
returns-in_err-mark_spent-in-Spends-clause-odd c =
    let first : c.loop-event.events ≡ Spends c.in-Spends.o ∷ c.next.new.self =
    c.in-Some.ensures.1 ∙ ap (λ (e : walked.Event). value_of c.in-Some.ensures.0 e ∷ c.next.new.self) c.in-Spends.is in
    let p = err_from_is_err_and c.from_residual-in_err-mark_spent-in-Spends.result c.from_residual-in_err-mark_spent-in-Spends.ensures.1 in
    rw (p.1, p.2, c.in_err-mark_spent-in-Spends.ensures.odd)
    (odd-spent c.args.events c.in-Spends.o c.next.new.self c.args.self.now c.loop-event.self c.requires.settled
    (subst (λ (es : List Event). Marking c.args.events es c.args.self.now c.loop-event.self) first c.loop-event.invariant)
    c.in_err-mark_spent-in-Spends.ensures.err)

pub returns-in_err-mark_spent-in-Spends-clause-unnamed : goal.returns-in_err-mark_spent-in-Spends-clause-unnamed
returns-in_err-mark_spent-in-Spends-clause-unnamed c =
    marking-unnamed c.args.events c.loop-event.events c.args.self.now c.loop-event.self c.mark_spent.new.self c.loop-event.invariant
    c.in_err-mark_spent-in-Spends.ensures.same
