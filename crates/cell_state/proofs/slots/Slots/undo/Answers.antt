use Rattle.std.proofs.Common.{List, ap, ◌∙◌}
use Rattle.std.specs.Option.{option_map}
use Rattle.chain_defs.specs.Schema.{OutPoint}
use Rattle.chain_defs.specs.Events.{Event, events_of_block, last_naming}
use Rattle.chain_defs.specs.CellLaws.{makes}
use Rattle.chain_defs.specs.Undo.{without_made}
use Rattle.cell_state.specs.Slots.{at, rows}
use Rattle.cell_state.specs.Passes.{spent_mark, settled_spent, unmarked_by}
use Rattle.cell_state.specs.Undo.{passed}
use Rattle.cell_state.specs.declared.odd.Odd.TheVariants.{Live}
use Rattle.cell_state.proofs.UndoLemmas.{given-back, kept, there-dropped, clash-is}
use Rattle.cell_state.proofs.slots.Slots.undo.Goals as goal

pub returns-in-Ok-clause-at : goal.returns-in-Ok-clause-at
returns-in-Ok-clause-at c o =
    given-back (events_of_block 1 c.args.block.now) c.args.spent.now c.args.self.now c.mark_made_dropped.new.self c.mark_put_back.new.self
    c.settle_dropped.new.self c.write_rows.new.self c.requires.settled
    (λ p. c.mark_made_dropped.ensures.at p ∙ ap (λ (es : List Event). passed (makes p) (λ event. spent_mark) es (at c.args.self.now p)) c.of.ensures)
    c.in-Ok.ensures.at
    (λ p. c.settle_dropped.ensures.at p ∙ ap (λ (es : List Event). passed (makes p) (λ event. settled_spent) es (at c.mark_put_back.new.self p)) c.of-in-Ok.ensures)
    c.write_rows.ensures.at o

pub returns-in-Ok-clause-free : goal.returns-in-Ok-clause-free
returns-in-Ok-clause-free c =
    let events = events_of_block 1 c.args.block.now in
    clash-is events c.args.spent.now (rows c.args.self.now)
    ∙ c.in-Ok.ensures.free (without_made events (rows c.args.self.now))
    (there-dropped events c.args.self.now c.mark_made_dropped.new.self c.requires.settled
    (λ p. c.mark_made_dropped.ensures.at p ∙ ap (λ (es : List Event). passed (makes p) (λ event. spent_mark) es (at c.args.self.now p)) c.of.ensures))

pub returns-in-Err-clause-odd : goal.returns-in-Err-clause-odd
returns-in-Err-clause-odd c =
    let events = events_of_block 1 c.args.block.now in
    ap (option_map Live) (clash-is events c.args.spent.now (rows c.args.self.now))
    ∙ c.in-Err.ensures.odd (without_made events (rows c.args.self.now))
    (there-dropped events c.args.self.now c.mark_made_dropped.new.self c.requires.settled
    (λ p. c.mark_made_dropped.ensures.at p ∙ ap (λ (es : List Event). passed (makes p) (λ event. spent_mark) es (at c.args.self.now p)) c.of.ensures))

pub returns-in-Err-clause-unchanged : goal.returns-in-Err-clause-unchanged
returns-in-Err-clause-unchanged c o =
    kept (events_of_block 1 c.args.block.now) c.args.spent.now c.args.self.now c.mark_made_dropped.new.self c.mark_put_back.new.self
    c.unmark_all.new.self c.unmark_rows.new.self c.requires.settled
    (λ p. c.mark_made_dropped.ensures.at p ∙ ap (λ (es : List Event). passed (makes p) (λ event. spent_mark) es (at c.args.self.now p)) c.of.ensures)
    c.mark_put_back.ensures.before c.mark_put_back.ensures.unnamed
    (λ p. c.unmark_all.ensures.at p ∙ ap (λ (es : List Event). unmarked_by (last_naming p es) (at c.mark_put_back.new.self p)) c.of-in-Err.ensures)
    c.unmark_rows.ensures.at o
