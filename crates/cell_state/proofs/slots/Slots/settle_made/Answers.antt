use Rattle.std.proofs.Common.{Some, Option, if◌then◌else◌, ap, sym, ◌∙◌}
use Rattle.chain_defs.specs.Events.{same_out_point}
use Rattle.chain_defs.specs.Row.{Row, row_of}
use Rattle.cell_state.specs.Walk.{made_cell}
use Rattle.cell_state.specs.Slots.{at}
use Rattle.cell_state.specs.Passes.{settled_made}
use Rattle.cell_state.specs.declared.slots.Slot.{Slot}
use Rattle.cell_state.specs.declared.slots.Slot.TheVariants.{Live}
use Rattle.cell_state.proofs.slots.Slots.settle_made.Goals as goal

pub returns-in-Live-clause-at : goal.returns-in-Live-clause-at
returns-in-Live-clause-at c height other =
    let row = row_of c.args.block (made_cell height c.args.made.now) in
    c.set.ensures.at other
    ∙ ap (λ (slot : Option Slot). if same_out_point c.args.o other then slot else at c.args.self.now other)
    (ap (λ (r : Row). Some (Live r)) (c.row.ensures height)
    ∙ sym (ap (settled_made row) (sym c.get.ensures ∙ c.in-Some.is ∙ ap (λ (s : Slot). Some s) c.in-Live.is)))

pub returns-in-Added-clause-at : goal.returns-in-Added-clause-at
returns-in-Added-clause-at c height other =
    let row = row_of c.args.block (made_cell height c.args.made.now) in
    c.set-in-Added.ensures.at other
    ∙ ap (λ (slot : Option Slot). if same_out_point c.args.o other then slot else at c.args.self.now other)
    (ap (λ (r : Row). Some (Live r)) (c.row-in-Added.ensures height)
    ∙ sym (ap (settled_made row) (sym c.get.ensures ∙ c.in-Some.is ∙ ap (λ (s : Slot). Some s) c.in-Added.is)))
