use Rattle.std.proofs.Common.{◌≡◌, List, ap, sym, ◌∙◌, arith}
use Rattle.std.specs.Option.{option_map}
use Rattle.chain_defs.specs.Schema.{OutPoint}
use Rattle.chain_defs.specs.Events.{events_of_block}
use Rattle.chain_defs.specs.Row.{Row}
use Rattle.chain_defs.specs.Undo.{undone, first_clash}
use Rattle.cell_state.specs.Slots.{StateValue, rows}
use Rattle.cell_state.specs.declared.odd.Odd.TheVariants.{Live}
use Rattle.cell_state.proofs.ApplyLemmas.{settled-rows}
use Rattle.cell_state.proofs.UndoLemmas.{undone-above, clash-above, on-ok, on-err, if-err, settled-after, comes-back}
use Rattle.cell_state.proofs.state.State.undo.Goals as goal

pub invariant_of-self : goal.invariant_of-self
invariant_of-self g c =
    settled-after c.undo.result (undone (events_of_block 1 c.args.block.now) c.deref.result.now (rows c.self.inside.slots)) c.self.inside.slots c.undo.new.self
    c.self.invariant c.undo.ensures.at c.undo.ensures.unchanged

pub returns-clause-rows : goal.returns-clause-rows
returns-clause-rows g c =
    let b = c.args.block.now in
    let same : c.deref.result.now ≡ c.args.ext.now.spent = cc in
    on-ok c.undo.result
    (λ at height o. settled-rows c.undo.new.self (undone (events_of_block 1 b) c.deref.result.now (rows c.self.inside.slots)) at o
    ∙ sym (undone-above height b c.deref.result.now (rows c.self.inside.slots) o)
    ∙ ap (λ (v : StateValue). undone (events_of_block height b) c.deref.result.now (rows v) o) c.self.view_is
    ∙ ap (λ (list : List (OutPoint × Row)). undone (events_of_block height b) list (rows c.args.self.now) o) same)
    c.undo.ensures.at

pub returns-clause-free : goal.returns-clause-free
returns-clause-free g c =
    let b = c.args.block.now in
    let same : c.deref.result.now ≡ c.args.ext.now.spent = cc in
    on-ok c.undo.result
    (λ free height. ap (λ (list : List (OutPoint × Row)). first_clash (events_of_block height b) list (rows c.args.self.now)) (sym same)
    ∙ ap (λ (v : StateValue). first_clash (events_of_block height b) c.deref.result.now (rows v)) (sym c.self.view_is)
    ∙ clash-above height b c.deref.result.now (rows c.self.inside.slots) ∙ free)
    c.undo.ensures.free

pub returns-clause-odd : goal.returns-clause-odd
returns-clause-odd g c =
    let b = c.args.block.now in
    let same : c.deref.result.now ≡ c.args.ext.now.spent = cc in
    if-err c.undo.result
    (λ odd is height. ap (option_map Live)
    (ap (λ (list : List (OutPoint × Row)). first_clash (events_of_block height b) list (rows c.args.self.now)) (sym same)
    ∙ ap (λ (v : StateValue). first_clash (events_of_block height b) c.deref.result.now (rows v)) (sym c.self.view_is)
    ∙ clash-above height b c.deref.result.now (rows c.self.inside.slots)) ∙ is)
    c.undo.ensures.odd

pub returns-clause-before : goal.returns-clause-before
returns-clause-before g c height before it =
    comes-back c.undo.result (events_of_block height c.args.block.now) c.args.ext.now.spent c.args.self.now c.undo.new.self before it
    (on-ok c.undo.result (λ at. at height) (returns-clause-rows g c)) (if-err c.undo.result (λ odd is. is height) (returns-clause-odd g c))
