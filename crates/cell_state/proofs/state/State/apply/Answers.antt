use Rattle.std.proofs.Common.{List, ap, sym, ◌∙◌, subst, arith, rules}
use Rattle.chain_defs.specs.Events.{Event, events_of_block, last_naming}
use Rattle.chain_defs.specs.Row.{row_after}
use Rattle.cell_state.specs.Fit.{IsFirstOdd}
use Rattle.chain_defs.specs.Fit.{are_live, AllFit}
use Rattle.cell_state.specs.Slots.{StateValue, at, rows}
use Rattle.cell_state.specs.Passes.{makes_in, Settles}
use Rattle.cell_state.proofs.HeightLemmas.{rows-above, all-above, odd-above, makes-block}
use Rattle.cell_state.proofs.ApplyLemmas.{applied, settled-rows, are-settled}
use Rattle.cell_state.proofs.GrowthLemmas.{grown}
use Rattle.cell_state.proofs.state.State.apply.Goals as goal

pub mark-requires-clause-spare : goal.mark-requires-clause-spare
mark-requires-clause-spare g c =
    omega (arith, ap makes_in c.of.ensures, makes-block c.args.block.now 1, c.requires.spare, ap (λ (v : StateValue). v.spare) c.self.view_is)

pub invariant_of-self : goal.invariant_of-self
invariant_of-self g c =
    are-settled c.settle.new.self (row_after c.args.e c.of.result (rows c.self.inside.slots))
    (applied c.args.e c.of.result c.self.inside.slots c.mark.new.self c.settle.new.self c.self.invariant c.in-Ok.ensures.marked c.mark.ensures.unnamed
    (λ o. subst (λ (es : List Event). Settles c.args.e (last_naming o es) (at c.mark.new.self o) (at c.settle.new.self o)) (c.of-in-Ok.ensures ∙ sym c.of.ensures) (c.settle.ensures.at o)))

pub returns-in-Ok-clause-rows : goal.returns-in-Ok-clause-rows
returns-in-Ok-clause-rows g c height o above =
    settled-rows c.settle.new.self (row_after c.args.e c.of.result (rows c.self.inside.slots))
    (applied c.args.e c.of.result c.self.inside.slots c.mark.new.self c.settle.new.self c.self.invariant c.in-Ok.ensures.marked c.mark.ensures.unnamed
    (λ p. subst (λ (es : List Event). Settles c.args.e (last_naming p es) (at c.mark.new.self p) (at c.settle.new.self p)) (c.of-in-Ok.ensures ∙ sym c.of.ensures) (c.settle.ensures.at p)))
    o
    ∙ ap (λ (es : List Event). row_after c.args.e es (rows c.self.inside.slots) o) c.of.ensures
    ∙ rows-above c.args.e height c.args.block.now (rows c.self.inside.slots) o above
    ∙ ap (λ (v : StateValue). row_after c.args.e (events_of_block height c.args.block.now) (rows v) o) c.self.view_is

pub returns-in-Ok-clause-fit : goal.returns-in-Ok-clause-fit
returns-in-Ok-clause-fit g c height above =
    let fit = subst (λ (es : List Event). AllFit es (are_live (rows c.self.inside.slots))) c.of.ensures c.in-Ok.ensures.fit in
    all-above height c.args.block.now (are_live (rows c.args.self.now)) above
    (subst (λ (v : StateValue). AllFit (events_of_block 1 c.args.block.now) (are_live (rows v))) c.self.view_is fit)

pub returns-in-Ok-clause-spare : goal.returns-in-Ok-clause-spare
returns-in-Ok-clause-spare g c =
    omega (arith, ap makes_in c.of.ensures, makes-block c.args.block.now 1, c.mark.ensures.spare, c.settle.ensures.spare, ap (λ (v : StateValue). v.spare) c.self.view_is)

pub returns-in-Err-clause-odd : goal.returns-in-Err-clause-odd
returns-in-Err-clause-odd g c height above =
    let first = subst (λ (es : List Event). IsFirstOdd es (are_live (rows c.self.inside.slots)) c.in-Err.odd) c.of.ensures c.in-Err.ensures.odd in
    odd-above height c.args.block.now (are_live (rows c.args.self.now)) c.in-Err.odd above
    (subst (λ (v : StateValue). IsFirstOdd (events_of_block 1 c.args.block.now) (are_live (rows v)) c.in-Err.odd) c.self.view_is first)

pub returns-in-Err-clause-spare : goal.returns-in-Err-clause-spare
returns-in-Err-clause-spare g c =
    omega (arith, ap makes_in c.of.ensures, makes-block c.args.block.now 1, c.mark.ensures.spare, c.unmark_all.ensures.spare, ap (λ (v : StateValue). v.spare) c.self.view_is)

pub returns-in-Ok-clause-of_branch : goal.returns-in-Ok-clause-of_branch
returns-in-Ok-clause-of_branch g c = grown c.args.block.now c.args.e c.args.self.now c.settle.new.self (returns-in-Ok-clause-rows g c)

pub returns-in-Err-clause-steps : goal.returns-in-Err-clause-steps
returns-in-Err-clause-steps g c = search rules
