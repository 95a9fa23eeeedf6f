use Rattle.std.proofs.Common.{sym, ◌∙◌, arith}
use Rattle.cell_state.specs.Walk.{height_of, value_of}
use Rattle.cell_state.proofs.EventLemmas.{left-past, left-next, left-over}
use Rattle.cell_state.proofs.events.Events.next.Goals as goal

pub overflow_add-self : goal.overflow_add-self
overflow_add-self c = let few = c.in-Some.ensures.few in omega (arith, few)

pub returns-in-Some : goal.returns-in-Some
returns-in-Some c =
    let now = c.loop-self.self-inside in
    let height = height_of now.genesis in (
      height,
      sym c.self.view_is ∙ sym c.loop-self.invariant.0
          ∙ left-next now.block.now.transactions height now.place now.index c.transactions_item-tx.result (value_of height c.in-Some.event)
          c.transactions_item-tx.ensures (sym c.in-Some.ensures.event),
    )

pub loop-self-preserved : goal.loop-self-preserved
loop-self-preserved c =
    let now = c.loop-self.self-inside in
    let height = height_of now.genesis in (
      sym (left-over now.block.now.transactions height now.place now.index c.transactions_item-tx.result c.transactions_item-tx.ensures (sym c.in_default.ensures.event))
          ∙ c.loop-self.invariant.0,
      c.loop-self.invariant.1,
    )

pub returns : goal.returns
returns c =
    let now = c.loop-self.self-inside in
    sym c.self.view_is ∙ sym c.loop-self.invariant.0 ∙ left-past now.block.now.transactions (height_of now.genesis) now.place now.index (omega (arith, c.transactions_count.ensures.value, c.loop-self-test.false))
