use Rattle.std.proofs.Common.{List, take, sym, ap, ◌∙◌, arith}
use Rattle.chain_defs.specs.Events.{Event, makes_from}
use Rattle.chain_defs.specs.Row.{row_after}
use Rattle.block_judge.specs.Changes.{with_changes}
use Rattle.block_judge.proofs.ChangeLemmas.{row_after-nil, changed-push, make, made-changed, makes-push, makes-all}
use Rattle.block_judge.proofs.changes.Changes.make.Goals as goal

pub outputs-init : goal.outputs-init
outputs-init c height rows o = sym (row_after-nil c.args.e (with_changes c.args.self.now rows) o)

pub outputs-preserved : goal.outputs-preserved
outputs-preserved c height rows o =
    let t = c.args.tx.now in
    let outputs = c.raw-raw.result.outputs in
    let put = (rw c.row-row.ensures.same at c.in_ok-put.ensures.at) in
    changed-push c.args.e (makes_from 0 (take c.outputs.i outputs) t height c.args.place) (make t height c.args.place c.outputs.i c.outputs_item.result) c.outputs.self
    c.put.new.self rows (with_changes c.args.self.now rows) o
    (made-changed c.args.e t height c.args.place c.outputs.i c.outputs_item.result c.args.hash.now c.data_at.result.now c.row-row.result c.outputs.self
    c.put.new.self c.requires.hash c.data_at.ensures.«data» (c.row-row.ensures.row height) put)
    (c.outputs.invariant height rows o)
    ∙ ap (λ (events : List Event). row_after c.args.e events (with_changes c.args.self.now rows) o)
    (sym (makes-push outputs c.outputs.i c.outputs_item.result t height c.args.place c.outputs_item.ensures))

pub returns : goal.returns
returns c = record {
  rows = λ height rows o. c.outputs.invariant height rows o
      ∙ ap (λ (events : List Event). row_after c.args.e events (with_changes c.args.self.now rows) o)
      (makes-all c.args.tx.now c.raw-raw.result c.outputs.i height c.args.place c.raw-raw.ensures
      (omega (arith, c.outputs-test.false, c.outputs_count-i-end.ensures.value)));
}
