use Rattle.std.proofs.Common.{List, take, sym, ap, ◌∙◌, subst, arith}
use Rattle.chain_defs.specs.Schema.{OutPoint}
use Rattle.chain_defs.specs.Events.{Event, Spends}
use Rattle.chain_defs.specs.Row.{row_after}
use Rattle.block_judge.specs.Changes.{with_changes}
use Rattle.block_judge.proofs.ChangeLemmas.{row_after-nil, IsChanged, changed-push, spends, spends-push, spends-all}
use Rattle.block_judge.proofs.changes.Changes.spend.Goals as goal

pub inputs-init : goal.inputs-init
inputs-init c e rows o = sym (row_after-nil e (with_changes c.args.self.now rows) o)

pub inputs-preserved : goal.inputs-preserved
inputs-preserved c e rows o =
    let event = Spends c.inputs_item.result.previous_output in
    let changed : IsChanged e event c.inputs.self c.put.new.self =
    subst (λ (p : OutPoint). IsChanged e (Spends p) c.inputs.self c.put.new.self) (c.out_point_of-o.ensures ∙ c.previous_output.ensures) c.in_ok-put.ensures.at in
    changed-push e (spends (take c.inputs.i c.raw-raw.result.inputs)) event c.inputs.self c.put.new.self rows (with_changes c.args.self.now rows) o changed
    (c.inputs.invariant e rows o)
    ∙ ap (λ (events : List Event). row_after e events (with_changes c.args.self.now rows) o)
    (sym (spends-push c.raw-raw.result.inputs c.inputs.i c.inputs_item.result c.inputs_item.ensures))

pub returns : goal.returns
returns c = record {
  rows = λ e rows o. c.inputs.invariant e rows o
      ∙ ap (λ (events : List Event). row_after e events (with_changes c.args.self.now rows) o)
      (spends-all c.args.tx.now c.raw-raw.result c.inputs.i c.raw-raw.ensures (omega (arith, c.inputs-test.false, c.inputs_count-i-end.ensures.value)));
}
