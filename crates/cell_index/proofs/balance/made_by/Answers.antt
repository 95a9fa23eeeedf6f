use Rattle.std.proofs.Common.{◌≡◌, length, Some, sym, ap, ◌∙◌, arith}
use Rattle.std.specs.Prelude.{slice_get}
use Rattle.chain_defs.specs.Schema.{RawTransaction}
use Rattle.cell_index.specs.Balance.{counts_for, holds_for}
use Rattle.cell_index.proofs.EntryLemmas.{pair-of}
use Rattle.cell_index.proofs.OutputSums.{next-sum, over-sum}
use Rattle.cell_index.proofs.balance.made_by.Goals as goal

pub outputs-preserved : goal.outputs-preserved
outputs-preserved c =
    let outputs = c.args.tx.now.raw.outputs in
    let lock = c.args.lock.now in
    let there : slice_get outputs c.outputs.i ≡ Some c.outputs_item-output.result =
    ap (λ (raw : RawTransaction). slice_get raw.outputs c.outputs.i) (sym c.raw-raw.ensures) ∙ c.outputs_item-output.ensures in
    let count = next-sum (counts_for lock) outputs c.outputs.i c.outputs_item-output.result there in
    let capacity = next-sum (holds_for lock) outputs c.outputs.i c.outputs_item-output.result there in
    record {
      count = let before = c.outputs.invariant.count in let one = c.sum_of_one-one.ensures.count in omega (arith, before, one, count);
      capacity = let before = c.outputs.invariant.capacity in let one = c.sum_of_one-one.ensures.capacity in omega (arith, before, one, capacity);
      few = let before = c.outputs.invariant.few in let one = c.sum_of_one-one.ensures.few in omega (arith, before, one);
      most = let before = c.outputs.invariant.most in let one = c.sum_of_one-one.ensures.most in omega (arith, before, one);
      within = let more = c.outputs-test.true in
          let many : c.outputs_count-i-end.result ≡ length outputs = c.outputs_count-i-end.ensures.value ∙ ap (λ (raw : RawTransaction). length raw.outputs) c.raw-raw.ensures in
          omega (arith, more, many);
    }

pub returns-clause-sum : goal.returns-clause-sum
returns-clause-sum c =
    let outputs = c.args.tx.now.raw.outputs in
    let lock = c.args.lock.now in
    let past = c.outputs-test.false in
    let many : c.outputs_count-i-end.result ≡ length outputs = c.outputs_count-i-end.ensures.value ∙ ap (λ (raw : RawTransaction). length raw.outputs) c.raw-raw.ensures in
    let no_count = over-sum (counts_for lock) outputs c.outputs.i (omega (arith, past, many)) in
    let no_capacity = over-sum (holds_for lock) outputs c.outputs.i (omega (arith, past, many)) in
    let count = c.outputs.invariant.count in
    let capacity = c.outputs.invariant.capacity in
    pair-of c.outputs.count c.outputs.capacity _ _ (omega (arith, count, no_count)) (omega (arith, capacity, no_capacity))

pub returns-clause-few : goal.returns-clause-few
returns-clause-few c =
    let few = c.outputs.invariant.few in
    let within = c.outputs.invariant.within in
    let fits = c.outputs_count-i-end.ensures.fits in
    let many : c.outputs_count-i-end.result ≡ length c.args.tx.now.raw.outputs =
    c.outputs_count-i-end.ensures.value ∙ ap (λ (raw : RawTransaction). length raw.outputs) c.raw-raw.ensures in
    omega (arith, few, within, fits, many)

pub returns-clause-most : goal.returns-clause-most
returns-clause-most c =
    let most = c.outputs.invariant.most in
    let within = c.outputs.invariant.within in
    let fits = c.outputs_count-i-end.ensures.fits in
    let many : c.outputs_count-i-end.result ≡ length c.args.tx.now.raw.outputs =
    c.outputs_count-i-end.ensures.value ∙ ap (λ (raw : RawTransaction). length raw.outputs) c.raw-raw.ensures in
    omega (arith, most, within, fits, many)
