use Rattle.std.proofs.Common.{◌+◌, ◌^◌, drop, Some, refl, sym, ap, ◌∙◌, arith}
use Rattle.std.specs.List.{enumerate_from}
use Rattle.std.proofs.lemmas.List.{drop_all}
use Rattle.chain_tree.specs.Told.{blocks_of}
use Rattle.rule_defs.specs.Resolving.{inputs}
use Rattle.rule_defs.specs.Capacity.{counted, counted_in}
use Rattle.tx_rules.specs.Outcome.{Copies}
use Rattle.outside.proofs.Endings.{handed}
use Rattle.chain_defs.proofs.WalkLemmas.{enumerated-there}
use Rattle.tx_rules.proofs.DepositLemmas.{copy-at, zip-lengths}
use Rattle.tx_rules.proofs.MoneyLemmas.{fits-u64, past-u64, some-u64, none-u64, not-below, sum-more, sum-past, sum-end, counted-init, well-at}
use Rattle.tx_rules.proofs.capacity.counted_in.Goals as goal

pub inputs-init : goal.inputs-init
inputs-init c = ((λ stored rows site is each are named. counted-init site c.args.tx.now), omega arith)

pub returns-in-Err : goal.returns-in-Err
returns-in-Err c = record {
  counted = λ stored rows site is each are named. tt;
  undamaged = λ stored rows site is each are named damage same.
      let copy = copy-at (blocks_of stored) c.args.at.now.parent site c.args.tx.now c.args.copies.now c.inputs.i c.index-copies-i.result each c.inputs-test.true c.index-copies-i.is in
      let well = well-at site c.args.tx.now c.inputs.i copy.found named copy.there in
      c.in-Err.ensures.undamaged stored rows site copy.found is (c.height-height.ensures.height stored rows site is) are copy.row copy.bytes well c.in-Err.damage refl;
  damage = λ damage same. c.in-Err.ensures.damage damage (handed c.in-Err.damage _ same);
}

pub returns-in-Ok-None-clause-counted : goal.returns-in-Ok-None-clause-counted
returns-in-Ok-None-clause-counted c stored rows site is each are named =
    let copy = copy-at (blocks_of stored) c.args.at.now.parent site c.args.tx.now c.args.copies.now c.inputs.i c.index-copies-i.result each c.inputs-test.true c.index-copies-i.is in
    let well = well-at site c.args.tx.now c.inputs.i copy.found named copy.there in
    let rest = enumerated-there (inputs site c.args.tx.now) c.inputs.i copy.found copy.there in
    let is_counted = c.in-Ok-None.ensures.counted stored rows site copy.found is (c.height-height.ensures.height stored rows site is) are copy.row copy.bytes well in
    let past = none-u64 (counted site c.args.tx.now (c.inputs.i, copy.found)) (2 ^ 64) (sym c.in-Ok-None.field-0-is ∙ is_counted) in
    past-u64 (counted_in site c.args.tx.now) (2 ^ 64) (sum-past (counted site c.args.tx.now) (enumerate_from c.inputs.i (drop c.inputs.i (inputs site c.args.tx.now)))
    (enumerate_from (c.inputs.i + 1) (drop (c.inputs.i + 1) (inputs site c.args.tx.now))) (c.inputs.i, copy.found) c.inputs.sum (2 ^ 64) (counted_in site c.args.tx.now) rest
    (c.inputs.invariant.0 stored rows site is each are named) (omega (arith, past)))

pub returns-in-None-clause-counted : goal.returns-in-None-clause-counted
returns-in-None-clause-counted c stored rows site is each are named =
    let copy = copy-at (blocks_of stored) c.args.at.now.parent site c.args.tx.now c.args.copies.now c.inputs.i c.index-copies-i.result each c.inputs-test.true c.index-copies-i.is in
    let well = well-at site c.args.tx.now c.inputs.i copy.found named copy.there in
    let rest = enumerated-there (inputs site c.args.tx.now) c.inputs.i copy.found copy.there in
    let is_counted = c.in-Ok-Some.ensures.counted stored rows site copy.found is (c.height-height.ensures.height stored rows site is) are copy.row copy.bytes well in
    let both = some-u64 (counted site c.args.tx.now (c.inputs.i, copy.found)) (2 ^ 64) c.in-Ok-Some.more (sym c.in-Ok-Some.field-0-is ∙ is_counted) in
    past-u64 (counted_in site c.args.tx.now) (2 ^ 64) (sum-past (counted site c.args.tx.now) (enumerate_from c.inputs.i (drop c.inputs.i (inputs site c.args.tx.now)))
    (enumerate_from (c.inputs.i + 1) (drop (c.inputs.i + 1) (inputs site c.args.tx.now))) (c.inputs.i, copy.found) c.inputs.sum (2 ^ 64) (counted_in site c.args.tx.now) rest
    (c.inputs.invariant.0 stored rows site is each are named)
    (not-below (c.inputs.sum + counted site c.args.tx.now (c.inputs.i, copy.found)) (2 ^ 64) (λ below. c.in-None.ensures (omega (arith, below, both.0)))))

pub inputs-preserved : goal.inputs-preserved
inputs-preserved c =
    let next = c.in-Some.ensures in (
      (λ stored rows site is each are named.
          let copy = copy-at (blocks_of stored) c.args.at.now.parent site c.args.tx.now c.args.copies.now c.inputs.i c.index-copies-i.result each c.inputs-test.true c.index-copies-i.is in
          let well = well-at site c.args.tx.now c.inputs.i copy.found named copy.there in
          let rest = enumerated-there (inputs site c.args.tx.now) c.inputs.i copy.found copy.there in
          let is_counted = c.in-Ok-Some.ensures.counted stored rows site copy.found is (c.height-height.ensures.height stored rows site is) are copy.row copy.bytes well in
          let both = some-u64 (counted site c.args.tx.now (c.inputs.i, copy.found)) (2 ^ 64) c.in-Ok-Some.more (sym c.in-Ok-Some.field-0-is ∙ is_counted) in
          sum-more (counted site c.args.tx.now) (enumerate_from c.inputs.i (drop c.inputs.i (inputs site c.args.tx.now)))
          (enumerate_from (c.inputs.i + 1) (drop (c.inputs.i + 1) (inputs site c.args.tx.now))) (c.inputs.i, copy.found) c.inputs.sum c.in-Some.total (counted_in site c.args.tx.now) rest
          (c.inputs.invariant.0 stored rows site is each are named) (omega (arith, next, both.0))),
      omega (arith, next),
    )

pub returns-clause-counted : goal.returns-clause-counted
returns-clause-counted c stored rows site is each are named =
    let long = zip-lengths (Copies (blocks_of stored) c.args.at.now.parent) (inputs site c.args.tx.now) c.args.copies.now each in
    let whole = sum-end (counted site c.args.tx.now) (enumerate_from c.inputs.i (drop c.inputs.i (inputs site c.args.tx.now))) c.inputs.sum (counted_in site c.args.tx.now)
    (ap (enumerate_from c.inputs.i) (drop_all c.inputs.i (inputs site c.args.tx.now) (omega (arith, long)))) (c.inputs.invariant.0 stored rows site is each are named) in
    ap Some whole ∙ fits-u64 (counted_in site c.args.tx.now) (2 ^ 64) (omega (arith, whole, c.inputs.invariant.1))
