use Rattle.std.proofs.Common.{refl, sym, ◌∙◌, arith}
use Rattle.chain_tree.specs.Told.{blocks_of}
use Rattle.rule_defs.specs.Resolving.{inputs}
use Rattle.rule_defs.specs.Withdrawals.{withdraws_well}
use Rattle.tx_rules.specs.Outcome.{Copies}
use Rattle.outside.proofs.Endings.{handed}
use Rattle.chain_defs.proofs.WalkLemmas.{all-fails, all-goes-on, all-passed}
use Rattle.tx_rules.proofs.DepositLemmas.{copy-at, zip-lengths}
use Rattle.tx_rules.proofs.withdrawals.all_withdraw_well.Goals as goal

pub returns-in-Err : goal.returns-in-Err
returns-in-Err c = record {
  named = λ stored rows site is each are. tt;
  undamaged = λ stored rows site is each are damage same.
      let copy = copy-at (blocks_of stored) c.args.at.now.parent site c.args.tx.now c.args.copies.now c.inputs.i c.index-copies-i.result each c.inputs-test.true c.index-copies-i.is in
      c.in-Err.ensures.undamaged stored rows site copy.found is copy.row copy.bytes c.in-Err.damage refl;
  damage = λ damage same. c.in-Err.ensures.damage damage (handed c.in-Err.damage _ same);
}

pub returns-in-Ok-false-clause-named : goal.returns-in-Ok-false-clause-named
returns-in-Ok-false-clause-named c stored rows site is each are =
    let copy = copy-at (blocks_of stored) c.args.at.now.parent site c.args.tx.now c.args.copies.now c.inputs.i c.index-copies-i.result each c.inputs-test.true c.index-copies-i.is in
    all-fails (withdraws_well site c.args.tx.now) (inputs site c.args.tx.now) c.inputs.i copy.found _ (c.inputs.invariant stored rows site is each are) copy.there
    (sym (c.in-Ok-false.ensures.well stored rows site copy.found is are copy.row copy.bytes) ∙ c.in-Ok-false.field-0-test)

pub inputs-preserved : goal.inputs-preserved
inputs-preserved c stored rows site is each are =
    let copy = copy-at (blocks_of stored) c.args.at.now.parent site c.args.tx.now c.args.copies.now c.inputs.i c.index-copies-i.result each c.inputs-test.true c.index-copies-i.is in
    all-goes-on (withdraws_well site c.args.tx.now) (inputs site c.args.tx.now) c.inputs.i copy.found _ (c.inputs.invariant stored rows site is each are) copy.there
    (sym (c.in-Ok-true.ensures.well stored rows site copy.found is are copy.row copy.bytes) ∙ c.in-Ok-true.field-0-test)

pub returns-clause-named : goal.returns-clause-named
returns-clause-named c stored rows site is each are =
    all-passed (withdraws_well site c.args.tx.now) (inputs site c.args.tx.now) c.inputs.i _ (c.inputs.invariant stored rows site is each are)
    (let long = zip-lengths (Copies (blocks_of stored) c.args.at.now.parent) (inputs site c.args.tx.now) c.args.copies.now each in omega (arith, long))
