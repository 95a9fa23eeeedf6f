use Rattle.std.proofs.Common.{◌≡◌, ℕ, ◌≤◌, ◌&&◌, length, Some, refl, sym, ap, ◌∙◌, arith}
use Rattle.std.specs.Prelude.{slice_get}
use Rattle.std.specs.List.{zip}
use Rattle.chain_defs.specs.Schema.{RawTransaction}
use Rattle.chain_defs.specs.Since.{is_valid, is_met}
use Rattle.chain_tree.specs.Told.{blocks_of}
use Rattle.rule_defs.specs.Age.{meets_since, spending}
use Rattle.outside.proofs.Endings.{handed}
use Rattle.chain_defs.proofs.WalkLemmas.{every-fails, every-goes-on, every-passed, zip-there, zip-long}
use Rattle.tx_rules.proofs.AgeLemmas.{row-there, rows-long}
use Rattle.tx_rules.proofs.age.meets_each_since.Goals as goal

pub returns-in-Err : goal.returns-in-Err
returns-in-Err c = record {
  met = λ stored rows site founds is seen found. tt;
  undamaged = λ stored rows site founds is seen found damage same.
      let there = row-there (blocks_of stored) c.args.at.now.parent site founds c.args.found.now c.inputs.i c.index-found-i.result seen found c.inputs-test.true in
      c.in-Err.ensures.undamaged stored rows site there.0 is (c.height-height.ensures.height stored rows site is) there.2 c.in-Err.damage refl;
  damage = λ damage same. c.in-Err.ensures.damage damage (handed c.in-Err.damage _ same);
}

pub returns-in-Ok-false-clause-met : goal.returns-in-Ok-false-clause-met
returns-in-Ok-false-clause-met c stored rows site founds is seen found =
    let there = row-there (blocks_of stored) c.args.at.now.parent site founds c.args.found.now c.inputs.i c.index-found-i.result seen found c.inputs-test.true in
    let input : slice_get c.args.tx.now.raw.inputs c.inputs.i ≡ Some c.inputs_item.result =
    ap (λ (raw : RawTransaction). slice_get raw.inputs c.inputs.i) (sym c.raw-raw.ensures) ∙ c.inputs_item.ensures in
    let met = c.in-Ok-false.ensures.met stored rows site there.0 is (c.height-height.ensures.height stored rows site is) there.2
    ∙ ap (λ (since : ℕ). is_valid since && is_met since (spending site there.0)) c.since-since.ensures in
    every-fails (meets_since site) (zip c.args.tx.now.raw.inputs founds) c.inputs.i (c.inputs_item.result, there.0) _ (c.inputs.invariant stored rows site founds is seen found)
    (zip-there c.args.tx.now.raw.inputs founds c.inputs.i c.inputs_item.result there.0 input there.1) (sym met ∙ c.in-Ok-false.field-0-test)

pub inputs-preserved : goal.inputs-preserved
inputs-preserved c stored rows site founds is seen found =
    let there = row-there (blocks_of stored) c.args.at.now.parent site founds c.args.found.now c.inputs.i c.index-found-i.result seen found c.inputs-test.true in
    let input : slice_get c.args.tx.now.raw.inputs c.inputs.i ≡ Some c.inputs_item.result =
    ap (λ (raw : RawTransaction). slice_get raw.inputs c.inputs.i) (sym c.raw-raw.ensures) ∙ c.inputs_item.ensures in
    let met = c.in-Ok-true.ensures.met stored rows site there.0 is (c.height-height.ensures.height stored rows site is) there.2
    ∙ ap (λ (since : ℕ). is_valid since && is_met since (spending site there.0)) c.since-since.ensures in
    every-goes-on (meets_since site) (zip c.args.tx.now.raw.inputs founds) c.inputs.i (c.inputs_item.result, there.0) _ (c.inputs.invariant stored rows site founds is seen found)
    (zip-there c.args.tx.now.raw.inputs founds c.inputs.i c.inputs_item.result there.0 input there.1) (sym met ∙ c.in-Ok-true.field-0-test)

pub returns-clause-met : goal.returns-clause-met
returns-clause-met c stored rows site founds is seen found =
    every-passed (meets_since site) (zip c.args.tx.now.raw.inputs founds) c.inputs.i _ (c.inputs.invariant stored rows site founds is seen found)
    (let long = rows-long (blocks_of stored) c.args.at.now.parent founds c.args.found.now found in
    let both : length (zip c.args.tx.now.raw.inputs founds) ≤ length founds = zip-long c.args.tx.now.raw.inputs founds in
    omega (arith, long, both))
