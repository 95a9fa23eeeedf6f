use Rattle.std.proofs.Common.{refl, sym, ◌∙◌, arith}
use Rattle.chain_tree.specs.Told.{blocks_of}
use Rattle.rule_defs.specs.Age.{is_mature}
use Rattle.outside.proofs.Endings.{handed}
use Rattle.chain_defs.proofs.WalkLemmas.{every-fails, every-goes-on, every-passed}
use Rattle.tx_rules.proofs.AgeLemmas.{row-there, rows-long}
use Rattle.tx_rules.proofs.age.are_mature.Goals as goal

pub returns-in-Err : goal.returns-in-Err
returns-in-Err c = record {
  mature = λ stored rows site founds is seen found. tt;
  undamaged = λ stored rows site founds is seen found damage same.
      let there = row-there (blocks_of stored) c.args.at.now.parent site founds c.args.found.now c.rows.i c.index-found-i.result seen found c.rows-test.true in
      c.in-Err.ensures.undamaged stored rows site there.0 is (c.height-height.ensures.height stored rows site is) there.2 c.in-Err.damage refl;
  damage = λ damage same. c.in-Err.ensures.damage damage (handed c.in-Err.damage _ same);
}

pub returns-in-Ok-false-clause-mature : goal.returns-in-Ok-false-clause-mature
returns-in-Ok-false-clause-mature c stored rows site founds is seen found =
    let there = row-there (blocks_of stored) c.args.at.now.parent site founds c.args.found.now c.rows.i c.index-found-i.result seen found c.rows-test.true in
    every-fails (is_mature site) founds c.rows.i there.0 _ (c.rows.invariant stored rows site founds is seen found) there.1
    (sym (c.in-Ok-false.ensures.mature stored rows site there.0 is (c.height-height.ensures.height stored rows site is) there.2) ∙ c.in-Ok-false.field-0-test)

pub rows-preserved : goal.rows-preserved
rows-preserved c stored rows site founds is seen found =
    let there = row-there (blocks_of stored) c.args.at.now.parent site founds c.args.found.now c.rows.i c.index-found-i.result seen found c.rows-test.true in
    every-goes-on (is_mature site) founds c.rows.i there.0 _ (c.rows.invariant stored rows site founds is seen found) there.1
    (sym (c.in-Ok-true.ensures.mature stored rows site there.0 is (c.height-height.ensures.height stored rows site is) there.2) ∙ c.in-Ok-true.field-0-test)

pub returns-clause-mature : goal.returns-clause-mature
returns-clause-mature c stored rows site founds is seen found =
    every-passed (is_mature site) founds c.rows.i _ (c.rows.invariant stored rows site founds is seen found)
    (let long = rows-long (blocks_of stored) c.args.at.now.parent founds c.args.found.now found in omega (arith, long))
