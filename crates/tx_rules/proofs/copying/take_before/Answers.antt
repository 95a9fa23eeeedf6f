use Rattle.tx_rules.proofs.copying.take_before.Goals as goal

pub copies-preserved : goal.copies-preserved
copies-preserved c = record {
  long = c.take_last.ensures.long;
  taken = λ told at again taken.
      let so = c.copies.invariant.taken told at again taken in
      (c.take_last.ensures.again told at so.0, c.take_last.ensures.taken told at so.0 so.1);
}

pub returns-clause-taken : goal.returns-clause-taken
returns-clause-taken c = λ told at again taken. (c.copies.invariant.taken told at again taken).1
