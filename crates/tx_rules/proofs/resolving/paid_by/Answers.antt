use Rattle.std.proofs.Common.{◌≡◌, true, Err, refl, ap, sym, ◌∙◌}
use Rattle.outside.specs.declared.disk.ReadStop.TheVariants.{DiskFault}
use Rattle.rule_defs.specs.Withdrawals.{names_deposits}
use Rattle.tx_rules.specs.Steps.{paying_rules}
use Rattle.outside.proofs.Endings.{no_answer}
use Rattle.tx_rules.proofs.Endings.{broken_unread, damage_unread, fault_read}
use Rattle.tx_rules.proofs.RuleLemmas.{read-stops, names-badly, pays-badly, pays-well}
use Rattle.tx_rules.proofs.RowRuleLemmas.{later-26, later-27, later-read}
use Rattle.tx_rules.proofs.resolving.paid_by.Goals as goal

pub returns-in-Ok-false : goal.returns-in-Ok-false
returns-in-Ok-false c = record {
  fits = tt;
  later = later-26;
  unread = broken_unread DiskFault;
  exact = λ stored rows site is copies places.
      names-badly site c.args.tx.now (sym (c.in-Ok-false.ensures.named stored rows site is copies places) ∙ c.in-Ok-false.field-0-test);
}

pub returns-in-Err : goal.returns-in-Err
returns-in-Err c = record {
  fits = tt;
  later = later-read c.in-Err.stop (λ damage same. c.in-Err.ensures.damage damage (ap Err same));
  unread = λ same. c.in-Err.ensures.no_fault (fault_read c.in-Err.stop same);
  exact = λ stored rows site is copies places.
      read-stops (paying_rules site c.args.tx.now) c.in-Err.stop (λ damage same. c.in-Err.ensures.undamaged stored rows site is copies places damage (ap Err same));
}

pub returns-in-Ok-Some : goal.returns-in-Ok-Some
returns-in-Ok-Some c = record {
  fits = rw c.in-Ok-Some.field-0-is at c.in-Ok-Some.ensures.fits;
  later = tt;
  unread = no_answer _ _;
  exact = λ stored rows site is copies places.
      let named : names_deposits site c.args.tx.now ≡ true = sym (c.in-Ok-true.ensures.named stored rows site is copies places) ∙ c.in-Ok-true.field-0-test in
      let balance = rw c.in-Ok-Some.field-0-is at (c.in-Ok-Some.ensures.balance stored rows site is copies places named) in
      (pays-well site c.args.tx.now named balance.0, record { fee_is = balance.1; interest_is = balance.2 });
}

pub returns-in-Ok-None : goal.returns-in-Ok-None
returns-in-Ok-None c = record {
  fits = tt;
  later = later-27;
  unread = broken_unread DiskFault;
  exact = λ stored rows site is copies places.
      let named : names_deposits site c.args.tx.now ≡ true = sym (c.in-Ok-true.ensures.named stored rows site is copies places) ∙ c.in-Ok-true.field-0-test in
      pays-badly site c.args.tx.now named (rw c.in-Ok-None.field-0-is at (c.in-Ok-None.ensures.balance stored rows site is copies places named));
}

pub returns-in-Err-balance_of : goal.returns-in-Err-balance_of
returns-in-Err-balance_of c = record {
  fits = tt;
  later = c.in-Err-balance_of.ensures.damage c.in-Err-balance_of.damage refl;
  unread = damage_unread c.in-Err-balance_of.damage;
  exact = λ stored rows site is copies places.
      let named : names_deposits site c.args.tx.now ≡ true = sym (c.in-Ok-true.ensures.named stored rows site is copies places) ∙ c.in-Ok-true.field-0-test in
      c.in-Err-balance_of.ensures.undamaged stored rows site is copies places named c.in-Err-balance_of.damage refl;
}
