use Rattle.std.proofs.Common.{inl, refl, sym, subst}
use Rattle.outside.specs.declared.disk.ReadStop.TheVariants.{DiskFault, Damaged, NoMemory}
use Rattle.machine_defs.specs.World.{Here, Item, Unknown}
use Rattle.machine_defs.specs.Answer.{asks, with_item}
use Rattle.vm_sys.specs.declared.syscall.Sys.TheVariants.{Fault}
use Rattle.vm_sys.specs.Answering.{IsAnswer}
use Rattle.vm_sys.specs.Actions.{form_meaning}
use Rattle.vm_sys.proofs.Exits.{counts-as, finds-as, item-found, known-before, no-stop, none-held, same-answer, same-stop}
use Rattle.vm_sys.proofs.RunLemmas.{no-error}
use Rattle.vm_sys.proofs.syscall.load.Goals as goal

pub returns-in-Err : goal.returns-in-Err
returns-in-Err g c = record {
  told = c.find.ensures.told;
  loans = c.find.ensures.loans;
  some = (Unknown, tt);
  exact = λ items told. tt;
  goes_on = c.requires;
  wants = λ items told wants.
      known-before _ _ items c.asked.result (asks c.args.machine.now.machine (form_meaning c.args.form)) c.in-Err.stop c.in-Err.ensures.known told c.asked.ensures wants;
  unpaid = λ stop is. refl;
  cause = counts-as (same-answer c.in-Err.stop DiskFault) (same-stop c.in-Err.stop DiskFault) c.in-Err.ensures.cause;
  answered = finds-as (λ damage. same-answer c.in-Err.stop (Damaged damage)) (λ damage. same-stop c.in-Err.stop (Damaged damage)) c.in-Err.ensures.answered;
  undamaged = λ sound damage is. c.in-Err.ensures.undamaged sound damage (same-stop c.in-Err.stop (Damaged damage) is);
  damage = λ damage is. c.in-Err.ensures.damage damage (same-stop c.in-Err.stop (Damaged damage) is);
  in_part = none-held _ _ refl;
  pages_kept = λ page has. has;
  pages_added = λ items told page has. inl has;
}

pub returns-in-Here-clause-some : goal.returns-in-Here-clause-some
returns-in-Here-clause-some c = λ c'. (Here c'.bytes.result.now, c'.load_bytes.ensures.answer)

pub returns-in-Unknown : goal.returns-in-Unknown
returns-in-Unknown g c =
    let machine = c.args.machine.now.machine in
    let asked = asks machine (form_meaning c.args.form) in
    record {
      told = c.find.ensures.told;
      loans = c.find.ensures.loans;
      some = (Unknown, (refl, refl));
      exact = λ items told.
          subst (λ (item : Item). IsAnswer (with_item (form_meaning c.args.form) machine item) machine (Fault 5))
          (sym (item-found _ items c.asked.result asked Unknown (rw c.in-Unknown.is at c.in-Ok.ensures.found) told c.asked.ensures)) (refl, refl);
      goes_on = c.requires;
      wants = λ items told is. absurd (no-stop 5 NoMemory is);
      unpaid = λ stop is. absurd (no-stop 5 stop is);
      cause = counts-as (λ is. absurd cc) (λ is. absurd cc) c.in-Ok.ensures.cause;
      answered = finds-as (λ damage is. absurd (no-error _ _ is)) (λ damage is. absurd (no-stop 5 (Damaged damage) is)) c.in-Ok.ensures.answered;
      undamaged = λ sound damage. no-stop 5 (Damaged damage);
      damage = λ damage is. absurd (no-stop 5 (Damaged damage) is);
      in_part = none-held _ _ refl;
      pages_kept = λ page has. has;
      pages_added = λ items told page has. inl has;
    }
