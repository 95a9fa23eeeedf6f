-- What is read of kept blocks where a watcher runs the code of a group.
use Rattle.std.proofs.Common.{◌≡◌, ℕ, Option, Some, None, Result, Ok, Err, refl, ap}
use Rattle.outside.specs.Causes.{CountsFault}
use Rattle.outside.specs.declared.disk.Area.TheVariants.{Log}
use Rattle.outside.specs.declared.disk.Damage.{Damage}
use Rattle.outside.specs.declared.disk.ReadStop.{ReadStop}
use Rattle.outside.specs.declared.disk.ReadStop.TheVariants.{Damaged, DiskFault}
use Rattle.outside.proofs.Endings.{counts-as}
use Rattle.chain_tree.specs.Told.{Stored}
use Rattle.chain_tree.specs.Reading.{Findings, HasRead, stop_of}
use Rattle.chain_tree.proofs.ReadLemmas.{no_stop}
use Rattle.vm_sys.specs.Finding as finding
use Rattle.std.specs.Prelude.{List}
use Rattle.script_run.specs.Lookups.{found_in}
use Rattle.script_run.proofs.ReadLemmas.{found-through, no-error, some-stop}

same-err : {T : Type 0} (one other : ReadStop) → ◌≡◌ {A = Result T ReadStop} (Err one) (Err other) → Some one ≡ Some other
same-err one other is = let same : one ≡ other = cc in ap Some same

-- what a run over its world leaves of the blocks below
pub read-through : {S L T : Type 0} (tells : S → Option (List Stored)) (counts : S → ℕ) (loans_of : S → L) (faults : S → ℕ) (damages : S → Findings) (old new : S) (result : Result T ReadStop)
    → tells new ≡ tells old → counts new ≡ counts old → loans_of new ≡ loans_of old
    → ((damage : Damage) → result ≡ Err (Damaged damage) → damage.area ≡ Log)
    → CountsFault (faults old) (faults new) (result ≡ Err DiskFault)
    → finding.Finds (found_in (damages old)) (found_in (damages new)) (λ damage. result ≡ Err (Damaged damage))
    → HasRead tells counts loans_of faults damages old new (stop_of result)
read-through tells counts loans_of faults damages old new (Ok value) told count loans damage cause answered = record {
  told = told;
  count = count;
  loans = loans;
  damage = λ it same. absurd (no_stop (Damaged it) same);
  cause = counts-as cause (λ same. absurd (no_stop DiskFault same)) (λ is. absurd (no-error _ _ is));
  found = found-through damages old new new None refl (λ it same. absurd (no_stop (Damaged it) same)) (λ it is. absurd (no-error _ _ is)) answered;
}
read-through tells counts loans_of faults damages old new (Err stop) told count loans damage cause answered = record {
  told = told;
  count = count;
  loans = loans;
  damage = λ it same. damage it (ap Err (some-stop _ _ same));
  cause = counts-as cause (λ same. ap Err (some-stop _ _ same)) (same-err _ _);
  found = found-through damages old new new (Some stop) refl (λ it same. ap Err (some-stop _ _ same)) (λ it. same-err _ _) answered;
}
