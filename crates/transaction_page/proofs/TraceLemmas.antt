-- What a run by steps leaves, where its stop is answered as one of reading.
use Rattle.std.proofs.Common.{◌≡◌, ℕ, Option, Some, Result, Ok, Err, ap, sym, ◌∙◌}
use Rattle.outside.specs.Causes.{CountsFault}
use Rattle.outside.specs.declared.disk.Damage.{Damage}
use Rattle.outside.specs.declared.disk.ReadStop.{ReadStop}
use Rattle.outside.specs.declared.disk.ReadStop.TheVariants.{DiskFault, Damaged}
use Rattle.outside.proofs.Endings.{counts-as}
use Rattle.vm_sys.specs.Finding.{Finds}
use Rattle.chain_tree.specs.Reading.{stop_of}
use Rattle.chain_tree.proofs.ReadLemmas.{no_stop, same_stop}
use Rattle.script_run.proofs.ReadLemmas.{no-error, some-stop}
use Rattle.machine_trace.specs.declared.tracing.TraceStop.{TraceStop}
use Rattle.machine_trace.specs.declared.tracing.TraceStop.TheVariants.{Read}

to-stop : {T U : Type 0} (one other : ReadStop) → ◌≡◌ {A = Result T TraceStop} (Err (Read one)) (Err (Read other)) → ◌≡◌ {A = Result U ReadStop} (Err one) (Err other)
to-stop one other is = let same : one ≡ other = cc in ap Err same

from-stop : {T U : Type 0} (one other : ReadStop) → ◌≡◌ {A = Result U ReadStop} (Err one) (Err other) → ◌≡◌ {A = Result T TraceStop} (Err (Read one)) (Err (Read other))
from-stop one other is = let same : one ≡ other = cc in ap (λ (stop : ReadStop). Err (Read stop)) same

-- a fault is answered where one is counted
pub read-cause : {T U : Type 0} (before now : ℕ) (stop : ReadStop) (result : Result T TraceStop) → result ≡ Err (Read stop)
    → CountsFault before now (result ≡ Err (Read DiskFault)) → CountsFault before now (◌≡◌ {A = Result U ReadStop} (Err stop) (Err DiskFault))
read-cause before now stop result is counts = counts-as counts (λ e. is ∙ from-stop _ _ e) (λ f. to-stop _ _ (sym is ∙ f))

-- damage is answered where it is found
pub read-finds : {T U : Type 0} (before now : ℕ × Option Damage) (stop : ReadStop) (result : Result T TraceStop) → result ≡ Err (Read stop)
    → Finds before now (λ damage. result ≡ Err (Read (Damaged damage))) → Finds before now (λ damage. ◌≡◌ {A = Result U ReadStop} (Err stop) (Err (Damaged damage)))
read-finds before now stop result is finds = record {
  named = λ damage e. finds.named damage (is ∙ from-stop _ _ e);
  none = λ never. finds.none (λ damage f. never damage (to-stop _ _ (sym is ∙ f)));
}
