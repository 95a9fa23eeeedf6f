-- That a fault is answered where one is counted, of a stop that a record names.
use Rattle.std.proofs.Common.{◌≡◌, ℕ, Some, Result, Ok, Err, ap}
use Rattle.outside.specs.Causes.{CountsFault}
use Rattle.outside.specs.declared.disk.ReadStop.{ReadStop}
use Rattle.outside.specs.declared.disk.ReadStop.TheVariants.{DiskFault}
use Rattle.outside.proofs.Endings.{counts-as}
use Rattle.chain_tree.specs.Reading.{stop_of}
use Rattle.chain_tree.proofs.ReadLemmas.{no_stop, same_stop}
use Rattle.script_run.proofs.ReadLemmas.{no-error, some-stop}

pub cause-of : {T : Type 0} (before now : ℕ) (result : Result T ReadStop) → CountsFault before now (stop_of result ≡ Some DiskFault) → CountsFault before now (result ≡ Err DiskFault)
cause-of before now (Ok value) counts = counts-as counts (λ e. absurd (no-error _ _ e)) (λ f. absurd (no_stop DiskFault f))
cause-of before now (Err stop) counts = counts-as counts (λ e. ap Some (same_stop _ _ e)) (λ f. ap Err (some-stop _ _ f))
