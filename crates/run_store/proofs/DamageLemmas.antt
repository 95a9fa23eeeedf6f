-- Damage that was found is answered.
use Rattle.std.proofs.Common.{◌≡◌, ℕ, Option, Some, None, Result, Err, refl, ap, subst}
use Rattle.std.specs.Prelude.{◌≢◌}
use Rattle.outside.specs.declared.disk.Damage.{Damage}
use Rattle.outside.specs.declared.disk.ReadStop.{ReadStop}
use Rattle.outside.specs.declared.disk.ReadStop.TheVariants as stops
use Rattle.outside.specs.Image.{Image}
use Rattle.report_defs.specs.declared.status.Status.{Status}
use Rattle.report_defs.specs.declared.status.Status.TheVariants.{NotAStore}
use Rattle.node_store.specs.Node.{NodeValue, LeavesAll}
use Rattle.run_store.specs.Damage.{AnswersDamage}

-- nothing was asked of the node
pub none_met : {Said : Type 0} (node : NodeValue) → AnswersDamage node node Said
none_met node rose = absurd (rose refl)

-- or what was asked of it found none
pub none_then : {A First Said : Type 0} {before after : A} → (after ≢ before → First) → (First → ⊥) → after ≢ before → Said
none_then first none rose = absurd (none (first rose))

pub said_as : {A First Said : Type 0} {before after : A} → (after ≢ before → First) → (First → Said) → after ≢ before → Said
said_as first said rose = said (first rose)

module _ {S C : Type 0} {content_of : S → C} {reads_as : S → Option Image} {images : S → Image → Type 0} {faults : S → ℕ} {old new : S} {before after : NodeValue} where
  pub none_found : {Said : Type 0} → LeavesAll content_of reads_as images faults old new before after None → AnswersDamage before after Said
  none_found left rose = absurd (rose (left.found.none (λ damage is. absurd (cc))))

  -- it was stopped
  pub found_said : {T : Type 0} (stop : ReadStop) (status : Status) → LeavesAll content_of reads_as images faults old new before after (Some stop)
      → ((damage : Damage) → stop ≡ stops.Damaged damage → status ≡ NotAStore)
      → AnswersDamage before after (◌≡◌ {A = Result T Status} (Err status) (Err NotAStore))
  found_said stops.DiskFault status left said rose = absurd (rose (left.found.none (λ damage is. absurd (cc))))
  found_said stops.NoMemory status left said rose = absurd (rose (left.found.none (λ damage is. absurd (cc))))
  found_said (stops.Damaged damage) status left said rose = ap Err (said damage refl)

  -- where it judged, what stopped the reading is known by an equation
  pub none_judged : {Said : Type 0} {found : Option ReadStop} → LeavesAll content_of reads_as images faults old new before after found → found ≡ None
      → AnswersDamage before after Said
  none_judged left is = none_found (subst (λ (found : Option ReadStop). LeavesAll content_of reads_as images faults old new before after found) is left)

  pub judged_said : {T : Type 0} {found : Option ReadStop} (stop : ReadStop) (status : Status) → LeavesAll content_of reads_as images faults old new before after found
      → found ≡ Some stop → ((damage : Damage) → stop ≡ stops.Damaged damage → status ≡ NotAStore)
      → AnswersDamage before after (◌≡◌ {A = Result T Status} (Err status) (Err NotAStore))
  judged_said stop status left is said =
      found_said stop status (subst (λ (found : Option ReadStop). LeavesAll content_of reads_as images faults old new before after found) is left) said
