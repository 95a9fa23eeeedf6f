-- Statuses of an import.
use Rattle.std.proofs.Common.{◌≡◌, inl, inr, ℕ, Bool, true, false, List, [], ◌∷◌, refl, sym, ◌∙◌, subst}
use Rattle.std.specs.Prelude.{if◌then◌else◌}
use Rattle.report_defs.specs.declared.status.Status.{Status}
use Rattle.report_defs.specs.declared.status.Status.TheVariants.{Done, SomeRefused, InputFault, DiskFault, NoMemory, CutInput, BadSize, ExtraInput}
use Rattle.report_defs.specs.declared.end.End.{End}
use Rattle.report_defs.specs.declared.end.End.TheVariants as ends
use Rattle.report_defs.specs.Status.{IsOneOf}
use Rattle.report_defs.specs.Report.{status_of_end}
use Rattle.report_defs.specs.Promise.{IsStoppedBeforeTheSink, import_statuses}
use Rattle.run_text.specs.Output.{IsWrittenAnswer}
use Rattle.run_text.specs.Store.{opening_stops}
use Rattle.run_text.proofs.Tables.{held, among}
use Rattle.run_text.proofs.Statuses.{each_of}

pub import_opening : (status : Status) → IsOneOf opening_stops status → IsOneOf import_statuses status
import_opening = among opening_stops import_statuses refl

pub import_end : (refused : Bool) (end : End) → IsOneOf import_statuses (status_of_end (if refused then SomeRefused else Done) end)
import_end true ends.AtEnd = held import_statuses SomeRefused refl
import_end false ends.AtEnd = held import_statuses Done refl
import_end refused ends.Cut = held import_statuses CutInput refl
import_end refused ends.BadSize = held import_statuses BadSize refl
import_end refused ends.Extra = held import_statuses ExtraInput refl

pub import_told : (text : List ℕ) (refused : Bool) (end : End) (status result : Status) (taken : List ℕ)
    → status ≡ status_of_end (if refused then SomeRefused else Done) end → IsWrittenAnswer text status result taken → IsOneOf import_statuses result
import_told text refused end status result taken is (inl told) = subst (λ (s : Status). IsOneOf import_statuses s) (sym (told.1 ∙ is)) (import_end refused end)
import_told text refused end status result taken is (inr failed) = inr (inr (inr (inl failed.1)))

-- ---- The status after the end of an import

-- such a status is no stop
abbrev pub IsOfEnd : Status → Type 0
IsOfEnd Done = Unit {0}
IsOfEnd SomeRefused = Unit {0}
IsOfEnd CutInput = Unit {0}
IsOfEnd BadSize = Unit {0}
IsOfEnd ExtraInput = Unit {0}
IsOfEnd _ = ⊥

pub of_end : (refused : Bool) (end : End) → IsOfEnd (status_of_end (if refused then SomeRefused else Done) end)
of_end true ends.AtEnd = tt
of_end false ends.AtEnd = tt
of_end refused ends.Cut = tt
of_end refused ends.BadSize = tt
of_end refused ends.Extra = tt

pub end_not_early : (status : Status) → IsOfEnd status → IsStoppedBeforeTheSink status → ⊥
end_not_early status of early =
    each_of (λ s. IsOfEnd s → ⊥) (InputFault ∷ DiskFault ∷ NoMemory ∷ []) status (λ n. n, (λ n. n, (λ n. n, tt))) early of

pub only_at_end : (refused : Bool) (end : End) → IsOneOf (Done ∷ SomeRefused ∷ []) (status_of_end (if refused then SomeRefused else Done) end) → end ≡ ends.AtEnd
only_at_end refused ends.AtEnd told = refl
only_at_end refused ends.Cut (inl e) = absurd (cc)
only_at_end refused ends.Cut (inr (inl e)) = absurd (cc)
only_at_end refused ends.Cut (inr (inr never)) = absurd never
only_at_end refused ends.BadSize (inl e) = absurd (cc)
only_at_end refused ends.BadSize (inr (inl e)) = absurd (cc)
only_at_end refused ends.BadSize (inr (inr never)) = absurd never
only_at_end refused ends.Extra (inl e) = absurd (cc)
only_at_end refused ends.Extra (inr (inl e)) = absurd (cc)
only_at_end refused ends.Extra (inr (inr never)) = absurd never
