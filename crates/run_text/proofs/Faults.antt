-- What a function did to a count of faults, and which answers are none.
use Rattle.std.proofs.Common.{◌≡◌, ℕ, Bool, true, false, List, refl, sym, subst, inl, inr}
use Rattle.std.specs.Prelude.{Err, if◌then◌else◌}
use Rattle.outside.specs.Causes.{HasCause, CountsFault}
use Rattle.outside.proofs.Endings.{counts-as, after_still}
use Rattle.report_defs.specs.declared.end.End.{End}
use Rattle.report_defs.specs.declared.end.End.TheVariants.{AtEnd, Cut, BadSize, Extra}
use Rattle.report_defs.specs.declared.status.Status.{Status}
use Rattle.report_defs.specs.declared.status.Status.TheVariants.{Done, SomeRefused, InputFault, DiskFault, NoMemory}
use Rattle.report_defs.specs.Report.{status_of_end}
use Rattle.run_text.specs.Output.{IsWrittenAnswer}

-- what a failed call did to the count
pub failed_counts : {T E Fault : Type 0} (before now : ℕ) (error : E) → HasCause {T = T} before now (Err error) → Fault → CountsFault before now Fault
failed_counts before now error cause fault = record {
  later = cause.later;
  rose = λ _. cause.failed refl;
  unchanged = λ never. absurd (never fault);
}

-- a count that was unchanged, and then counts the same fault
pub then_counts : {First Fault : Type 0} (before still now : ℕ) → still ≡ before → CountsFault still now First → (Fault → First) → (First → Fault)
    → CountsFault before now Fault
then_counts before still now unchanged counts there back = after_still unchanged (counts-as counts there back)

-- ---- What an input that ended is answered

abbrev pub IsNoFault : Status → Type 0
IsNoFault InputFault = ⊥
IsNoFault DiskFault = ⊥
IsNoFault _ = Unit {0}

pub end_no_fault : (refused : Bool) (end : End) → IsNoFault (status_of_end (if refused then SomeRefused else Done) end)
end_no_fault true AtEnd = tt
end_no_fault false AtEnd = tt
end_no_fault true Cut = tt
end_no_fault false Cut = tt
end_no_fault true BadSize = tt
end_no_fault false BadSize = tt
end_no_fault true Extra = tt
end_no_fault false Extra = tt

pub told_no_fault : (text : List ℕ) (status result : Status) (taken : List ℕ) → IsNoFault status → IsWrittenAnswer text status result taken → IsNoFault result
told_no_fault text status result taken none (inl told) = subst IsNoFault (sym told.1) none
told_no_fault text status result taken none (inr failed) = subst IsNoFault (sym failed.1) tt

pub no_input_there : (status : Status) → IsNoFault status → status ≡ InputFault → ⊥
no_input_there status none same = subst IsNoFault same none

pub no_disk_there : (status : Status) → IsNoFault status → status ≡ DiskFault → ⊥
no_disk_there status none same = subst IsNoFault same none

-- ---- Want of memory is no fault

abbrev pub IsMemory : Status → Type 0
IsMemory NoMemory = Unit {0}
IsMemory _ = ⊥
