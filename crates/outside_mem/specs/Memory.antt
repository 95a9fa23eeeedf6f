-- What contracts see of the forms in memory (docs/DECISIONS.md, "The outside").
use Rattle.std.specs.Prelude.{ℕ, ◌+◌, ◌==◌, Bool, List, if◌then◌else◌}
use Rattle.std.specs.List.{list_any}
use Rattle.outside.specs.Causes.{counted, up_to_last}

-- the numbers of the calls that fail, how many calls were made, and how many of them failed for that
pub record Plan : Type 0 where
  pub failing : List ℕ
  pub calls : ℕ
  pub failed : ℕ

-- no call was made yet
abbrev pub fresh_plan : List ℕ → Plan
fresh_plan failing = record { failing = failing; calls = 0; failed = 0 }

-- the number of the next call is listed
abbrev pub fails_next : Plan → Bool
fails_next plan = list_any (λ number. number == plan.calls) plan.failing

abbrev pub after_call : Plan → Plan
after_call plan = record {
  failing = plan.failing;
  calls = counted plan.calls;
  failed = if fails_next plan then counted plan.failed else plan.failed;
}

-- a `MemSource`: the bytes left
pub record Reading : Type 0 where
  pub left : List ℕ
  pub plan : Plan

-- a `MemSink`: the bytes taken, and how many calls ran out of memory
pub record Writing : Type 0 where
  pub taken : List ℕ
  pub plan : Plan
  pub starved : ℕ

abbrev pub reading_faults : Reading → ℕ
reading_faults source = up_to_last source.plan.failed

-- calls that ran out of memory are a part of the count of faults
abbrev pub writing_faults : Writing → ℕ
writing_faults sink = up_to_last (sink.plan.failed + sink.starved)
