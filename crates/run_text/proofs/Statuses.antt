-- Statuses by tables of them.
use Rattle.std.proofs.Common.{◌≡◌, inl, inr, ℕ, List, [], ◌∷◌, refl, sym, subst}
use Rattle.report_defs.specs.declared.status.Status.{Status}
use Rattle.report_defs.specs.declared.status.Status.TheVariants.{Done, SomeRefused, InputFault, SinkFault, DiskFault, NoMemory, NotAStore}
use Rattle.report_defs.specs.Status.{IsOneOf}
use Rattle.report_defs.specs.Promise.{IsReported, reported, ended_early, IsStoppedBeforeTheSink}
use Rattle.run_text.specs.Items.{IsReadingStop}
use Rattle.run_text.specs.Output.{IsStop, IsWrittenAnswer, IsWritingStop}
use Rattle.run_text.specs.Store.{opening_stops}
use Rattle.run_text.proofs.Tables.{lacks, apart}

-- each of these statuses has P
abbrev pub Have : (Status → Type 0) → List Status → Type 0
Have P [] = Unit {0}
Have P (one ∷ others) = P one × Have P others

pub each_of : (P : Status → Type 0) (statuses : List Status) (status : Status) → Have P statuses → IsOneOf statuses status → P status
each_of P [] status have member = absurd member
each_of P (one ∷ others) status have (inl same) = subst P (sym same) have.0
each_of P (one ∷ others) status have (inr later) = each_of P others status have.1 later

-- a stop by anything but the sink
abbrev pub IsEarly : Status → Type 0
IsEarly InputFault = Unit {0}
IsEarly DiskFault = Unit {0}
IsEarly NoMemory = Unit {0}
IsEarly _ = ⊥

pub is_early : (status : Status) → IsStoppedBeforeTheSink status → IsEarly status
is_early status early = each_of IsEarly (InputFault ∷ DiskFault ∷ NoMemory ∷ []) status (tt, (tt, (tt, tt))) early

pub not_early : (status : Status) → status ≡ SinkFault → IsStoppedBeforeTheSink status → ⊥
not_early status sink early = subst IsEarly sink (is_early status early)

pub stop_not_reported : (status : Status) → IsStop status → IsReported status → ⊥
stop_not_reported status stop told =
    each_of (λ s. IsStop s → ⊥) reported status
    (λ n. n, (λ n. n, (λ n. n, (λ n. n, (λ n. n, (λ n. n, (λ n. n, (λ n. n, (λ n. n, (λ n. n, (λ n. n, tt))))))))))) told stop

pub stop_not_done : (status : Status) → IsStop status → IsOneOf (Done ∷ SomeRefused ∷ []) status → ⊥
stop_not_done status stop told = each_of (λ s. IsStop s → ⊥) (Done ∷ SomeRefused ∷ []) status (λ n. n, (λ n. n, tt)) told stop

pub stop_not_ended : (status : Status) → IsStop status → IsOneOf ended_early status → ⊥
stop_not_ended status stop told = each_of (λ s. IsStop s → ⊥) ended_early status (λ n. n, (λ n. n, (λ n. n, tt))) told stop

-- what stops reading or writing stops a run
pub reading_stops : (status : Status) → IsReadingStop status → IsStop status
reading_stops InputFault stop = tt
reading_stops NoMemory stop = tt
reading_stops _ stop = absurd stop

pub writing_stops : (status : Status) → IsWritingStop status → IsStop status
writing_stops SinkFault stop = tt
writing_stops DiskFault stop = tt
writing_stops NoMemory stop = tt
writing_stops _ stop = absurd stop

pub disk_stops : (status : Status) → IsOneOf (DiskFault ∷ NoMemory ∷ []) status → IsWritingStop status
disk_stops status one = each_of IsWritingStop (DiskFault ∷ NoMemory ∷ []) status (tt, (tt, tt)) one

-- a reported stop of opening
pub opening_reported : (status : Status) → IsOneOf opening_stops status → IsReported status → status ≡ NotAStore
opening_reported status one told =
    each_of (λ s. IsReported s → s ≡ NotAStore) opening_stops status
    (λ _. refl, (λ never. absurd (stop_not_reported DiskFault tt never), (λ never. absurd (stop_not_reported NoMemory tt never), tt))) one told

pub opening_stop : (status : Status) → IsOneOf opening_stops status → (status ≡ NotAStore → ⊥) → IsStop status
opening_stop status (inl none) there = absurd (there none)
opening_stop status (inr (inl fault)) there = subst IsStop (sym fault) tt
opening_stop status (inr (inr (inl memory))) there = subst IsStop (sym memory) tt
opening_stop status (inr (inr (inr never))) there = absurd never

pub opening_no_input : (status : Status) → IsOneOf opening_stops status → status ≡ InputFault → ⊥
opening_no_input = lacks opening_stops InputFault refl

pub opening_no_sink : (status : Status) → IsOneOf opening_stops status → status ≡ SinkFault → ⊥
opening_no_sink = lacks opening_stops SinkFault refl

pub opening_not_done : (status : Status) → IsOneOf opening_stops status → IsOneOf (Done ∷ SomeRefused ∷ []) status → ⊥
opening_not_done = apart opening_stops (Done ∷ SomeRefused ∷ []) refl

-- ---- An answer that was printed

-- it has its own status, or that of the sink
pub told_one : (statuses : List Status) (text : List ℕ) (status result : Status) (taken : List ℕ) → IsOneOf statuses status → IsWrittenAnswer text status result taken
    → IsOneOf (SinkFault ∷ statuses) result
told_one statuses text status result taken one (inl told) = inr (subst (λ (s : Status). IsOneOf statuses s) (sym told.1) one)
told_one statuses text status result taken one (inr failed) = inl failed.1
