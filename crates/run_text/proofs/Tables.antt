-- Tables of statuses: which statuses they hold, by the statuses' numbers.
use Rattle.std.proofs.Common.{◌≡◌, inl, inr, ℕ, Bool, true, false, List, [], ◌∷◌, slice_get, refl, ap, sym, ◌∙◌, subst}
use Rattle.std.specs.Prelude.{Some, ◌==◌, if◌then◌else◌}
use Rattle.std.proofs.lemmas.Bool.Decides.{eqb_tells}
use Rattle.std.proofs.lemmas.Option.{same_Some}
use Rattle.report_defs.specs.declared.status.Status.{Status}
use Rattle.report_defs.specs.declared.status.Status.TheVariants.{Done, SomeRefused, BadWords, InputFault, SinkFault, DiskFault, NoMemory, NotAStore, CutInput, BadSize, StoreThere, BadGenesis, ExtraInput, TooEarly, AlreadyMigrated}
use Rattle.report_defs.specs.Status.{status_number, IsOneOf}

-- all statuses by their numbers
abbrev every : List Status
every = Done ∷ SomeRefused ∷ BadWords ∷ InputFault ∷ SinkFault ∷ DiskFault ∷ NoMemory ∷ NotAStore ∷ CutInput ∷ BadSize ∷ StoreThere ∷ BadGenesis ∷ ExtraInput ∷ TooEarly ∷ AlreadyMigrated ∷ []

numbered : (status : Status) → slice_get every (status_number status) ≡ Some status
numbered Done = refl
numbered SomeRefused = refl
numbered BadWords = refl
numbered InputFault = refl
numbered SinkFault = refl
numbered DiskFault = refl
numbered NoMemory = refl
numbered NotAStore = refl
numbered CutInput = refl
numbered BadSize = refl
numbered StoreThere = refl
numbered BadGenesis = refl
numbered ExtraInput = refl
numbered TooEarly = refl
numbered AlreadyMigrated = refl

same_number : (one other : Status) → status_number one ≡ status_number other → one ≡ other
same_number one other is = same_Some one other (sym (numbered one) ∙ ap (slice_get every) is ∙ numbered other)

-- ---- A status of a table

-- the table holds the status of this number
abbrev pub has : List Status → ℕ → Bool
has [] number = false
has (one ∷ others) number = if status_number one == number then true else has others number

pub held : (statuses : List Status) (status : Status) → has statuses (status_number status) ≡ true → IsOneOf statuses status
held [] status is = absurd (cc)
held (one ∷ others) status is = elim (eqb_tells (status_number one) (status_number status)) [
  | inl same ↦ inl (sym (same_number one status same.1))
  | inr other ↦ inr (held others status (rw other.0 at is))
]

holds : (statuses : List Status) (status : Status) → IsOneOf statuses status → has statuses (status_number status) ≡ true
holds [] status one = absurd one
holds (first ∷ others) status (inl same) = elim (eqb_tells (status_number first) (status_number status)) [
  | inl is ↦ rw is.0 refl
  | inr other ↦ absurd (other.1 (ap status_number (sym same)))
]
holds (first ∷ others) status (inr later) = elim (eqb_tells (status_number first) (status_number status)) [
  | inl is ↦ rw is.0 refl
  | inr other ↦ rw other.0 (holds others status later)
]

-- a table that lacks a status
pub lacks : (statuses : List Status) (wanted : Status) → has statuses (status_number wanted) ≡ false → (status : Status) → IsOneOf statuses status → status ≡ wanted → ⊥
lacks statuses wanted lack status one same =
    let there : has statuses (status_number wanted) ≡ true = subst (λ (s : Status). has statuses (status_number s) ≡ true) same (holds statuses status one) in
    absurd (cc)

-- ---- A table in another

abbrev pub all_in : List Status → List Status → Bool
all_in [] others = true
all_in (one ∷ more) others = if has others (status_number one) then all_in more others else false

both : (a b : Bool) → (if a then b else false) ≡ true → (a ≡ true) × (b ≡ true)
both true b is = (refl, is)
both false b is = absurd (cc)

pub among : (statuses others : List Status) → all_in statuses others ≡ true → (status : Status) → IsOneOf statuses status → IsOneOf others status
among [] others is status one = absurd one
among (first ∷ more) others is status (inl same) =
    subst (λ (s : Status). IsOneOf others s) (sym same) (held others first (both (has others (status_number first)) (all_in more others) is).0)
among (first ∷ more) others is status (inr later) = among more others (both (has others (status_number first)) (all_in more others) is).1 status later

-- and one that has none of another's
abbrev pub none_in : List Status → List Status → Bool
none_in [] others = true
none_in (one ∷ more) others = if has others (status_number one) then false else none_in more others

neither : (a b : Bool) → (if a then false else b) ≡ true → (a ≡ false) × (b ≡ true)
neither true b is = absurd (cc)
neither false b is = (refl, is)

pub apart : (statuses others : List Status) → none_in statuses others ≡ true → (status : Status) → IsOneOf statuses status → IsOneOf others status → ⊥
apart [] others is status one other = one
apart (first ∷ more) others is status (inl same) other =
    lacks others first (neither (has others (status_number first)) (none_in more others) is).0 status other same
apart (first ∷ more) others is status (inr later) other =
    apart more others (neither (has others (status_number first)) (none_in more others) is).1 status later other
