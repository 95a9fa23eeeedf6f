-- From which height on a block is the earliest proposer of what it proposes.
use Rattle.std.specs.Prelude.{◌≡◌, ℕ, ◌+◌, ◌≤◌, Bool, true, false, nat_le, List, Option, Some, None}
use Rattle.std.specs.List.{Contains}
use Rattle.chain_defs.specs.Schema.{Block}
use Rattle.chain_defs.specs.Specification.{Specification}
use Rattle.rule_defs.specs.Window.{earliest}
use Rattle.rule_defs.specs.Fees.{Paid, paid_at}
use Rattle.rule_defs.specs.Reward.{is_at}

-- a commit at a height is at or after a start
abbrev pub is_started : Option ℕ → ℕ → Bool
is_started None height = false
is_started (Some start) height = nat_le start height

-- Starts are a proposer's for the ids that are asked for: of the commits that may be given to it, those of such an id that are at or after the id's
-- start have it as their earliest proposer, and no others.
abbrev pub AreStarts : Specification → List Block → ℕ → (List ℕ → Bool) → (List ℕ → Option ℕ) → Type 0
AreStarts spec branch proposer asked start_of = (id : List ℕ) (commit : ℕ) → asked id ≡ true → proposer + spec.w_close ≤ commit → commit ≤ proposer + spec.w_far
    → is_started (start_of id) commit ≡ is_at proposer (earliest spec branch id commit)

-- All that is committed where it may be given to a proposer is asked for.
abbrev pub AsksForCommits : Specification → List Block → ℕ → (List ℕ → Bool) → Type 0
AsksForCommits spec branch proposer asked = (commit : ℕ) (paid : Paid) → proposer + spec.w_close ≤ commit → commit ≤ proposer + spec.w_far
    → Contains (paid_at spec branch commit) paid → asked paid.id ≡ true
