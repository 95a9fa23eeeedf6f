-- What the steps of judging a transaction say: the rules in groups, and tables by answer.
use Rattle.std.specs.Prelude.{◌≡◌, ℕ, ◌<◌, ◌≤◌, Bool, List, [], ◌∷◌, map, Result, Ok, Err, Some, None, slice_index}
use Rattle.std.specs.List.{AllZip}
use Rattle.chain_defs.specs.Schema.{OutPoint, Transaction, Block}
use Rattle.chain_defs.specs.First.{first_failing}
use Rattle.outside.specs.declared.disk.Area.TheVariants.{Log}
use Rattle.outside.specs.declared.disk.ReadStop.TheVariants.{DiskFault, NoMemory, Damaged}
use Rattle.chain_defs.specs.Branch.{branch_places}
use Rattle.chain_defs.specs.Row.{Row}
use Rattle.cell_state.specs.Copies.{ResolvedValue}
use Rattle.rule_defs.specs.RuleNumber.{rule_number}
use Rattle.rule_defs.specs.Site.{Site}
use Rattle.rule_defs.specs.Resolving.{spends_live_cells, has_cell_deps, has_header_deps, inputs, deps, heights}
use Rattle.rule_defs.specs.Age.{uses_mature_cells, meets_each_since}
use Rattle.rule_defs.specs.Withdrawals.{names_deposits}
use Rattle.rule_defs.specs.Capacity.{makes_good_cells, balances, fee, interest}
use Rattle.rule_defs.specs.TransactionRules.{has_form}
use Rattle.tx_rules.specs.At.{found_row}
use Rattle.tx_rules.specs.Outcome.{Copies, IsResolved, IsTried}
use Rattle.tx_rules.specs.declared.capacity.Balance.{Balance}
use Rattle.tx_rules.specs.declared.resolving.TxOk.{TxOk}
use Rattle.tx_rules.specs.declared.resolving.TxStop.{TxStop}
use Rattle.tx_rules.specs.declared.resolving.TxStop.TheVariants.{Broken, Read}

-- ---- The rules in groups, in their order

-- on its form, its proposal and its inputs
abbrev pub spending_rules : Bool → Site → Transaction → List (ℕ × Bool)
spending_rules proposed site t = (18, has_form t) ∷ (19, proposed) ∷ (20, spends_live_cells site t) ∷ []

-- on its deps
abbrev pub naming_rules : Site → Transaction → List (ℕ × Bool)
naming_rules site t = (21, has_cell_deps site t) ∷ (22, has_header_deps site t) ∷ []

-- on the age of its cells, and on its outputs
abbrev pub using_rules : Site → Transaction → List (ℕ × Bool)
using_rules site t = (23, uses_mature_cells site t) ∷ (24, meets_each_since site t) ∷ (25, makes_good_cells site t) ∷ []

-- those that take no copy of a cell
abbrev pub finding_rules : Bool → Site → Transaction → List (ℕ × Bool)
finding_rules proposed site t =
    (18, has_form t) ∷ (19, proposed) ∷ (20, spends_live_cells site t) ∷ (21, has_cell_deps site t) ∷ (22, has_header_deps site t)
    ∷ (23, uses_mature_cells site t) ∷ (24, meets_each_since site t) ∷ (25, makes_good_cells site t) ∷ []

-- on withdrawals and capacity
abbrev pub paying_rules : Site → Transaction → List (ℕ × Bool)
paying_rules site t = (26, names_deposits site t) ∷ (27, balances site t) ∷ []

-- ---- Tables by answer

-- why a step of some rules stopped: at the first of them that is broken, or out of memory or at a fault of the disk, but at no damage
abbrev pub StopsAt : List (ℕ × Bool) → TxStop → Type 0
StopsAt rules (Broken rule) = first_failing rules ≡ Some (rule_number rule)
StopsAt rules (Read DiskFault) = Unit {0}
StopsAt rules (Read NoMemory) = Unit {0}
StopsAt rules (Read (Damaged damage)) = ⊥

-- what a step of some rules answers: something where each is kept
abbrev pub AnswersBy : {T : Type 0} → List (ℕ × Bool) → Result T TxStop → Type 0
AnswersBy rules (Ok v) = first_failing rules ≡ None
AnswersBy rules (Err stop) = StopsAt rules stop

-- something that is so, where each is kept
abbrev pub AnswersWith : {T : Type 0} → List (ℕ × Bool) → (T → Type 0) → Result T TxStop → Type 0
AnswersWith rules is (Ok v) = (first_failing rules ≡ None) × is v
AnswersWith rules is (Err stop) = StopsAt rules stop

-- why a step stops, whatever is known: at a rule that is tried, and what is damaged stands in LOG
abbrev pub IsStop : Bool → TxStop → Type 0
IsStop proposed (Broken rule) = IsTried proposed (rule_number rule)
IsStop proposed (Read DiskFault) = Unit {0}
IsStop proposed (Read NoMemory) = Unit {0}
IsStop proposed (Read (Damaged damage)) = damage.area ≡ Log

abbrev pub Stops : {T : Type 0} → Bool → Result T TxStop → Type 0
Stops proposed (Ok v) = Unit {0}
Stops proposed (Err stop) = IsStop proposed stop

-- after J18 to J20 a step stops at a later rule
abbrev pub IsLater : TxStop → Type 0
IsLater (Broken rule) = (20 < rule_number rule) × (rule_number rule ≤ 27)
IsLater (Read DiskFault) = Unit {0}
IsLater (Read NoMemory) = Unit {0}
IsLater (Read (Damaged damage)) = damage.area ≡ Log

abbrev pub StopsLater : {T : Type 0} → Result T TxStop → Type 0
StopsLater (Ok v) = Unit {0}
StopsLater (Err stop) = IsLater stop

-- ---- What is found

-- the rows of the cells of its deps, and the places of its header deps, each in their order
pub record AreNamed (kept : List Block) (parent : ℕ) (site : Site) (t : Transaction) (named : List (OutPoint × Row)) (places : List ℕ) : Type 0 where
  pub named_are : named ≡ map (found_row kept parent) (deps site t)
  pub places_are : places ≡ map (slice_index (branch_places kept parent)) (heights site t)

-- these, and the rows of the cells of its inputs
pub record AreFound (kept : List Block) (parent : ℕ) (site : Site) (t : Transaction) (spent named : List (OutPoint × Row)) (places : List ℕ) : Type 0 where
  pub spent_are : spent ≡ map (found_row kept parent) (inputs site t)
  pub others : AreNamed kept parent site t named places

-- the fee and the interest
pub record Pays (site : Site) (t : Transaction) (balance : Balance) : Type 0 where
  pub fee_is : balance.fee ≡ fee site t
  pub interest_is : balance.interest ≡ interest site t

-- copies of the cells of its inputs and of its deps, each in their order, and what it pays
pub record AreCopied (kept : List Block) (parent : ℕ) (site : Site) (t : Transaction) (spent named : List ResolvedValue) (balance : Balance) : Type 0 where
  pub inputs_are : AllZip (Copies kept parent) (inputs site t) spent
  pub deps_are : AllZip (Copies kept parent) (deps site t) named
  pub paid : Pays site t balance

-- all that it resolves to, and what it pays
pub record ResolvesTo (kept : List Block) (parent : ℕ) (site : Site) (t : Transaction) (ok : TxOk) : Type 0 where
  pub resolved : IsResolved kept parent site t ok.resolved
  pub fee_is : ok.fee ≡ fee site t
  pub interest_is : ok.interest ≡ interest site t
