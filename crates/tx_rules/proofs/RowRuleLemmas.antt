-- J18 to J20 by the rows alone, and what stops after them.
use Rattle.std.proofs.Common.{◌≡◌, ◌<◌, Bool, true, false, cond, Option, None, List, Result, Ok, Err, refl, ap, ◌∙◌, subst, inl, inr, arith}
use Rattle.std.specs.Prelude.{is_some, ◌≤◌}
use Rattle.chain_defs.specs.Schema.{OutPoint, Transaction}
use Rattle.outside.specs.declared.disk.Area.TheVariants.{Log}
use Rattle.outside.specs.declared.disk.Damage.{Damage}
use Rattle.outside.specs.declared.disk.ReadStop.{ReadStop}
use Rattle.outside.specs.declared.disk.ReadStop.TheVariants.{DiskFault, NoMemory, Damaged}
use Rattle.chain_defs.specs.Row.{Row}
use Rattle.rule_defs.specs.RuleNumber.{rule_number}
use Rattle.rule_defs.specs.declared.rule.Rule.{Rule}
use Rattle.rule_defs.specs.declared.rule.Rule.TheVariants.{TransactionForm, Proposed, Inputs, CellDeps, HeaderDeps, Maturity, Since, Outputs, Withdrawals, Capacity}
use Rattle.rule_defs.specs.Resolving.{spends_each_once}
use Rattle.rule_defs.specs.TransactionRules.{has_form}
use Rattle.tx_rules.specs.At.{named_rows, input_rows, spends_rows}
use Rattle.tx_rules.specs.Outcome.{FollowsRows, IsTried}
use Rattle.tx_rules.specs.Steps.{IsStop, IsLater, StopsLater}
use Rattle.tx_rules.specs.declared.resolving.TxStop.{TxStop}
use Rattle.tx_rules.specs.declared.resolving.TxStop.TheVariants.{Broken, Read}

-- ---- J20 by its two parts

pub twice-lost : (rows : OutPoint → Option Row) (t : Transaction) → spends_each_once t ≡ false → spends_rows rows t ≡ false
twice-lost rows t twice = ap (λ (once : Bool). is_some (cond once (named_rows rows t) None)) twice

-- where none is named twice, the rows are those that are named
pub once-named : (rows : OutPoint → Option Row) (t : Transaction) (found : Option (List (OutPoint × Row))) → spends_each_once t ≡ true
    → named_rows rows t ≡ found → input_rows rows t ≡ found
once-named rows t found once named = ap (λ (b : Bool). cond b (named_rows rows t) None) once ∙ named

-- ---- What stops later

-- the rules after J20
pub later-21 : IsLater (Broken CellDeps)
later-21 = (omega arith, omega arith)

pub later-22 : IsLater (Broken HeaderDeps)
later-22 = (omega arith, omega arith)

pub later-23 : IsLater (Broken Maturity)
later-23 = (omega arith, omega arith)

pub later-24 : IsLater (Broken Since)
later-24 = (omega arith, omega arith)

pub later-25 : IsLater (Broken Outputs)
later-25 = (omega arith, omega arith)

pub later-26 : IsLater (Broken Withdrawals)
later-26 = (omega arith, omega arith)

pub later-27 : IsLater (Broken Capacity)
later-27 = (omega arith, omega arith)

later-rule : {T : Type 0} (result : Result T TxStop) (rule : Rule) → StopsLater result → result ≡ Err (Broken rule) → 20 < rule_number rule
later-rule {T = T} result rule later same = let high : (20 < rule_number rule) × (rule_number rule ≤ 27) = subst (λ (r : Result T TxStop). StopsLater r) same later in high.0

-- at what could not be read
pub later-read : (stop : ReadStop) → ((damage : Damage) → stop ≡ Damaged damage → damage.area ≡ Log) → IsLater (Read stop)
later-read DiskFault in_log = tt
later-read NoMemory in_log = tt
later-read (Damaged damage) in_log = in_log damage refl

-- what stops later is a stop
pub later-stops : (proposed : Bool) (stop : TxStop) → IsLater stop → IsStop proposed stop
later-stops proposed (Broken rule) later = inr (inr (let above = later.0 in omega (arith, above), later.1))
later-stops proposed (Read DiskFault) later = tt
later-stops proposed (Read NoMemory) later = tt
later-stops proposed (Read (Damaged damage)) later = later

-- ---- Each answer

pub tried-18 : (proposed : Bool) → IsTried proposed 18
tried-18 proposed = inl refl

pub tried-19 : (proposed : Bool) → proposed ≡ false → IsTried proposed 19
tried-19 proposed bad = inr (inl (refl, bad))

pub tried-20 : (proposed : Bool) → IsTried proposed 20
tried-20 proposed = inr (inr (omega arith, omega arith))

pub follows-memory : {T : Type 0} (proposed : Bool) (rows : OutPoint → Option Row) (t : Transaction) → FollowsRows {T = T} proposed rows t (Err (Read NoMemory))
follows-memory proposed rows t = record {
  formless = λ bad. inr refl;
  unproposed = λ form bad. inr refl;
  lost = λ form named bad. inr refl;
  form = λ same. absurd (cc);
  named = λ same. absurd (cc);
  live = λ same. absurd (cc);
}

pub follows-form : {T : Type 0} (proposed : Bool) (rows : OutPoint → Option Row) (t : Transaction) → has_form t ≡ false
    → FollowsRows {T = T} proposed rows t (Err (Broken TransactionForm))
follows-form proposed rows t bad = record {
  formless = λ again. inl refl;
  unproposed = λ form again. absurd (cc);
  lost = λ form named again. absurd (cc);
  form = λ same. bad;
  named = λ same. absurd (cc);
  live = λ same. absurd (cc);
}

pub follows-unproposed : {T : Type 0} (proposed : Bool) (rows : OutPoint → Option Row) (t : Transaction) → has_form t ≡ true → proposed ≡ false
    → FollowsRows {T = T} proposed rows t (Err (Broken Proposed))
follows-unproposed proposed rows t form bad = record {
  formless = λ other. absurd (cc);
  unproposed = λ same again. inl refl;
  lost = λ same other lost. absurd (cc);
  form = λ same. absurd (cc);
  named = λ same. (form, bad);
  live = λ same. absurd (cc);
}

pub follows-lost : {T : Type 0} (proposed : Bool) (rows : OutPoint → Option Row) (t : Transaction) → has_form t ≡ true → proposed ≡ true
    → spends_rows rows t ≡ false → FollowsRows {T = T} proposed rows t (Err (Broken Inputs))
follows-lost proposed rows t form named bad = record {
  formless = λ other. absurd (cc);
  unproposed = λ same other. absurd (cc);
  lost = λ same again lost. inl refl;
  form = λ same. absurd (cc);
  named = λ same. absurd (cc);
  live = λ same. (form, (named, bad));
}

-- where all three are kept it stops later
pub follows-kept : {T : Type 0} (proposed : Bool) (rows : OutPoint → Option Row) (t : Transaction) (result : Result T TxStop) → has_form t ≡ true
    → proposed ≡ true → spends_rows rows t ≡ true → StopsLater result → FollowsRows proposed rows t result
follows-kept proposed rows t result form named spends later = record {
  formless = λ other. absurd (cc);
  unproposed = λ same other. absurd (cc);
  lost = λ same again other. absurd (cc);
  form = λ same. absurd (let high = later-rule result TransactionForm later same in omega (arith, high));
  named = λ same. absurd (let high = later-rule result Proposed later same in omega (arith, high));
  live = λ same. absurd (let high = later-rule result Inputs later same in omega (arith, high));
}

-- ---- Handed on

pub follows-on : {T U : Type 0} (proposed : Bool) (rows : OutPoint → Option Row) (t : Transaction) (stop : TxStop)
    → FollowsRows {T = T} proposed rows t (Err stop) → FollowsRows {T = U} proposed rows t (Err stop)
follows-on proposed rows t stop follows = record {
  formless = follows.formless;
  unproposed = follows.unproposed;
  lost = follows.lost;
  form = λ same. follows.form (cc);
  named = λ same. follows.named (cc);
  live = λ same. follows.live (cc);
}

-- what is kept where a step goes on, and what it answers after it
by_true : (b : Bool) → (b ≡ false → ⊥) → b ≡ true
by_true true none = refl
by_true false none = absurd (none refl)

pub follows-behind : {T U : Type 0} (proposed : Bool) (rows : OutPoint → Option Row) (t : Transaction) (v : T) (result : Result U TxStop)
    → FollowsRows {T = T} proposed rows t (Ok v) → StopsLater result → FollowsRows proposed rows t result
follows-behind proposed rows t v result done later =
    follows-kept proposed rows t result form named (by_true (spends_rows rows t) (done.lost form named)) later
  where
    form : has_form t ≡ true
    form = by_true (has_form t) done.formless

    named : proposed ≡ true
    named = by_true proposed (done.unproposed form)
