-- J18 and J20 over any source of blocks.
use Rattle.std.proofs.Common.{◌≡◌, ℕ, zero, suc, ◌+◌, ◌-◌, ◌<◌, inl, inr, Bool, true, false, Result, Ok, Err, refl, ap, ◌∙◌, subst, arith}
use Rattle.std.specs.Prelude.{Option, IsErrAnd}
use Rattle.outside.specs.declared.disk.ReadStop.TheVariants.{DiskFault, NoMemory, Damaged}
use Rattle.chain_defs.specs.Schema.{OutPoint, Transaction}
use Rattle.chain_defs.specs.Row.{Row}
use Rattle.rule_defs.specs.TransactionRules.{has_form}
use Rattle.tx_rules.specs.At.{spends_rows}
use Rattle.tx_rules.specs.Outcome.{FollowsRows, IsStopAt, IsTried}
use Rattle.tx_rules.specs.declared.resolving.TxStop.{TxStop}
use Rattle.tx_rules.specs.declared.resolving.TxStop.TheVariants as resolving
use Rattle.rule_defs.specs.RuleNumber.{rule_number}
use Rattle.rule_defs.specs.declared.rule.Rule.{Rule}
use Rattle.rule_defs.specs.declared.rule.Rule.TheVariants.{TransactionForm, Inputs}
use Rattle.rule_defs.proofs.NumberLemmas.{same-number}
use Rattle.block_judge.specs.declared.stop.JudgeStop.{JudgeStop}
use Rattle.block_judge.specs.declared.stop.JudgeStop.TheVariants.{Broken, Read}
use Rattle.block_judge.specs.Stops.{of_resolving}
use Rattle.block_judge.specs.ByRows.{StopsByRows}
use Rattle.block_judge.proofs.Exits.{not_both}

-- an answer other than these stops follows where both are kept, of one that is proposed
kept-by-rows : {T : Type 0} (proposed : Bool) (rows : OutPoint → Option Row) (t : Transaction) (result : Result T TxStop) → proposed ≡ true
    → FollowsRows proposed rows t result → (IsErrAnd result (IsStopAt TransactionForm) → ⊥) → (IsErrAnd result (IsStopAt Inputs) → ⊥)
    → (has_form t ≡ true) × (spends_rows rows t ≡ true)
kept-by-rows proposed rows t result named follows no_form no_cell =
    let form : has_form t ≡ true = by_form (has_form t) refl in (form, by_cell (spends_rows rows t) refl form)
  where
    by_form : (b : Bool) → has_form t ≡ b → b ≡ true
    by_form true same = refl
    by_form false same = absurd (no_form (follows.formless same))

    by_cell : (b : Bool) → spends_rows rows t ≡ b → has_form t ≡ true → b ≡ true
    by_cell true same form = refl
    by_cell false same form = absurd (no_cell (follows.lost form named same))

-- what is resolved keeps both
pub resolved-by-rows : {T : Type 0} (proposed : Bool) (rows : OutPoint → Option Row) (t : Transaction) (ok : T) (result : Result T TxStop)
    → proposed ≡ true → FollowsRows proposed rows t result → result ≡ Ok ok → (has_form t ≡ true) × (spends_rows rows t ≡ true)
resolved-by-rows {T = T} proposed rows t ok result named follows was =
    kept-by-rows proposed rows t result named follows (λ stops. subst (λ (r : Result T TxStop). IsErrAnd r (IsStopAt TransactionForm)) was stops)
    (λ stops. subst (λ (r : Result T TxStop). IsErrAnd r (IsStopAt Inputs)) was stops)

-- a stop that is neither of these two rules keeps both
stopped-by-rows : {T : Type 0} (proposed : Bool) (rows : OutPoint → Option Row) (t : Transaction) (stop : TxStop) (result : Result T TxStop)
    → proposed ≡ true → FollowsRows proposed rows t result → result ≡ Err stop → (IsStopAt TransactionForm stop → ⊥) → (IsStopAt Inputs stop → ⊥)
    → (has_form t ≡ true) × (spends_rows rows t ≡ true)
stopped-by-rows {T = T} proposed rows t stop result named follows was no_form no_cell =
    kept-by-rows proposed rows t result named follows (λ stops. no_form (subst (λ (r : Result T TxStop). IsErrAnd r (IsStopAt TransactionForm)) was stops))
    (λ stops. no_cell (subst (λ (r : Result T TxStop). IsErrAnd r (IsStopAt Inputs)) was stops))

not-at : (one rule : Rule) → (rule_number rule ≡ rule_number one → ⊥) → IsStopAt one (resolving.Broken rule) → ⊥
not-at one rule other (inl same) = other cc
not-at one rule other (inr same) = absurd (cc)

-- what a stop of resolving is answered as, of one that is proposed
pub stops-by-rows : {T : Type 0} (proposed : Bool) (rows : OutPoint → Option Row) (t : Transaction) (stop : TxStop) (result : Result T TxStop)
    → proposed ≡ true → FollowsRows proposed rows t result → ((rule : Rule) → result ≡ Err (resolving.Broken rule) → IsTried proposed (rule_number rule))
    → result ≡ Err stop → StopsByRows (has_form t) (spends_rows rows t) (of_resolving stop)
stops-by-rows proposed rows t (resolving.Read NoMemory) result named follows tried was = tt
stops-by-rows proposed rows t (resolving.Read DiskFault) result named follows tried was =
    stopped-by-rows proposed rows t (resolving.Read DiskFault) result named follows was no no
  where
    no : {one : Rule} → IsStopAt one (resolving.Read DiskFault) → ⊥
    no (inl same) = absurd (cc)
    no (inr same) = absurd (cc)
stops-by-rows proposed rows t (resolving.Read (Damaged damage)) result named follows tried was =
    stopped-by-rows proposed rows t (resolving.Read (Damaged damage)) result named follows was no no
  where
    no : {one : Rule} → IsStopAt one (resolving.Read (Damaged damage)) → ⊥
    no (inl same) = absurd (cc)
    no (inr same) = absurd (cc)
stops-by-rows {T = T} proposed rows t (resolving.Broken rule) result named follows tried was = by_tried (tried rule was)
  where
    as_error : Rule → Result T TxStop
    as_error it = Err (resolving.Broken it)

    by_rest : (rest : ℕ) → rule_number rule ≡ 20 + rest → StopsByRows (has_form t) (spends_rows rows t) (Broken rule)
    by_rest zero same = let its = follows.live (was ∙ ap as_error (same-number rule Inputs same)) in inr (its.0, inl (same, its.1.1))
    by_rest (suc rest) same =
        let kept = stopped-by-rows proposed rows t (resolving.Broken rule) result named follows was (not-at TransactionForm rule (λ is. omega (arith, same, is)))
        (not-at Inputs rule (λ is. omega (arith, same, is))) in
        inr (kept.0, inr (omega (arith, same), kept.1))

    by_tried : IsTried proposed (rule_number rule) → StopsByRows (has_form t) (spends_rows rows t) (Broken rule)
    by_tried (inl same) = inl (same, follows.form (was ∙ ap as_error (same-number rule TransactionForm same)))
    by_tried (inr (inl its)) = let bad = its.1 in absurd (not_both named bad)
    by_tried (inr (inr within)) = by_rest (rule_number rule - 20) (omega (arith, within.0))

-- a stop after both
pub later-by-rows : (form spends : Bool) (stop : JudgeStop) → (form ≡ true) × (spends ≡ true) → ((rule : Rule) → stop ≡ Broken rule → 20 < rule_number rule)
    → StopsByRows form spends stop
later-by-rows form spends (Broken rule) kept later = inr (kept.0, inr (later rule refl, kept.1))
later-by-rows form spends (Read NoMemory) kept later = tt
later-by-rows form spends (Read DiskFault) kept later = kept
later-by-rows form spends (Read (Damaged damage)) kept later = kept
