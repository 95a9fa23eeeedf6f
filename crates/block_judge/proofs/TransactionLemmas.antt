-- The rules on a transaction, tried one group after another.
use Rattle.std.proofs.Common.{◌≡◌, ℕ, inl, inr, Bool, true, List, [], ◌∷◌, ◌++◌, map, Option, None, refl, sym, ap, ◌∙◌, subst, arith}
use Rattle.std.specs.Prelude.{IsOkAnd}
use Rattle.std.specs.List.{All, AllZip}
use Rattle.std.proofs.lemmas.List.Elements.{All-nil, All-cons, All-head, All-tail}
use Rattle.chain_defs.specs.Schema.{OutPoint, Block, Transaction}
use Rattle.chain_defs.specs.First.{first_failing}
use Rattle.chain_defs.proofs.FirstLemmas.{first_failing-append-fails, first_failing-append-holds, finds_none}
use Rattle.outside.specs.declared.disk.ReadStop.TheVariants.{DiskFault, NoMemory, Damaged}
use Rattle.chain_tree.specs.Told.{Stored}
use Rattle.chain_defs.specs.Row.{Row}
use Rattle.cell_state.specs.Copies.{ResolvedValue, ResolvedTxValue}
use Rattle.rule_defs.specs.Site.{Site, Found}
use Rattle.rule_defs.specs.Resolving.{inputs}
use Rattle.rule_defs.specs.Capacity.{fee, interest}
use Rattle.rule_defs.specs.Field.{freed_by}
use Rattle.rule_defs.specs.TransactionRules.{form_rules, cell_rules}
use Rattle.verdict_defs.specs.Scene.{scene_of}
use Rattle.verdict_defs.specs.ScriptRules.{script_rules, cycles_of}
use Rattle.verdict_defs.specs.Judged.{judged_where, passed_at, unless_broken}
use Rattle.verdict_defs.proofs.JudgedLemmas.{passes-by, passes-with}
use Rattle.tx_rules.specs.At.{AtValue, found_row}
use Rattle.tx_rules.specs.Copying.{CopiesItsRow, HoldsOutput, row_in}
use Rattle.tx_rules.specs.Outcome.{Copies, IsFormed, IsResolved, IsTried, rules_to_27}
use Rattle.tx_rules.specs.Steps.{StopsAt}
use Rattle.tx_rules.specs.declared.resolving.TxStop.{TxStop}
use Rattle.tx_rules.specs.declared.resolving.TxStop.TheVariants as resolving
use Rattle.rule_defs.specs.RuleNumber.{rule_number}
use Rattle.rule_defs.specs.declared.rule.Rule.{Rule}
use Rattle.block_judge.specs.declared.stop.JudgeStop.{JudgeStop}
use Rattle.block_judge.specs.declared.stop.JudgeStop.TheVariants.{Broken}
use Rattle.block_judge.specs.declared.transactions.PassedTransaction.{PassedTransaction}
use Rattle.block_judge.specs.Answers.{AreCycles, IsPassed, StopsAs, judged_scripts}
use Rattle.block_judge.specs.Inputs.{AreInputsOf}
use Rattle.block_judge.specs.Standing.{IsTriedAlone, IsTriedOnTransaction}
use Rattle.block_judge.specs.Stops.{of_resolving}
use Rattle.block_judge.proofs.AnswerLemmas.{stops-within}
use Rattle.block_judge.proofs.Exits.{not_both}

-- ---- Up to J27, and the scripts after

module _ (site : Site) (left : ℕ) (t : Transaction) (proposed : Bool) where
  abbrev scripts : List (ℕ × Bool)
  scripts = script_rules (scene_of site t) left

  -- what a stop of resolving is answered as
  pub stops-resolving : (stop : TxStop) → StopsAt (rules_to_27 proposed site t) stop
      → StopsAs (judged_where proposed site left t) (of_resolving stop)
  unfolding judged_where
  stops-resolving (resolving.Broken rule) at =
      ap (unless_broken (passed_at site left t)) (first_failing-append-fails (rule_number rule) (rules_to_27 proposed site t) scripts at)
  stops-resolving (resolving.Read DiskFault) at = tt
  stops-resolving (resolving.Read NoMemory) at = tt
  stops-resolving (resolving.Read (Damaged damage)) at = at

  -- one that keeps them is judged by its scripts
  leaves-scripts : first_failing (rules_to_27 proposed site t) ≡ None
      → first_failing (form_rules t ++ (19, proposed) ∷ cell_rules site t ++ scripts) ≡ first_failing scripts
  leaves-scripts is = first_failing-append-holds (rules_to_27 proposed site t) scripts ((finds_none (rules_to_27 proposed site t)).0 is)

  pub stops-running : (its : Transaction) (stop : JudgeStop) → its ≡ t → first_failing (rules_to_27 proposed site t) ≡ None
      → StopsAs (judged_scripts (scene_of site its) left) stop → StopsAs (judged_where proposed site left t) stop
  unfolding judged_where
  stops-running its stop same is stops =
      stops-within (cycles_of (scene_of site t) left) (passed_at site left t) (first_failing scripts)
      (first_failing (form_rules t ++ (19, proposed) ∷ cell_rules site t ++ scripts)) stop (λ rule broken. leaves-scripts is ∙ broken)
      (subst (λ (it : Transaction). StopsAs (judged_scripts (scene_of site it) left) stop) same stops)

  pub answers-passed : (kept : List Block) (parent : ℕ) (its : Transaction) (passed : PassedTransaction) → its ≡ t → first_failing (rules_to_27 proposed site t) ≡ None
      → IsOkAnd (judged_scripts (scene_of site its) left) (λ taken. AreCycles taken passed.cycles) → passed.fee ≡ fee site t → passed.interest ≡ interest site t
      → passed.freed ≡ freed_by site t → map row_in passed.inputs.items ≡ map (found_row kept parent) (inputs site t)
      → IsOkAnd (judged_where proposed site left t) (λ passes. IsPassed kept parent passes passed)
  unfolding judged_where
  answers-passed kept parent its passed same is runs pays withdraws frees spends =
      let ran = passes-by (cycles_of (scene_of site t) left) (first_failing scripts) (λ taken. AreCycles taken passed.cycles)
      (subst (λ (it : Transaction). IsOkAnd (judged_scripts (scene_of site it) left) (λ taken. AreCycles taken passed.cycles)) same runs) in
      passes-with (passed_at site left t) (first_failing (form_rules t ++ (19, proposed) ∷ cell_rules site t ++ scripts)) (λ passes. IsPassed kept parent passes passed)
      (leaves-scripts is ∙ ran.0) (record { fee_is = pays; interest_is = withdraws; freed_is = frees; cycles_are = ran.1; rows_are = spends })

-- the rules that are tried
pub tried-resolving : (proposed : Bool) (stop : TxStop) (rule : Rule) → ((its : Rule) → stop ≡ resolving.Broken its → IsTried proposed (rule_number its))
    → of_resolving stop ≡ Broken rule → IsTriedOnTransaction (rule_number rule)
tried-resolving proposed (resolving.Read stop) rule tried same = absurd (cc)
tried-resolving proposed (resolving.Broken its) rule tried same = by_tried by_rule (tried its refl)
  where
    by_rule : rule_number its ≡ rule_number rule
    by_rule = cc

    by_tried : rule_number its ≡ rule_number rule → IsTried proposed (rule_number its) → IsTriedOnTransaction (rule_number rule)
    by_tried is (inl at) = (omega (arith, is, at), omega (arith, is, at))
    by_tried is (inr (inl at)) = let here = at.0 in (omega (arith, is, here), omega (arith, is, here))
    by_tried is (inr (inr at)) = (omega (arith, is, at.0), omega (arith, is, at.1))

pub alone-resolving : (proposed : Bool) (stop : TxStop) (rule : Rule) → proposed ≡ true
    → ((its : Rule) → stop ≡ resolving.Broken its → IsTried proposed (rule_number its)) → of_resolving stop ≡ Broken rule → IsTriedAlone (rule_number rule)
alone-resolving proposed (resolving.Read stop) rule alone tried same = absurd (cc)
alone-resolving proposed (resolving.Broken its) rule alone tried same = by_tried by_rule (tried its refl)
  where
    by_rule : rule_number its ≡ rule_number rule
    by_rule = cc

    by_tried : rule_number its ≡ rule_number rule → IsTried proposed (rule_number its) → IsTriedAlone (rule_number rule)
    by_tried is (inl at) = inl (omega (arith, is, at))
    by_tried is (inr (inl at)) = let bad = at.1 in absurd (not_both alone bad)
    by_tried is (inr (inr at)) = inr (omega (arith, is, at.0), omega (arith, is, at.1))

-- ---- Steps

-- What a transaction resolves to is that of the one that it holds.
pub its-transaction : {its resolved : ResolvedTxValue} (t : Transaction) → its ≡ resolved → resolved.tx ≡ t → its.tx ≡ t
its-transaction t same is = ap (λ (it : ResolvedTxValue). it.tx) same ∙ is

pub resolved-own : {its resolved : ResolvedTxValue} (kept : List Block) (parent : ℕ) (site : Site) (t : Transaction) → its ≡ resolved → resolved.tx ≡ t
    → IsResolved kept parent site t resolved → IsResolved kept parent site its.tx its
resolved-own {resolved = resolved} kept parent site t same holds is =
    subst (λ (it : ResolvedTxValue). IsResolved kept parent site it.tx it) (sym same)
    (subst (λ (it : Transaction). IsResolved kept parent site it resolved) (sym holds) is)

-- the rows of copies of cells
rows-same : (kept : List Block) (parent : ℕ) (founds : List Found) (copies : List ResolvedValue) → AllZip (Copies kept parent) founds copies
    → map row_in copies ≡ map (found_row kept parent) founds
rows-same kept parent [] [] each = refl
rows-same kept parent [] (copy ∷ copies) each = absurd each
rows-same kept parent (found ∷ founds) [] each = absurd each
rows-same kept parent (found ∷ founds) (copy ∷ copies) each =
    ap (λ (row : OutPoint × Row). row ∷ map row_in copies) each.0.row
    ∙ ap (λ (rows : List (OutPoint × Row)). found_row kept parent found ∷ rows) (rows-same kept parent founds copies each.1)

pub spent-rows : {its resolved : ResolvedTxValue} (kept : List Block) (parent : ℕ) (site : Site) (t : Transaction) → its ≡ resolved
    → IsResolved kept parent site t resolved → map row_in its.inputs ≡ map (found_row kept parent) (inputs site t)
spent-rows {resolved = resolved} kept parent site t same is =
    ap (λ (it : ResolvedTxValue). map row_in it.inputs) same ∙ rows-same kept parent (inputs site t) resolved.inputs is.inputs_are

-- ---- The cells of its inputs, over any source of blocks

all-first : {X : Type 0} (P : X → Type 0) (xs ys : List X) → All P (xs ++ ys) → All P xs
all-first P [] ys all = All-nil P
all-first P (x ∷ xs) ys all = All-cons P x xs (All-head P x (xs ++ ys) all) (all-first P xs ys (All-tail P x (xs ++ ys) all))

pub inputs-of : {its resolved : ResolvedTxValue} (told : Option (List Stored)) (at : AtValue) (t : Transaction) → its ≡ resolved → IsFormed at.entries t resolved
    → All (CopiesItsRow told at) (resolved.inputs ++ resolved.deps) → AreInputsOf told at t its.inputs
inputs-of {resolved = resolved} told at t same formed each =
    subst (λ (it : ResolvedTxValue). AreInputsOf told at t it.inputs) (sym same) (record {
      out_points = formed.inputs;
      outputs = all-first HoldsOutput resolved.inputs resolved.deps formed.outputs;
      of_rows = all-first (CopiesItsRow told at) resolved.inputs resolved.deps each;
    })
