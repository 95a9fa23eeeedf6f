-- The events of a block that may join fit the cells that are live on its parent's branch.
use Rattle.std.proofs.Common.{◌≡◌, ℕ, suc, ◌+◌, Bool, true, false, cond, List, [], ◌∷◌, ◌++◌, map, length, take, drop, Option, None, refl, sym, ap, ◌∙◌, subst, arith}
use Rattle.std.specs.Prelude.{◌&&◌, not, IsTrue, is_some}
use Rattle.std.specs.List.{list_any}
use Rattle.std.proofs.lemmas.Bool.{and_parts, not-true}
use Rattle.std.proofs.lemmas.List.{append-nil, append_assoc, length_push, take_at}
use Rattle.std.proofs.lemmas.List.Elements.{All-head}
use Rattle.chain_defs.specs.Shape.{encoded}
use Rattle.chain_defs.specs.Schema.{OutPoint, out_point, CellInput, Transaction, Block}
use Rattle.chain_defs.specs.First.{AllHold}
use Rattle.chain_defs.specs.Hashes.{are_distinct}
use Rattle.chain_defs.specs.Branch.{branch}
use Rattle.chain_defs.specs.Specification.{Specification}
use Rattle.chain_defs.specs.Cell.{Cell, outputs_hold_their_own}
use Rattle.chain_defs.specs.Events.{Event, made_out_points, events_of, events_from, events_of_block, events, cell_after, live_cell}
use Rattle.rule_defs.specs.Site.{Site, site_at, find_cell, all_there}
use Rattle.rule_defs.specs.TransactionRules.{form_rules, cell_rules}
use Rattle.rule_defs.specs.Resolving.{spends_live_cells, spends_each_once, input_cells}
use Rattle.rule_defs.specs.Capacity.{makes_good_cells}
use Rattle.verdict_defs.specs.Scene.{scene_of}
use Rattle.verdict_defs.specs.ScriptRules.{script_rules}
use Rattle.rule_defs.specs.Cellbase.{forms_cellbase, is_first_well_formed, is_well_formed_cellbase, names_lock}
use Rattle.verdict_defs.specs.Transactions.{is_proposed, transaction_rules, left_after, rules_from}
use Rattle.verdict_defs.specs.Rules.{first_broken}
use Rattle.store_defs.specs.JoinedLaws.{WhatJoinsFits}
use Rattle.store_defs.proofs.RuleLemmas.{holds-prefix, holds-after, forms-unbroken, transactions-unbroken}
use Rattle.store_defs.proofs.EventFit.{FitAfter, FitAfter-append, all-fit}
use Rattle.store_defs.proofs.TransactionFit.{AllLive, all-live, NoneMade, transaction-fits, cellbase-fits}

-- ---- What two of the rules on a transaction say

-- its inputs are live and distinct, and none of its out-points is live
record Fitting (cell : OutPoint → Option Cell) (t : Transaction) : Type 0 where
  live : AllLive cell t.raw.inputs
  distinct : are_distinct (map (λ (input : CellInput). encoded out_point input.previous_output) t.raw.inputs) ≡ true
  none : NoneMade cell t

-- J20 and J25 say so.
fitting : (site : Site) (t : Transaction) → IsTrue (spends_live_cells site t) → IsTrue (makes_good_cells site t) → Fitting site.cell t
unfolding input_cells
fitting site t spends makes = by_once (spends_each_once t) refl spends
  where
    none : NoneMade site.cell t
    none = not-true (list_any (λ o. is_some (site.cell o)) (made_out_points t))
        (and_parts (outputs_hold_their_own t) (not (list_any (λ o. is_some (site.cell o)) (made_out_points t))) makes).1

    by_once : (once : Bool) → spends_each_once t ≡ once
        → IsTrue (is_some (cond once (all_there (map (λ (input : CellInput). find_cell site input.previous_output) t.raw.inputs)) None)) → Fitting site.cell t
    by_once true is some = record { live = all-live site t.raw.inputs some; distinct = is; none = none }
    by_once false is some = absurd (cc)

-- the rows of J20 and of J25 among those on a transaction
fitting-rules : (site : Site) (left : ℕ) (t : Transaction) → AllHold (transaction_rules site left t) → Fitting site.cell t
fitting-rules site left t hold = fitting site t
    (All-head (λ rule. IsTrue rule.1) (20, spends_live_cells site t) (drop 1 (cell_rules site t)) cells)
    (All-head (λ rule. IsTrue rule.1) (25, makes_good_cells site t) (drop 6 (cell_rules site t))
    (holds-after (take 5 (cell_rules site t)) (drop 5 (cell_rules site t)) cells))
  where
    cells : AllHold (cell_rules site t)
    cells = holds-prefix (cell_rules site t) (script_rules (scene_of site t) left)
        (holds-after (form_rules t ++ (19, is_proposed site.spec site.branch t) ∷ []) (cell_rules site t ++ script_rules (scene_of site t) left) hold)

-- ---- One transaction after the other

-- one transaction more at the end
pub events_from-push : (place : ℕ) (earlier : List Transaction) (t : Transaction) (height : ℕ)
    → events_from place (earlier ++ t ∷ []) height ≡ events_from place earlier height ++ events_of t height (place + length earlier)
events_from-push place [] t height =
    let at : place ≡ place + 0 = omega arith in append-nil (events_of t height place) ∙ ap (events_of t height) at
events_from-push place (first ∷ earlier) t height =
    let at : (place + 1) + length earlier ≡ place + length (first ∷ earlier) = omega arith in
    ap (λ (behind : List Event). events_of first height place ++ behind) (events_from-push (place + 1) earlier t height)
    ∙ sym (append_assoc (events_of first height place) (events_from (place + 1) earlier height) (events_of t height ((place + 1) + length earlier)))
    ∙ ap (λ (n : ℕ). (events_of first height place ++ events_from (place + 1) earlier height) ++ events_of t height n) at

-- The events of transactions that keep their rules fit after those of the earlier ones of their block.
transactions-fit : (spec : Specification) (on : List Block) (b : Block) (place left : ℕ) (earlier later : List Transaction) → b.transactions ≡ earlier ++ later
    → length earlier ≡ place → AllHold (rules_from spec on b place left later)
    → FitAfter (events on ++ events_from 0 earlier (length on)) (events_from place later (length on))
unfolding rules_from
transactions-fit spec on b place left earlier [] parts long hold = tt
transactions-fit spec on b place left earlier (t ∷ later) parts long hold =
    FitAfter-append (events on ++ events_from 0 earlier height) (events_of t height place) (events_from (place + 1) later height)
    (transaction-fits (encoded out_point) (events on ++ events_from 0 earlier height) t height place fit.live fit.distinct fit.none)
    (subst (λ (front : List Event). FitAfter front (events_from (place + 1) later height)) more
    (transactions-fit spec on b (place + 1) (left_after site left t) (earlier ++ t ∷ []) later (parts ∙ sym (append_assoc earlier (t ∷ []) later))
    (length_push earlier t ∙ ap (λ (n : ℕ). n + 1) long)
    (subst (λ (n : ℕ). AllHold (rules_from spec on b n (left_after site left t) later)) next
    (holds-after (transaction_rules site left t) (rules_from spec on b (suc place) (left_after site left t) later) hold))))
  where
    height : ℕ
    height = length on

    site : Site
    site = site_at spec on b place

    next : suc place ≡ place + 1
    next = omega arith

    before : take place b.transactions ≡ earlier
    before = ap (take place) parts ∙ ap (λ (n : ℕ). take n (earlier ++ t ∷ later)) (sym long) ∙ take_at earlier (t ∷ later) (length earlier) refl

    fit : Fitting (cell_after (events on ++ events_from 0 earlier (length on))) t
    fit = subst (λ (front : List Transaction). Fitting (cell_after (events on ++ events_from 0 front (length on))) t) before
        (fitting-rules site left t (holds-prefix (transaction_rules site left t) (rules_from spec on b (suc place) (left_after site left t) later) hold))

    more : events on ++ events_from 0 (earlier ++ t ∷ []) (length on) ≡ (events on ++ events_from 0 earlier (length on)) ++ events_of t (length on) place
    more = ap (λ (behind : List Event). events on ++ behind) (events_from-push 0 earlier t (length on)
        ∙ ap (λ (n : ℕ). events_from 0 earlier (length on) ++ events_of t (length on) n) (at ∙ long))
        ∙ sym (append_assoc (events on) (events_from 0 earlier (length on)) (events_of t (length on) place))
      where
        at : 0 + length earlier ≡ length earlier
        at = omega arith

-- ---- The block

-- J17: no out-point of the cellbase's output is live.
cellbase-makes : (live : OutPoint → Option Cell) (number : ℕ) (first : Transaction) → IsTrue (is_well_formed_cellbase live number first) → NoneMade live first
cellbase-makes live number first formed =
    let none : Bool = not (list_any (λ o. is_some (live o)) (made_out_points first)) in
    let parts = and_parts (_ && none) (names_lock first) formed in
    not-true (list_any (λ o. is_some (live o)) (made_out_points first)) (and_parts _ none parts.0).1

-- The events of a block that breaks no rule fit the cells that are live on its branch.
pub block-fits : (spec : Specification) (on : List Block) (b : Block) → first_broken spec on b ≡ None → FitAfter (events on) (events_of_block (length on) b)
unfolding events_of_block forms_cellbase
block-fits spec on b unbroken = by_list b.transactions refl
  where
    by_list : (transactions : List Transaction) → b.transactions ≡ transactions → FitAfter (events on) (events_from 0 transactions (length on))
    by_list [] is = tt
    by_list (first ∷ later) is =
        FitAfter-append (events on) (events_of first (length on) 0) (events_from 1 later (length on))
        (cellbase-fits (events on) first (length on) (cellbase-makes (live_cell on) b.header.number first
        (sym (ap (is_first_well_formed (live_cell on) b.header.number) is) ∙ forms-unbroken spec on b unbroken)))
        (subst (λ (front : List Event). FitAfter (events on ++ front) (events_from 1 later (length on))) (append-nil (events_of first (length on) 0))
        (transactions-fit spec on b 1 spec.max_cycles (first ∷ []) later is refl
        (subst (λ (transactions : List Transaction). AllHold (rules_from spec on b 1 spec.max_cycles (drop 1 transactions))) is
        (transactions-unbroken spec on b unbroken))))

-- Each rule looks at the cells that are live just before: so no more of the chain is needed than that the block breaks none.
pub what-joins-fits : WhatJoinsFits
what-joins-fits chain b may =
    all-fit (events (branch chain.blocks may.parent)) (events_of_block (length (branch chain.blocks may.parent)) b)
    (block-fits chain.spec (branch chain.blocks may.parent) b may.unbroken)
