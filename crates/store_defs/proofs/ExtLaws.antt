-- The rows of the ext of a block that may join are those that its events spend.
use Rattle.std.proofs.Common.{◌≡◌, ℕ, suc, ◌+◌, ◌-◌, ◌<◌, Bool, true, false, cond, List, [], ◌∷◌, ◌++◌, map, length, take, drop, Option, Some, None, is_some, if◌then◌else◌, refl, sym, ap, ◌∙◌, subst, arith}
use Rattle.std.specs.Prelude.{◌||◌, ◌==◌, nat_lt, IsTrue, unwrap_or}
use Rattle.std.specs.Option.{option_map, option_or, option_and_then}
use Rattle.std.specs.List.{list_any, filter_map, cons_option}
use Rattle.std.proofs.lemmas.Bool.{or_right, ne_eqb, false_from_ne_true}
use Rattle.std.proofs.lemmas.Bool.Decides.{Decides-ltb}
use Rattle.std.proofs.lemmas.List.{append-nil, append_assoc, length_push, take_at}
use Rattle.std.proofs.lemmas.List.Elements.{All-head}
use Rattle.std.proofs.lemmas.Option.{same_Some, slice_get_within}
use Rattle.chain_defs.specs.Shape.{encoded}
use Rattle.chain_defs.specs.Schema.{OutPoint, out_point, CellInput, CellOutput, Transaction, Block}
use Rattle.chain_defs.specs.First.{AllHold}
use Rattle.chain_defs.specs.Kept.{place_of}
use Rattle.chain_defs.specs.Branch.{branch}
use Rattle.chain_defs.proofs.KeptLaws.{slice_get-below, place_of-below}
use Rattle.chain_defs.proofs.BranchLaws.{branch-last}
use Rattle.chain_defs.specs.Specification.{Specification}
use Rattle.chain_defs.specs.Cell.{Cell}
use Rattle.chain_defs.specs.Events.{Event, Makes, Spends, names, last_naming, cell_left, cell_after, live_cell, makes_from, makes_of, spends_of, events_of, events_from, events_of_block, events}
use Rattle.chain_defs.specs.Row.{Row, row_on, live_row}
use Rattle.chain_defs.specs.Fit.{are_live}
use Rattle.chain_defs.proofs.EventLemmas.{EachMade, EachMade-append, made-last, last_naming-append}
use Rattle.chain_defs.proofs.OutputLaws.{cells-are-outputs}
use Rattle.chain_defs.proofs.FitLemmas.{row-where-cell, all-same}
use Rattle.chain_defs.proofs.CellRowLaws.{live_row-join}
use Rattle.chain_defs.specs.Undo.{row_at, spent_of}
use Rattle.rule_defs.specs.Site.{Site, Found, site_at, height_at, find_cell, all_there}
use Rattle.rule_defs.specs.TransactionRules.{form_rules, cell_rules}
use Rattle.rule_defs.specs.Resolving.{spends_live_cells, spends_each_once, input_cells}
use Rattle.verdict_defs.specs.Scene.{scene_of}
use Rattle.verdict_defs.specs.ScriptRules.{script_rules}
use Rattle.verdict_defs.specs.Transactions.{is_proposed, transaction_rules, left_after, rules_from}
use Rattle.verdict_defs.specs.Ext.{row_before, rows_spent, spent_from, ext_of}
use Rattle.store_defs.proofs.RuleLemmas.{holds-prefix, holds-after, transactions-unbroken}
use Rattle.store_defs.proofs.FitLaws.{events_from-push, what-joins-fits}
use Rattle.store_defs.specs.ExtLaws.{ExtsHoldSpentRows, ExtsTakeBack}
use Rattle.store_defs.proofs.SpentLemmas.{left, left-at, left-append, spent-append, spent-nil, makes-none, rows_of, spent-inputs, unnamed-any, named-any}

-- ---- The rows of the cells that a transaction finds

-- a cell that a transaction sees has its row among some exactly where a block before made it
abbrev SeesRows : List Block → ℕ → Site → (OutPoint → Option Row) → Type 0
SeesRows kept parent site rows = (o : OutPoint) (cell : Cell) → site.cell o ≡ Some cell
    → rows o ≡ (if nat_lt cell.height (height_at site) then Some (row_on kept parent cell) else None)

row-kept : (p : OutPoint) (row : Row) (later : List (OutPoint × Row)) (b : Bool)
    → cons_option (if b then Some (p, row) else None) later ≡ row_at p (if b then Some row else None) ++ later
row-kept p row later true = refl
row-kept p row later false = refl

found-rows : (kept : List Block) (parent : ℕ) (site : Site) (rows : OutPoint → Option Row) → SeesRows kept parent site rows → (ins : List CellInput) (list : List Found)
    → all_there (map (λ (input : CellInput). find_cell site input.previous_output) ins) ≡ Some list
    → filter_map (row_before kept parent site) list ≡ rows_of ins rows
unfolding all_there
found-rows kept parent site rows sees [] list is = ap (filter_map (row_before kept parent site)) (sym (same_Some [] list is))
found-rows kept parent site rows sees (input ∷ later) list is = by_cell (site.cell p) refl is (found-rows kept parent site rows sees later)
  where
    p : OutPoint
    p = input.previous_output

    rest : Option (List Found)
    rest = all_there (map (λ (other : CellInput). find_cell site other.previous_output) later)

    at_first : (cell : Cell) → site.cell p ≡ Some cell → (vs : List Found) → filter_map (row_before kept parent site) vs ≡ rows_of later rows
        → filter_map (row_before kept parent site) (record { out_point = p; cell = cell } ∷ vs) ≡ row_at p (rows p) ++ rows_of later rows
    at_first cell seen vs same =
        ap (cons_option (row_before kept parent site (record { out_point = p; cell = cell }))) same
        ∙ row-kept p (row_on kept parent cell) (rows_of later rows) (nat_lt cell.height (height_at site))
        ∙ ap (λ (found : Option Row). row_at p found ++ rows_of later rows) (sym (sees p cell seen))

    by_rest : (cell : Cell) → site.cell p ≡ Some cell → (others : Option (List Found))
        → option_map (λ (vs : List Found). record { out_point = p; cell = cell } ∷ vs) others ≡ Some list
        → ((vs : List Found) → others ≡ Some vs → filter_map (row_before kept parent site) vs ≡ rows_of later rows)
        → filter_map (row_before kept parent site) list ≡ row_at p (rows p) ++ rows_of later rows
    by_rest cell seen None all each = absurd (cc)
    by_rest cell seen (Some vs) all each =
        ap (filter_map (row_before kept parent site)) (sym (same_Some (record { out_point = p; cell = cell } ∷ vs) list all))
        ∙ at_first cell seen vs (each vs refl)

    by_cell : (found : Option Cell) → site.cell p ≡ found
        → option_and_then (λ (v : Found). option_map (λ (vs : List Found). v ∷ vs) rest) (option_map (λ (cell : Cell). record { out_point = p; cell = cell }) found) ≡ Some list
        → ((vs : List Found) → rest ≡ Some vs → filter_map (row_before kept parent site) vs ≡ rows_of later rows)
        → filter_map (row_before kept parent site) list ≡ row_at p (rows p) ++ rows_of later rows
    by_cell None none all each = absurd (cc)
    by_cell (Some cell) seen all each = by_rest cell seen rest all each

-- ---- One transaction

transaction-rows : (kept : List Block) (parent : ℕ) (site : Site) (rows : OutPoint → Option Row) (t : Transaction) (height place : ℕ) → SeesRows kept parent site rows
    → ((height == 0) || (place == 0)) ≡ false → IsTrue (spends_live_cells site t)
    → rows_spent kept parent site t ≡ spent_of (events_of t height place) rows
unfolding input_cells
transaction-rows kept parent site rows t height place sees spends live = by_once (spends_each_once t) refl live
  where
    by_inputs : spent_of (events_of t height place) rows ≡ spent_of (spends_of t) rows
    by_inputs =
        ap (λ (b : Bool). spent_of ((if b then [] else spends_of t) ++ makes_of t height place) rows) spends
        ∙ spent-append (spends_of t) (makes_of t height place) rows
        ∙ ap (λ (list : List (OutPoint × Row)). spent_of (spends_of t) rows ++ list) (makes-none 0 t.raw.outputs t height place (left (spends_of t) rows))
        ∙ append-nil (spent_of (spends_of t) rows)

    by_found : (found : Option (List Found)) → all_there (map (λ (input : CellInput). find_cell site input.previous_output) t.raw.inputs) ≡ found
        → IsTrue (is_some found) → filter_map (row_before kept parent site) (unwrap_or found []) ≡ rows_of t.raw.inputs rows
    by_found None is some = absurd (cc)
    by_found (Some list) is some = found-rows kept parent site rows sees t.raw.inputs list is

    by_once : (once : Bool) → spends_each_once t ≡ once
        → IsTrue (is_some (cond once (all_there (map (λ (input : CellInput). find_cell site input.previous_output) t.raw.inputs)) None))
        → filter_map (row_before kept parent site)
        (unwrap_or (cond once (all_there (map (λ (input : CellInput). find_cell site input.previous_output) t.raw.inputs)) None) [])
        ≡ spent_of (events_of t height place) rows
    by_once true distinct some =
        by_found (all_there (map (λ (input : CellInput). find_cell site input.previous_output) t.raw.inputs)) refl some
        ∙ sym (by_inputs ∙ spent-inputs (encoded out_point) t.raw.inputs rows distinct)
    by_once false distinct some = absurd (cc)

-- ---- What a transaction of a block sees

abbrev IsAtHeight : ℕ → OutPoint → Cell → Type 0
IsAtHeight height o cell = cell.height ≡ height

high-makes : (index : ℕ) (outputs : List CellOutput) (t : Transaction) (height place : ℕ) → EachMade (IsAtHeight height) (makes_from index outputs t height place)
high-makes index [] t height place = tt
high-makes index (output ∷ outputs) t height place = (refl, high-makes (index + 1) outputs t height place)

high-spends : (height : ℕ) (ins : List CellInput) → EachMade (IsAtHeight height) (map (λ (input : CellInput). Spends input.previous_output) ins)
high-spends height [] = tt
high-spends height (input ∷ later) = high-spends height later

high-transaction : (t : Transaction) (height place : ℕ) → EachMade (IsAtHeight height) (events_of t height place)
high-transaction t height place =
    EachMade-append (IsAtHeight height) (if (height == 0) || (place == 0) then [] else spends_of t) (makes_of t height place) (spends ((height == 0) || (place == 0)))
    (high-makes 0 t.raw.outputs t height place)
  where
    spends : (b : Bool) → EachMade (IsAtHeight height) (if b then [] else spends_of t)
    spends true = tt
    spends false = high-spends height t.raw.inputs

high : (place : ℕ) (transactions : List Transaction) (height : ℕ) → EachMade (IsAtHeight height) (events_from place transactions height)
high place [] height = tt
high place (t ∷ later) height =
    EachMade-append (IsAtHeight height) (events_of t height place) (events_from (place + 1) later height) (high-transaction t height place) (high (place + 1) later height)

below-height : (blocks : List Block) (o : OutPoint) (cell : Cell) → live_cell blocks o ≡ Some cell → nat_lt cell.height (length blocks) ≡ true
below-height blocks o cell live =
    let made = cells-are-outputs blocks o cell live in (Decides-ltb cell.height (length blocks)).1 (slice_get_within blocks cell.height made.0 made.1)

not-below : (n m : ℕ) → n ≡ m → nat_lt n m ≡ false
not-below n m same = false_from_ne_true (nat_lt n m) (λ is. let below = (Decides-ltb n m).0 is in omega (arith, below, same))

seen-by : (last first : Option Event) (o : OutPoint) (cell : Cell) → cell_left (option_or last first) ≡ Some cell → last ≡ None → cell_left first ≡ Some cell
seen-by None first o cell seen is = seen
seen-by (Some event) first o cell seen is = absurd (cc)

sees : (kept : List Block) (parent : ℕ) (done : List Event) (o : OutPoint) (cell : Cell) → EachMade (IsAtHeight (length (branch kept parent))) done
    → cell_after (events (branch kept parent) ++ done) o ≡ Some cell
    → left done (live_row kept parent) o ≡ (if nat_lt cell.height (length (branch kept parent)) then Some (row_on kept parent cell) else None)
unfolding cell_after live_row
sees kept parent done o cell at_height seen =
    left-at done (live_row kept parent) o
    ∙ by_last (last_naming o done) refl (sym (ap cell_left (last_naming-append o (events (branch kept parent)) done)) ∙ seen)
  where
    by_last : (last : Option Event) → last_naming o done ≡ last → cell_left (option_or last (last_naming o (events (branch kept parent)))) ≡ Some cell
        → (if list_any (names o) done then None else live_row kept parent o)
        ≡ (if nat_lt cell.height (length (branch kept parent)) then Some (row_on kept parent cell) else None)
    by_last None none found =
        ap (λ (b : Bool). if b then None else live_row kept parent o) (unnamed-any o done none)
        ∙ ap (option_map (row_on kept parent)) found
        ∙ sym (ap (λ (b : Bool). if b then Some (row_on kept parent cell) else None) (below-height (branch kept parent) o cell found))
    by_last (Some (Makes q made)) last found =
        let same : made ≡ cell = same_Some made cell found in
        let of_block : cell.height ≡ length (branch kept parent) =
        ap (λ (c : Cell). c.height) (sym same) ∙ made-last (IsAtHeight (length (branch kept parent))) o done q made at_height last in
        ap (λ (b : Bool). if b then None else live_row kept parent o) (named-any o done (Makes q made) last)
        ∙ sym (ap (λ (b : Bool). if b then Some (row_on kept parent cell) else None) (not-below cell.height (length (branch kept parent)) of_block))
    by_last (Some (Spends q)) last found = absurd (cc)

-- ---- One transaction after the other

-- J20, by the rules on a transaction
live-by-rules : (site : Site) (left_cycles : ℕ) (t : Transaction) → AllHold (transaction_rules site left_cycles t) → IsTrue (spends_live_cells site t)
live-by-rules site left_cycles t hold =
    All-head (λ rule. IsTrue rule.1) (20, spends_live_cells site t) (drop 1 (cell_rules site t))
    (holds-prefix (cell_rules site t) (script_rules (scene_of site t) left_cycles)
    (holds-after (form_rules t ++ (19, is_proposed site.spec site.branch t) ∷ []) (cell_rules site t ++ script_rules (scene_of site t) left_cycles) hold))

from-rows : (spec : Specification) (kept : List Block) (parent : ℕ) (b : Block) (place cycles : ℕ) (earlier later : List Transaction) → 0 < length (branch kept parent)
    → 0 < place → b.transactions ≡ earlier ++ later → length earlier ≡ place → AllHold (rules_from spec (branch kept parent) b place cycles later)
    → spent_from spec kept parent b place later
    ≡ spent_of (events_from place later (length (branch kept parent))) (left (events_from 0 earlier (length (branch kept parent))) (live_row kept parent))
unfolding rules_from spent_from
from-rows spec kept parent b place cycles earlier [] tall later_place parts long hold =
    sym (spent-nil (left (events_from 0 earlier (length (branch kept parent))) (live_row kept parent)))
from-rows spec kept parent b place cycles earlier (t ∷ later) tall later_place parts long hold =
    ap (λ (list : List (OutPoint × Row)). list ++ spent_from spec kept parent b (suc place) later)
    (transaction-rows kept parent site rows t height place seen spends
    (live-by-rules site cycles t (holds-prefix (transaction_rules site cycles t) (rules_from spec (branch kept parent) b (suc place) (left_after site cycles t) later) hold)))
    ∙ ap (λ (list : List (OutPoint × Row)). spent_of (events_of t height place) rows ++ list)
    (ap (λ (n : ℕ). spent_from spec kept parent b n later) next
    ∙ from-rows spec kept parent b (place + 1) (left_after site cycles t) (earlier ++ t ∷ []) later tall (omega (arith, later_place))
    (parts ∙ sym (append_assoc earlier (t ∷ []) later)) (length_push earlier t ∙ ap (λ (n : ℕ). n + 1) long)
    (subst (λ (n : ℕ). AllHold (rules_from spec (branch kept parent) b n (left_after site cycles t) later)) next
    (holds-after (transaction_rules site cycles t) (rules_from spec (branch kept parent) b (suc place) (left_after site cycles t) later) hold))
    ∙ ap (λ (found : OutPoint → Option Row). spent_of (events_from (place + 1) later height) found) more)
    ∙ sym (spent-append (events_of t height place) (events_from (place + 1) later height) rows)
  where
    height : ℕ
    height = length (branch kept parent)

    site : Site
    site = site_at spec (branch kept parent) b place

    rows : OutPoint → Option Row
    rows = left (events_from 0 earlier height) (live_row kept parent)

    next : suc place ≡ place + 1
    next = omega arith

    before : take place b.transactions ≡ earlier
    before = ap (take place) parts ∙ ap (λ (n : ℕ). take n (earlier ++ t ∷ later)) (sym long) ∙ take_at earlier (t ∷ later) (length earlier) refl

    seen : SeesRows kept parent site rows
    seen o cell is =
        sees kept parent (events_from 0 earlier height) o cell (high 0 earlier height)
        (ap (λ (front : List Transaction). cell_after (events (branch kept parent) ++ events_from 0 front height) o) (sym before) ∙ is)

    spends : ((height == 0) || (place == 0)) ≡ false
    spends =
        ap (λ (x : Bool). x || (place == 0)) (ne_eqb height 0 (λ same. omega (arith, same, tall)))
        ∙ ne_eqb place 0 (λ same. omega (arith, same, later_place))

    more : left (events_from 0 (earlier ++ t ∷ []) height) (live_row kept parent) ≡ left (events_of t height place) rows
    more =
        ap (λ (done : List Event). left done (live_row kept parent)) (events_from-push 0 earlier t height
        ∙ ap (λ (n : ℕ). events_from 0 earlier height ++ events_of t height n) (at ∙ long))
        ∙ left-append (events_from 0 earlier height) (events_of t height place) (live_row kept parent)
      where
        at : 0 + length earlier ≡ length earlier
        at = omega arith

-- ---- The block

branch-some : (kept : List Block) (hash : List ℕ) (parent : ℕ) → place_of kept hash ≡ Some parent → 0 < length (branch kept parent)
branch-some kept hash parent named =
    let below = place_of-below kept hash parent named in
    let here = slice_get-below kept parent below in
    let within = slice_get_within (branch kept parent) (length (branch kept parent) - 1) here.0 (branch-last kept parent below ∙ here.1) in
    omega (arith, within)

-- a cellbase spends nothing
cellbase-none : (first : Transaction) (height : ℕ) (rows : OutPoint → Option Row) → spent_of (events_of first height 0) rows ≡ []
cellbase-none first height rows =
    ap (λ (b : Bool). spent_of ((if b then [] else spends_of first) ++ makes_of first height 0) rows) (or_right (height == 0) true refl)
    ∙ makes-none 0 first.raw.outputs first height 0 rows

pub exts-hold-spent-rows : ExtsHoldSpentRows
unfolding events_of_block ext_of spent_from
exts-hold-spent-rows chain b may = by_list b.transactions refl
  where
    on : List Block
    on = branch chain.blocks may.parent

    rows : OutPoint → Option Row
    rows = live_row chain.blocks may.parent

    by_list : (transactions : List Transaction) → b.transactions ≡ transactions
        → spent_from chain.spec chain.blocks may.parent b 1 (drop 1 transactions) ≡ spent_of (events_from 0 transactions (length on)) rows
    by_list [] is = sym (spent-nil rows)
    by_list (first ∷ later) is =
        from-rows chain.spec chain.blocks may.parent b 1 chain.spec.max_cycles (first ∷ []) later (branch-some chain.blocks b.header.parent_hash may.parent may.on_kept)
        (omega arith) is refl
        (subst (λ (transactions : List Transaction). AllHold (rules_from chain.spec on b 1 chain.spec.max_cycles (drop 1 transactions))) is
        (transactions-unbroken chain.spec on b may.unbroken))
        ∙ ap (λ (done : List Event). spent_of (events_from 1 later (length on)) (left done rows)) (append-nil (events_of first (length on) 0))
        ∙ ap (λ (list : List (OutPoint × Row)). list ++ spent_of (events_from 1 later (length on)) (left (events_of first (length on) 0) rows))
        (sym (cellbase-none first (length on) rows))
        ∙ sym (spent-append (events_of first (length on) 0) (events_from 1 later (length on)) rows)

pub exts-take-back : ExtsTakeBack
exts-take-back chain b may = record {
  place = length chain.blocks;
  fit = all-same (events_of_block (length (branch chain.blocks may.parent)) b) (are_live (live_cell (branch chain.blocks may.parent))) (are_live (live_row chain.blocks may.parent))
      (λ o. row-where-cell chain.blocks may.parent o) (what-joins-fits chain b may);
  spent_is = exts-hold-spent-rows chain b may;
  after_is = λ o. live_row-join chain.blocks b may.parent o may.on_kept;
}
