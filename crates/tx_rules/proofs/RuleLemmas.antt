-- The rules in groups, rule by rule, and the groups one after another.
use Rattle.std.proofs.Common.{◌≡◌, ℕ, Bool, true, false, cond, List, [], ◌∷◌, ◌++◌, map, Option, Some, None, Result, Err, refl, sym, ap, ◌∙◌, subst}
use Rattle.std.specs.Prelude.{◌&&◌, is_some, unwrap_or}
use Rattle.std.specs.Option.{option_map}
use Rattle.std.specs.List.{list_all}
use Rattle.std.proofs.lemmas.List.Folds.{list_all-append}
use Rattle.std.proofs.lemmas.Option.{same_Some}
use Rattle.chain_defs.specs.Schema.{OutPoint, CellInput, Transaction}
use Rattle.chain_defs.specs.First.{first_failing}
use Rattle.chain_defs.proofs.FirstLemmas.{first_failing-fails, first_failing-holds, first_failing-none, first_failing-append-holds, first_failing-append-fails, finds_none}
use Rattle.outside.specs.declared.disk.Damage.{Damage}
use Rattle.outside.specs.declared.disk.ReadStop.{ReadStop}
use Rattle.outside.specs.declared.disk.ReadStop.TheVariants.{DiskFault, NoMemory, Damaged}
use Rattle.chain_defs.specs.Cell.{Cell}
use Rattle.chain_defs.specs.Row.{Row, row_of}
use Rattle.chain_tree.specs.Told.{Stored, blocks_of}
use Rattle.cell_state.specs.Copies.{ResolvedValue}
use Rattle.rule_defs.specs.RuleNumber.{rule_number}
use Rattle.rule_defs.specs.declared.rule.Rule.{Rule}
use Rattle.rule_defs.specs.Site.{Site}
use Rattle.rule_defs.specs.Resolving.{input_cells, spends_each_once, spends_live_cells, has_cell_deps, has_header_deps, inputs, deps}
use Rattle.rule_defs.specs.Age.{is_mature, uses_mature_cells, meets_each_since}
use Rattle.rule_defs.specs.Withdrawals.{names_deposits}
use Rattle.rule_defs.specs.Capacity.{makes_good_cells, balances}
use Rattle.rule_defs.specs.TransactionRules.{has_form}
use Rattle.tx_rules.specs.At.{AtValue, IsSiteOf, place_of_height, found_row, find_row, named_rows, input_rows, spends_rows}
use Rattle.tx_rules.specs.Copying.{row_in}
use Rattle.tx_rules.specs.Outcome.{IsTried}
use Rattle.tx_rules.specs.Steps.{spending_rules, naming_rules, using_rules, paying_rules, StopsAt, Stops}
use Rattle.tx_rules.specs.declared.resolving.TxStop.{TxStop}
use Rattle.tx_rules.specs.declared.resolving.TxStop.TheVariants.{Broken, Read}
use Rattle.tx_rules.proofs.AllThere.{all_there-back}
use Rattle.tx_rules.proofs.SiteLemmas.{input_rows-cells}

-- ---- Form, proposal and inputs

pub no-form : (proposed : Bool) (site : Site) (t : Transaction) → has_form t ≡ false → first_failing (spending_rules proposed site t) ≡ Some 18
no-form proposed site t form = first_failing-fails 18 (has_form t) ((19, proposed) ∷ (20, spends_live_cells site t) ∷ []) form

pub not-proposed : (proposed : Bool) (site : Site) (t : Transaction) → has_form t ≡ true → proposed ≡ false
    → first_failing (spending_rules proposed site t) ≡ Some 19
not-proposed proposed site t form bad =
    first_failing-holds 18 (has_form t) ((19, proposed) ∷ (20, spends_live_cells site t) ∷ []) form
    ∙ first_failing-fails 19 proposed ((20, spends_live_cells site t) ∷ []) bad

pub spends-badly : (proposed : Bool) (site : Site) (t : Transaction) → has_form t ≡ true → proposed ≡ true → spends_live_cells site t ≡ false
    → first_failing (spending_rules proposed site t) ≡ Some 20
spends-badly proposed site t form named spends =
    first_failing-holds 18 (has_form t) ((19, proposed) ∷ (20, spends_live_cells site t) ∷ []) form
    ∙ first_failing-holds 19 proposed ((20, spends_live_cells site t) ∷ []) named
    ∙ first_failing-fails 20 (spends_live_cells site t) [] spends

pub spends-well : (proposed : Bool) (site : Site) (t : Transaction) → has_form t ≡ true → proposed ≡ true → spends_live_cells site t ≡ true
    → first_failing (spending_rules proposed site t) ≡ None
spends-well proposed site t form named spends =
    first_failing-holds 18 (has_form t) ((19, proposed) ∷ (20, spends_live_cells site t) ∷ []) form
    ∙ first_failing-holds 19 proposed ((20, spends_live_cells site t) ∷ []) named
    ∙ first_failing-holds 20 (spends_live_cells site t) [] spends ∙ first_failing-none

-- a list that is found for one that is
map-some : {X Y : Type 0} (f : X → Y) (found : Option (List X)) (ys : Option (List Y)) → ys ≡ option_map (map f) found → is_some found ≡ is_some ys
map-some f None ys is = ap is_some (sym is)
map-some f (Some xs) ys is = ap is_some (sym is)

-- J20 at the site is J20 by the rows
pub spends-by-rows : (stored : List Stored) (at : AtValue) (rows : OutPoint → Option Row) (site : Site) (t : Transaction) → IsSiteOf stored at rows site
    → spends_live_cells site t ≡ spends_rows rows t
spends-by-rows stored at rows site t is =
    map-some (found_row (blocks_of stored) at.parent) (input_cells site t) (input_rows rows t) (input_rows-cells stored at rows site t is)

-- ---- Deps

pub no-cell-deps : (site : Site) (t : Transaction) → has_cell_deps site t ≡ false → first_failing (naming_rules site t) ≡ Some 21
no-cell-deps site t none = first_failing-fails 21 (has_cell_deps site t) ((22, has_header_deps site t) ∷ []) none

pub no-header-deps : (site : Site) (t : Transaction) → has_cell_deps site t ≡ true → has_header_deps site t ≡ false
    → first_failing (naming_rules site t) ≡ Some 22
no-header-deps site t some none =
    first_failing-holds 21 (has_cell_deps site t) ((22, has_header_deps site t) ∷ []) some ∙ first_failing-fails 22 (has_header_deps site t) [] none

pub names-well : (site : Site) (t : Transaction) → has_cell_deps site t ≡ true → has_header_deps site t ≡ true → first_failing (naming_rules site t) ≡ None
names-well site t some all =
    first_failing-holds 21 (has_cell_deps site t) ((22, has_header_deps site t) ∷ []) some
    ∙ first_failing-holds 22 (has_header_deps site t) [] all ∙ first_failing-none

-- what is found of a list, and of none
pub found-none : {X Y : Type 0} (f : X → Y) (found : Option (List X)) → None ≡ option_map (map f) found → is_some found ≡ false
found-none f found is = map-some f found None is

pub found-some : {X Y : Type 0} (f : X → Y) (found : Option (List X)) (ys : List Y) → Some ys ≡ option_map (map f) found → is_some found ≡ true
found-some f found ys is = map-some f found (Some ys) is

pub found-list : {X Y : Type 0} (f : X → Y) (found : Option (List X)) (ys : List Y) → Some ys ≡ option_map (map f) found → ys ≡ map f (unwrap_or found [])
found-list f None ys is = absurd (cc)
found-list f (Some xs) ys is = same_Some ys (map f xs) is

-- ---- Stops

-- a stop of reading at no damage
pub read-stops : (rules : List (ℕ × Bool)) (stop : ReadStop) → ((damage : Damage) → stop ≡ Damaged damage → ⊥) → StopsAt rules (Read stop)
read-stops rules DiskFault none = tt
read-stops rules NoMemory none = tt
read-stops rules (Damaged damage) none = none damage refl

-- ---- Age and outputs

pub uses-young : (site : Site) (t : Transaction) → uses_mature_cells site t ≡ false → first_failing (using_rules site t) ≡ Some 23
uses-young site t young = first_failing-fails 23 (uses_mature_cells site t) ((24, meets_each_since site t) ∷ (25, makes_good_cells site t) ∷ []) young

pub young-inputs : (site : Site) (t : Transaction) → list_all (is_mature site) (inputs site t) ≡ false → uses_mature_cells site t ≡ false
young-inputs site t young =
    list_all-append (is_mature site) (inputs site t) (deps site t) ∙ ap (λ (b : Bool). b && list_all (is_mature site) (deps site t)) young

pub young-deps : (site : Site) (t : Transaction) → list_all (is_mature site) (inputs site t) ≡ true → list_all (is_mature site) (deps site t) ≡ false
    → uses_mature_cells site t ≡ false
young-deps site t mature young =
    list_all-append (is_mature site) (inputs site t) (deps site t) ∙ ap (λ (b : Bool). b && list_all (is_mature site) (deps site t)) mature ∙ young

pub all-mature : (site : Site) (t : Transaction) → list_all (is_mature site) (inputs site t) ≡ true → list_all (is_mature site) (deps site t) ≡ true
    → uses_mature_cells site t ≡ true
all-mature site t mature all =
    list_all-append (is_mature site) (inputs site t) (deps site t) ∙ ap (λ (b : Bool). b && list_all (is_mature site) (deps site t)) mature ∙ all

pub spends-early : (site : Site) (t : Transaction) → uses_mature_cells site t ≡ true → meets_each_since site t ≡ false
    → first_failing (using_rules site t) ≡ Some 24
spends-early site t mature early =
    first_failing-holds 23 (uses_mature_cells site t) ((24, meets_each_since site t) ∷ (25, makes_good_cells site t) ∷ []) mature
    ∙ first_failing-fails 24 (meets_each_since site t) ((25, makes_good_cells site t) ∷ []) early

pub makes-badly : (site : Site) (t : Transaction) → uses_mature_cells site t ≡ true → meets_each_since site t ≡ true → makes_good_cells site t ≡ false
    → first_failing (using_rules site t) ≡ Some 25
makes-badly site t mature met bad =
    first_failing-holds 23 (uses_mature_cells site t) ((24, meets_each_since site t) ∷ (25, makes_good_cells site t) ∷ []) mature
    ∙ first_failing-holds 24 (meets_each_since site t) ((25, makes_good_cells site t) ∷ []) met
    ∙ first_failing-fails 25 (makes_good_cells site t) [] bad

pub uses-well : (site : Site) (t : Transaction) → uses_mature_cells site t ≡ true → meets_each_since site t ≡ true → makes_good_cells site t ≡ true
    → first_failing (using_rules site t) ≡ None
uses-well site t mature met good =
    first_failing-holds 23 (uses_mature_cells site t) ((24, meets_each_since site t) ∷ (25, makes_good_cells site t) ∷ []) mature
    ∙ first_failing-holds 24 (meets_each_since site t) ((25, makes_good_cells site t) ∷ []) met
    ∙ first_failing-holds 25 (makes_good_cells site t) [] good ∙ first_failing-none

-- there is a row just where a cell is seen
pub row-where-cell : (stored : List Stored) (at : AtValue) (rows : OutPoint → Option Row) (site : Site) → IsSiteOf stored at rows site → (o : OutPoint)
    → is_some (rows o) ≡ is_some (site.cell o)
row-where-cell stored at rows site is o = ap is_some (is.sees o) ∙ by_cell (site.cell o)
  where
    by_cell : (found : Option Cell) → is_some (option_map (λ (cell : Cell). row_of (place_of_height (blocks_of stored) at.parent cell.height) cell) found) ≡ is_some found
    by_cell None = refl
    by_cell (Some cell) = refl

-- ---- Withdrawals and capacity

pub names-badly : (site : Site) (t : Transaction) → names_deposits site t ≡ false → first_failing (paying_rules site t) ≡ Some 26
names-badly site t bad = first_failing-fails 26 (names_deposits site t) ((27, balances site t) ∷ []) bad

pub pays-badly : (site : Site) (t : Transaction) → names_deposits site t ≡ true → balances site t ≡ false → first_failing (paying_rules site t) ≡ Some 27
pays-badly site t named bad =
    first_failing-holds 26 (names_deposits site t) ((27, balances site t) ∷ []) named ∙ first_failing-fails 27 (balances site t) [] bad

pub pays-well : (site : Site) (t : Transaction) → names_deposits site t ≡ true → balances site t ≡ true → first_failing (paying_rules site t) ≡ None
pays-well site t named good =
    first_failing-holds 26 (names_deposits site t) ((27, balances site t) ∷ []) named
    ∙ first_failing-holds 27 (balances site t) [] good ∙ first_failing-none

-- ---- One group after another

-- a stop in the first group
pub stops-front : (front back : List (ℕ × Bool)) (stop : TxStop) → StopsAt front stop → StopsAt (front ++ back) stop
stops-front front back (Broken rule) is = first_failing-append-fails (rule_number rule) front back is
stops-front front back (Read DiskFault) is = tt
stops-front front back (Read NoMemory) is = tt
stops-front front back (Read (Damaged damage)) is = is

-- a stop in the second where the first is kept
pub stops-back : (front back : List (ℕ × Bool)) (stop : TxStop) → first_failing front ≡ None → StopsAt back stop → StopsAt (front ++ back) stop
stops-back front back (Broken rule) none is = first_failing-append-holds front back ((finds_none front).0 none) ∙ is
stops-back front back (Read DiskFault) none is = tt
stops-back front back (Read NoMemory) none is = tt
stops-back front back (Read (Damaged damage)) none is = is

-- both groups are kept
pub keeps-all : (front back : List (ℕ × Bool)) → first_failing front ≡ None → first_failing back ≡ None → first_failing (front ++ back) ≡ None
keeps-all front back none later = first_failing-append-holds front back ((finds_none front).0 none) ∙ later

-- the rows of its inputs, where there are any
pub spent-inputs : (stored : List Stored) (at : AtValue) (rows : OutPoint → Option Row) (site : Site) (t : Transaction) (spent : List (OutPoint × Row))
    → IsSiteOf stored at rows site → input_rows rows t ≡ Some spent → spent ≡ map (found_row (blocks_of stored) at.parent) (inputs site t)
spent-inputs stored at rows site t spent is some =
    found-list (found_row (blocks_of stored) at.parent) (input_cells site t) spent (sym some ∙ input_rows-cells stored at rows site t is)

-- ---- What the whole answers

pub tried-of : {T : Type 0} (proposed : Bool) (result : Result T TxStop) (rule : Rule) → Stops proposed result → result ≡ Err (Broken rule)
    → IsTried proposed (rule_number rule)
tried-of {T = T} proposed result rule stops same = subst (λ (r : Result T TxStop). Stops proposed r) same stops

-- the rows that are spent are those that are named
pub rows-named : (rows : OutPoint → Option Row) (t : Transaction) (spent : List (OutPoint × Row)) → input_rows rows t ≡ Some spent
    → named_rows rows t ≡ Some spent
rows-named rows t spent some = by_once (spends_each_once t) some
  where
    by_once : (once : Bool) → cond once (named_rows rows t) None ≡ Some spent → named_rows rows t ≡ Some spent
    by_once true is = is
    by_once false is = absurd (cc)

-- the copies of the cells of its inputs have their out-points
pub copied-inputs : (rows : OutPoint → Option Row) (t : Transaction) (spent : List (OutPoint × Row)) (copies : List ResolvedValue)
    → input_rows rows t ≡ Some spent → map row_in copies ≡ spent
    → map (λ (copy : ResolvedValue). copy.out_point) copies ≡ map (λ (input : CellInput). input.previous_output) t.raw.inputs
copied-inputs rows t spent copies some are =
    out-points copies ∙ ap (map (λ (row : OutPoint × Row). row.0)) are
    ∙ all_there-back (λ (input : CellInput). find_row rows input.previous_output) (λ (input : CellInput). input.previous_output)
    (λ (row : OutPoint × Row). row.0) t.raw.inputs spent (λ input row. its_own input.previous_output (rows input.previous_output) row)
    (rows-named rows t spent some)
  where
    out-points : (cs : List ResolvedValue) → map (λ (copy : ResolvedValue). copy.out_point) cs ≡ map (λ (row : OutPoint × Row). row.0) (map row_in cs)
    out-points [] = refl
    out-points (c ∷ cs) = ap (λ (os : List OutPoint). c.out_point ∷ os) (out-points cs)

    its_own : (o : OutPoint) (found : Option Row) (row : OutPoint × Row) → option_map (λ (r : Row). (o, r)) found ≡ Some row → row.0 ≡ o
    its_own o None row is = absurd (cc)
    its_own o (Some r) row is = ap (λ (it : OutPoint × Row). it.0) (sym (same_Some (o, r) row is))
