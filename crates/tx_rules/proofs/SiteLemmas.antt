-- The rows of the cells that a transaction sees, and what they stand for at its site.
use Rattle.std.proofs.Common.{◌≡◌, ℕ, ◌+◌, ◌<◌, eqb, cond, Bool, true, false, List, [], ◌∷◌, ◌++◌, length, map, take, get_or, Option, Some, None, refl, sym, ap, ◌∙◌, subst, inl, inr, ◌⊎◌, arith}
use Rattle.std.specs.Prelude.{slice_get, slice_index, unwrap_or}
use Rattle.std.specs.Option.{option_map, option_and_then}
use Rattle.std.specs.List.{All, AllZip, flat_map}
use Rattle.std.proofs.lemmas.List.{length-map, map_push, take_more}
use Rattle.std.proofs.lemmas.List.Elements.{All-nil, All-cons, All-head, All-tail, All-append}
use Rattle.std.proofs.lemmas.Option.{slice_get_within, slice_get_read, slice_get-map, get_or_from_slice_get, same_Some}
use Rattle.std.proofs.lemmas.Bool.{lt-ltb, le-ltb}
use Rattle.chain_defs.specs.Schema.{OutPoint, CellOutput, CellInput, CellDep, Transaction, Block}
use Rattle.chain_defs.specs.Kept.{block_at}
use Rattle.chain_defs.specs.Branch.{branch, branch_places}
use Rattle.chain_defs.proofs.KeptLaws.{slice_get-below}
use Rattle.chain_tree.specs.Told.{Stored, blocks_of}
use Rattle.chain_tree.proofs.BlockLemmas.{len-same}
use Rattle.chain_defs.specs.Cell.{Cell, data_of}
use Rattle.chain_defs.specs.Row.{Row, row_of, IsOutputOf}
use Rattle.cell_state.specs.Copies.{NamesOutput, output_in}
use Rattle.rule_defs.specs.Site.{Site, Found, find_cell, all_there}
use Rattle.rule_defs.specs.Resolving.{spends_each_once, inputs, deps, input_cells, dep_cells, cells_of_dep, members_of}
use Rattle.tx_rules.specs.At.{AtValue, IsSiteOf, IsMade, AreSeen, place_of_height, found_row, find_row, named_rows, input_rows}
use Rattle.tx_rules.specs.Copying.{IsFoundAt}
use Rattle.tx_rules.proofs.AllThere.{all_there-map, all_there-all}
use Rattle.tx_rules.proofs.BranchLemmas.{PlaceOfHeight, place-of-height}

-- ---- Where the cell of a row was made

-- by a kept block, at the row's place on the branch
pub record IsKeptRow (stored : List Stored) (at : AtValue) (o : OutPoint) (cell : Cell) (row : Row) : Type 0 where
  pub below : row.block < length at.entries
  pub height : cell.height < length (branch (blocks_of stored) at.parent)
  pub place : slice_get (branch_places (blocks_of stored) at.parent) cell.height ≡ Some row.block
  pub names : NamesOutput stored o row cell

-- by the block that is judged
pub record IsOwnRow (stored : List Stored) (at : AtValue) (o : OutPoint) (cell : Cell) (row : Row) : Type 0 where
  pub last : row.block ≡ length at.entries
  pub height : cell.height ≡ length (branch (blocks_of stored) at.parent)
  pub block : Block
  pub judged : at.block ≡ Some block
  pub output : IsOutputOf block o cell

-- the output that a row names in its block
pub output-of : (b : Block) (o : OutPoint) (cell : Cell) → IsOutputOf b o cell → output_in b cell.transaction o.index ≡ Some (cell.output, cell.content)
output-of b o cell is = ap (λ (found : Option Transaction). option_and_then (λ (t : Transaction). option_map (λ (output : CellOutput). (output, data_of t o.index)) (slice_get t.raw.outputs o.index)) found) is.there
    ∙ ap (λ (found : Option CellOutput). option_map (λ (output : CellOutput). (output, data_of is.t o.index)) found) is.output
    ∙ ap (λ (content : List ℕ). Some (cell.output, content)) is.content

-- a block of what is stored
stored-block : (stored : List Stored) (place : ℕ) (b : Block) → block_at (blocks_of stored) place ≡ Some b
    → (made : Stored) × (slice_get stored place ≡ Some made) × (made.block ≡ b)
stored-block stored place b there = by_stored (slice_get stored place) refl (sym (slice_get-map (λ (it : Stored). it.block) stored place) ∙ there)
  where
    by_stored : (found : Option Stored) → slice_get stored place ≡ found → option_map (λ (it : Stored). it.block) found ≡ Some b
        → (made : Stored) × (slice_get stored place ≡ Some made) × (made.block ≡ b)
    by_stored None is at = absurd (cc)
    by_stored (Some made) is at = (made, is, cc)

-- the place of a height: of one on the branch, and of the one that is judged
place-below : (kept : List Block) (parent height : ℕ) → height < length (branch kept parent)
    → place_of_height kept parent height ≡ slice_index (branch_places kept parent) height
place-below kept parent height below =
    ap (λ (b : Bool). cond b (slice_index (branch_places kept parent) height) (length kept)) (lt-ltb height (length (branch kept parent)) below)

place-last : (kept : List Block) (parent height : ℕ) → height ≡ length (branch kept parent) → place_of_height kept parent height ≡ length kept
place-last kept parent height last =
    ap (λ (b : Bool). cond b (slice_index (branch_places kept parent) height) (length kept)) (le-ltb height (length (branch kept parent)) (omega (arith, last)))

-- Each cell that is seen has its row: of a kept block, or of the block that is judged.
pub row-made : (stored : List Stored) (at : AtValue) (rows : OutPoint → Option Row) (site : Site) (o : OutPoint) (cell : Cell) (row : Row)
    → at.parent < length at.entries → IsSiteOf stored at rows site → site.cell o ≡ Some cell
    → row ≡ row_of (place_of_height (blocks_of stored) at.parent cell.height) cell
    → IsKeptRow stored at o cell row ⊎ IsOwnRow stored at o cell row
row-made stored at rows site o cell row placed is seen its_row =
    by_made (subst (λ (bs : List Block). IsMade bs at.block o cell) is.on_branch (is.made o cell seen))
  where
    same : row.block ≡ place_of_height (blocks_of stored) at.parent cell.height
    same = ap (λ (r : Row). r.block) its_row

    again : row ≡ row_of row.block cell
    again = its_row ∙ ap (λ (place : ℕ). row_of place cell) (sym same)

    by_made : IsMade (branch (blocks_of stored) at.parent) at.block o cell → IsKeptRow stored at o cell row ⊎ IsOwnRow stored at o cell row
    by_made (inl made) =
        let long : length at.entries ≡ length (blocks_of stored) = len-same (blocks_of stored) at.entries is.indexed in
        let height : cell.height < length (branch (blocks_of stored) at.parent) =
        slice_get_within (branch (blocks_of stored) at.parent) cell.height made.0 made.1 in
        let place : PlaceOfHeight (blocks_of stored) at.parent cell.height made.0 =
        place-of-height (blocks_of stored) at.parent cell.height made.0 (omega (arith, placed, long)) made.1 in
        let here : row.block ≡ slice_index (branch_places (blocks_of stored) at.parent) cell.height =
        same ∙ place-below (blocks_of stored) at.parent cell.height height in
        let there : block_at (blocks_of stored) row.block ≡ Some made.0 = ap (block_at (blocks_of stored)) here ∙ place.there in
        let within : row.block < length (blocks_of stored) = slice_get_within (blocks_of stored) row.block made.0 there in
        let found = stored-block stored row.block made.0 there in
        inl (record {
          below = omega (arith, within, long);
          height = height;
          place = place.place ∙ ap Some (sym here);
          names = record {
            made = found.0;
            there = found.1;
            output = subst (λ (b : Block). IsOutputOf b o cell) (sym found.2) made.2;
            its_row = again;
          };
        })
    by_made (inr own) =
        let long : length at.entries ≡ length (blocks_of stored) = len-same (blocks_of stored) at.entries is.indexed in
        inr (record {
          last = same ∙ place-last (blocks_of stored) at.parent cell.height own.2 ∙ sym long;
          height = own.2;
          block = own.0;
          judged = own.1;
          output = own.3;
        })

-- ---- The rows of what is found

-- the rows that there are are those of cells that are seen
pub row-seen : (stored : List Stored) (at : AtValue) (rows : OutPoint → Option Row) (site : Site) (o : OutPoint) (row : Row)
    → IsSiteOf stored at rows site → rows o ≡ Some row
    → (cell : Cell) × (site.cell o ≡ Some cell) × (row ≡ row_of (place_of_height (blocks_of stored) at.parent cell.height) cell)
row-seen stored at rows site o row is there = by_cell (site.cell o) refl (sym (is.sees o) ∙ there)
  where
    by_cell : (found : Option Cell) → site.cell o ≡ found
        → option_map (λ (cell : Cell). row_of (place_of_height (blocks_of stored) at.parent cell.height) cell) found ≡ Some row
        → (cell : Cell) × (site.cell o ≡ Some cell) × (row ≡ row_of (place_of_height (blocks_of stored) at.parent cell.height) cell)
    by_cell None seen is_row = absurd (cc)
    by_cell (Some cell) seen is_row = (cell, seen, same_Some row (row_of (place_of_height (blocks_of stored) at.parent cell.height) cell) (sym is_row))

-- The row of an out-point is that of the cell that is found by it.
pub find_row-found : (stored : List Stored) (at : AtValue) (rows : OutPoint → Option Row) (site : Site) (o : OutPoint) → IsSiteOf stored at rows site
    → find_row rows o ≡ option_map (found_row (blocks_of stored) at.parent) (find_cell site o)
find_row-found stored at rows site o is = ap (option_map (λ (row : Row). (o, row))) (is.sees o) ∙ by_cell (site.cell o)
  where
    by_cell : (found : Option Cell)
        → option_map (λ (row : Row). (o, row)) (option_map (λ (cell : Cell). row_of (place_of_height (blocks_of stored) at.parent cell.height) cell) found)
        ≡ option_map (found_row (blocks_of stored) at.parent) (option_map (λ (cell : Cell). record { out_point = o; cell = cell }) found)
    by_cell None = refl
    by_cell (Some cell) = refl

-- The rows of the inputs are those of the cells that they spend.
pub input_rows-cells : (stored : List Stored) (at : AtValue) (rows : OutPoint → Option Row) (site : Site) (t : Transaction) → IsSiteOf stored at rows site
    → input_rows rows t ≡ option_map (map (found_row (blocks_of stored) at.parent)) (input_cells site t)
unfolding input_cells
input_rows-cells stored at rows site t is = by_once (spends_each_once t)
  where
    by_once : (once : Bool) → cond once (named_rows rows t) None
        ≡ option_map (map (found_row (blocks_of stored) at.parent)) (cond once (all_there (map (λ (input : CellInput). find_cell site input.previous_output) t.raw.inputs)) None)
    by_once true =
        all_there-map (λ (input : CellInput). find_row rows input.previous_output) (λ (input : CellInput). find_cell site input.previous_output)
        (found_row (blocks_of stored) at.parent) t.raw.inputs (λ input. find_row-found stored at rows site input.previous_output is)
    by_once false = refl

-- ---- What is found is seen

abbrev IsSeen : Site → Found → Type 0
IsSeen site found = site.cell found.out_point ≡ Some found.cell

pub find_cell-seen : (site : Site) (o : OutPoint) (found : Found) → find_cell site o ≡ Some found → site.cell found.out_point ≡ Some found.cell
find_cell-seen site o found there = by_cell (site.cell o) refl there
  where
    by_cell : (cell : Option Cell) → site.cell o ≡ cell → option_map (λ (c : Cell). record { out_point = o; cell = c }) cell ≡ Some found
        → site.cell found.out_point ≡ Some found.cell
    by_cell None seen is = absurd (cc)
    by_cell (Some c) seen is =
        let same : record { out_point = o; cell = c } ≡ found = same_Some (record { out_point = o; cell = c }) found is in
        subst (λ (it : Found). site.cell it.out_point ≡ Some it.cell) same seen

-- no cell is seen of none
all-or : {X : Type 0} (P : X → Type 0) (found : Option (List X)) → ((xs : List X) → found ≡ Some xs → All P xs) → All P (unwrap_or found [])
all-or P None each = All-nil P
all-or P (Some xs) each = each xs refl

pub inputs-seen : (site : Site) (t : Transaction) → AreSeen site (inputs site t)
unfolding input_cells
inputs-seen site t = by_once (spends_each_once t)
  where
    named : Option (List Found)
    named = all_there (map (λ (input : CellInput). find_cell site input.previous_output) t.raw.inputs)

    by_once : (once : Bool) → All (IsSeen site) (unwrap_or (cond once named None) [])
    by_once true = all-or (IsSeen site) named
        (λ founds. all_there-all (IsSeen site) (λ (input : CellInput). find_cell site input.previous_output) t.raw.inputs founds
        (λ input. find_cell-seen site input.previous_output))
    by_once false = All-nil (IsSeen site)

members-seen : (site : Site) (members : List OutPoint) (founds : List Found) → all_there (map (find_cell site) members) ≡ Some founds → AreSeen site founds
members-seen site members founds = all_there-all (IsSeen site) (find_cell site) members founds (find_cell-seen site)

dep-seen : (site : Site) (dep : CellDep) (founds : List Found) → cells_of_dep site dep ≡ Some founds → AreSeen site founds
unfolding cells_of_dep
dep-seen site dep founds there = by_type (eqb dep.dep_type 0) (eqb dep.dep_type 1) (find_cell site dep.out_point) refl there
  where
    by_members : (found : Found) (members : Option (List OutPoint)) → option_and_then (λ ms. all_there (map (find_cell site) ms)) members ≡ Some founds
        → AreSeen site founds
    by_members found None is = absurd (cc)
    by_members found (Some members) is = members-seen site members founds is

    by_type : (code group : Bool) (found : Option Found) → find_cell site dep.out_point ≡ found
        → cond code (option_map (λ (it : Found). it ∷ []) found)
        (cond group (option_and_then (λ (it : Found). option_and_then (λ ms. all_there (map (find_cell site) ms)) (members_of it.cell.content)) found) None) ≡ Some founds
        → AreSeen site founds
    by_type true group None here is = absurd (cc)
    by_type true group (Some it) here is =
        subst (λ (its : List Found). AreSeen site its) (same_Some (it ∷ []) founds is)
        (All-cons (IsSeen site) it [] (find_cell-seen site dep.out_point it here) (All-nil (IsSeen site)))
    by_type false true None here is = absurd (cc)
    by_type false true (Some it) here is = by_members it (members_of it.cell.content) is
    by_type false false found here is = absurd (cc)

all-flat : {X : Type 0} (P : X → Type 0) (lists : List (List X)) → All (λ xs. All P xs) lists → All P (flat_map (λ xs. xs) lists)
all-flat P [] each = All-nil P
all-flat P (xs ∷ later) each =
    All-append P xs (flat_map (λ ys. ys) later) (All-head (λ ys. All P ys) xs later each) (all-flat P later (All-tail (λ ys. All P ys) xs later each))

pub deps-seen : (site : Site) (t : Transaction) → AreSeen site (deps site t)
unfolding dep_cells
deps-seen site t = by_lists (all_there (map (cells_of_dep site) t.raw.cell_deps)) refl
  where
    by_lists : (lists : Option (List (List Found))) → all_there (map (cells_of_dep site) t.raw.cell_deps) ≡ lists
        → AreSeen site (unwrap_or (option_map (flat_map (λ cells. cells)) lists) [])
    by_lists None is = All-nil (IsSeen site)
    by_lists (Some lists) is =
        all-flat (IsSeen site) lists (all_there-all (AreSeen site) (cells_of_dep site) t.raw.cell_deps lists (dep-seen site) is)

-- ---- Where the cell of a row is to be copied from

-- where it was made
made-of : (stored : List Stored) (at : AtValue) (rows : OutPoint → Option Row) (site : Site) (found : Found) (o : OutPoint) (row : Row)
    → at.parent < length at.entries → IsSiteOf stored at rows site → IsFoundAt stored at.parent site found (o, row)
    → IsKeptRow stored at o found.cell row ⊎ IsOwnRow stored at o found.cell row
made-of stored at rows site found o row placed is found_at =
    let same : o ≡ found.out_point = ap (λ (it : OutPoint × Row). it.0) found_at.its_row in
    let its_row : row ≡ row_of (place_of_height (blocks_of stored) at.parent found.cell.height) found.cell = ap (λ (it : OutPoint × Row). it.1) found_at.its_row in
    row-made stored at rows site o found.cell row placed is (ap site.cell same ∙ found_at.seen) its_row

-- out of a kept block where the row's block is one
pub copied-of-kept : (stored : List Stored) (at : AtValue) (rows : OutPoint → Option Row) (site : Site) (found : Found) (o : OutPoint) (row : Row)
    → at.parent < length at.entries → IsSiteOf stored at rows site → IsFoundAt stored at.parent site found (o, row) → row.block < length at.entries
    → NamesOutput stored o row found.cell
copied-of-kept stored at rows site found o row placed is found_at below = by_made (made-of stored at rows site found o row placed is found_at)
  where
    by_made : IsKeptRow stored at o found.cell row ⊎ IsOwnRow stored at o found.cell row → NamesOutput stored o row found.cell
    by_made (inl made) = made.names
    by_made (inr own) = let last : row.block ≡ length at.entries = own.last in absurd (omega (arith, last, below))

-- out of the block that is judged where the row's block is its place
pub copied-of-own : (stored : List Stored) (at : AtValue) (rows : OutPoint → Option Row) (site : Site) (found : Found) (o : OutPoint) (row : Row)
    → at.parent < length at.entries → IsSiteOf stored at rows site → IsFoundAt stored at.parent site found (o, row) → row.block ≡ length at.entries
    → (block : Block) × (at.block ≡ Some block) × (output_in block row.transaction o.index ≡ Some (found.cell.output, found.cell.content))
copied-of-own stored at rows site found o row placed is found_at last = by_made (made-of stored at rows site found o row placed is found_at)
  where
    its_transaction : row.transaction ≡ found.cell.transaction
    its_transaction = ap (λ (it : OutPoint × Row). it.1.transaction) found_at.its_row

    by_made : IsKeptRow stored at o found.cell row ⊎ IsOwnRow stored at o found.cell row
        → (block : Block) × (at.block ≡ Some block) × (output_in block row.transaction o.index ≡ Some (found.cell.output, found.cell.content))
    by_made (inl made) = let below : row.block < length at.entries = made.below in absurd (omega (arith, last, below))
    by_made (inr own) = (own.block, own.judged, ap (λ (place : ℕ). output_in own.block place o.index) its_transaction ∙ output-of own.block o found.cell own.output)

-- and past it none is seen
pub none-past : (stored : List Stored) (at : AtValue) (rows : OutPoint → Option Row) (site : Site) (found : Found) (o : OutPoint) (row : Row)
    → at.parent < length at.entries → IsSiteOf stored at rows site → IsFoundAt stored at.parent site found (o, row) → length at.entries < row.block → ⊥
none-past stored at rows site found o row placed is found_at past = by_made (made-of stored at rows site found o row placed is found_at)
  where
    by_made : IsKeptRow stored at o found.cell row ⊎ IsOwnRow stored at o found.cell row → ⊥
    by_made (inl made) = let below : row.block < length at.entries = made.below in omega (arith, past, below)
    by_made (inr own) = let last : row.block ≡ length at.entries = own.last in omega (arith, past, last)

-- ---- Rows, one after another

-- of the rows of cells that are seen each is that of one of them, at its place
pub record IsNext (stored : List Stored) (parent : ℕ) (site : Site) (founds : List Found) (i : ℕ) (row : OutPoint × Row) : Type 0 where
  pub found : Found
  pub at : IsFoundAt stored parent site found row
  pub within : i < length founds
  pub is : found ≡ get_or founds i found

pub next-found : (stored : List Stored) (parent : ℕ) (site : Site) (founds : List Found) (rows : List (OutPoint × Row)) (i : ℕ) (row : OutPoint × Row)
    → AreSeen site founds → rows ≡ map (found_row (blocks_of stored) parent) founds → i < length rows → row ≡ get_or rows i row
    → IsNext stored parent site founds i row
next-found stored parent site founds rows i row seen are below here =
    let long : length rows ≡ length founds = ap length are ∙ length-map founds (found_row (blocks_of stored) parent) in
    on (slice_get-below founds i (omega (arith, below, long))) (omega (arith, below, long))
  where
    on : (found : Found) × (slice_get founds i ≡ Some found) → i < length founds → IsNext stored parent site founds i row
    on found within =
        let is : get_or founds i found.0 ≡ found.0 = get_or_from_slice_get founds i found.0 found.0 found.1 in
        let of_row : slice_get rows i ≡ Some row = slice_get_read rows (length rows) i row refl below here in
        let of_found : slice_get rows i ≡ Some (found_row (blocks_of stored) parent found.0) =
        ap (λ (rs : List (OutPoint × Row)). slice_get rs i) are ∙ slice_get-map (found_row (blocks_of stored) parent) founds i
        ∙ ap (option_map (found_row (blocks_of stored) parent)) found.1 in
        record {
          found = found.0;
          at = record {
            seen = subst (λ (it : Found). site.cell it.out_point ≡ Some it.cell) is (seen i found.0 within);
            its_row = same_Some row (found_row (blocks_of stored) parent found.0) (sym of_row ∙ of_found);
          };
          within = within;
          is = sym is;
        }

zip-push : {A B : Type 0} (R : A → B → Type 0) (xs : List A) (ys : List B) (x : A) (y : B) → AllZip R xs ys → R x y → AllZip R (xs ++ x ∷ []) (ys ++ y ∷ [])
zip-push R [] [] x y each last = (last, tt)
zip-push R [] (w ∷ ws) x y each last = absurd each
zip-push R (z ∷ zs) [] x y each last = absurd each
zip-push R (z ∷ zs) (w ∷ ws) x y each last = (each.0, zip-push R zs ws x y each.1 last)

-- one more of both
pub zip-more : {A B : Type 0} (R : A → B → Type 0) (xs : List A) (ys : List B) (i : ℕ) (x : A) (y : B) → i < length xs → x ≡ get_or xs i x
    → AllZip R (take i xs) ys → R x y → AllZip R (take (i + 1) xs) (ys ++ y ∷ [])
zip-more {A = A} R xs ys i x y within is each last =
    subst (λ (front : List A). AllZip R front (ys ++ y ∷ []))
    (sym (take_more xs i x within ∙ ap (λ (z : A). take i xs ++ z ∷ []) (sym is))) (zip-push R (take i xs) ys x y each last)

-- one more of what a list maps to
pub map-more : {A B : Type 0} (f : B → A) (xs : List A) (ys : List B) (i : ℕ) (x : A) (y : B) → i < length xs → x ≡ get_or xs i x
    → map f ys ≡ take i xs → f y ≡ x → map f (ys ++ y ∷ []) ≡ take (i + 1) xs
map-more {A = A} f xs ys i x y within is each last =
    map_push f ys y ∙ ap (λ (front : List A). front ++ f y ∷ []) each ∙ ap (λ (z : A). take i xs ++ z ∷ []) (last ∙ is) ∙ sym (take_more xs i x within)
