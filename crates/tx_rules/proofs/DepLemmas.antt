-- The cells that cell deps stand for, by the rows of the cells that a transaction sees.
use Rattle.std.proofs.Common.{◌≡◌, ℕ, ◌+◌, ◌<◌, ◌≤◌, Bool, true, false, cond, eqb, List, [], ◌∷◌, ◌++◌, length, map, take, Option, Some, None, refl, sym, ap, ◌∙◌, inl, inr, ◌⊎◌, arith, append_assoc, append-nil, Result, Ok, Err}
use Rattle.std.specs.Prelude.{slice_get, IfOk, if◌then◌else◌}
use Rattle.std.specs.Option.{option_map, option_and_then}
use Rattle.std.specs.List.{flat_map}
use Rattle.std.proofs.lemmas.List.{map-append}
use Rattle.std.proofs.lemmas.Option.{same_Some}
use Rattle.chain_defs.specs.Schema.{OutPoint, CellDep}
use Rattle.chain_tree.specs.Told.{Stored, blocks_of}
use Rattle.chain_defs.specs.Cell.{Cell}
use Rattle.chain_defs.specs.Row.{Row, row_of}
use Rattle.cell_state.specs.Copies.{NamesOutput}
use Rattle.rule_defs.specs.Site.{Site, Found, find_cell, all_there}
use Rattle.rule_defs.specs.Resolving.{cells_of_dep, members_of}
use Rattle.tx_rules.specs.At.{AtValue, IsSiteOf, found_row, find_row, place_of_height}
use Rattle.tx_rules.specs.Members.{Adds, member_rows}
use Rattle.tx_rules.proofs.AllThere.{take-push, all_there-push, all_there-map, there-none}
use Rattle.tx_rules.proofs.SiteLemmas.{IsKeptRow, IsOwnRow, row-made, row-seen, find_row-found}

-- ---- A cell dep

-- the row that is found, and the cell that it stands for
pub record SeenRow (stored : List Stored) (at : AtValue) (rows : OutPoint → Option Row) (site : Site) (o named : OutPoint) (row : Row) : Type 0 where
  pub same : named ≡ o
  pub cell : Cell
  pub seen : site.cell o ≡ Some cell
  pub its_row : row ≡ row_of (place_of_height (blocks_of stored) at.parent cell.height) cell

pub seen-row : (stored : List Stored) (at : AtValue) (rows : OutPoint → Option Row) (site : Site) (o named : OutPoint) (row : Row) → IsSiteOf stored at rows site
    → find_row rows o ≡ Some (named, row) → SeenRow stored at rows site o named row
seen-row stored at rows site o named row is found = by_row (rows o) refl found
  where
    by_row : (there : Option Row) → rows o ≡ there → option_map {U = OutPoint × Row} (λ (r : Row). (o, r)) there ≡ Some (named, row) → SeenRow stored at rows site o named row
    by_row None there same = absurd (cc)
    by_row (Some r) there same =
        let both : (o, r) ≡ (named, row) = same_Some (o, r) (named, row) same in
        let same_row : r ≡ row = ap (λ (it : OutPoint × Row). it.1) both in
        let cell = row-seen stored at rows site o r is there in
        record { same = sym (ap (λ (it : OutPoint × Row). it.0) both); cell = cell.0; seen = cell.1; its_row = sym same_row ∙ cell.2 }

-- one that is not seen
pub unseen : (stored : List Stored) (at : AtValue) (rows : OutPoint → Option Row) (site : Site) (o : OutPoint) → IsSiteOf stored at rows site
    → find_row rows o ≡ None → find_cell site o ≡ None
unseen stored at rows site o is none = by_cell (find_cell site o) (sym (find_row-found stored at rows site o is) ∙ none)
  where
    by_cell : (found : Option Found) → option_map (found_row (blocks_of stored) at.parent) found ≡ None → found ≡ None
    by_cell None same = refl
    by_cell (Some found) same = absurd (cc)

-- what a cell dep stands for, by its type and the cell that is found
abbrev cells_by : Site → ℕ → Option Found → Option (List Found)
cells_by site type found =
    cond (eqb type 0) (option_map (λ (it : Found). it ∷ []) found)
    (cond (eqb type 1) (option_and_then (λ (it : Found). option_and_then (λ members. all_there (map (find_cell site) members)) (members_of it.cell.content)) found) None)

dep-by : (site : Site) (dep : CellDep) (type : ℕ) (found : Option Found) → dep.dep_type ≡ type → find_cell site dep.out_point ≡ found
    → cells_of_dep site dep ≡ cells_by site type found
unfolding cells_of_dep
dep-by site dep type found is_type is_found =
    ap (λ (n : ℕ). cells_by site n (find_cell site dep.out_point)) is_type ∙ ap (cells_by site type) is_found

pub dep-none : (site : Site) (dep : CellDep) → find_cell site dep.out_point ≡ None → cells_of_dep site dep ≡ None
dep-none site dep none = dep-by site dep dep.dep_type None refl none ∙ by_type (eqb dep.dep_type 0) (eqb dep.dep_type 1) None
  where
    by_type : (one other : Bool) (nothing : Option (List Found)) → cond one nothing (cond other nothing nothing) ≡ nothing
    by_type true other nothing = refl
    by_type false true nothing = refl
    by_type false false nothing = refl

pub dep-other : (site : Site) (dep : CellDep) → eqb dep.dep_type 0 ≡ false → eqb dep.dep_type 1 ≡ false → cells_of_dep site dep ≡ None
dep-other site dep no_code no_group =
    dep-by site dep dep.dep_type (find_cell site dep.out_point) refl refl
    ∙ ap (λ (b : Bool). cond b (option_map (λ (it : Found). it ∷ []) (find_cell site dep.out_point))
    (cond (eqb dep.dep_type 1) (option_and_then (λ (it : Found). option_and_then (λ members. all_there (map (find_cell site) members)) (members_of it.cell.content)) (find_cell site dep.out_point)) None)) no_code
    ∙ ap (λ (b : Bool). cond b (option_and_then (λ (it : Found). option_and_then (λ members. all_there (map (find_cell site) members)) (members_of it.cell.content)) (find_cell site dep.out_point)) None) no_group

-- a cell alone
pub dep-code : (stored : List Stored) (at : AtValue) (rows : OutPoint → Option Row) (site : Site) (dep : CellDep) (named : OutPoint) (row : Row)
    → SeenRow stored at rows site dep.out_point named row → dep.dep_type ≡ 0
    → Some ((named, row) ∷ []) ≡ option_map (map (found_row (blocks_of stored) at.parent)) (cells_of_dep site dep)
dep-code stored at rows site dep named row seen is_type =
    let found : find_cell site dep.out_point ≡ Some (record { out_point = dep.out_point; cell = seen.cell }) =
    ap (option_map (λ (c : Cell). record { out_point = dep.out_point; cell = c })) seen.seen in
    ap (λ (o : OutPoint). Some ((o, row) ∷ [])) seen.same
    ∙ ap (λ (r : Row). Some ((dep.out_point, r) ∷ [])) seen.its_row
    ∙ sym (ap (option_map (map (found_row (blocks_of stored) at.parent))) (dep-by site dep 0 (Some (record { out_point = dep.out_point; cell = seen.cell })) is_type found))

-- the members of a group
members-found : (stored : List Stored) (at : AtValue) (rows : OutPoint → Option Row) (site : Site) (content : List ℕ) → IsSiteOf stored at rows site
    → member_rows rows content
    ≡ option_map (map (found_row (blocks_of stored) at.parent)) (option_and_then (λ members. all_there (map (find_cell site) members)) (members_of content))
members-found stored at rows site content is = by_members (members_of content)
  where
    by_members : (members : Option (List OutPoint))
        → option_and_then (λ ms. all_there (map (find_row rows) ms)) members
        ≡ option_map (map (found_row (blocks_of stored) at.parent)) (option_and_then (λ ms. all_there (map (find_cell site) ms)) members)
    by_members None = refl
    by_members (Some ms) =
        all_there-map (find_row rows) (find_cell site) (found_row (blocks_of stored) at.parent) ms (λ o. find_row-found stored at rows site o is)

pub dep-group : (stored : List Stored) (at : AtValue) (rows : OutPoint → Option Row) (site : Site) (dep : CellDep) (named : OutPoint) (row : Row)
    → IsSiteOf stored at rows site → (seen : SeenRow stored at rows site dep.out_point named row) → dep.dep_type ≡ 1
    → member_rows rows seen.cell.content ≡ option_map (map (found_row (blocks_of stored) at.parent)) (cells_of_dep site dep)
dep-group stored at rows site dep named row is seen is_type =
    let found : find_cell site dep.out_point ≡ Some (record { out_point = dep.out_point; cell = seen.cell }) =
    ap (option_map (λ (c : Cell). record { out_point = dep.out_point; cell = c })) seen.seen in
    members-found stored at rows site seen.cell.content is
    ∙ sym (ap (option_map (map (found_row (blocks_of stored) at.parent))) (dep-by site dep 1 (Some (record { out_point = dep.out_point; cell = seen.cell })) is_type found))

-- a row whose block has an entry is that of a kept block, and names the cell's output there
pub kept-names : (stored : List Stored) (at : AtValue) (rows : OutPoint → Option Row) (site : Site) (o : OutPoint) (cell : Cell) (row : Row)
    → at.parent < length at.entries → IsSiteOf stored at rows site → site.cell o ≡ Some cell
    → row ≡ row_of (place_of_height (blocks_of stored) at.parent cell.height) cell → row.block < length at.entries → NamesOutput stored o row cell
kept-names stored at rows site o cell row placed is seen its_row below = by_made (row-made stored at rows site o cell row placed is seen its_row)
  where
    by_made : IsKeptRow stored at o cell row ⊎ IsOwnRow stored at o cell row → NamesOutput stored o row cell
    by_made (inl kept) = kept.names
    by_made (inr own) = let last = own.last in absurd (omega (arith, last, below))

-- any other is of the block that is judged
pub own-row : (stored : List Stored) (at : AtValue) (rows : OutPoint → Option Row) (site : Site) (o : OutPoint) (cell : Cell) (row : Row)
    → at.parent < length at.entries → IsSiteOf stored at rows site → site.cell o ≡ Some cell
    → row ≡ row_of (place_of_height (blocks_of stored) at.parent cell.height) cell → length at.entries ≤ row.block → IsOwnRow stored at o cell row
own-row stored at rows site o cell row placed is seen its_row past = by_made (row-made stored at rows site o cell row placed is seen its_row)
  where
    by_made : IsKeptRow stored at o cell row ⊎ IsOwnRow stored at o cell row → IsOwnRow stored at o cell row
    by_made (inl kept) = let below = kept.below in absurd (omega (arith, below, past))
    by_made (inr own) = own

-- ---- All cell deps

-- the cells that some cell deps stand for
abbrev pub cells_of_deps : Site → List CellDep → Option (List Found)
cells_of_deps site deps = option_map (flat_map (λ cells. cells)) (all_there (map (cells_of_dep site) deps))

flat_map-push : {X : Type 0} (lists : List (List X)) (xs : List X) → flat_map (λ ys. ys) (lists ++ xs ∷ []) ≡ flat_map (λ ys. ys) lists ++ xs
flat_map-push [] xs = append-nil xs
flat_map-push (first ∷ lists) xs = ap (λ rest. first ++ rest) (flat_map-push lists xs) ∙ sym (append_assoc first (flat_map (λ ys. ys) lists) xs)

-- the cells of one dep more
pub deps-more : {Y Z : Type 0} (g : Y → Z) (site : Site) (deps : List CellDep) (i : ℕ) (dep : CellDep) (so_far rows : List Z) (cells : CellDep → Option (List Y))
    → Some so_far ≡ option_map (map g) (option_map (flat_map (λ ys. ys)) (all_there (map cells (take i deps)))) → slice_get deps i ≡ Some dep
    → Some rows ≡ option_map (map g) (cells dep)
    → Some (so_far ++ rows) ≡ option_map (map g) (option_map (flat_map (λ ys. ys)) (all_there (map cells (take (i + 1) deps))))
deps-more {Y = Y} {Z = Z} g site deps i dep so_far rows cells before there here =
    by_lists (all_there (map cells (take i deps))) refl (cells dep) refl before here
  where
    by_lists : (lists : Option (List (List Y))) → all_there (map cells (take i deps)) ≡ lists → (found : Option (List Y)) → cells dep ≡ found
        → Some so_far ≡ option_map (map g) (option_map (flat_map (λ ys. ys)) lists) → Some rows ≡ option_map (map g) found
        → Some (so_far ++ rows) ≡ option_map (map g) (option_map (flat_map (λ ys. ys)) (all_there (map cells (take (i + 1) deps))))
    by_lists None is found cells_are front last = absurd (cc)
    by_lists (Some lists) is None cells_are front last = absurd (cc)
    by_lists (Some lists) is (Some ys) cells_are front last =
        let all : all_there (map cells (take (i + 1) deps)) ≡ Some (lists ++ ys ∷ []) =
        ap (λ (ds : List CellDep). all_there (map cells ds)) (take-push deps i dep there)
        ∙ ap all_there (map-append cells (take i deps) (dep ∷ []))
        ∙ ap (λ (found : Option (List Y)). all_there (map cells (take i deps) ++ found ∷ [])) cells_are
        ∙ all_there-push (map cells (take i deps)) lists ys is in
        let one : so_far ≡ map g (flat_map (λ zs. zs) lists) = same_Some so_far (map g (flat_map (λ zs. zs) lists)) front in
        let other : rows ≡ map g ys = same_Some rows (map g ys) last in
        ap (λ (zs : List Z). Some (zs ++ rows)) one ∙ ap (λ (zs : List Z). Some (map g (flat_map (λ us. us) lists) ++ zs)) other
        ∙ ap Some (sym (map-append g (flat_map (λ zs. zs) lists) ys) ∙ ap (map g) (sym (flat_map-push lists ys)))
        ∙ sym (ap (λ (found : Option (List (List Y))). option_map (map g) (option_map (flat_map (λ zs. zs)) found)) all)

-- those that are added for one dep more
pub deps-added : {Y Z : Type 0} (g : Y → Z) (site : Site) (deps : List CellDep) (i : ℕ) (dep : CellDep) (so_far new : List Z) (cells : CellDep → Option (List Y))
    → Some so_far ≡ option_map (map g) (option_map (flat_map (λ ys. ys)) (all_there (map cells (take i deps)))) → slice_get deps i ≡ Some dep
    → Some new ≡ option_map (λ these. so_far ++ these) (option_map (map g) (cells dep))
    → Some new ≡ option_map (map g) (option_map (flat_map (λ ys. ys)) (all_there (map cells (take (i + 1) deps))))
deps-added {Y = Y} {Z = Z} g site deps i dep so_far new cells before there here = by_cells (cells dep) refl here
  where
    by_cells : (found : Option (List Y)) → cells dep ≡ found → Some new ≡ option_map (λ (these : List Z). so_far ++ these) (option_map (map g) found)
        → Some new ≡ option_map (map g) (option_map (flat_map (λ ys. ys)) (all_there (map cells (take (i + 1) deps))))
    by_cells None are same = absurd (cc)
    by_cells (Some ys) are same = same ∙ deps-more g site deps i dep so_far (map g ys) cells before there (sym (ap (option_map (map g)) are))

-- one dep that does not resolve
pub deps-none : {Y Z : Type 0} (g : Y → Z) (deps : List CellDep) (i : ℕ) (dep : CellDep) (cells : CellDep → Option (List Y)) → slice_get deps i ≡ Some dep
    → None ≡ option_map (map g) (cells dep) → None ≡ option_map (map g) (option_map (flat_map (λ ys. ys)) (all_there (map cells deps)))
deps-none {Y = Y} g deps i dep cells there none =
    sym (ap (λ (found : Option (List (List Y))). option_map (map g) (option_map (flat_map (λ ys. ys)) found)) (there-none cells deps i dep there (by_cells (cells dep) none)))
  where
    by_cells : (found : Option (List Y)) → None ≡ option_map (map g) found → found ≡ None
    by_cells None is = refl
    by_cells (Some ys) is = absurd (cc)

-- ---- What is answered

-- rows that are all there and are added
pub all-added : {X : Type 0} (old new : List X) (all : Bool) (rows : Option (List X)) → all ≡ true → Adds old all new rows
    → Some new ≡ option_map (λ these. old ++ these) rows
all-added old new all rows are adds = ap (λ (b : Bool). if b then Some new else None) (sym are) ∙ adds

pub none-added : {X : Type 0} (old new : List X) (all : Bool) (rows : Option (List X)) → all ≡ false → Adds old all new rows → None ≡ rows
none-added {X = X} old new all rows are adds = by_rows rows (ap (λ (b : Bool). if b then Some new else None) (sym are) ∙ adds)
  where
    by_rows : (these : Option (List X)) → None ≡ option_map (λ (xs : List X). old ++ xs) these → None ≡ these
    by_rows None is = refl
    by_rows (Some xs) is = absurd (cc)

-- an answer of equal value
pub ok-same : {X E Y : Type 0} (result : Result X E) (f : X → Y) (one other : Y) → one ≡ other → IfOk result (λ x. f x ≡ one) → IfOk result (λ x. f x ≡ other)
ok-same (Ok x) f one other same is = is ∙ same
ok-same (Err e) f one other same is = tt
