-- What scripts are shown of a transaction that was resolved is its scene.
use Rattle.std.proofs.Common.{◌≡◌, ℕ, ◌<◌, ◌≤◌, Bool, true, false, ◌&&◌, ◌||◌, ◌==◌, cond, eqb, List, [], ◌∷◌, length, map, take, Option, Some, None, refl, sym, ap, ◌∙◌, subst, inl, inr, ◌⊎◌, arith}
use Rattle.std.specs.Prelude.{slice_get, slice_index, if◌then◌else◌}
use Rattle.std.specs.Option.{option_map, option_and_then}
use Rattle.std.specs.List.{All, AllZip, list_any, filter_map, cons_option}
use Rattle.std.specs.Str.{bytes_eq}
use Rattle.std.proofs.lemmas.Bool.{ne_eqb, eq-eqb, cases_eq, lt-ltb, le-ltb, cases_lt}
use Rattle.std.proofs.lemmas.List.{length-map}
use Rattle.std.proofs.lemmas.List.Elements.{All-head, All-tail}
use Rattle.std.proofs.lemmas.Option.{slice_get_within, slice_get-map, same_Some}
use Rattle.std.proofs.lemmas.Slice.Eq.{bytes_eq-Decides}
use Rattle.chain_defs.specs.Schema.{OutPoint, Header, CellOutput, Block, CellInput, Transaction}
use Rattle.chain_defs.specs.Specification.{Specification, is_second_at}
use Rattle.chain_defs.specs.Hashes.{transaction_hash}
use Rattle.chain_defs.specs.Kept.{block_at, place_of}
use Rattle.chain_defs.specs.Branch.{branch, branch_places}
use Rattle.chain_defs.proofs.KeptLaws.{slice_get-below}
use Rattle.chain_defs.proofs.BranchLaws.{places_on}
use Rattle.chain_tree.specs.declared.entry.Entry.{Entry}
use Rattle.chain_tree.specs.Entries.{entry_at}
use Rattle.chain_tree.specs.Blocks.{IndexesBlocks}
use Rattle.chain_tree.specs.Told.{Stored, blocks_of}
use Rattle.chain_tree.proofs.BlockLemmas.{len-same}
use Rattle.chain_defs.specs.Cell.{Cell, script_hash, data_hash, occupied_by}
use Rattle.chain_defs.specs.Row.{Row, row_of}
use Rattle.cell_state.specs.Copies.{ResolvedValue, ResolvedTxValue}
use Rattle.rule_defs.specs.Site.{Site, Found, all_there, height_at}
use Rattle.rule_defs.specs.Resolving.{inputs, deps, heights}
use Rattle.tx_rules.specs.At.{AtValue, IsSiteOf, place_of_height}
use Rattle.tx_rules.specs.Outcome.{Copies, IsFormed, IsResolved}
use Rattle.tx_rules.proofs.BranchLemmas.{PlaceOfHeight, place-of-height}
use Rattle.tx_rules.proofs.DepositLemmas.{heights-below, listed-below, EntryOfHeight, entry-of-height}
use Rattle.verdict_defs.specs.Scene.{ShownCell, header_on, made_in, shown, scene_of}
use Rattle.script_run.specs.Showing.{header_of, same_hash, tells_output, cell_shown, cells_shown, headers_shown, is_whole, scene_with, scene_shown}

bytes-same : (xs ys : List ℕ) → xs ≡ ys → bytes_eq xs ys ≡ true
bytes-same xs ys same = (bytes_eq-Decides xs ys).1 same

-- ---- The parent is kept where its branch has a block

branch-past : (kept : List Block) (parent : ℕ) → block_at kept parent ≡ None → branch kept parent ≡ []
unfolding branch_places
branch-past kept parent none =
    ap (λ (found : Option ℕ). filter_map (block_at kept) (places_on parent kept parent found))
    (ap (option_and_then (λ (b : Block). place_of (take parent kept) b.header.parent_hash)) none)
    ∙ ap (λ (found : Option Block). cons_option found []) none

parent-kept : (kept : List Block) (parent height : ℕ) → height < length (branch kept parent) → parent < length kept
parent-kept kept parent height low = by_block (block_at kept parent) refl
  where
    by_block : (found : Option Block) → block_at kept parent ≡ found → parent < length kept
    by_block None none = let no : length (branch kept parent) ≡ 0 = ap length (branch-past kept parent none) in absurd (omega (arith, low, no))
    by_block (Some b) there = slice_get_within kept parent b there

-- ---- The headers of heights on the branch

stored-header : (stored : List Stored) (place : ℕ)
    → option_map (λ (it : Stored). it.block.header) (slice_get stored place) ≡ option_map (λ (b : Block). b.header) (block_at (blocks_of stored) place)
stored-header stored place =
    sym (ap (option_map (λ (b : Block). b.header)) (slice_get-map (λ (it : Stored). it.block) stored place) ∙ by_stored (slice_get stored place))
  where
    by_stored : (found : Option Stored)
        → option_map (λ (b : Block). b.header) (option_map (λ (it : Stored). it.block) found) ≡ option_map (λ (it : Stored). it.block.header) found
    by_stored None = refl
    by_stored (Some it) = refl

header-there : (stored : List Stored) (parent height : ℕ) → height < length (branch (blocks_of stored) parent)
    → option_map (λ (it : Stored). it.block.header) (slice_get stored (slice_index (branch_places (blocks_of stored) parent) height))
    ≡ header_on (branch (blocks_of stored) parent) height
header-there stored parent height low =
    let block = slice_get-below (branch (blocks_of stored) parent) height low in
    let place : PlaceOfHeight (blocks_of stored) parent height block.0 =
    place-of-height (blocks_of stored) parent height block.0 (parent-kept (blocks_of stored) parent height low) block.1 in
    stored-header stored (slice_index (branch_places (blocks_of stored) parent) height)
    ∙ ap (option_map (λ (b : Block). b.header)) (place.there ∙ sym block.1)

headers-there : (stored : List Stored) (parent : ℕ) (hs : List ℕ) → All (λ h. h < length (branch (blocks_of stored) parent)) hs
    → headers_shown stored (map (slice_index (branch_places (blocks_of stored) parent)) hs) ≡ Some (filter_map (header_on (branch (blocks_of stored) parent)) hs)
unfolding all_there
headers-there stored parent [] low = refl
headers-there stored parent (h ∷ hs) low =
    ap (option_and_then (λ (v : Header). option_map (λ (vs : List Header). v ∷ vs) (headers_shown stored (map (slice_index (branch_places (blocks_of stored) parent)) hs))))
    (header-there stored parent h below ∙ some)
    ∙ ap (option_map (λ (vs : List Header). block.0.header ∷ vs))
    (headers-there stored parent hs (All-tail (λ n. n < length (branch (blocks_of stored) parent)) h hs low))
    ∙ sym (ap (λ (found : Option Header). Some (cons_option found (filter_map (header_on (branch (blocks_of stored) parent)) hs))) some)
  where
    below : h < length (branch (blocks_of stored) parent)
    below = All-head (λ n. n < length (branch (blocks_of stored) parent)) h hs low

    block : (b : Block) × (block_at (branch (blocks_of stored) parent) h ≡ Some b)
    block = slice_get-below (branch (blocks_of stored) parent) h below

    some : header_on (branch (blocks_of stored) parent) h ≡ Some block.0.header
    some = ap (option_map (λ (b : Block). b.header)) block.1

-- ---- The place of the block that made a cell, among those of heights on the branch

place-below : (kept : List Block) (parent height : ℕ) → height < length (branch kept parent)
    → place_of_height kept parent height ≡ slice_index (branch_places kept parent) height
place-below kept parent height below =
    ap (λ (b : Bool). cond b (slice_index (branch_places kept parent) height) (length kept)) (lt-ltb height (length (branch kept parent)) below)

place-last : (kept : List Block) (parent height : ℕ) → length (branch kept parent) ≤ height → place_of_height kept parent height ≡ length kept
place-last kept parent height past =
    ap (λ (b : Bool). cond b (slice_index (branch_places kept parent) height) (length kept)) (le-ltb height (length (branch kept parent)) past)

-- different heights have different places
one-height : (kept : List Block) (entries : List Entry) (parent one other : ℕ) → IndexesBlocks kept entries → one < length (branch kept parent)
    → other < length (branch kept parent) → slice_index (branch_places kept parent) one ≡ slice_index (branch_places kept parent) other → one ≡ other
one-height kept entries parent one other indexes low below same =
    sym here.number ∙ ap (λ (entry : Entry). entry.number) (same_Some here.entry there.entry (sym here.there ∙ ap (entry_at entries) same ∙ there.there))
    ∙ there.number
  where
    within : parent < length entries
    within = let long : length entries ≡ length kept = len-same kept entries indexes in
        let inside : parent < length kept = parent-kept kept parent one low in omega (arith, long, inside)

    here : EntryOfHeight kept entries parent one
    here = entry-of-height kept entries parent one indexes within low

    there : EntryOfHeight kept entries parent other
    there = entry-of-height kept entries parent other indexes within below

same-place : (kept : List Block) (entries : List Entry) (parent height made : ℕ) → IndexesBlocks kept entries → height < length (branch kept parent)
    → eqb (slice_index (branch_places kept parent) height) (place_of_height kept parent made) ≡ eqb height made
same-place kept entries parent height made indexes low = by_height (cases_lt made (length (branch kept parent)))
  where
    by_height : (made < length (branch kept parent)) ⊎ (length (branch kept parent) ≤ made)
        → eqb (slice_index (branch_places kept parent) height) (place_of_height kept parent made) ≡ eqb height made
    by_height (inl below) = ap (eqb (slice_index (branch_places kept parent) height)) (place-below kept parent made below) ∙ by_test (cases_eq height made)
      where
        by_test : (height ≡ made) ⊎ (height ≡ made → ⊥)
            → eqb (slice_index (branch_places kept parent) height) (slice_index (branch_places kept parent) made) ≡ eqb height made
        by_test (inl same) =
            eq-eqb (slice_index (branch_places kept parent) height) (slice_index (branch_places kept parent) made) (ap (slice_index (branch_places kept parent)) same)
            ∙ sym (eq-eqb height made same)
        by_test (inr other) =
            ne_eqb (slice_index (branch_places kept parent) height) (slice_index (branch_places kept parent) made)
            (λ same. other (one-height kept entries parent height made indexes low below same))
            ∙ sym (ne_eqb height made other)
    by_height (inr past) =
        let block = slice_get-below (branch kept parent) height low in
        let place : PlaceOfHeight kept parent height block.0 = place-of-height kept parent height block.0 (parent-kept kept parent height low) block.1 in
        let within : slice_index (branch_places kept parent) height < length kept =
        slice_get_within kept (slice_index (branch_places kept parent) height) block.0 place.there in
        let last : place_of_height kept parent made ≡ length kept = place-last kept parent made past in
        ne_eqb (slice_index (branch_places kept parent) height) (place_of_height kept parent made) (λ same. omega (arith, same, last, within))
        ∙ sym (ne_eqb height made (λ same. omega (arith, same, past, low)))

named-same : (kept : List Block) (entries : List Entry) (parent made : ℕ) (hs : List ℕ) → IndexesBlocks kept entries → All (λ h. h < length (branch kept parent)) hs
    → list_any (λ header. header == place_of_height kept parent made) (map (slice_index (branch_places kept parent)) hs) ≡ list_any (λ h. h == made) hs
named-same kept entries parent made [] indexes low = refl
named-same kept entries parent made (h ∷ hs) indexes low =
    ap (λ (b : Bool). b || list_any (λ header. header == place_of_height kept parent made) (map (slice_index (branch_places kept parent)) hs))
    (same-place kept entries parent h made indexes (All-head (λ n. n < length (branch kept parent)) h hs low))
    ∙ ap (λ (b : Bool). eqb h made || b) (named-same kept entries parent made hs indexes (All-tail (λ n. n < length (branch kept parent)) h hs low))

-- ---- The header of the block that made a cell

-- by places and by heights
made-header : (stored : List Stored) (entries : List Entry) (parent made : ℕ) (hs : List ℕ) → IndexesBlocks (blocks_of stored) entries
    → All (λ h. h < length (branch (blocks_of stored) parent)) hs
    → header_of stored (map (slice_index (branch_places (blocks_of stored) parent)) hs) (place_of_height (blocks_of stored) parent made)
    ≡ (if list_any (λ h. h == made) hs then header_on (branch (blocks_of stored) parent) made else None)
made-header stored entries parent made hs indexes low =
    ap (λ (b : Bool). if b then option_map (λ (it : Stored). it.block.header) (slice_get stored (place_of_height (blocks_of stored) parent made)) else None)
    (named-same (blocks_of stored) entries parent made hs indexes low)
    ∙ by_named (list_any (λ h. h == made) hs) refl
  where
    by_named : (b : Bool) → list_any (λ h. h == made) hs ≡ b
        → (if b then option_map (λ (it : Stored). it.block.header) (slice_get stored (place_of_height (blocks_of stored) parent made)) else None)
        ≡ (if b then header_on (branch (blocks_of stored) parent) made else None)
    by_named false other = refl
    by_named true named =
        let below : made < length (branch (blocks_of stored) parent) = listed-below hs made (length (branch (blocks_of stored) parent)) low named in
        ap (λ (place : ℕ). option_map (λ (it : Stored). it.block.header) (slice_get stored place)) (place-below (blocks_of stored) parent made below)
        ∙ header-there stored parent made below

-- ---- Cells

all-same : (a b c d : Bool) → a ≡ true → b ≡ true → c ≡ true → d ≡ true → (a && b && c && d) ≡ true
all-same true true true true x y z w = refl
all-same true true true false x y z w = w
all-same true true false d x y z w = absurd (cc)
all-same true false c d x y z w = absurd (cc)
all-same false b c d x y z w = absurd (cc)

-- the row of a cell tells of its output and its data
own-row : (place : ℕ) (cell : Cell) → tells_output (row_of place cell) cell.output cell.content ≡ true
own-row place cell = all-same (bytes_eq (script_hash cell.output.lock) (script_hash cell.output.lock))
    (same_hash (option_map script_hash cell.output.type_script) (option_map script_hash cell.output.type_script))
    (bytes_eq (data_hash cell.content) (data_hash cell.content)) (occupied_by cell.output cell.content == occupied_by cell.output cell.content)
    (bytes-same (script_hash cell.output.lock) (script_hash cell.output.lock) refl) (by_type (option_map script_hash cell.output.type_script))
    (bytes-same (data_hash cell.content) (data_hash cell.content) refl) (eq-eqb (occupied_by cell.output cell.content) (occupied_by cell.output cell.content) refl)
  where
    by_type : (hash : Option (List ℕ)) → same_hash hash hash ≡ true
    by_type None = refl
    by_type (Some hash) = bytes-same hash hash refl

-- a copy of a cell that is found is shown as the cell
cell-there : (stored : List Stored) (at : AtValue) (rows : OutPoint → Option Row) (site : Site) (t : Transaction) (found : Found) (copy : ResolvedValue)
    → IsSiteOf stored at rows site → All (λ h. h < length (branch (blocks_of stored) at.parent)) (heights site t) → Copies (blocks_of stored) at.parent found copy
    → cell_shown stored (map (slice_index (branch_places (blocks_of stored) at.parent)) (heights site t)) copy ≡ Some (shown site t found)
unfolding cell_shown
cell-there stored at rows site t found copy is low copies =
    ap (option_and_then as_shown) copies.bytes.output
    ∙ ap (λ (b : Bool). if b then Some (record { output = found.cell.output; content = copy.content; header = header_of stored headers copy.row.block }) else None) tells
    ∙ ap (λ (content : List ℕ). Some (record { output = found.cell.output; content = content; header = header_of stored headers copy.row.block })) copies.bytes.content
    ∙ ap (λ (h : Option Header). Some (record { output = found.cell.output; content = found.cell.content; header = h })) header
  where
    headers : List ℕ
    headers = map (slice_index (branch_places (blocks_of stored) at.parent)) (heights site t)

    as_shown : CellOutput → Option ShownCell
    as_shown output = if tells_output copy.row output copy.content
        then Some (record { output = output; content = copy.content; header = header_of stored headers copy.row.block }) else None

    its_row : copy.row ≡ row_of (place_of_height (blocks_of stored) at.parent found.cell.height) found.cell
    its_row = ap (λ (pair : OutPoint × Row). pair.1) copies.row

    tells : tells_output copy.row found.cell.output copy.content ≡ true
    tells = ap (λ (row : Row). tells_output row found.cell.output copy.content) its_row
        ∙ ap (λ (content : List ℕ). tells_output (row_of (place_of_height (blocks_of stored) at.parent found.cell.height) found.cell) found.cell.output content) copies.bytes.content
        ∙ own-row (place_of_height (blocks_of stored) at.parent found.cell.height) found.cell

    header : header_of stored headers copy.row.block ≡ made_in site t found.cell
    header = ap (λ (row : Row). header_of stored headers row.block) its_row
        ∙ made-header stored at.entries at.parent found.cell.height (heights site t) is.indexed low
        ∙ ap (λ (blocks : List Block). if list_any (λ h. h == found.cell.height) (heights site t) then header_on blocks found.cell.height else None) (sym is.on_branch)

cells-there : (stored : List Stored) (at : AtValue) (rows : OutPoint → Option Row) (site : Site) (t : Transaction) (founds : List Found) (copies : List ResolvedValue)
    → IsSiteOf stored at rows site → All (λ h. h < length (branch (blocks_of stored) at.parent)) (heights site t)
    → AllZip (Copies (blocks_of stored) at.parent) founds copies
    → cells_shown stored (map (slice_index (branch_places (blocks_of stored) at.parent)) (heights site t)) copies ≡ Some (map (shown site t) founds)
unfolding all_there
cells-there stored at rows site t [] [] is low each = refl
cells-there stored at rows site t [] (copy ∷ copies) is low each = absurd each
cells-there stored at rows site t (found ∷ founds) [] is low each = absurd each
cells-there stored at rows site t (found ∷ founds) (copy ∷ copies) is low each =
    ap (option_and_then (λ (v : ShownCell). option_map (λ (vs : List ShownCell). v ∷ vs)
    (cells_shown stored (map (slice_index (branch_places (blocks_of stored) at.parent)) (heights site t)) copies)))
    (cell-there stored at rows site t found copy is low each.0)
    ∙ ap (option_map (λ (vs : List ShownCell). shown site t found ∷ vs)) (cells-there stored at rows site t founds copies is low each.1)

-- ---- The scene

whole : (entries : List Entry) (t : Transaction) (resolved : ResolvedTxValue) → IsFormed entries t resolved → is_whole resolved ≡ true
whole entries t resolved formed =
    ap (λ (b : Bool). b && eqb (length resolved.inputs) (length resolved.tx.raw.inputs))
    (bytes-same resolved.hash (transaction_hash resolved.tx) (formed.hash ∙ ap transaction_hash (sym formed.tx)))
    ∙ eq-eqb (length resolved.inputs) (length resolved.tx.raw.inputs)
    (sym (length-map resolved.inputs (λ (copy : ResolvedValue). copy.out_point)) ∙ ap length formed.inputs
    ∙ length-map t.raw.inputs (λ (input : CellInput). input.previous_output) ∙ ap (λ (it : Transaction). length it.raw.inputs) (sym formed.tx))

-- Over kept blocks that are known what a transaction resolves to shows its scene at its site.
scene-same : (stored : List Stored) (at : AtValue) (rows : OutPoint → Option Row) (site : Site) (entries : List Entry) (t : Transaction)
    (resolved : ResolvedTxValue) → IsSiteOf stored at rows site → IsFormed entries t resolved → IsResolved (blocks_of stored) at.parent site t resolved
    → scene_shown site.second site.spec.epoch_length stored resolved ≡ Some (scene_of site t)
unfolding scene_shown scene_of
scene-same stored at rows site entries t resolved is formed resolves =
    ap (λ (b : Bool). if b then scene_with site.second length_of resolved.tx (cells_shown stored resolved.headers resolved.inputs)
    (cells_shown stored resolved.headers resolved.deps) (headers_shown stored resolved.headers) else None) (whole entries t resolved formed)
    ∙ ap (λ (hs : List ℕ). scene_with site.second length_of resolved.tx (cells_shown stored hs resolved.inputs) (cells_shown stored hs resolved.deps) (headers_shown stored hs))
    resolves.headers_are
    ∙ ap (λ (it : Transaction). scene_with site.second length_of it (cells_shown stored places resolved.inputs) (cells_shown stored places resolved.deps) (headers_shown stored places))
    formed.tx
    ∙ ap (λ (cells : Option (List ShownCell)). scene_with site.second length_of t cells (cells_shown stored places resolved.deps) (headers_shown stored places))
    (cells-there stored at rows site t (inputs site t) resolved.inputs is low resolves.inputs_are)
    ∙ ap (λ (cells : Option (List ShownCell)). scene_with site.second length_of t (Some (map (shown site t) (inputs site t))) cells (headers_shown stored places))
    (cells-there stored at rows site t (deps site t) resolved.deps is low resolves.deps_are)
    ∙ ap (scene_with site.second length_of t (Some (map (shown site t) (inputs site t))) (Some (map (shown site t) (deps site t))))
    (headers-there stored at.parent (heights site t) low
    ∙ ap (λ (blocks : List Block). Some (filter_map (header_on blocks) (heights site t))) (sym is.on_branch))
  where
    length_of : ℕ
    length_of = site.spec.epoch_length

    places : List ℕ
    places = map (slice_index (branch_places (blocks_of stored) at.parent)) (heights site t)

    low : All (λ h. h < length (branch (blocks_of stored) at.parent)) (heights site t)
    low = subst (λ (blocks : List Block). All (λ h. h < length blocks) (heights site t)) is.on_branch (heights-below site t)

-- with the specification that the code is handed
pub scene-told : (stored : List Stored) (at : AtValue) (rows : OutPoint → Option Row) (site : Site) (spec : Specification) (second : Bool) (resolved : ResolvedTxValue)
    → IsSiteOf stored at rows site → IsFormed at.entries resolved.tx resolved → IsResolved (blocks_of stored) at.parent site resolved.tx resolved
    → spec ≡ at.spec → second ≡ site.second → scene_shown second spec.epoch_length stored resolved ≡ Some (scene_of site resolved.tx)
scene-told stored at rows site spec second resolved is formed resolves same edition =
    ap (λ (its : Specification). scene_shown second its.epoch_length stored resolved) (same ∙ sym is.spec)
    ∙ ap (λ (its : Bool). scene_shown its site.spec.epoch_length stored resolved) edition
    ∙ scene-same stored at rows site at.entries resolved.tx resolved is formed resolves

-- by the edition of its height
pub edition-told : (stored : List Stored) (at : AtValue) (rows : OutPoint → Option Row) (site : Site) (spec : Specification) (second : Bool) (height : ℕ)
    → IsSiteOf stored at rows site → spec ≡ at.spec → height ≡ height_at site → second ≡ is_second_at spec height → second ≡ site.second
edition-told stored at rows site spec second height is same last says =
    says ∙ ap (λ (its : Specification). is_second_at its height) (same ∙ sym is.spec) ∙ ap (is_second_at site.spec) last ∙ sym is.second
