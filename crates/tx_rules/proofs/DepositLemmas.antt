-- The header deps of a transaction, by their heights and by their places in the tree.
use Rattle.std.proofs.Common.{◌≡◌, ℕ, zero, suc, ◌<◌, ◌≤◌, Bool, true, false, ◌&&◌, ◌||◌, not, ◌==◌, eqb, nat_lt, map, get_or, List, [], ◌∷◌, length, Option, Some, None, refl, sym, ap, ◌∙◌, subst, inl, inr, ◌⊎◌, arith}
use Rattle.std.specs.Prelude.{slice_get, slice_index, unwrap_or, is_some, IsTrue, if◌then◌else◌}
use Rattle.std.specs.Option.{option_map, option_and_then}
use Rattle.std.specs.List.{All, AllZip, list_any}
use Rattle.std.proofs.lemmas.List.Elements.{All-nil, All-head, All-tail}
use Rattle.std.proofs.lemmas.Bool.{ne_eqb, eqb-true, eq-eqb, lt-ltb, le-ltb, cases_eq}
use Rattle.std.proofs.lemmas.Option.{slice_get_within, slice_get-map, get_or_from_slice_get, same_Some, cond_some}
use Rattle.chain_defs.specs.Schema.{OutPoint, Block, Transaction}
use Rattle.chain_defs.specs.Kept.{place_of}
use Rattle.chain_defs.specs.Branch.{branch_places, branch}
use Rattle.chain_defs.proofs.KeptLaws.{slice_get-below, place_of-below}
use Rattle.chain_tree.specs.declared.entry.Entry.{Entry}
use Rattle.chain_tree.specs.Entries.{entry_at}
use Rattle.chain_tree.specs.Blocks.{IndexesBlocks}
use Rattle.chain_tree.specs.Told.{Stored, blocks_of}
use Rattle.chain_tree.proofs.BlockLemmas.{len-same}
use Rattle.chain_defs.specs.Cell.{Cell}
use Rattle.chain_defs.specs.Row.{Row}
use Rattle.rule_defs.specs.Site.{Site, Found}
use Rattle.rule_defs.specs.Resolving.{inputs, may_be_named, named_ancestor, header_heights, heights}
use Rattle.rule_defs.specs.Withdrawals.{deposit_index, deposit_height}
use Rattle.tx_rules.specs.At.{AtValue, IsAtParent, IsSiteOf}
use Rattle.cell_state.specs.Copies.{ResolvedValue, IsCopyOf}
use Rattle.tx_rules.specs.Outcome.{Copies}
use Rattle.tx_rules.specs.Seen.{IsRowOf}
use Rattle.tx_rules.proofs.BranchLemmas.{PlaceOfHeight, place-of-height, number-on-branch}
use Rattle.tx_rules.proofs.SiteLemmas.{IsKeptRow, IsOwnRow, inputs-seen}
use Rattle.tx_rules.proofs.AllThere.{all_there-all}
use Rattle.tx_rules.proofs.AgeLemmas.{row-of, made-kept}

-- ---- Their heights are those of the branch

ancestor-below : (site : Site) (hash : List ℕ) (height : ℕ) → named_ancestor site hash ≡ Some height → height < length site.branch
ancestor-below site hash height is = by_place (place_of site.branch hash) refl is
  where
    by_place : (found : Option ℕ) → place_of site.branch hash ≡ found
        → option_and_then (λ (h : ℕ). if may_be_named site h then Some h else None) found ≡ Some height
        → height < length site.branch
    by_place None there same = absurd (cc)
    by_place (Some h) there same =
        let low : h < length site.branch = place_of-below site.branch hash h there in
        let at : h ≡ height = (cond_some (may_be_named site h) h height same).1 in
        omega (arith, low, at)

pub heights-below : (site : Site) (t : Transaction) → All (λ h. h < length site.branch) (heights site t)
unfolding header_heights
heights-below site t = by_heights (header_heights site t) refl
  where
    by_heights : (found : Option (List ℕ)) → header_heights site t ≡ found → All (λ h. h < length site.branch) (unwrap_or found [])
    by_heights None is = All-nil (λ h. h < length site.branch)
    by_heights (Some hs) is =
        all_there-all (λ h. h < length site.branch) (named_ancestor site) t.raw.header_deps hs (ancestor-below site) is

-- ---- The entry of a height

pub record EntryOfHeight (kept : List Block) (entries : List Entry) (parent height : ℕ) : Type 0 where
  pub entry : Entry
  pub there : entry_at entries (slice_index (branch_places kept parent) height) ≡ Some entry
  pub number : entry.number ≡ height
  pub within : slice_index (branch_places kept parent) height < length entries

pub entry-of-height : (kept : List Block) (entries : List Entry) (parent height : ℕ) → IndexesBlocks kept entries → parent < length entries
    → height < length (branch kept parent) → EntryOfHeight kept entries parent height
entry-of-height kept entries parent height indexes below low =
    let long : length entries ≡ length kept = len-same kept entries indexes in
    let block = slice_get-below (branch kept parent) height low in
    let place : PlaceOfHeight kept parent height block.0 = place-of-height kept parent height block.0 (omega (arith, below, long)) block.1 in
    let within : slice_index (branch_places kept parent) height < length kept =
    slice_get_within kept (slice_index (branch_places kept parent) height) block.0 place.there in
    let entry = slice_get-below entries (slice_index (branch_places kept parent) height) (omega (arith, within, long)) in
    record {
      entry = entry.0;
      there = entry.1;
      number = number-on-branch kept entries parent height (slice_index (branch_places kept parent) height) entry.0 indexes (omega (arith, below, long)) place.place entry.1;
      within = omega (arith, within, long);
    }

-- ---- The block of a row among them

same-place : (stored : List Stored) (at : AtValue) (rows : OutPoint → Option Row) (site : Site) (found : Found) (row : Row) (height : ℕ)
    → IsAtParent at → IsSiteOf stored at rows site → IsRowOf (blocks_of stored) at.parent site found row → height < length site.branch
    → eqb (slice_index (branch_places (blocks_of stored) at.parent) height) row.block ≡ eqb height found.cell.height
same-place stored at rows site found row height placed is its low = by_made (row-of stored at rows site found row placed is its)
  where
    under : height < length (branch (blocks_of stored) at.parent)
    under = let same : length site.branch ≡ length (branch (blocks_of stored) at.parent) = ap length is.on_branch in omega (arith, low, same)

    place : ℕ
    place = slice_index (branch_places (blocks_of stored) at.parent) height

    here : EntryOfHeight (blocks_of stored) at.entries at.parent height
    here = entry-of-height (blocks_of stored) at.entries at.parent height is.indexed placed.parent under

    by_made : IsKeptRow stored at found.out_point found.cell row ⊎ IsOwnRow stored at found.out_point found.cell row
        → eqb place row.block ≡ eqb height found.cell.height
    by_made (inl kept) = by_test (cases_eq height found.cell.height)
      where
        by_test : (height ≡ found.cell.height) ⊎ (height ≡ found.cell.height → ⊥) → eqb place row.block ≡ eqb height found.cell.height
        by_test (inl same) =
            let at : place ≡ row.block =
            ap (slice_index (branch_places (blocks_of stored) at.parent)) same
            ∙ get_or_from_slice_get (branch_places (blocks_of stored) at.parent) found.cell.height row.block 0 kept.place in
            eq-eqb place row.block at ∙ sym (eq-eqb height found.cell.height same)
        by_test (inr other) =
            ne_eqb place row.block (λ same. other
            (sym here.number ∙ (made-kept stored at rows site found row here.entry placed is its
            (ap (entry_at at.entries) (sym same) ∙ here.there)).0))
            ∙ sym (ne_eqb height found.cell.height other)
    by_made (inr own) =
        let within : place < length at.entries = here.within in
        let low : height < length (branch (blocks_of stored) at.parent) = under in
        ne_eqb place row.block (λ same. omega (arith, same, within, own.last))
        ∙ sym (ne_eqb height found.cell.height (λ same. omega (arith, same, low, own.height)))

pub named-same : (stored : List Stored) (at : AtValue) (rows : OutPoint → Option Row) (site : Site) (found : Found) (row : Row) (hs : List ℕ)
    → IsAtParent at → IsSiteOf stored at rows site → IsRowOf (blocks_of stored) at.parent site found row → All (λ h. h < length site.branch) hs
    → list_any (λ place. place == row.block) (map (slice_index (branch_places (blocks_of stored) at.parent)) hs) ≡ list_any (λ h. h == found.cell.height) hs
named-same stored at rows site found row [] placed is its low = refl
named-same stored at rows site found row (h ∷ hs) placed is its low =
    ap (λ (b : Bool). b || list_any (λ place. place == row.block) (map (slice_index (branch_places (blocks_of stored) at.parent)) hs))
    (same-place stored at rows site found row h placed is its (All-head (λ n. n < length site.branch) h hs low))
    ∙ ap (λ (b : Bool). eqb h found.cell.height || b) (named-same stored at rows site found row hs placed is its (All-tail (λ n. n < length site.branch) h hs low))

-- what is made at a height among them was made by a kept block
pub listed-below : (hs : List ℕ) (height bound : ℕ) → All (λ h. h < bound) hs → IsTrue (list_any (λ h. h == height) hs) → height < bound
listed-below [] height bound low listed = absurd (cc)
listed-below (h ∷ hs) height bound low listed =
    by_first (h == height) refl (listed-below hs height bound (All-tail (λ n. n < bound) h hs low)) listed
  where
    by_first : (b : Bool) → eqb h height ≡ b → (IsTrue (list_any (λ n. n == height) hs) → height < bound) → (b || list_any (λ n. n == height) hs) ≡ true
        → height < bound
    by_first true same rest either = subst (λ (n : ℕ). n < bound) (eqb-true h height same) (All-head (λ n. n < bound) h hs low)
    by_first false other rest either = rest either

-- ---- The deposit block

-- the element of a list that an index may name
named-there : {X : Type 0} (P : X → Type 0) (xs : List X) (index : Option ℕ) (x : X) → All P xs → option_and_then (slice_get xs) index ≡ Some x → P x
named-there P xs None x each is = absurd (cc)
named-there P xs (Some i) x each is = subst P (get_or_from_slice_get xs i x x is) (each i x (slice_get_within xs i x is))

named-mapped : (f : ℕ → ℕ) (hs : List ℕ) (index : Option ℕ) → option_and_then (slice_get (map f hs)) index ≡ option_map f (option_and_then (slice_get hs) index)
named-mapped f hs None = refl
named-mapped f hs (Some i) = slice_get-map f hs i

-- where none is named there is no deposit block
pub deposit-none : (f : ℕ → ℕ) (headers hs : List ℕ) (t : Transaction) (i : ℕ) (cell : Cell) → headers ≡ map f hs
    → None ≡ option_and_then (slice_get headers) (deposit_index t i) → None ≡ option_map f (deposit_height hs t i cell)
unfolding deposit_height
deposit-none f headers hs t i cell are none = by_height (option_and_then (slice_get hs) (deposit_index t i))
    (none ∙ ap (λ (l : List ℕ). option_and_then (slice_get l) (deposit_index t i)) are ∙ named-mapped f hs (deposit_index t i))
  where
    by_height : (height : Option ℕ) → None ≡ option_map f height
        → None ≡ option_map f (option_and_then (λ (h : ℕ). if nat_lt h cell.height then Some h else None) height)
    by_height None is = refl
    by_height (Some h) is = absurd (cc)

-- what is named by its place, and by its height
pub record Named (f : ℕ → ℕ) (hs : List ℕ) (index : Option ℕ) (place : ℕ) : Type 0 where
  pub height : ℕ
  pub is : option_and_then (slice_get hs) index ≡ Some height
  pub at : place ≡ f height

pub named-height : (f : ℕ → ℕ) (headers hs : List ℕ) (index : Option ℕ) (place : ℕ) → headers ≡ map f hs
    → Some place ≡ option_and_then (slice_get headers) index → Named f hs index place
named-height f headers hs index place are there = by_height (option_and_then (slice_get hs) index) refl
    (there ∙ ap (λ (l : List ℕ). option_and_then (slice_get l) index) are ∙ named-mapped f hs index)
  where
    by_height : (found : Option ℕ) → option_and_then (slice_get hs) index ≡ found → Some place ≡ option_map f found → Named f hs index place
    by_height None is same = absurd (cc)
    by_height (Some height) is same = record { height = height; is = is; at = same_Some place (f height) same }

deposit-of : (hs : List ℕ) (t : Transaction) (i : ℕ) (cell : Cell) (height : ℕ) → option_and_then (slice_get hs) (deposit_index t i) ≡ Some height
    → deposit_height hs t i cell ≡ (if nat_lt height cell.height then Some height else None)
unfolding deposit_height
deposit-of hs t i cell height is = ap (option_and_then (λ (h : ℕ). if nat_lt h cell.height then Some h else None)) is

-- The block at a place that is named: kept, and the deposit block where its number is below the height.
pub deposit-entry : (stored : List Stored) (at : AtValue) (rows : OutPoint → Option Row) (site : Site) (headers : List ℕ) (t : Transaction) (i place : ℕ)
    → IsAtParent at → IsSiteOf stored at rows site → headers ≡ map (slice_index (branch_places (blocks_of stored) at.parent)) (heights site t)
    → Some place ≡ option_and_then (slice_get headers) (deposit_index t i)
    → (named : Named (slice_index (branch_places (blocks_of stored) at.parent)) (heights site t) (deposit_index t i) place)
    × EntryOfHeight (blocks_of stored) at.entries at.parent named.height
deposit-entry stored at rows site headers t i place placed is are there =
    let named = named-height (slice_index (branch_places (blocks_of stored) at.parent)) headers (heights site t) (deposit_index t i) place are there in
    let low : named.height < length site.branch =
    named-there (λ h. h < length site.branch) (heights site t) (deposit_index t i) named.height (heights-below site t) named.is in
    let same : length site.branch ≡ length (branch (blocks_of stored) at.parent) = ap length is.on_branch in
    (named, entry-of-height (blocks_of stored) at.entries at.parent named.height is.indexed placed.parent (omega (arith, low, same)))

pub deposit-kept : (f : ℕ → ℕ) (hs : List ℕ) (t : Transaction) (i place : ℕ) (cell : Cell) (named : Named f hs (deposit_index t i) place)
    → named.height < cell.height → Some place ≡ option_map f (deposit_height hs t i cell)
deposit-kept f hs t i place cell named below =
    ap Some named.at ∙ sym (ap (option_map f) (deposit-of hs t i cell named.height named.is
    ∙ ap (λ (b : Bool). if b then Some named.height else None) (lt-ltb named.height cell.height below)))

pub deposit-later : (f : ℕ → ℕ) (hs : List ℕ) (t : Transaction) (i place : ℕ) (cell : Cell) (named : Named f hs (deposit_index t i) place)
    → cell.height ≤ named.height → None ≡ option_map f (deposit_height hs t i cell)
deposit-later f hs t i place cell named above =
    sym (ap (option_map f) (deposit-of hs t i cell named.height named.is
    ∙ ap (λ (b : Bool). if b then Some named.height else None) (le-ltb named.height cell.height above)))

-- ---- An input that withdraws

pub withdrawing-some : (dao filled : Bool) (made height : ℕ) → dao ≡ true → filled ≡ true → made ≡ height
    → Some made ≡ (if dao && filled then Some height else None)
withdrawing-some dao filled made height one two same =
    ap Some same ∙ sym (ap (λ (b : Bool). if b && filled then Some height else None) one ∙ ap (λ (b : Bool). if b then Some height else None) two)

-- what is made of a withdrawing cell alone
pub made-some : (withdraws : Bool) (made height : ℕ) → Some made ≡ (if withdraws then Some height else None) → (withdraws ≡ true) × (made ≡ height)
made-some withdraws made height is =
    let both = cond_some withdraws height made (sym is) in (both.0, sym both.1)

pub made-none : (withdraws named : Bool) (height : ℕ) → None ≡ (if withdraws then Some height else None) → true ≡ (not withdraws || named)
made-none true named height is = absurd (cc)
made-none false named height is = refl

pub named-well : (withdraws listed deposit answer : Bool) → withdraws ≡ true → listed ≡ true → answer ≡ deposit
    → answer ≡ (not withdraws || (listed && deposit))
named-well withdraws listed deposit answer one two same = same ∙ sym (ap (λ (b : Bool). not b || (listed && deposit)) one ∙ ap (λ (b : Bool). b && deposit) two)

pub unnamed-well : (withdraws listed deposit answer : Bool) → withdraws ≡ true → listed ≡ false → answer ≡ false
    → answer ≡ (not withdraws || (listed && deposit))
unnamed-well withdraws listed deposit answer one two same = same ∙ sym (ap (λ (b : Bool). not b || (listed && deposit)) one ∙ ap (λ (b : Bool). b && deposit) two)

pub is_some-mapped : (f : ℕ → ℕ) (found : Option ℕ) → is_some (option_map f found) ≡ is_some found
is_some-mapped f None = refl
is_some-mapped f (Some x) = refl

-- ---- Copies of the cells of inputs

zip-at : {X Y : Type 0} (R : X → Y → Type 0) (xs : List X) (ys : List Y) (i : ℕ) (default : Y) → AllZip R xs ys → i < length ys
    → (x : X) × (slice_get xs i ≡ Some x) × R x (get_or ys i default)
zip-at R [] [] i default each below = absurd (omega (arith, below))
zip-at R [] (y ∷ ys) i default each below = absurd each
zip-at R (x ∷ xs) [] i default each below = absurd each
zip-at R (x ∷ xs) (y ∷ ys) zero default each below = (x, refl, each.0)
zip-at R (x ∷ xs) (y ∷ ys) (suc i) default each below = zip-at R xs ys i default each.1 (omega (arith, below))

pub zip-lengths : {X Y : Type 0} (R : X → Y → Type 0) (xs : List X) (ys : List Y) → AllZip R xs ys → length xs ≡ length ys
zip-lengths R [] [] each = refl
zip-lengths R [] (y ∷ ys) each = absurd each
zip-lengths R (x ∷ xs) [] each = absurd each
zip-lengths R (x ∷ xs) (y ∷ ys) each = ap suc (zip-lengths R xs ys each.1)

-- The copy at a place is that of the cell of the input there.
pub record CopyAt (kept : List Block) (parent : ℕ) (site : Site) (t : Transaction) (i : ℕ) (copy : ResolvedValue) : Type 0 where
  pub found : Found
  pub there : slice_get (inputs site t) i ≡ Some found
  pub row : IsRowOf kept parent site found copy.row
  pub bytes : IsCopyOf found.cell copy

pub copy-at : (kept : List Block) (parent : ℕ) (site : Site) (t : Transaction) (copies : List ResolvedValue) (i : ℕ) (copy : ResolvedValue)
    → AllZip (Copies kept parent) (inputs site t) copies → i < length copies → copy ≡ get_or copies i copy → CopyAt kept parent site t i copy
copy-at kept parent site t copies i copy each below here = subst (CopyAt kept parent site t i) (sym here) (record {
  found = at.0;
  there = at.1;
  row = record {
    seen = subst (λ (it : Found). site.cell it.out_point ≡ Some it.cell) (get_or_from_slice_get (inputs site t) i at.0 at.0 at.1)
        (inputs-seen site t i at.0 (slice_get_within (inputs site t) i at.0 at.1));
    is = ap (λ (pair : OutPoint × Row). pair.1) at.2.row;
  };
  bytes = at.2.bytes;
})
  where
    at : (found : Found) × (slice_get (inputs site t) i ≡ Some found) × Copies kept parent found (get_or copies i copy)
    at = zip-at (Copies kept parent) (inputs site t) copies i copy each below
