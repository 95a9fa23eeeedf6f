-- The block that made a cell which a transaction sees: its height, and the time from which the cell counts.
use Rattle.std.proofs.Common.{◌≡◌, ℕ, zero, suc, ◌+◌, ◌-◌, ◌<◌, Bool, true, false, true≢false, ◌&&◌, ◌||◌, ◌==◌, not, nat_lt, nat_le, get_or, map, List, [], ◌∷◌, length, take, Option, Some, Result, Ok, Err, refl, sym, ap, ◌∙◌, subst, inl, inr, ◌⊎◌, arith, add-one}
use Rattle.std.specs.Prelude.{slice_get, if◌then◌else◌, IfSome, IfOk, OnOk, IfErr, is_ok}
use Rattle.std.specs.Option.{option_map, option_and_then}
use Rattle.std.proofs.lemmas.List.{take_all, length-take-le, length-map}
use Rattle.std.proofs.lemmas.Bool.{cases_order, false_from_ne_true}
use Rattle.std.proofs.lemmas.Bool.Decides.{nat_tests, Decides-eqb}
use Rattle.std.proofs.lemmas.Option.{slice_get_within, slice_get-map, get_or_from_slice_get, same_Some}
use Rattle.chain_defs.specs.Schema.{OutPoint, Block}
use Rattle.chain_defs.specs.Kept.{block_hash, block_at, place_of, IsKept}
use Rattle.chain_defs.specs.Branch.{branch_places, branch, IsBranch}
use Rattle.chain_defs.specs.Median.{median_time}
use Rattle.chain_defs.proofs.KeptLaws.{slice_get-below, slice_get-take, place_of-there, hashes-differ}
use Rattle.chain_defs.proofs.BranchLaws.{IsBranch-branch, branches-are-branches}
use Rattle.chain_tree.specs.declared.entry.Entry.{Entry}
use Rattle.chain_tree.specs.Entries.{entry_at}
use Rattle.chain_tree.specs.Blocks.{IndexesBlocks}
use Rattle.chain_tree.specs.Told.{Stored, blocks_of}
use Rattle.chain_tree.proofs.BlockLemmas.{DescribedAt, described, len-same}
use Rattle.chain_defs.specs.Row.{Row}
use Rattle.rule_defs.specs.Site.{Site, Found, height_at}
use Rattle.rule_defs.specs.Age.{timestamp_of, median_start, block_start, start_at, spending}
use Rattle.chain_defs.specs.Since.{Spending, Metric, block_number, epoch, timestamp, no_metric, metric_of, is_relative, since_value, is_passed, is_reached, is_valid, is_met}
use Rattle.chain_defs.specs.Epochs.{is_span_over}
use Rattle.since_rules.specs.Fields.{is_timestamp}
use Rattle.since_rules.specs.declared.rules.SinceFault.{SinceFault}
use Rattle.since_rules.specs.declared.rules.SinceFault.TheVariants.{Invalid, Immature}
use Rattle.since_rules.specs.Rules.{IsMature, HasFault}
use Rattle.tx_rules.specs.At.{AtValue, IsAtParent, IsSiteOf, AreSeen, found_row}
use Rattle.tx_rules.specs.Seen.{IsRowOf}
use Rattle.tx_rules.proofs.BranchLemmas.{branch-long, branch-block, number-on-branch}
use Rattle.tx_rules.proofs.SiteLemmas.{IsKeptRow, IsOwnRow, row-made}

-- ---- The height of the block

-- what made the cell of a row
pub row-of : (stored : List Stored) (at : AtValue) (rows : OutPoint → Option Row) (site : Site) (found : Found) (row : Row)
    → IsAtParent at → IsSiteOf stored at rows site → IsRowOf (blocks_of stored) at.parent site found row
    → IsKeptRow stored at found.out_point found.cell row ⊎ IsOwnRow stored at found.out_point found.cell row
row-of stored at rows site found row placed is its = row-made stored at rows site found.out_point found.cell row placed.parent is its.seen its.is

pub made-own : (stored : List Stored) (at : AtValue) (rows : OutPoint → Option Row) (site : Site) (found : Found) (row : Row)
    → IsAtParent at → IsSiteOf stored at rows site → IsRowOf (blocks_of stored) at.parent site found row
    → row.block ≡ length at.entries → height_at site ≡ found.cell.height
made-own stored at rows site found row placed is its last = by_made (row-of stored at rows site found row placed is its)
  where
    by_made : IsKeptRow stored at found.out_point found.cell row ⊎ IsOwnRow stored at found.out_point found.cell row → height_at site ≡ found.cell.height
    by_made (inl kept) = absurd (omega (arith, kept.below, last))
    by_made (inr own) = ap length is.on_branch ∙ sym own.height

pub made-past : (stored : List Stored) (at : AtValue) (rows : OutPoint → Option Row) (site : Site) (found : Found) (row : Row)
    → IsAtParent at → IsSiteOf stored at rows site → IsRowOf (blocks_of stored) at.parent site found row
    → length at.entries < row.block → ⊥
made-past stored at rows site found row placed is its past = by_made (row-of stored at rows site found row placed is its)
  where
    by_made : IsKeptRow stored at found.out_point found.cell row ⊎ IsOwnRow stored at found.out_point found.cell row → ⊥
    by_made (inl kept) = omega (arith, kept.below, past)
    by_made (inr own) = omega (arith, own.last, past)

-- the row of a cell that a kept block made
pub kept-row : (stored : List Stored) (at : AtValue) (rows : OutPoint → Option Row) (site : Site) (found : Found) (row : Row)
    → IsAtParent at → IsSiteOf stored at rows site → IsRowOf (blocks_of stored) at.parent site found row
    → row.block < length at.entries → IsKeptRow stored at found.out_point found.cell row
kept-row stored at rows site found row placed is its below = by_made (row-of stored at rows site found row placed is its)
  where
    by_made : IsKeptRow stored at found.out_point found.cell row ⊎ IsOwnRow stored at found.out_point found.cell row
        → IsKeptRow stored at found.out_point found.cell row
    by_made (inl kept) = kept
    by_made (inr own) = absurd (omega (arith, own.last, below))

pub made-kept : (stored : List Stored) (at : AtValue) (rows : OutPoint → Option Row) (site : Site) (found : Found) (row : Row) (entry : Entry)
    → IsAtParent at → IsSiteOf stored at rows site → IsRowOf (blocks_of stored) at.parent site found row
    → entry_at at.entries row.block ≡ Some entry → (entry.number ≡ found.cell.height) × (entry.number < height_at site)
made-kept stored at rows site found row entry placed is its there =
    let below : row.block < length at.entries = slice_get_within at.entries row.block entry there in
    let kept : IsKeptRow stored at found.out_point found.cell row = kept-row stored at rows site found row placed is its below in
    let long : length at.entries ≡ length (blocks_of stored) = len-same (blocks_of stored) at.entries is.indexed in
    let parent : at.parent < length at.entries = placed.parent in
    let number : entry.number ≡ found.cell.height =
    number-on-branch (blocks_of stored) at.entries at.parent found.cell.height row.block entry is.indexed (omega (arith, parent, long)) kept.place there in
    let same : length site.branch ≡ length (branch (blocks_of stored) at.parent) = ap length is.on_branch in
    let low : found.cell.height < length (branch (blocks_of stored) at.parent) = kept.height in
    (number, omega (arith, number, same, low))

-- the block that its entry describes is that of its height
pub block-made : (stored : List Stored) (at : AtValue) (rows : OutPoint → Option Row) (site : Site) (found : Found) (row : Row) (entry : Entry)
    → (placed : IsAtParent at) (is : IsSiteOf stored at rows site) → IsRowOf (blocks_of stored) at.parent site found row
    → (there : entry_at at.entries row.block ≡ Some entry)
    → block_at (branch (blocks_of stored) at.parent) found.cell.height ≡ Some (described (blocks_of stored) at.entries row.block entry is.indexed.each there).block
block-made stored at rows site found row entry placed is its there =
    let below : row.block < length at.entries = slice_get_within at.entries row.block entry there in
    let kept : IsKeptRow stored at found.out_point found.cell row = kept-row stored at rows site found row placed is its below in
    let long : length at.entries ≡ length (blocks_of stored) = len-same (blocks_of stored) at.entries is.indexed in
    let parent : at.parent < length at.entries = placed.parent in
    branch-block (blocks_of stored) at.parent found.cell.height (omega (arith, parent, long))
    ∙ ap (option_and_then (block_at (blocks_of stored))) kept.place
    ∙ (described (blocks_of stored) at.entries row.block entry is.indexed.each there).there

-- There are as many rows as cells.
pub rows-long : (kept : List Block) (parent : ℕ) (founds : List Found) (list : List (OutPoint × Row)) → list ≡ map (found_row kept parent) founds
    → length founds ≡ length list
rows-long kept parent founds list is = sym (ap length is ∙ length-map founds (found_row kept parent))

-- The row at a place of a list of rows is that of the cell there.
pub row-there : (kept : List Block) (parent : ℕ) (site : Site) (founds : List Found) (list : List (OutPoint × Row)) (i : ℕ) (default : OutPoint × Row)
    → AreSeen site founds → list ≡ map (found_row kept parent) founds → i < length list
    → (found : Found) × (slice_get founds i ≡ Some found) × IsRowOf kept parent site found (get_or list i default).1
row-there kept parent site founds list i default seen is below = (
  there.0,
  there.1,
  record {
    seen = subst (λ (f : Found). site.cell f.out_point ≡ Some f.cell) (get_or_from_slice_get founds i there.0 there.0 there.1) (seen i there.0 within);
    is = ap (λ (pair : OutPoint × Row). pair.1) (get_or_from_slice_get list i (found_row kept parent there.0) default row_there);
  },
)
  where
    within : i < length founds
    within = let long : length founds ≡ length list = rows-long kept parent founds list is in omega (arith, below, long)

    there : (f : Found) × (slice_get founds i ≡ Some f)
    there = slice_get-below founds i within

    row_there : slice_get list i ≡ Some (found_row kept parent there.0)
    row_there = ap (λ (l : List (OutPoint × Row)). slice_get l i) is ∙ slice_get-map (found_row kept parent) founds i ∙ ap (option_map (found_row kept parent)) there.1

-- ---- Maturity

-- one that is no output of a cellbase after the genesis
pub mature-genesis : (transaction height : ℕ) (over : Bool) → height ≡ 0 → true ≡ (not ((transaction == 0) && nat_lt 0 height) || over)
mature-genesis transaction height over none = grind (arith, nat_tests)

-- one that is
pub mature-later : (transaction height : ℕ) (over : Bool) → transaction ≡ 0 → (height ≡ 0 → ⊥) → over ≡ (not ((transaction == 0) && nat_lt 0 height) || over)
mature-later transaction height over first later = grind (arith, nat_tests)

-- ---- The branch of the parent of a place on a branch

-- of kept blocks those with one hash are one
one-block : (kept : List Block) (one other : Block) → IsKept kept → (i : ℕ) × (block_at kept i ≡ Some one) → (j : ℕ) × (block_at kept j ≡ Some other)
    → block_hash one ≡ block_hash other → one ≡ other
one-block kept one other is_kept i j same = by_order (cases_order i.0 j.0)
  where
    by_order : (i.0 ≡ j.0) ⊎ ((i.0 < j.0) ⊎ (j.0 < i.0)) → one ≡ other
    by_order (inl at) = same_Some one other (sym i.1 ∙ ap (block_at kept) at ∙ j.1)
    by_order (inr (inl below)) = absurd (hashes-differ kept i.0 j.0 one other is_kept below i.1 j.1 same)
    by_order (inr (inr above)) = absurd (hashes-differ kept j.0 i.0 other one is_kept above j.1 i.1 (sym same))

-- what stands among the first of a list stands in it
take-there : {X : Type 0} (n : ℕ) (xs : List X) (i : ℕ) (x : X) → slice_get (take n xs) i ≡ Some x → slice_get xs i ≡ Some x
take-there zero xs i x there = absurd (cc)
take-there (suc n) [] i x there = absurd (cc)
take-there (suc n) (y ∷ ys) zero x there = there
take-there (suc n) (y ∷ ys) (suc i) x there = take-there n ys i x there

-- the first blocks of a branch are the branch of the last of them
branch-front : (kept : List Block) (place parent n : ℕ) (blocks : List Block) (last : Block) → IsBranch kept place blocks
    → block_at blocks n ≡ Some last → block_at kept parent ≡ Some last → IsBranch kept parent (take (suc n) blocks)
branch-front kept place parent n blocks last is here there = record {
  among = λ height block at. is.among height block (take-there (suc n) blocks height block at);
  first = slice_get-take (suc n) blocks 0 (omega arith) ∙ is.first;
  last = ap (block_at (take (suc n) blocks)) end ∙ slice_get-take (suc n) blocks n (omega arith) ∙ here ∙ sym there;
  linked = λ height below block at above. is.linked height below block (take-there (suc n) blocks height below at) (take-there (suc n) blocks (height + 1) block above);
  numbered = λ height genesis block zeroth at. is.numbered height genesis block zeroth (take-there (suc n) blocks height block at);
}
  where
    end : length (take (suc n) blocks) - 1 ≡ n
    end = let within : n < length blocks = slice_get_within blocks n last here in
        let long : length (take (suc n) blocks) ≡ suc n = length-take-le (suc n) blocks (omega (arith, within)) in omega (arith, long)

-- That of the parent of the block at a height is what comes before it.
pub branch-of-parent : (kept : List Block) (entries : List Entry) (parent height place : ℕ) (entry : Entry) → IndexesBlocks kept entries
    → parent < length kept → slice_get (branch_places kept parent) (suc height) ≡ Some place → entry_at entries place ≡ Some entry → 0 < place
    → branch kept entry.parent ≡ take (suc height) (branch kept parent)
branch-of-parent kept entries parent height place entry indexes below on_branch there later =
    sym ((branches-are-branches kept entry.parent (take (suc height) blocks) indexes.is_kept within).1
    (branch-front kept parent entry.parent height blocks low.0 is low.1 parent_is))
  where
    blocks : List Block
    blocks = branch kept parent

    is : IsBranch kept parent blocks
    is = IsBranch-branch kept parent indexes.is_kept below

    here : DescribedAt kept place entry
    here = described kept entries place entry indexes.each there

    at : block_at blocks (suc height) ≡ Some here.block
    at = branch-block kept parent (suc height) below ∙ ap (option_and_then (block_at kept)) on_branch ∙ here.there

    low : (b : Block) × (block_at blocks height ≡ Some b)
    low = let high : suc height < length blocks = slice_get_within blocks (suc height) here.block at in slice_get-below blocks height (omega (arith, high))

    hash : here.block.header.parent_hash ≡ block_hash low.0
    hash = is.linked height low.0 here.block low.1 (ap (block_at blocks) (add-one height) ∙ at)

    named : place_of (take place kept) here.block.header.parent_hash ≡ Some entry.parent
    named = sym (ap (option_and_then (λ (b : Block). place_of (take place kept) b.header.parent_hash)) here.there) ∙ indexes.parents place entry later there

    found : (b : Block) × (block_at (take place kept) entry.parent ≡ Some b) × (block_hash b ≡ here.block.header.parent_hash)
    found = place_of-there (take place kept) here.block.header.parent_hash entry.parent named

    kept_there : block_at kept entry.parent ≡ Some found.0
    kept_there = take-there place kept entry.parent found.0 found.1

    parent_is : block_at kept entry.parent ≡ Some low.0
    parent_is = kept_there ∙ ap Some (one-block kept found.0 low.0 indexes.is_kept (entry.parent, kept_there) (is.among height low.0 low.1) (found.2 ∙ hash))

    within : entry.parent < length kept
    within = slice_get_within kept entry.parent found.0 kept_there

-- ---- The time from which a cell counts under the first edition

-- one of the genesis
pub start-first : (stored : List Stored) (at : AtValue) (rows : OutPoint → Option Row) (site : Site) (found : Found) (row : Row) (entry : Entry)
    → IsAtParent at → IsSiteOf stored at rows site → IsRowOf (blocks_of stored) at.parent site found row
    → entry_at at.entries row.block ≡ Some entry → row.block ≡ 0 → entry.timestamp ≡ median_start site.branch found.cell.height
unfolding median_start
start-first stored at rows site found row entry placed is its there first =
    here.is.timestamp
    ∙ sym (ap (median_start site.branch) none
    ∙ ap (λ (blocks : List Block). timestamp_of (block_at blocks 0)) is.on_branch
    ∙ ap (λ (height : ℕ). timestamp_of (block_at (branch (blocks_of stored) at.parent) height)) (sym none)
    ∙ ap timestamp_of (block-made stored at rows site found row entry placed is its there))
  where
    here : DescribedAt (blocks_of stored) row.block entry
    here = described (blocks_of stored) at.entries row.block entry is.indexed.each there

    none : found.cell.height ≡ 0
    none = let number : here.block.header.number ≡ 0 =
        subst (λ (o : Option Block). IfSome o (λ b. b.header.number ≡ 0)) (ap (block_at (blocks_of stored)) (sym first) ∙ here.there) is.indexed.genesis in
        let made = made-kept stored at rows site found row entry placed is its there in
        sym made.0 ∙ here.is.number ∙ number

-- one of a later kept block
pub start-later : (stored : List Stored) (at : AtValue) (rows : OutPoint → Option Row) (site : Site) (found : Found) (row : Row) (entry : Entry)
    → IsAtParent at → IsSiteOf stored at rows site → IsRowOf (blocks_of stored) at.parent site found row
    → entry_at at.entries row.block ≡ Some entry → 0 < row.block
    → median_time (branch (blocks_of stored) entry.parent) ≡ median_start site.branch found.cell.height
unfolding median_start
start-later stored at rows site found row entry placed is its there later = by_height found.cell.height refl
  where
    here : DescribedAt (blocks_of stored) row.block entry
    here = described (blocks_of stored) at.entries row.block entry is.indexed.each there

    below : row.block < length at.entries
    below = slice_get_within at.entries row.block entry there

    some : 0 < found.cell.height
    some = let stands = is.indexed.is_kept.stands row.block here.block later here.there in
        let made = made-kept stored at rows site found row entry placed is its there in
        let next : here.block.header.number ≡ stands.parent.header.number + 1 = stands.next in
        omega (arith, made.0, here.is.number, next)

    parent : at.parent < length (blocks_of stored)
    parent = let long : length at.entries ≡ length (blocks_of stored) = len-same (blocks_of stored) at.entries is.indexed in
        let within : at.parent < length at.entries = placed.parent in omega (arith, within, long)

    by_height : (height : ℕ) → found.cell.height ≡ height → median_time (branch (blocks_of stored) entry.parent) ≡ median_start site.branch found.cell.height
    by_height zero same = absurd (omega (arith, same, some))
    by_height (suc height) same =
        let kept : IsKeptRow stored at found.out_point found.cell row = kept-row stored at rows site found row placed is its below in
        ap median_time (branch-of-parent (blocks_of stored) at.entries at.parent height row.block entry is.indexed parent
        (ap (slice_get (branch_places (blocks_of stored) at.parent)) (sym same) ∙ kept.place) there later)
        ∙ ap (λ (blocks : List Block). median_time (take (suc height) blocks)) (sym is.on_branch)
        ∙ ap (median_start site.branch) (sym same)

-- one of the block that is judged
pub start-own : (stored : List Stored) (at : AtValue) (rows : OutPoint → Option Row) (site : Site) (found : Found) (row : Row)
    → IsAtParent at → IsSiteOf stored at rows site → IsRowOf (blocks_of stored) at.parent site found row
    → row.block ≡ length at.entries → median_time site.branch ≡ median_start site.branch found.cell.height
unfolding median_start
start-own stored at rows site found row placed is its last = by_height found.cell.height refl
  where
    height_is : height_at site ≡ found.cell.height
    height_is = made-own stored at rows site found row placed is its last

    some : 0 < length site.branch
    some = let parent = slice_get-below at.entries at.parent placed.parent in
        let long : parent.0.number + 1 ≡ length (branch (blocks_of stored) at.parent) =
        branch-long (blocks_of stored) at.entries at.parent parent.0 is.indexed parent.1 in
        let same : length site.branch ≡ length (branch (blocks_of stored) at.parent) = ap length is.on_branch in
        omega (arith, long, same)

    by_height : (height : ℕ) → found.cell.height ≡ height → median_time site.branch ≡ median_start site.branch found.cell.height
    by_height zero same = absurd (omega (arith, same, some, height_is))
    by_height (suc height) same =
        ap median_time (sym (take_all (suc height) site.branch (omega (arith, same, height_is))))
        ∙ ap (median_start site.branch) (sym same)

-- ---- The same under the second edition

-- of a kept block
pub block-start-kept : (stored : List Stored) (at : AtValue) (rows : OutPoint → Option Row) (site : Site) (found : Found) (row : Row) (entry : Entry)
    → IsAtParent at → IsSiteOf stored at rows site → IsRowOf (blocks_of stored) at.parent site found row
    → entry_at at.entries row.block ≡ Some entry → entry.timestamp ≡ block_start site found.cell.height
unfolding block_start
block-start-kept stored at rows site found row entry placed is its there =
    here.is.timestamp
    ∙ sym (ap (λ (b : Bool). if b then site.timestamp else timestamp_of (block_at site.branch found.cell.height)) below
    ∙ ap (λ (blocks : List Block). timestamp_of (block_at blocks found.cell.height)) is.on_branch
    ∙ ap timestamp_of (block-made stored at rows site found row entry placed is its there))
  where
    here : DescribedAt (blocks_of stored) row.block entry
    here = described (blocks_of stored) at.entries row.block entry is.indexed.each there

    below : (found.cell.height == height_at site) ≡ false
    below = let made = made-kept stored at rows site found row entry placed is its there in
        false_from_ne_true (found.cell.height == height_at site) (λ same. let equal = (Decides-eqb found.cell.height (height_at site)).0 same in omega (arith, made.0, made.1, equal))

-- of the block that is judged
pub block-start-own : (stored : List Stored) (at : AtValue) (rows : OutPoint → Option Row) (site : Site) (found : Found) (row : Row)
    → IsAtParent at → IsSiteOf stored at rows site → IsRowOf (blocks_of stored) at.parent site found row
    → row.block ≡ length at.entries → timestamp_of at.block ≡ block_start site found.cell.height
unfolding block_start
block-start-own stored at rows site found row placed is its last =
    sym (ap (λ (b : Bool). if b then site.timestamp else timestamp_of (block_at site.branch found.cell.height)) same ∙ is.timestamp)
  where
    same : (found.cell.height == height_at site) ≡ true
    same = (Decides-eqb found.cell.height (height_at site)).1 (sym (made-own stored at rows site found row placed is its last))

-- by the edition
pub start-by : {E : Type 0} (site : Site) (height : ℕ) (result : Result ℕ E) (second : Bool) → site.second ≡ second
    → IfOk result (λ start. start ≡ (if second then block_start site height else median_start site.branch height))
    → IfOk result (λ start. start ≡ start_at site height)
start-by site height (Ok start) second is same =
    same ∙ ap (λ (b : Bool). if b then block_start site height else median_start site.branch height) (sym is)
start-by site height (Err damage) second is same = tt

-- ---- Since

-- a value that counts no seconds looks at no times
timeless : (metric : Metric) (relative : Bool) (value : ℕ) (at other : Spending) → is_timestamp metric ≡ false → at.number ≡ other.number → at.made ≡ other.made
    → at.length ≡ other.length
    → (if relative then is_passed metric value at else is_reached metric value at) ≡ (if relative then is_passed metric value other else is_reached metric value other)
timeless block_number true value at other none number made long =
    ap (λ (n : ℕ). nat_le (at.made + value) n) number ∙ ap (λ (n : ℕ). nat_le (n + value) other.number) made
timeless block_number false value at other none number made long = ap (λ (n : ℕ). nat_le value n) number
timeless epoch true value at other none number made long =
    ap (λ (n : ℕ). is_span_over value at.length at.made n) number ∙ ap (λ (n : ℕ). is_span_over value at.length n other.number) made
    ∙ ap (λ (n : ℕ). is_span_over value n other.made other.number) long
timeless epoch false value at other none number made long =
    ap (λ (n : ℕ). is_span_over value at.length 0 n) number ∙ ap (λ (n : ℕ). is_span_over value n 0 other.number) long
timeless timestamp relative value at other none number made long = absurd (true≢false none)
timeless no_metric true value at other none number made long = refl
timeless no_metric false value at other none number made long = refl

spending-same : (site : Site) (found : Found) (number median made start blocks : ℕ) → number ≡ height_at site → median ≡ median_time site.branch
    → made ≡ found.cell.height → start ≡ start_at site found.cell.height → blocks ≡ site.spec.epoch_length
    → ◌≡◌ {A = Spending} (record { number = number; median = median; made = made; start = start; length = blocks }) (spending site found)
spending-same site found number median made start blocks one two three four five = cc

-- so it is met with any as with those of the site
pub met-here : (since : ℕ) (site : Site) (found : Found) (number median made start blocks : ℕ) → number ≡ height_at site → made ≡ found.cell.height
    → blocks ≡ site.spec.epoch_length
    → (is_timestamp (metric_of since) ≡ true → (median ≡ median_time site.branch) × (start ≡ start_at site found.cell.height))
    → is_met since (record { number = number; median = median; made = made; start = start; length = blocks }) ≡ is_met since (spending site found)
met-here since site found number median made start blocks one two three times = by_metric (is_timestamp (metric_of since)) refl
  where
    here : Spending
    here = record { number = number; median = median; made = made; start = start; length = blocks }

    by_metric : (b : Bool) → is_timestamp (metric_of since) ≡ b → is_met since here ≡ is_met since (spending site found)
    by_metric false none = timeless (metric_of since) (is_relative since) (since_value since) here (spending site found) none one two three
    by_metric true some = ap (is_met since) (spending-same site found number median made start blocks one (times some).0 two (times some).1 three)

pub met-same : {V : Type 0} (since : ℕ) (at : Spending) (answer : Result V SinceFault) → OnOk answer (IsMature since at) → IfErr answer (HasFault since at)
    → is_ok answer ≡ (is_valid since && is_met since at)
met-same since at (Ok v) mature fault =
    sym (ap (λ (b : Bool). b && is_met since at) mature.valid ∙ mature.met)
met-same since at (Err Invalid) mature fault = sym (ap (λ (b : Bool). b && is_met since at) fault)
met-same since at (Err Immature) mature fault =
    sym (ap (λ (b : Bool). b && is_met since at) fault.0 ∙ fault.1)
