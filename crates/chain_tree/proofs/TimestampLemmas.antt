-- The timestamps up a path are those of the last blocks of the branch, the latest first.
use Rattle.std.proofs.Common.{◌≡◌, ℕ, zero, suc, ◌+◌, ◌-◌, ◌<◌, cond, List, [], ◌∷◌, ◌++◌, length, map, take, drop, set, reverse, Option, Some, None, refl, sym, ap, ◌∙◌, arith}
use Rattle.std.specs.Option.{option_and_then}
use Rattle.std.specs.List.Sorted.{IsPermutation, IsSorted}
use Rattle.std.specs.Ordering.{nat_cmp}
use Rattle.std.proofs.lemmas.List.{length_push, length-reverse, drop-append-le, drop_all, map-append, reverse-append, take_more_set, append_assoc}
use Rattle.std.proofs.lemmas.Option.{slice_get_within}
use Rattle.std.proofs.lemmas.List.Sorted.{IsPermutation-reverse, IsNonDecreasingBy-from_sort, sum_by-IsPermutation, length_permutation}
use Rattle.chain_defs.specs.Schema.{Block}
use Rattle.chain_defs.specs.Kept.{place_of, parent_place}
use Rattle.chain_defs.specs.Branch.{branch}
use Rattle.chain_defs.specs.Median.{median_of, last_timestamps, median_time}
use Rattle.chain_defs.proofs.KeptLaws.{slice_get-below}
use Rattle.chain_defs.proofs.BranchLaws.{branch-step, branch_before, parent_place-below}
use Rattle.chain_defs.proofs.MedianLaws.{IsSortedOf, Rises-from_places, median-same}
use Rattle.chain_tree.specs.declared.entry.Entry.{Entry}
use Rattle.chain_tree.specs.Entries.{entry_at, parent_of, IsTree}
use Rattle.chain_tree.specs.Timestamps.{timestamps_up}
use Rattle.chain_tree.specs.Blocks.{IndexesBlocks}
use Rattle.chain_tree.proofs.EntryLemmas.{parent_of-there}
use Rattle.chain_tree.proofs.BlockLemmas.{DescribedAt, described}

-- ---- A step up

pub up-on : (entries : List Entry) (most place : ℕ) (entry : Entry) → entry_at entries place ≡ Some entry → 0 < place
    → timestamps_up entries (suc most) place ≡ entry.timestamp ∷ timestamps_up entries most entry.parent
unfolding timestamps_up
up-on entries most place entry there above =
    ap (λ (found : Option Entry). elim found [
      | None ↦ []
      | Some e ↦ e.timestamp ∷ elim (parent_of entries place) [ None ↦ [] | Some parent ↦ timestamps_up entries most parent ]
    ]) there
    ∙ ap (λ (found : Option ℕ). entry.timestamp ∷ elim found [ None ↦ [] | Some parent ↦ timestamps_up entries most parent ])
    (parent_of-there entries place entry above there)

pub up-first : (entries : List Entry) (most : ℕ) (entry : Entry) → entry_at entries 0 ≡ Some entry
    → timestamps_up entries (suc most) 0 ≡ entry.timestamp ∷ []
unfolding timestamps_up
up-first entries most entry there = ap (λ (found : Option Entry). elim found [ None ↦ [] | Some e ↦ e.timestamp ∷ [] ]) there

pub up-none : (entries : List Entry) (place : ℕ) → timestamps_up entries 0 place ≡ []
unfolding timestamps_up
up-none entries place = refl

-- ---- The branch

abbrev timestamp_of : Block → ℕ
timestamp_of block = block.header.timestamp

last-push : (most : ℕ) (front : List Block) (block : Block)
    → last_timestamps (suc most) (front ++ block ∷ []) ≡ last_timestamps most front ++ block.header.timestamp ∷ []
unfolding last_timestamps
last-push most front block =
    let long : length (front ++ block ∷ []) ≡ length front + 1 = length_push front block in
    let from : length (front ++ block ∷ []) - suc most ≡ length front - most = omega (arith, long) in
    ap (λ (n : ℕ). map timestamp_of (drop n (front ++ block ∷ []))) from
    ∙ ap (map timestamp_of) (drop-append-le (length front - most) front (block ∷ []) (omega arith))
    ∙ map-append timestamp_of (drop (length front - most) front) (block ∷ [])

last-none : (blocks : List Block) → last_timestamps 0 blocks ≡ []
unfolding last_timestamps
last-none blocks = ap (map timestamp_of) (drop_all (length blocks - 0) blocks (omega arith))

last-empty : (most : ℕ) → last_timestamps most [] ≡ []
unfolding last_timestamps
last-empty most = ap (map timestamp_of) (drop_all (0 - most) [] (omega arith))

pub up-last : (most place : ℕ) (kept : List Block) (entries : List Entry) (entry : Entry) → IndexesBlocks kept entries → entry_at entries place ≡ Some entry
    → timestamps_up entries most place ≡ reverse (last_timestamps most (branch kept place))
up-last zero place kept entries entry indexes there = up-none entries place ∙ ap reverse (sym (last-none (branch kept place)))
up-last (suc most) zero kept entries entry indexes there =
    let here : DescribedAt kept 0 entry = described kept entries 0 entry indexes.each there in
    let alone : parent_place kept 0 ≡ None = ap (option_and_then (λ (b : Block). place_of [] b.header.parent_hash)) here.there in
    let step : branch kept 0 ≡ here.block ∷ [] =
    branch-step kept 0 here.block here.there ∙ ap (λ (on : Option ℕ). branch_before kept on ++ here.block ∷ []) alone in
    up-first entries most entry there
    ∙ ap (λ (t : ℕ). t ∷ []) here.is.timestamp
    ∙ ap (λ (l : List ℕ). reverse (l ++ here.block.header.timestamp ∷ [])) (sym (last-empty most))
    ∙ ap reverse (sym (last-push most [] here.block))
    ∙ ap (λ (bs : List Block). reverse (last_timestamps (suc most) bs)) (sym step)
up-last (suc most) (suc place) kept entries entry indexes there =
    let here : DescribedAt kept (suc place) entry = described kept entries (suc place) entry indexes.each there in
    let is : parent_place kept (suc place) ≡ Some entry.parent = indexes.parents (suc place) entry (omega arith) there in
    let below : entry.parent < suc place = parent_place-below kept (suc place) entry.parent is in
    let step : branch kept (suc place) ≡ branch kept entry.parent ++ here.block ∷ [] =
    branch-step kept (suc place) here.block here.there ∙ ap (λ (on : Option ℕ). branch_before kept on ++ here.block ∷ []) is in
    let within : suc place < length entries = slice_get_within entries (suc place) entry there in
    let parent = slice_get-below entries entry.parent (omega (arith, below, within)) in
    let rest : timestamps_up entries most entry.parent ≡ reverse (last_timestamps most (branch kept entry.parent)) =
    up-last most entry.parent kept entries parent.0 indexes parent.1 in
    up-on entries most (suc place) entry there (omega arith)
    ∙ ap (λ (l : List ℕ). entry.timestamp ∷ l) rest
    ∙ ap (λ (t : ℕ). t ∷ reverse (last_timestamps most (branch kept entry.parent))) here.is.timestamp
    ∙ sym (reverse-append (last_timestamps most (branch kept entry.parent)) (here.block.header.timestamp ∷ []))
    ∙ ap reverse (sym (last-push most (branch kept entry.parent) here.block))
    ∙ ap (λ (bs : List Block). reverse (last_timestamps (suc most) bs)) (sym step)

-- ---- A step of the loop

-- with one more timestamp taken, those that are left are of the parent
pub taken-more : (entries : List Entry) (timestamps : List ℕ) (count left place : ℕ) (entry : Entry) → count < length timestamps
    → entry_at entries place ≡ Some entry → 0 < place
    → take (count + 1) (set timestamps count entry.timestamp) ++ timestamps_up entries left entry.parent
    ≡ take count timestamps ++ timestamps_up entries (suc left) place
taken-more entries timestamps count left place entry within there above =
    ap (λ (front : List ℕ). front ++ timestamps_up entries left entry.parent) (take_more_set timestamps count entry.timestamp within)
    ∙ append_assoc (take count timestamps) (entry.timestamp ∷ []) (timestamps_up entries left entry.parent)
    ∙ ap (λ (back : List ℕ). take count timestamps ++ back) (sym (up-on entries left place entry there above))

-- the genesis' timestamp is the last
pub taken-last : (entries : List Entry) (timestamps : List ℕ) (count left : ℕ) (entry : Entry) → count < length timestamps
    → entry_at entries 0 ≡ Some entry
    → take (count + 1) (set timestamps count entry.timestamp) ≡ take count timestamps ++ timestamps_up entries (suc left) 0
taken-last entries timestamps count left entry within there =
    take_more_set timestamps count entry.timestamp within
    ∙ ap (λ (back : List ℕ). take count timestamps ++ back) (sym (up-first entries left entry there))

-- ---- The median

pub IsSortedOf-from_sort : (numbers ordered : List ℕ) → IsPermutation numbers ordered → IsSorted nat_cmp ordered → IsSortedOf numbers ordered
IsSortedOf-from_sort numbers ordered moved is = record {
  rises = Rises-from_places ordered (IsNonDecreasingBy-from_sort (λ x. x) ordered is);
  long = length_permutation numbers ordered moved;
  counts = λ p. sum_by-IsPermutation (λ x. cond (p x) 1 0) numbers ordered moved;
}

-- the median time, by the timestamps up the path
pub median-up : (place : ℕ) (kept : List Block) (entries : List Entry) → IndexesBlocks kept entries → place < length entries
    → 0 < length (timestamps_up entries 37 place) → median_of (timestamps_up entries 37 place) ≡ median_time (branch kept place)
unfolding median_time
median-up place kept entries indexes within some =
    let entry = slice_get-below entries place within in
    let up : timestamps_up entries 37 place ≡ reverse last = up-last 37 place kept entries entry.0 indexes entry.1 in
    let long : length (reverse last) ≡ length last = length-reverse last in
    let same : length (timestamps_up entries 37 place) ≡ length (reverse last) = ap length up in
    ap median_of up
    ∙ median-same last (reverse last) long (λ p. sum_by-IsPermutation (λ x. cond (p x) 1 0) last (reverse last) (IsPermutation-reverse last))
    (omega (arith, long, same, some))
  where
    last : List ℕ
    last = last_timestamps 37 (branch kept place)

-- ---- Reading

pub parent-within : (entries : List Entry) (place : ℕ) (entry : Entry) → IsTree entries → entry_at entries place ≡ Some entry → 0 < place
    → entry.parent < length entries
parent-within entries zero entry tree there above = absurd (omega (arith, above))
parent-within entries (suc place) entry tree there above =
    let earlier = tree.earlier place entry there in
    let within : suc place < length entries = slice_get_within entries (suc place) entry there in
    omega (arith, earlier, within)
