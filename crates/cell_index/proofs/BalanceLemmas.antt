-- The balance of a lock, a block further or a block back.
use Rattle.std.proofs.Common.{◌≡◌, ℕ, ◌+◌, ◌<◌, List, length, Option, None, refl, sym, ap, ◌∙◌, subst, arith}
use Rattle.std.specs.List.{filter}
use Rattle.chain_defs.specs.Schema.{OutPoint, Block}
use Rattle.chain_defs.specs.Events.{events_of_block}
use Rattle.chain_defs.specs.Fit.{are_live, AllFit}
use Rattle.chain_defs.specs.Row.{Row, row_after, live_row, ListsRows}
use Rattle.chain_defs.specs.Undo.{spent_of}
use Rattle.chain_defs.specs.ByLock.{of_lock, capacity_of, cells_by_lock, IsByLock}
use Rattle.chain_defs.proofs.ByLockLaws.{lists-by-lock}
use Rattle.chain_tree.specs.Told.{Stored, blocks_of}
use Rattle.cell_index.specs.Balance.{is_of, sum_of, Changes}
use Rattle.cell_index.specs.Follow.{IsStep}
use Rattle.cell_index.proofs.EntryLemmas.{pair-of}
use Rattle.cell_index.proofs.FollowLemmas.{rows-of-step}

-- the same rows under another name
listed-same : (f g : OutPoint → Option Row) (list : List (OutPoint × Row)) → ((o : OutPoint) → f o ≡ g o) → ListsRows f list → ListsRows g list
listed-same f g list same lists = record {
  rising = lists.rising;
  each = λ o row. (λ has. sym (same o) ∙ (lists.each o row).0 has, λ is. (lists.each o row).1 (same o ∙ is));
}

-- What a block changes by its events is what it changes of its parent's branch.
pub changes-on : (lock : List ℕ) (stored : List Stored) (parent place : ℕ) (step : IsStep stored parent place) (b : Block) (spent : List (OutPoint × Row)) (left : ℕ × ℕ)
    → b ≡ step.it.block → spent ≡ step.can.ext.spent
    → ((height : ℕ) (before : OutPoint → Option Row) → 0 < height → AllFit (events_of_block height b) (are_live before)
    → length (spent_of (events_of_block height b) before) ≡ length spent
    → Changes lock before (row_after place (events_of_block height b) before) (sum_of (filter (is_of lock) (spent_of (events_of_block height b) before))) left)
    → Changes lock (live_row (blocks_of stored) parent) (live_row (blocks_of stored) place) (sum_of (filter (is_of lock) spent)) left
changes-on lock stored parent place step b spent left block same changes one other lists others =
    let before = live_row (blocks_of stored) parent in
    let height = step.can.height in
    let rows : spent_of (events_of_block height b) before ≡ spent =
    ap (λ (x : Block). spent_of (events_of_block height x) before) block ∙ sym (same ∙ step.can.comes_before.spent_is) in
    let fit : AllFit (events_of_block height b) (are_live before) =
    subst (λ (x : Block). AllFit (events_of_block height x) (are_live before)) (sym block) step.can.comes_before.fit in
    let moved : Changes lock before (row_after place (events_of_block height b) before) (sum_of (filter (is_of lock) spent)) left =
    subst (λ (l : List (OutPoint × Row)). Changes lock before (row_after place (events_of_block height b) before) (sum_of (filter (is_of lock) l)) left) rows
    (changes height before step.can.above fit (ap (λ (l : List (OutPoint × Row)). length l) rows)) in
    moved one other lists
    (listed-same (λ o. of_lock lock (live_row (blocks_of stored) place o)) (λ o. of_lock lock (row_after place (events_of_block height b) before o)) other
    (λ o. ap (of_lock lock) (sym (ap (λ (x : Block). row_after place (events_of_block height x) before o) block ∙ rows-of-step stored parent place step o))) others)

-- ---- The sums

-- of the cells of a lock on one branch and on another: what goes and what comes between them
pub sums-move : (lock : List ℕ) (kept : List Block) (parent place : ℕ) (gone come : ℕ × ℕ) → Changes lock (live_row kept parent) (live_row kept place) gone come
    → (length (cells_by_lock kept place lock) + gone.0 ≡ length (cells_by_lock kept parent lock) + come.0)
    × (capacity_of (cells_by_lock kept place lock) + gone.1 ≡ capacity_of (cells_by_lock kept parent lock) + come.1)
sums-move lock kept parent place gone come changes = changes (cells_by_lock kept parent lock) (cells_by_lock kept place lock) (by-lock parent) (by-lock place)
  where
    by-lock : (at : ℕ) → IsByLock kept at lock (cells_by_lock kept at lock)
    by-lock at = (lists-by-lock kept at lock (cells_by_lock kept at lock)).1 refl

same-sum : (sum rest gone : ℕ) → sum + gone ≡ rest + gone → sum ≡ rest
same-sum sum rest gone is = omega (arith, is)

-- with a block taken
pub sum-taken : (lock : List ℕ) (kept : List Block) (parent place : ℕ) (gone come sum next : ℕ × ℕ) → Changes lock (live_row kept parent) (live_row kept place) gone come
    → sum ≡ sum_of (cells_by_lock kept parent lock) → next.0 + gone.0 ≡ sum.0 + come.0 → next.1 + gone.1 ≡ sum.1 + come.1
    → next ≡ sum_of (cells_by_lock kept place lock)
sum-taken lock kept parent place gone come sum next changes is count capacity =
    let moves = sums-move lock kept parent place gone come changes in
    pair-of next.0 next.1 (length (cells_by_lock kept place lock)) (capacity_of (cells_by_lock kept place lock))
    (same-sum next.0 (length (cells_by_lock kept place lock)) gone.0 (count ∙ ap (λ (s : ℕ × ℕ). s.0 + come.0) is ∙ sym moves.0))
    (same-sum next.1 (capacity_of (cells_by_lock kept place lock)) gone.1 (capacity ∙ ap (λ (s : ℕ × ℕ). s.1 + come.1) is ∙ sym moves.1))

-- and taken back
pub sum-taken-back : (lock : List ℕ) (kept : List Block) (parent place : ℕ) (gone come sum next : ℕ × ℕ) → Changes lock (live_row kept parent) (live_row kept place) gone come
    → sum ≡ sum_of (cells_by_lock kept place lock) → next.0 + come.0 ≡ sum.0 + gone.0 → next.1 + come.1 ≡ sum.1 + gone.1
    → next ≡ sum_of (cells_by_lock kept parent lock)
sum-taken-back lock kept parent place gone come sum next changes is count capacity =
    let moves = sums-move lock kept parent place gone come changes in
    pair-of next.0 next.1 (length (cells_by_lock kept parent lock)) (capacity_of (cells_by_lock kept parent lock))
    (same-sum next.0 (length (cells_by_lock kept parent lock)) come.0 (count ∙ ap (λ (s : ℕ × ℕ). s.0 + gone.0) is ∙ moves.0))
    (same-sum next.1 (capacity_of (cells_by_lock kept parent lock)) come.1 (capacity ∙ ap (λ (s : ℕ × ℕ). s.1 + gone.1) is ∙ moves.1))
