-- What is watched, as it follows the tip.
use Rattle.std.proofs.Common.{◌≡◌, ℕ, ◌<◌, Bool, true, false, List, [], ◌∷◌, ◌++◌, length, Option, Some, None, Result, Ok, Err, refl, sym, ap, ◌∙◌, subst, arith, append-nil}
use Rattle.std.specs.Prelude.{IfOk, if◌then◌else◌}
use Rattle.std.proofs.lemmas.Option.{same_Some}
use Rattle.outside.specs.declared.disk.Damage.{Damage}
use Rattle.outside.specs.declared.disk.ReadStop.{ReadStop}
use Rattle.outside.specs.declared.disk.ReadStop.TheVariants.{DiskFault, NoMemory, Damaged}
use Rattle.chain_defs.specs.Schema.{OutPoint, Block}
use Rattle.chain_defs.specs.Kept.{blocks_of_item}
use Rattle.chain_defs.specs.Specification.{Specification}
use Rattle.chain_defs.specs.Tip.{tip_place}
use Rattle.chain_tree.specs.declared.entry.Entry.{Entry}
use Rattle.chain_tree.specs.Told.{Stored}
use Rattle.uncle_rules.specs.Embedded.{UnclesValue}
use Rattle.chain_defs.specs.ByLock.{of_lock, cells_by_lock, IsByLock}
use Rattle.chain_defs.specs.Row.{Row, live_row}
use Rattle.chain_defs.proofs.ByLockLaws.{lists-by-lock}
use Rattle.cell_state.proofs.RowLemmas.{live_row-prefix}
use Rattle.cell_index.specs.Balance.{BalanceValue, IsBalance, sum_of}
use Rattle.cell_index.specs.Follow.{CanBeFollowed}
use Rattle.verdict_defs.specs.Chain.{Chain}
use Rattle.report_defs.specs.Queries.{cells_on, total_of}
use Rattle.report_defs.specs.Report.{balance_over}
use Rattle.verdict_defs.specs.Verdict.{joins, verdict, kept_after}
use Rattle.store_defs.specs.Store.{AreJoined}
use Rattle.rewards.specs.Reading.{YieldsUndamaged}
use Rattle.node_store.specs.Kept.{KeptValue, kept_of, AreKept}
use Rattle.node_store.proofs.WayLaws.{joined-can-be-taken-back}
use Rattle.run_import.specs.Watching.{IsTipBalance, IsWatchAt, IsWatching}

-- ---- The way

-- each block on the way between two kept blocks can be taken back
pub way-there : (spec : Specification) (stored : List Stored) (entries : List Entry) (index : UnclesValue) (kept : KeptValue) → kept_of spec stored entries ≡ kept
    → AreKept stored entries index → (from to : ℕ) → AreJoined kept.chain kept.exts → CanBeFollowed stored from to
way-there spec stored entries index kept whole are from to joined place parent it on found named =
    joined-can-be-taken-back (kept_of spec stored entries).chain stored refl (subst (λ (k : KeptValue). AreJoined k.chain k.exts) (sym whole) joined) are.canonical
    place parent it found named

-- what is not stopped by damage comes to what it is, where it ends well
pub comes-to : {T : Type 0} (P : T → Type 0) (result : Result T ReadStop) → IfOk result P → ((damage : Damage) → result ≡ Err (Damaged damage) → ⊥) → YieldsUndamaged P result
comes-to P (Ok value) has none = has
comes-to P (Err DiskFault) has none = tt
comes-to P (Err NoMemory) has none = tt
comes-to P (Err (Damaged damage)) has none = absurd (none damage refl)

-- and to what follows from that
pub comes-then : {T : Type 0} (P Q : T → Type 0) (result : Result T ReadStop) → ((value : T) → P value → Q value) → YieldsUndamaged P result → YieldsUndamaged Q result
comes-then P Q (Ok value) more has = more value has
comes-then P Q (Err stop) more has = has

-- ---- Blocks more

-- the cells of a lock on a branch are the same still where blocks came behind
cells-more : (kept more : List Block) (place : ℕ) (lock : List ℕ) → place < length kept → cells_by_lock kept place lock ≡ cells_by_lock (kept ++ more) place lock
cells-more kept more place lock below = (lists-by-lock (kept ++ more) place lock (cells_by_lock kept place lock)).0 (record {
  rising = by.rising;
  each = λ o row. (
    λ has. ap (of_lock lock) (live_row-prefix kept more place o below) ∙ (by.each o row).0 has,
    λ is. (by.each o row).1 (sym (ap (of_lock lock) (live_row-prefix kept more place o below)) ∙ is),
  );
})
  where
    by : IsByLock kept place lock (cells_by_lock kept place lock)
    by = (lists-by-lock kept place lock (cells_by_lock kept place lock)).1 refl

-- and so is their balance
pub stands-more : (lock : List ℕ) (kept more : List Block) (place : ℕ) (balance : BalanceValue) → place < length kept → IsBalance lock kept place balance
    → IsBalance lock (kept ++ more) place balance
stands-more lock kept more place balance below is = record {
  lock_is = is.lock_is;
  sum_is = is.sum_is ∙ ap (λ (cells : List (OutPoint × Row)). sum_of cells) (cells-more kept more place lock below);
}

-- the blocks after an item are those before it, and perhaps more
pub after-more : (spec : Specification) (kept : List Block) (item : List ℕ) → (more : List Block) × (kept_after spec kept item ≡ kept ++ more)
unfolding kept_after
after-more spec kept item = by_test (joins (verdict spec kept item))
  where
    by_test : (test : Bool) → (more : List Block) × ((if test then kept ++ blocks_of_item item else kept) ≡ kept ++ more)
    by_test true = (blocks_of_item item, refl)
    by_test false = ([], sym (append-nil kept))

pub watch-more : (watched : Option (List ℕ)) (kept more : List Block) (place : ℕ) (watch : Option BalanceValue) → place < length kept
    → IsWatchAt watched kept place watch → IsWatchAt watched (kept ++ more) place watch
watch-more None kept more place watch below at = at
watch-more (Some lock) kept more place watch below (balance, is, stands) = (balance, is, stands-more lock kept more place balance below stands)

-- what is watched of the tip is watched of the place that is the tip
pub watch-at : (watched : Option (List ℕ)) (kept : List Block) (place : ℕ) (watch : Option BalanceValue) → tip_place kept ≡ Some place → IsWatching watched kept watch
    → IsWatchAt watched kept place watch
watch-at watched kept place watch is watching =
    subst (λ (p : ℕ). IsWatchAt watched kept p watch) (same_Some watching.tip place (sym watching.is_tip ∙ is)) watching.at

-- a balance on the best branch
pub watching-is : (lock : List ℕ) (kept : List Block) (balance : BalanceValue) → IsTipBalance lock kept balance → IsWatching (Some lock) kept (Some balance)
watching-is lock kept balance stands = record { tip = stands.tip; is_tip = stands.is_tip; at = (balance, refl, stands.stands) }

-- nothing is watched
pub watching-none : (watched : Option (List ℕ)) (kept : List Block) (from place : ℕ) (watch : Option BalanceValue) → tip_place kept ≡ Some place → watch ≡ None
    → IsWatchAt watched kept from watch → IsWatching watched kept None
watching-none None kept from place watch is none at = record { tip = place; is_tip = is; at = refl }
watching-none (Some lock) kept from place watch is none (balance, some, stands) = absurd (cc)

-- ---- The balance

-- what is watched is the balance that is to be said
pub balance-is : (watched : Option (List ℕ)) (chain : Chain) (watch : Option BalanceValue) (balance : BalanceValue) → watch ≡ Some balance
    → IsWatching watched chain.blocks watch → Some balance.sum ≡ balance_over watched chain
balance-is None chain watch balance some watching = let none : watch ≡ None = watching.at in absurd (cc)
balance-is (Some lock) chain watch balance some watching =
    let at = watching.at in
    let same : at.0 ≡ balance = same_Some at.0 balance (sym at.1 ∙ some) in
    let sum : balance.sum ≡ sum_of (cells_by_lock chain.blocks watching.tip lock) = sym (ap (λ (b : BalanceValue). b.sum) same) ∙ at.2.sum_is in
    ap (λ (t : ℕ × ℕ). Some t) sum
    ∙ ap (λ (found : Option ℕ). Some (total_of (cells_on chain.blocks lock found))) (sym watching.is_tip)
