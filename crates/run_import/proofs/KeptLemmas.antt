-- What is kept of a store that was opened, and then of items.
use Rattle.std.proofs.Common.{◌≡◌, ◌⊎◌, inl, inr, ℕ, ◌≤◌, List, length, take, Option, sym, subst, arith}
use Rattle.outside.specs.Image.{Image}
use Rattle.outside.specs.Disk.{LeavesOnly}
use Rattle.outside.proofs.Moments.{leaves_also, leaves_then}
use Rattle.verdict_defs.specs.Chain.{Chain, chain_over}
use Rattle.store_defs.specs.Store.{StandsFor}
use Rattle.report_defs.specs.declared.status.Status.{Status}
use Rattle.report_defs.specs.Survival.{Each, IsKeptPrefix, KeepsStore}
use Rattle.run_import.specs.Import.{KeepsSome}
use Rattle.run_text.proofs.LineLemmas.{prefix_of_all}
use Rattle.run_import.proofs.LineLemmas.{take_all}

module _ {D : Type 0} (images : D → Image → Type 0) (moment : D → ℕ) (left_since : D → ℕ → Image → Type 0)
    (counts_now : (disk : D) (t : ℕ) (image : Image) → t ≤ moment disk → images disk image → left_since disk t image) where
  -- opened, and then some items imported
  pub keeps_imported : (watched : Option (List ℕ)) (old mid new : D) (chain : Chain) (items before : List (List ℕ)) (taken : List ℕ) (status : Status)
      → IsKeptPrefix watched chain items taken (length before) → take (length before) items ≡ before
      → LeavesOnly moment left_since old mid (λ image. images old image ⊎ StandsFor chain image)
      → Each (images new) (λ image. StandsFor (chain_over chain before) image ⊎ StandsFor (chain_over chain items) image)
      → LeavesOnly moment left_since mid new (KeepsSome chain items)
      → KeepsStore watched chain items taken status (images old) (images new) (left_since new (moment old))
  keeps_imported watched old mid new chain items before taken status front is opened exit moments = record {
    exit = λ image left. elim (exit image left) [
      | inl some ↦ inr (length before, front, subst (λ xs. StandsFor (chain_over chain xs) image) (sym is) some)
      | inr all ↦ inr (length items, prefix_of_all watched chain items taken front.answered, subst (λ xs. StandsFor (chain_over chain xs) image) (sym (take_all items)) all)
    ];
    moments = (leaves_then moment left_since old mid new (λ image. images old image ⊎ KeepsSome chain items image)
        (leaves_also moment left_since old mid (λ image. images old image ⊎ StandsFor chain image) (λ image. images old image ⊎ KeepsSome chain items image) opened here)
        (leaves_also moment left_since mid new (KeepsSome chain items) (λ image. images old image ⊎ KeepsSome chain items image) moments (λ image some. inr some))).each;
  }
    where
      here : (image : Image) → images old image ⊎ StandsFor chain image → images old image ⊎ KeepsSome chain items image
      here image (inl past) = inl past
      here image (inr stands) = inr (0, omega arith, stands)
