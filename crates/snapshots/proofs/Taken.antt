-- What a crash leaves of an area while its gate is closed and a snapshot is written after it.
use Rattle.std.proofs.Common.{◌≡◌, ℕ, ◌≤◌, List, ◌∷◌, ◌++◌, Option, Some, None, refl, sym, ap, ◌∙◌, subst, inl, inr}
use Rattle.std.specs.Prelude.{IsSome}
use Rattle.chain_defs.specs.Schema.{OutPoint}
use Rattle.chain_defs.specs.Row.{Row}
use Rattle.outside.specs.declared.disk.Area.{Area}
use Rattle.outside.specs.Image.{Image, InArea, content, with_content}
use Rattle.outside.specs.Disk.{ComesBy, LeavesOnly}
use Rattle.outside.proofs.Moments.{leaves_also, leaves_then, now_too}
use Rattle.snapshots.specs.Writing.{IsAsItWasOrClosed, IsTaken, IsClosedOr, HasArea, HasAnyArea, HoldsNew, HoldsBody, IsBodyOf}
use Rattle.snapshots.proofs.Gates.{no-some, with-twice, as-it-was}

any-then : (area : Area) (images mid : Image → Type 0) → ((image : Image) → mid image → HasAnyArea area images image)
    → (image : Image) → HasAnyArea area mid image → HasAnyArea area images image
any-then area images mid first image (before, left, (bytes, any, is)) = from (first before left)
  where
    from : HasAnyArea area images before → HasAnyArea area images image
    from (earlier, there, (other, some, was)) = (earlier, there, (bytes, tt, is ∙ ap (with_content area bytes) was ∙ with-twice area bytes other earlier))

taken-first : (area : Area) (New : List ℕ → Type 0) (images : Image → Type 0) (image : Image) → ComesBy (InArea area IsAsItWasOrClosed) images image
    → ComesBy (InArea area (IsTaken New)) images image
taken-first area New images image (before, left, (bytes, step, is)) = (before, left, (bytes, inl step, is))

taken-then : (area : Area) (New : List ℕ → Type 0) (images mid : Image → Type 0) → ((image : Image) → mid image → ComesBy (InArea area IsAsItWasOrClosed) images image)
    → (image : Image) → HasArea area (IsClosedOr New) mid image → ComesBy (InArea area (IsTaken New)) images image
taken-then area New images mid first image (before, left, (bytes, has, is)) = from (first before left)
  where
    by : (old : List ℕ) → IsClosedOr New bytes → IsTaken New old bytes
    by old (inl closed) = inl (inr closed)
    by old (inr new) = inr new

    from : ComesBy (InArea area IsAsItWasOrClosed) images before → ComesBy (InArea area (IsTaken New)) images image
    from (earlier, there, (other, step, was)) =
        (earlier, there, (bytes, by (content area earlier) has, is ∙ ap (with_content area bytes) was ∙ with-twice area bytes other earlier))

-- before the first call
pub still-taken : (area : Area) (New : List ℕ → Type 0) (images : Image → Type 0) (image : Image) → images image → ComesBy (InArea area (IsTaken New)) images image
still-taken area New images image left = taken-first area New images image (as-it-was area images image left)

-- the bytes that stand in it are those of a snapshot
taken-also : (area : Area) (Body New : List ℕ → Type 0) → ((bytes : List ℕ) → Body bytes → New bytes)
    → (images : Image → Type 0) (image : Image) → ComesBy (InArea area (IsTaken Body)) images image → ComesBy (InArea area (IsTaken New)) images image
taken-also area Body New holds images image (before, left, (bytes, inl step, is)) = (before, left, (bytes, inl step, is))
taken-also area Body New holds images image (before, left, (bytes, inr body, is)) = (before, left, (bytes, inr (holds bytes body), is))

-- bytes after an open gate that are the body of such a snapshot
holds-new : (number tip : ℕ) (hash : List ℕ) (rows : OutPoint → Option Row) (body bytes found : List ℕ) → bytes ≡ body → IsBodyOf number tip hash rows body
    → HoldsBody bytes found → HoldsNew number tip hash rows found
holds-new number tip hash rows body bytes found same of (after, is) = (
  of.s,
  of.is,
  record { form = of.form; after = after; parts = is ∙ ap (λ (l : List ℕ). 1 ∷ l ++ after) (same ∙ of.bytes) },
)

pub new-taken : (area here : Area) (number tip : ℕ) (hash : List ℕ) (rows : OutPoint → Option Row) (body bytes : List ℕ) → area ≡ here → bytes ≡ body
    → IsBodyOf number tip hash rows body → (images : Image → Type 0) (image : Image) → ComesBy (InArea area (IsTaken (HoldsBody bytes))) images image
    → ComesBy (InArea here (IsTaken (HoldsNew number tip hash rows))) images image
new-taken area here number tip hash rows body bytes at same of images image comes =
    subst (λ (a : Area). ComesBy (InArea a (IsTaken (HoldsNew number tip hash rows))) images image) at
    (taken-also area (HoldsBody bytes) (HoldsNew number tip hash rows) (λ found. holds-new number tip hash rows body bytes found same of) images image comes)

module _ {D : Type 0} (reads_as : D → Option Image) (images : D → Image → Type 0) (moment : D → ℕ) (left_since : D → ℕ → Image → Type 0)
    (counts_now : (disk : D) (t : ℕ) (image : Image) → t ≤ moment disk → images disk image → left_since disk t image)
    (told : (disk : D) (image : Image) → images disk image → IsSome (reads_as disk)) where
  pub beside-then : (old mid new : D) (area : Area) → LeavesOnly moment left_since old mid (HasAnyArea area (images old))
      → LeavesOnly moment left_since mid new (HasAnyArea area (images mid)) → LeavesOnly moment left_since old new (HasAnyArea area (images old))
  beside-then old mid new area first second =
      leaves_then moment left_since old mid new (HasAnyArea area (images old)) first
      (leaves_also moment left_since mid new (HasAnyArea area (images mid)) (HasAnyArea area (images old)) second
      (any-then area (images old) (images mid) (now_too moment left_since images counts_now old mid (HasAnyArea area (images old)) first)))

  -- where the gate alone was closed
  pub moments-first : (old mid : D) (area : Area) (New : List ℕ → Type 0)
      → LeavesOnly moment left_since old mid (ComesBy (InArea area IsAsItWasOrClosed) (images old))
      → LeavesOnly moment left_since old mid (ComesBy (InArea area (IsTaken New)) (images old))
  moments-first old mid area New first = leaves_also moment left_since old mid _ _ first (taken-first area New (images old))

  -- and where the snapshot was written after it
  pub moments-then : (old mid new : D) (area : Area) (New : List ℕ → Type 0)
      → LeavesOnly moment left_since old mid (ComesBy (InArea area IsAsItWasOrClosed) (images old))
      → (IsSome (reads_as old) → LeavesOnly moment left_since mid new (HasArea area (IsClosedOr New) (images mid)))
      → LeavesOnly moment left_since mid new (HasAnyArea area (images mid))
      → LeavesOnly moment left_since old new (ComesBy (InArea area (IsTaken New)) (images old))
  moments-then old mid new area New first second beside = leaves_then moment left_since old mid new _ (moments-first old mid area New first) (by (reads_as old) refl)
    where
      at-mid : (image : Image) → images mid image → ComesBy (InArea area IsAsItWasOrClosed) (images old) image
      at-mid = now_too moment left_since images counts_now old mid (ComesBy (InArea area IsAsItWasOrClosed) (images old)) first

      untold : reads_as old ≡ None → (image : Image) → HasAnyArea area (images mid) image → ComesBy (InArea area (IsTaken New)) (images old) image
      untold none image (before, left, (bytes, any, is)) =
          let earlier = at-mid before left in absurd (no-some (subst IsSome none (told old earlier.0 earlier.1)))

      by : (reads : Option Image) → reads_as old ≡ reads → LeavesOnly moment left_since mid new (ComesBy (InArea area (IsTaken New)) (images old))
      by None none = leaves_also moment left_since mid new _ _ beside (untold none)
      by (Some now) some = leaves_also moment left_since mid new _ _ (second (subst IsSome (sym some) refl)) (taken-then area New (images old) (images mid) at-mid)
