-- The live cells as a list: one for each out-point with a cell, and so as many as there are rows.
use Rattle.std.proofs.Common.{◌≡◌, ℕ, zero, suc, ◌≤◌, ◌⊎◌, inl, inr, Bool, true, false, List, [], ◌∷◌, length, map, Option, Some, None, is_some, IsSome, slice_get, refl, sym, ap, ◌∙◌, arith}
use Rattle.std.specs.Option.{option_map}
use Rattle.std.specs.List.{AllByRecursion, Contains, IsDistinct, list_any}
use Rattle.std.specs.Map.{lookup, keys_of}
use Rattle.std.specs.declared.cmp.Ordering.{Ordering}
use Rattle.std.specs.declared.cmp.Ordering.TheVariants.{Less, Equal, Greater}
use Rattle.std.specs.Ordering.{ordering_reverse}
use Rattle.std.specs.Cmp.{IsTotalOrder, on_total, then_total, nat_cmp_total}
use Rattle.std.specs.Cmp.Lexicographic.{nat_list_cmp_total}
use Rattle.std.proofs.lemmas.List.{length-map}
use Rattle.std.proofs.lemmas.Map.Entries.{place_from_lookup, length-keys_of}
use Rattle.std.proofs.lemmas.Map.Keys.{any_passes_from_place}
use Rattle.std.proofs.lemmas.Map.Made.{is_some-lookup}
use Rattle.std.proofs.lemmas.Map.Steps.{length-le_from_keys}
use Rattle.std.proofs.lemmas.Option.{slice_get-map, slice_get-get_or, slice_get_within, get_or_from_slice_get}
use Rattle.chain_defs.specs.Schema.{OutPoint}
use Rattle.chain_defs.specs.Cell.{Cell}
use Rattle.chain_defs.specs.Events.{Event, same_out_point, cell_after}
use Rattle.chain_defs.specs.LiveCells.{live_cells}
use Rattle.chain_defs.proofs.LiveLaws.{lists-just-the-live, lists-each-once}
use Rattle.chain_defs.specs.Row.{Row, out_point_cmp, IsRising, ListsRows}
use Rattle.cell_state.specs.Slots.{key_of, same_key}
use Rattle.cell_state.proofs.SlotLemmas.{same-is}
use Rattle.cell_state.proofs.HeightLemmas.{map-some}
use Rattle.cell_state.proofs.ListLemmas.{same_key-equiv}

-- ---- Elements

cons-of : {X : Type 0} (x : X) (xs : List X) (y : X) → Contains (x ∷ xs) y → (x ≡ y) ⊎ Contains xs y
cons-of x xs y (zero, lt, is) = inl is
cons-of x xs y (suc k, lt, is) = inr (k, omega (arith, lt), is)

here : {X : Type 0} (x : X) (xs : List X) → Contains (x ∷ xs) x
here x xs = (0, omega arith, refl)

there : {X : Type 0} (x : X) (xs : List X) (y : X) → Contains xs y → Contains (x ∷ xs) y
there x xs y (k, lt, is) = (suc k, omega (arith, lt), is)

at-place : {X : Type 0} (xs : List X) (i : ℕ) (x : X) → slice_get xs i ≡ Some x → Contains xs x
at-place xs i x is = (i, slice_get_within xs i x is, get_or_from_slice_get xs i x x is)

place-of : {X : Type 0} (xs : List X) (x : X) → Contains xs x → (i : ℕ) × (slice_get xs i ≡ Some x)
place-of xs x (i, lt, is) = (i, slice_get-get_or xs i x lt ∙ ap (λ (y : _). Some y) is)

-- ---- Keys

same-out-point : (p o : OutPoint) → same_key (key_of p) (key_of o) ≡ true → p ≡ o
same-out-point p o same = same-is p o same

same-self : (o : OutPoint) → same_out_point o o ≡ true
same-self o = same_key-equiv.refl (key_of o)

abbrev keyed : {X : Type 0} → OutPoint × X → (List ℕ × ℕ) × X
keyed p = (key_of p.0, p.1)

-- each element has an out-point of its own
abbrev AreApart : {X : Type 0} → List (OutPoint × X) → Type 0
AreApart list = IsDistinct same_key (keys_of (map keyed list))

some-of : {A : Type 0} (found : Option A) → is_some found ≡ true → (x : A) × (found ≡ Some x)
some-of None is = cc
some-of (Some x) is = (x, refl)

-- one that has no element of another's out-points beside
apart-from : {X : Type 0} (p : OutPoint) (list : List (OutPoint × X)) → ((o : OutPoint) (x : X) → Contains list (o, x) → same_key (key_of p) (key_of o) ≡ false)
    → AllByRecursion (λ (k : List ℕ × ℕ). same_key (key_of p) k ≡ false) (keys_of (map keyed list))
apart-from p [] apart = tt
apart-from p (x ∷ later) apart = (apart x.0 x.1 (here x later), apart-from p later (λ o y has. apart o y (there x later (o, y) has)))

-- A list whose out-points are all in another is no longer than it.
no-longer : {X Y : Type 0} (one : List (OutPoint × X)) (other : List (OutPoint × Y)) → AreApart one
    → ((o : OutPoint) (x : X) → Contains one (o, x) → (y : Y) × Contains other (o, y)) → length one ≤ length other
no-longer {X} {Y} one other apart has =
    let most = length-le_from_keys same_key-equiv (keys_of (map keyed one)) (map keyed other) apart each in
    omega (arith, most, length-keys_of (map keyed one), length-keys_of (map keyed other), length-map one keyed, length-map other keyed)
  where
    each : (q : List ℕ × ℕ) → list_any (same_key q) (keys_of (map keyed one)) ≡ true → IsSome (lookup (same_key q) (map keyed other))
    each q any =
        let found = some-of (lookup (same_key q) (map keyed one)) (is_some-lookup (same_key q) (map keyed one) ∙ any) in
        let place = place_from_lookup (same_key q) (map keyed one) found.0 found.1 in
        let entry = map-some keyed (slice_get one place.0) (place.1, found.0) (sym (slice_get-map keyed one place.0) ∙ place.2) in
        let beside = has entry.0.0 entry.0.1 (at-place one place.0 entry.0 entry.1) in
        let at = place-of other (entry.0.0, beside.0) beside.1 in
        let key : slice_get (keys_of (map keyed other)) at.0 ≡ Some (key_of entry.0.0) =
        slice_get-map (λ (e : (List ℕ × ℕ) × Y). e.0) (map keyed other) at.0
        ∙ ap (option_map (λ (e : (List ℕ × ℕ) × Y). e.0)) (slice_get-map keyed other at.0 ∙ ap (option_map keyed) at.1) in
        let same : same_key q (key_of entry.0.0) ≡ true =
        ap (λ (e : (List ℕ × ℕ) × X). same_key q e.0) entry.2 ∙ place.3 in
        is_some-lookup (same_key q) (map keyed other) ∙ any_passes_from_place (same_key q) (keys_of (map keyed other)) at.0 (key_of entry.0.0) key same

-- ---- Rows in rising order

out_point_cmp-total : IsTotalOrder out_point_cmp
out_point_cmp-total =
    then_total (on_total (λ (o : OutPoint). o.tx_hash) nat_list_cmp_total) (on_total (λ (o : OutPoint). o.index) nat_cmp_total)

self-flip : (order : Ordering) → order ≡ ordering_reverse order → order ≡ Less → ⊥
self-flip Less is less = let never : Less ≡ Greater = is in cc
self-flip Equal is less = cc
self-flip Greater is less = cc

not-below-itself : (o : OutPoint) → out_point_cmp o o ≡ Less → ⊥
not-below-itself o = self-flip (out_point_cmp o o) (out_point_cmp-total.antisymm o o)

below-apart : (p o : OutPoint) (same : Bool) → out_point_cmp p o ≡ Less → same_key (key_of p) (key_of o) ≡ same → same ≡ false
below-apart p o false less is = refl
below-apart p o true less is = absurd (not-below-itself p (ap (out_point_cmp p) (same-out-point p o is) ∙ less))

rising-tail : (row : OutPoint × Row) (later : List (OutPoint × Row)) → IsRising (row ∷ later) → IsRising later
rising-tail row later rising i j d before within = rising (suc i) (suc j) d (omega arith) (omega arith)

rising-head : (row : OutPoint × Row) (later : List (OutPoint × Row)) → IsRising (row ∷ later) → (o : OutPoint) (other : Row) → Contains later (o, other) → out_point_cmp row.0 o ≡ Less
rising-head row later rising o other has =
    let less = rising 0 (suc has.0) (o, other) (omega arith) (omega (arith, has.1)) in
    ap (λ (x : OutPoint × Row). out_point_cmp row.0 x.0) (sym has.2) ∙ less

rising-apart : (list : List (OutPoint × Row)) → IsRising list → AreApart list
unfolding IsDistinct
rising-apart [] rising = tt
rising-apart (row ∷ later) rising = (
  apart-from row.0 later (λ o other has. below-apart row.0 o _ (rising-head row later rising o other has) refl),
  rising-apart later (rising-tail row later rising),
)

-- ---- The live cells

-- a list in which no out-point stands twice
apart-keys : (p : OutPoint) (list : List (OutPoint × Cell)) → AllByRecursion (λ (o : OutPoint). same_out_point p o ≡ false) (map (λ (listed : OutPoint × Cell). listed.0) list)
    → AllByRecursion (λ (k : List ℕ × ℕ). same_key (key_of p) k ≡ false) (keys_of (map keyed list))
apart-keys p [] once = tt
apart-keys p (x ∷ later) once = (once.0, apart-keys p later once.1)

keys-apart : (list : List (OutPoint × Cell)) → IsDistinct same_out_point (map (λ (listed : OutPoint × Cell). listed.0) list) → AreApart list
unfolding IsDistinct
keys-apart [] once = tt
keys-apart (x ∷ later) once = (apart-keys x.0 later once.0, keys-apart later once.1)

live-apart : (events : List Event) → AreApart (live_cells events)
live-apart events = keys-apart (live_cells events) (lists-each-once events)

-- ---- As many as rows

-- Where each live cell has a row, there are as many live cells as rows.
pub as-many-as-rows : (events : List Event) (row_by : Cell → Row) (rows : OutPoint → Option Row) (list : List (OutPoint × Row))
    → ((o : OutPoint) → rows o ≡ option_map row_by (cell_after events o)) → ListsRows rows list → length list ≡ length (live_cells events)
as-many-as-rows events row_by rows list are lists =
    let most = no-longer list (live_cells events) (rising-apart list lists.rising)
    (λ o row has. let live = map-some row_by (cell_after events o) row (sym (are o) ∙ (lists.each o row).0 has) in (live.0, (lists-just-the-live events o live.0).1 live.1)) in
    let least = no-longer (live_cells events) list (live-apart events)
    (λ o cell has. (row_by cell, (lists.each o (row_by cell)).1 (are o ∙ ap (option_map row_by) ((lists-just-the-live events o cell).0 has)))) in
    omega (arith, most, least)
