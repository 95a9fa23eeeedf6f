-- Keys in rising order: which are equal, and which one is found.
use Rattle.std.proofs.Common.{◌≡◌, ℕ, ◌+◌, ◌<◌, ◌≤◌, ◌⊎◌, inl, inr, Bool, true, false, true≢false, not, ◌&&◌, List, [], ◌∷◌, length, get_or, Result, Ok, Err, refl, sym, ap, ◌∙◌, arith}
use Rattle.std.specs.List.{IsDistinct, AllByRecursion, list_any}
use Rattle.std.specs.List.Sorted.{IsPermutation, IsSorted, IsStrictlySortedBy, IsBinarySearchResult, IsSearchInRange, IsPartitionPoint}
use Rattle.std.specs.Result.{is_ok}
use Rattle.std.specs.Str.{bytes_eq}
use Rattle.std.specs.Ordering.{nat_cmp, is_lt, is_eq, ordering_reverse}
use Rattle.std.specs.declared.cmp.Ordering.{Ordering}
use Rattle.std.specs.declared.cmp.Ordering.TheVariants.{Less, Equal, Greater}
use Rattle.std.specs.Cmp.Lexicographic.{slice_cmp, texts_ties, nat_list_eq_equiv, nat_list_cmp_total}
use Rattle.std.proofs.lemmas.Bool.{and_parts, or_parts, or_from, not-true, cases_lt}
use Rattle.std.proofs.lemmas.List.Folds.{list_any_at, list_any_none}
use Rattle.std.proofs.lemmas.List.Sorted.{IsPermutation-sym, searchable_from_sorted}
use Rattle.std.proofs.lemmas.Map.Keys.{IsDistinct-head, IsDistinct-tail, IsDistinct-IsPermutation, IsDistinct-from_apart, apart_from_distinct, Less-from_sorted, sorted_from_all_adjacent}
use Rattle.chain_defs.specs.Hashes.{are_distinct}

-- ---- Distinct keys, as a test and as a fact

none-alike : (first : List ℕ) (later : List (List ℕ)) → AllByRecursion (λ y. bytes_eq first y ≡ false) later → list_any (λ other. bytes_eq other first) later ≡ false
none-alike first [] apart = refl
none-alike first (y ∷ later) apart =
    or_from (bytes_eq y first) (list_any (λ other. bytes_eq other first) later) (nat_list_eq_equiv.symm y first ∙ apart.0) (none-alike first later apart.1)

alike-none : (first : List ℕ) (later : List (List ℕ)) → list_any (λ other. bytes_eq other first) later ≡ false → AllByRecursion (λ y. bytes_eq first y ≡ false) later
alike-none first [] none = tt
alike-none first (y ∷ later) none =
    let parts = or_parts (bytes_eq y first) (list_any (λ other. bytes_eq other first) later) none in
    (nat_list_eq_equiv.symm first y ∙ parts.0, alike-none first later parts.1)

tested : (keys : List (List ℕ)) → IsDistinct bytes_eq keys → are_distinct keys ≡ true
tested [] distinct = refl
tested (first ∷ later) distinct =
    ap (λ (b : Bool). not b && are_distinct later) (none-alike first later (IsDistinct-head bytes_eq first later distinct))
    ∙ tested later (IsDistinct-tail bytes_eq first later distinct)

meant : (keys : List (List ℕ)) → are_distinct keys ≡ true → IsDistinct bytes_eq keys
unfolding IsDistinct
meant [] is = tt
meant (first ∷ later) is =
    let parts = and_parts (not (list_any (λ other. bytes_eq other first) later)) (are_distinct later) is in
    (alike-none first later (not-true (list_any (λ other. bytes_eq other first) later) parts.0), meant later parts.1)

-- two that are equal
pub alike : (keys : List (List ℕ)) (i j : ℕ) (d : List ℕ) → i < j → j < length keys → bytes_eq (get_or keys i d) (get_or keys j d) ≡ true → are_distinct keys ≡ false
alike keys i j d before within same = by_test (are_distinct keys) refl
  where
    by_test : (b : Bool) → are_distinct keys ≡ b → are_distinct keys ≡ false
    by_test false is = is
    by_test true is = absurd (true≢false (sym same ∙ apart_from_distinct bytes_eq keys i j d (meant keys is) before within))

-- in another order
pub moved : (keys others : List (List ℕ)) → IsPermutation keys others → are_distinct keys ≡ are_distinct others
moved keys others same = by_test (are_distinct keys) (are_distinct others) refl refl
  where
    there : (xs ys : List (List ℕ)) → IsPermutation xs ys → are_distinct xs ≡ true → are_distinct ys ≡ true
    there xs ys same is = tested ys (IsDistinct-IsPermutation bytes_eq nat_list_eq_equiv.symm xs ys same (meant xs is))

    by_test : (a b : Bool) → are_distinct keys ≡ a → are_distinct others ≡ b → are_distinct keys ≡ are_distinct others
    by_test true b is other = is ∙ sym (there keys others same is)
    by_test false false is other = is ∙ sym other
    by_test false true is other = absurd (true≢false (sym (there others keys (IsPermutation-sym keys others same) other) ∙ is))

-- ---- In rising order

less-by : (one other : List ℕ) (order : Ordering) → slice_cmp nat_cmp one other ≡ order → is_lt (slice_cmp nat_cmp other one) ≡ false → bytes_eq one other ≡ false → order ≡ Less
less-by one other Less is not-less apart = refl
less-by one other Equal is not-less apart = absurd (true≢false (sym (texts_ties one other ∙ ap is_eq is) ∙ apart))
less-by one other Greater is not-less apart =
    absurd (true≢false (sym (ap is_lt (nat_list_cmp_total.antisymm other one ∙ ap ordering_reverse is)) ∙ not-less))

equal-by : (one other : List ℕ) → slice_cmp nat_cmp one other ≡ Less → bytes_eq one other ≡ false
equal-by one other less = texts_ties one other ∙ ap is_eq less

-- of which no two that stand side by side are equal
pub none-beside : (keys : List (List ℕ)) → IsSorted (slice_cmp nat_cmp) keys
    → ((k : ℕ) (d : List ℕ) → k + 1 < length keys → bytes_eq (get_or keys k d) (get_or keys (k + 1) d) ≡ false) → are_distinct keys ≡ true
none-beside keys sorted apart =
    tested keys (IsDistinct-from_apart bytes_eq keys (λ i j d before within.
    equal-by (get_or keys i d) (get_or keys j d) (Less-from_sorted (slice_cmp nat_cmp) keys i j d (rising d) before within)))
  where
    rising : (d : List ℕ) → IsStrictlySortedBy (slice_cmp nat_cmp) keys
    rising d = sorted_from_all_adjacent nat_list_cmp_total keys d (λ k lt.
        less-by (get_or keys k d) (get_or keys (k + 1) d) (slice_cmp nat_cmp (get_or keys k d) (get_or keys (k + 1) d)) refl (sorted k d (omega arith) lt) (apart k d lt))

-- ---- A key that is looked for

pub found : (keys : List (List ℕ)) (key : List ℕ) (r : Result ℕ ℕ) → IsSorted (slice_cmp nat_cmp) keys → IsSearchInRange r (length keys)
    → IsBinarySearchResult (λ y. slice_cmp nat_cmp y key) keys r → is_ok r ≡ list_any (bytes_eq key) keys
found keys key (Ok i) sorted within at =
    sym (list_any_at (bytes_eq key) keys i [] within (nat_list_eq_equiv.symm key (get_or keys i []) ∙ texts_ties (get_or keys i []) key ∙ ap is_eq (at [])))
found keys key (Err i) sorted within parts = sym (list_any_none (bytes_eq key) keys (λ k d lt. by_side k d lt (cases_lt k i)))
  where
    parted : IsPartitionPoint (λ y. slice_cmp nat_cmp y key ≡ Less) (λ y. slice_cmp nat_cmp y key ≡ Greater) keys i
    parted = parts (searchable_from_sorted nat_list_cmp_total (λ (y : List ℕ). y) keys key sorted)

    by_side : (k : ℕ) (d : List ℕ) → k < length keys → (k < i) ⊎ (i ≤ k) → bytes_eq key (get_or keys k d) ≡ false
    by_side k d lt (inl below) =
        nat_list_eq_equiv.symm key (get_or keys k d) ∙ texts_ties (get_or keys k d) key ∙ ap is_eq (parted.0 k d (omega arith) below)
    by_side k d lt (inr above) =
        nat_list_eq_equiv.symm key (get_or keys k d) ∙ texts_ties (get_or keys k d) key ∙ ap is_eq (parted.1 k d above lt)
