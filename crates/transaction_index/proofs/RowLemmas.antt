-- The first row with a hash, in rows that were sorted, and in those that are.
use Rattle.std.proofs.Common.{◌≡◌, ℕ, zero, suc, ◌<◌, ◌≤◌, ◌⊎◌, inl, inr, Bool, true, false, List, [], ◌∷◌, length, get_or, Option, Some, None, refl, sym, ap, ◌∙◌, subst, arith}
use Rattle.std.specs.Prelude.{if◌then◌else◌}
use Rattle.std.specs.Cmp.{IsTotalOrder, IsStrictWeakOrder}
use Rattle.std.specs.List.{Contains}
use Rattle.std.specs.List.Sorted.{IsPermutation, IsSorted, IsSortedByKey, IsNonDecreasingBy, IsPartitionedBy, IsPartitionPoint}
use Rattle.std.specs.Str.{bytes_eq}
use Rattle.std.specs.Ordering.{nat_cmp, is_lt, is_eq, ordering_index, ordering_reverse, ordering_then}
use Rattle.std.specs.declared.cmp.Ordering.{Ordering}
use Rattle.std.specs.declared.cmp.Ordering.TheVariants.{Less, Equal, Greater}
use Rattle.std.specs.Cmp.Lexicographic.{slice_cmp, texts_ties, nat_list_cmp_total}
use Rattle.std.proofs.lemmas.Bool.{cases_lt}
use Rattle.std.proofs.lemmas.Cmp.{then_total, on_total, nat_cmp_total, ranked, tied_itself}
use Rattle.std.proofs.lemmas.List.{get_or_default}
use Rattle.std.proofs.lemmas.List.Sorted.{ranks_by, sorted_far, searchable_from_sorted, Contains-permutation, IsPermutation-sym}
use Rattle.std.proofs.lemmas.Map.Keys.{sorted_tail}
use Rattle.std.proofs.lemmas.Map.Views.{All-after_first}
use Rattle.std.proofs.lemmas.Slice.Eq.{bytes_eq-Decides}
use Rattle.chain_defs.proofs.NamingLemmas.{true-false}
use Rattle.transaction_index.specs.declared.row.Row.{Row}
use Rattle.transaction_index.specs.Rows.{first_row, by_place, by_hash, AreInOrder, is_before}

-- ---- The orders

places-total : IsTotalOrder by_place
places-total = then_total (on_total (λ (row : Row). row.number) nat_cmp_total) (on_total (λ (row : Row). row.place) nat_cmp_total)

pub hashes-total : IsTotalOrder by_hash
hashes-total = then_total (on_total (λ (row : Row). row.hash) nat_list_cmp_total) places-total

-- a test by which a sort orders
pub hashes-ordered : IsStrictWeakOrder (λ (one other : Row). is_lt (by_hash one other))
hashes-ordered = ranks_by hashes-total (λ (row : Row). row)

head-not : (first later : Ordering) → is_lt (ordering_then first later) ≡ false → is_lt first ≡ false
head-not Less later is = is
head-not Equal later is = refl
head-not Greater later is = refl

both-equal : (first later : Ordering) → ordering_then first later ≡ Equal → (first ≡ Equal) × (later ≡ Equal)
both-equal Less later is = absurd (cc is)
both-equal Equal later is = (refl, is)
both-equal Greater later is = absurd (cc is)

neither : (o : Ordering) → is_lt o ≡ false → is_lt (ordering_reverse o) ≡ false → o ≡ Equal
neither Less one other = absurd (cc one)
neither Equal one other = refl
neither Greater one other = absurd (cc other)

after-less : (o : Ordering) → o ≡ Less → is_lt (ordering_reverse o) ≡ false
after-less Less is = refl
after-less Equal is = absurd (cc is)
after-less Greater is = absurd (cc is)

numbers-equal : (x y : ℕ) → nat_cmp x y ≡ Equal → x ≡ y
numbers-equal x y is = ranked x y Equal (sym is)

-- two rows of one hash of which neither is first are one
same-row : (one other : Row) → one.hash ≡ other.hash → is_lt (by_place one other) ≡ false → is_lt (by_place other one) ≡ false → one ≡ other
same-row one other hash before after =
    let turned : is_lt (ordering_reverse (by_place one other)) ≡ false = ap is_lt (sym (places-total.antisymm other one)) ∙ after in
    let both = both-equal (nat_cmp one.number other.number) (nat_cmp one.place other.place) (neither (by_place one other) before turned) in
    let number : one.number ≡ other.number = numbers-equal one.number other.number both.0 in
    let place : one.place ≡ other.place = numbers-equal one.place other.place both.1 in
    (λ i. record { hash = hash i; number = number i; place = place i })

-- of one hash the order is that on a branch
by-hash-there : (one other : Row) → one.hash ≡ other.hash → is_lt (by_hash one other) ≡ false → is_lt (by_place one other) ≡ false
by-hash-there one other hash is =
    ap (λ (o : Ordering). is_lt (ordering_then o (by_place one other)))
    (sym (tied_itself nat_list_cmp_total one.hash) ∙ ap (slice_cmp nat_cmp one.hash) hash) ∙ is

-- ---- The first row with a hash

pub record IsFirst (rows : List Row) (hash : List ℕ) (row : Row) : Type 0 where
  pub at : ℕ
  pub within : at < length rows
  pub there : get_or rows at row ≡ row
  pub has : bytes_eq row.hash hash ≡ true
  pub none_before : (j : ℕ) (d : Row) → j < at → bytes_eq (get_or rows j d).hash hash ≡ false

first-is : (rows : List Row) (hash : List ℕ) (row : Row) → first_row rows hash ≡ Some row → IsFirst rows hash row
first-is [] hash row is = absurd (cc is)
first-is (first ∷ later) hash row is = by_test (λ more. first-is later hash row more) (bytes_eq first.hash hash) refl is
  where
    by_test : (first_row later hash ≡ Some row → IsFirst later hash row) → (t : Bool) → bytes_eq first.hash hash ≡ t
        → (if t then Some first else first_row later hash) ≡ Some row → IsFirst (first ∷ later) hash row
    by_test rest true has is =
        let same : first ≡ row = cc in
        record {
          at = 0;
          within = omega arith;
          there = same;
          has = subst (λ (r : Row). bytes_eq r.hash hash ≡ true) same has;
          none_before = λ j d less. absurd (omega (arith, less));
        }
    by_test rest false has is =
        let more = rest is in
        record {
          at = suc more.at;
          within = omega (arith, more.within);
          there = more.there;
          has = more.has;
          none_before = λ j d less. before more.at more.none_before j d less;
        }
      where
        before : (at : ℕ) → ((j : ℕ) (d : Row) → j < at → bytes_eq (get_or later j d).hash hash ≡ false) → (j : ℕ) (d : Row) → j < suc at
            → bytes_eq (get_or (first ∷ later) j d).hash hash ≡ false
        before at none zero d less = has
        before at none (suc j) d less = none j d (omega (arith, less))

none-is : (rows : List Row) (hash : List ℕ) → first_row rows hash ≡ None → (j : ℕ) (d : Row) → j < length rows → bytes_eq (get_or rows j d).hash hash ≡ false
none-is [] hash is j d less = absurd (omega (arith, less))
none-is (first ∷ later) hash is j d less = by_test (λ more. none-is later hash more) (bytes_eq first.hash hash) refl is j less
  where
    by_test : (first_row later hash ≡ None → (j : ℕ) (d : Row) → j < length later → bytes_eq (get_or later j d).hash hash ≡ false) → (t : Bool) → bytes_eq first.hash hash ≡ t
        → (if t then Some first else first_row later hash) ≡ None → (j : ℕ) → j < length (first ∷ later) → bytes_eq (get_or (first ∷ later) j d).hash hash ≡ false
    by_test rest true has is j less = absurd (cc is)
    by_test rest false has is zero less = has
    by_test rest false has is (suc j) less = rest is j d (omega (arith, less))

-- no row of a hash is before the first
abbrev pub AreLater : (Row → Row → Ordering) → List Row → Type 0
AreLater order rows = (i j : ℕ) (d : Row) → i ≤ j → j < length rows → is_lt (order (get_or rows j d) (get_or rows i d)) ≡ false

least : (order : Row → Row → Ordering) (rows : List Row) (hash : List ℕ) (row other : Row) → AreLater order rows → IsFirst rows hash row → Contains rows other
    → bytes_eq other.hash hash ≡ true → is_lt (order other row) ≡ false
least order rows hash row other later first has same = by_side (cases_lt has.0 first.at)
  where
    there : get_or rows has.0 row ≡ other
    there = get_or_default rows has.0 row other has.1 ∙ has.2

    by_side : (has.0 < first.at) ⊎ (first.at ≤ has.0) → is_lt (order other row) ≡ false
    by_side (inl before) = absurd (true-false (bytes_eq other.hash hash) same (ap (λ (r : Row). bytes_eq r.hash hash) (sym has.2) ∙ first.none_before has.0 other before))
    by_side (inr after) =
        (λ i. is_lt (order (sym there i) (sym first.there i))) ∙ later first.at has.0 row after has.1

-- ---- Rows that were sorted

places-later : (rows : List Row) → AreInOrder rows → AreLater by_place rows
places-later [] up i j d most within = absurd (omega (arith, within))
places-later (row ∷ rows) up zero zero d most within = ap is_lt (tied_itself places-total row)
places-later (row ∷ rows) up zero (suc j) d most within =
    ap is_lt (places-total.antisymm (get_or rows j d) row)
    ∙ after-less (by_place row (get_or rows j d)) (All-after_first by_place row rows up j d (omega (arith, within)))
places-later (row ∷ rows) up (suc i) zero d most within = absurd (omega (arith, most))
places-later (row ∷ rows) up (suc i) (suc j) d most within =
    places-later rows (sorted_tail by_place row rows up) i j d (omega (arith, most)) (omega (arith, within))

hashes-later : (rows : List Row) → IsSorted by_hash rows → AreLater by_hash rows
hashes-later rows up i j d most within = sorted_far (λ (one other : Row). is_lt (by_hash one other)) hashes-ordered rows up i j d most within

-- rows in rising order of their hashes
pub hashes-rise : (rows : List Row) → IsSorted by_hash rows → IsSortedByKey (λ (row : Row). row.hash) (slice_cmp nat_cmp) rows
hashes-rise rows up k d low high = head-not _ _ (up k d low high)

pub sorted-first : (rows sorted : List Row) (hash : List ℕ) → IsPermutation rows sorted → IsSorted by_hash sorted → AreInOrder rows → first_row sorted hash ≡ first_row rows hash
sorted-first rows sorted hash same up order = by_found (first_row sorted hash) refl (first_row rows hash) refl
  where
    apart : (row : Row) (them : List Row) → first_row them hash ≡ None → Contains them row → bytes_eq row.hash hash ≡ true → ⊥
    apart row them none has is =
        true-false (bytes_eq row.hash hash) is (ap (λ (r : Row). bytes_eq r.hash hash) (sym has.2) ∙ none-is them hash none has.0 row has.1)

    of-hash : (row : Row) → bytes_eq row.hash hash ≡ true → row.hash ≡ hash
    of-hash row is = (bytes_eq-Decides row.hash hash).0 is

    by_found : (o : Option Row) → first_row sorted hash ≡ o → (p : Option Row) → first_row rows hash ≡ p → o ≡ p
    by_found None none None other = refl
    by_found None none (Some row) some =
        let first = first-is rows hash row some in
        absurd (apart row sorted none (Contains-permutation rows sorted row same (first.at, first.within, first.there)) first.has)
    by_found (Some row) some None none =
        let first = first-is sorted hash row some in
        absurd (apart row rows none (Contains-permutation sorted rows row (IsPermutation-sym rows sorted same) (first.at, first.within, first.there)) first.has)
    by_found (Some one) found (Some other) some =
        let here = first-is sorted hash one found in
        let there = first-is rows hash other some in
        let hashes : one.hash ≡ other.hash = of-hash one here.has ∙ sym (of-hash other there.has) in
        let after : is_lt (by_place one other) ≡ false =
        least by_place rows hash other one (places-later rows order) there (Contains-permutation sorted rows one (IsPermutation-sym rows sorted same) (here.at, here.within, here.there)) here.has in
        let before : is_lt (by_hash other one) ≡ false =
        least by_hash sorted hash one other (hashes-later sorted up) here (Contains-permutation rows sorted other same (there.at, there.within, there.there)) there.has in
        ap (λ (r : Row). Some r) (same-row one other hashes after (by-hash-there other one (sym hashes) before))

-- ---- Rows that are sorted

-- how the hash of a row stands to another
abbrev pub standing : List ℕ → Row → ℕ
standing hash row = ordering_index (slice_cmp nat_cmp row.hash hash)

pub rising : (rows : List Row) (hash : List ℕ) → IsSortedByKey (λ (row : Row). row.hash) (slice_cmp nat_cmp) rows → IsNonDecreasingBy (standing hash) rows
rising rows hash sorted = searchable_from_sorted nat_list_cmp_total (λ (row : Row). row.hash) rows hash sorted

less-is : (o : Ordering) → is_lt o ≡ true → (ordering_index o ≡ 0) × (is_eq o ≡ false)
less-is Less is = (refl, refl)
less-is Equal is = absurd (cc is)
less-is Greater is = absurd (cc is)

is-less : (o : Ordering) → ordering_index o ≡ 0 → is_lt o ≡ true
is-less Less is = refl
is-less Equal is = absurd (omega (arith, is))
is-less Greater is = absurd (omega (arith, is))

is-greater : (o : Ordering) → is_lt o ≡ false → is_eq o ≡ false → ordering_index o ≡ 2
is-greater Less less equal = absurd (cc less)
is-greater Equal less equal = absurd (cc equal)
is-greater Greater less equal = refl

no-equal : (o : Ordering) → 2 ≤ ordering_index o → is_eq o ≡ false
no-equal Less above = absurd (omega (arith, above))
no-equal Equal above = absurd (omega (arith, above))
no-equal Greater above = refl

-- no row whose hash is before it comes after one whose hash is not
pub parted : (rows : List Row) (hash : List ℕ) → IsNonDecreasingBy (standing hash) rows → IsPartitionedBy (is_before hash) rows
parted rows hash rises i j d up within is =
    let low = (less-is (slice_cmp nat_cmp (get_or rows j d).hash hash) is).0 in
    let at_most = rises i j d up within in
    is-less (slice_cmp nat_cmp (get_or rows i d).hash hash) (omega (arith, low, at_most))

-- the first with it, where none before has it
first-at : (rows : List Row) (hash : List ℕ) (at : ℕ) (d : Row) → at < length rows → ((k : ℕ) → k < at → bytes_eq (get_or rows k d).hash hash ≡ false)
    → bytes_eq (get_or rows at d).hash hash ≡ true → first_row rows hash ≡ Some (get_or rows at d)
first-at [] hash at d below none is = absurd (omega (arith, below))
first-at (row ∷ rows) hash zero d below none is = rw is refl
first-at (row ∷ rows) hash (suc at) d below none is =
    rw (none 0 (omega arith)) (first-at rows hash at d (omega (arith, below)) (λ k less. none (suc k) (omega (arith, less))) is)

first-none : (rows : List Row) (hash : List ℕ) (d : Row) → ((k : ℕ) → k < length rows → bytes_eq (get_or rows k d).hash hash ≡ false) → first_row rows hash ≡ None
first-none [] hash d none = refl
first-none (row ∷ rows) hash d none = rw (none 0 (omega arith)) (first-none rows hash d (λ k less. none (suc k) (omega (arith, less))))

module _ (rows : List Row) (hash : List ℕ) (at : ℕ) (rises : IsNonDecreasingBy (standing hash) rows)
    (point : IsPartitionPoint (λ (row : Row). is_before hash row ≡ true) (λ (row : Row). is_before hash row ≡ false) rows at) where
  below-apart : (k : ℕ) (d : Row) → k < at → bytes_eq (get_or rows k d).hash hash ≡ false
  below-apart k d less =
      texts_ties (get_or rows k d).hash hash ∙ (less-is (slice_cmp nat_cmp (get_or rows k d).hash hash) (point.0 k d (omega arith) less)).1

  -- all are before it
  pub none-past : (d : Row) → length rows ≤ at → None ≡ first_row rows hash
  none-past d past = sym (first-none rows hash d (λ k less. below-apart k d (omega (arith, less, past))))

  -- the row there has it
  pub some-there : (row : Row) → at < length rows → row ≡ get_or rows at row → bytes_eq row.hash hash ≡ true → Some row ≡ first_row rows hash
  some-there row within is same =
      ap (λ (r : Row). Some r) is
      ∙ sym (first-at rows hash at row within (λ k less. below-apart k row less) (subst (λ (r : Row). bytes_eq r.hash hash ≡ true) is same))

  -- or none has it
  pub none-there : (row : Row) → at < length rows → row ≡ get_or rows at row → bytes_eq row.hash hash ≡ false → None ≡ first_row rows hash
  none-there row within is other = sym (first-none rows hash row (λ k less. by_side k less (cases_lt k at)))
    where
      here : ordering_index (slice_cmp nat_cmp (get_or rows at row).hash hash) ≡ 2
      here = is-greater (slice_cmp nat_cmp (get_or rows at row).hash hash) (point.1 at row (omega arith) within)
          (sym (texts_ties (get_or rows at row).hash hash) ∙ subst (λ (r : Row). bytes_eq r.hash hash ≡ false) is other)

      by_side : (k : ℕ) → k < length rows → (k < at) ⊎ (at ≤ k) → bytes_eq (get_or rows k row).hash hash ≡ false
      by_side k less (inl before) = below-apart k row before
      by_side k less (inr after) =
          texts_ties (get_or rows k row).hash hash
          ∙ no-equal (slice_cmp nat_cmp (get_or rows k row).hash hash) (omega (arith, here, rises at k row after less))
