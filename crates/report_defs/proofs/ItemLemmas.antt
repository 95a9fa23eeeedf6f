-- Each input has one split, and `split_of` gives it.
use Rattle.std.proofs.Common.{◌≡◌, ℕ, zero, suc, ◌+◌, ◌≤◌, ◌<◌, Bool, true, false, cond, List, [], ◌∷◌, ◌++◌, length, take, drop, refl, ap, sym, ◌∙◌, arith, append_assoc, length-append, add-zero, zero-add, subst, length-drop, take-append-drop, length-take-le, take-take, ◌⊎◌, inl, inr}
use Rattle.std.specs.Prelude.{◌==◌, Option, Some, None}
use Rattle.std.specs.List.{concat}
use Rattle.std.proofs.lemmas.List.{take-append-le}
use Rattle.std.proofs.lemmas.List.Folds.{concat-append}
use Rattle.std.proofs.lemmas.Bool.Decides.{nat_tests}
use Rattle.std.proofs.lemmas.Grind.{common_steps}
use Rattle.report_defs.specs.Items.{Limits, IsItem, IsTaken, AreItems, IsWithin, size_word, end_at, Split, IsSplit, SplitsAreOne, split_of, split_from, with_first_item}
use Rattle.report_defs.specs.declared.end.End.{End}
use Rattle.report_defs.specs.declared.end.End.TheVariants.{AtEnd, Cut, BadSize, Extra}

-- the size word stands in the first four bytes
pub size_word-append : (xs ys : List ℕ) → 4 ≤ length xs → size_word (xs ++ ys) ≡ size_word xs
unfolding size_word
size_word-append xs ys long = rw take-append-le refl

-- a whole item stands where one begins
end_at-item : (limit : ℕ) (input : Option ℕ) (offset : ℕ) (item more : List ℕ) → IsItem limit item
    → IsWithin input (offset + length item) → end_at (Some limit) input offset (item ++ more) ≡ None
unfolding end_at
end_at-item limit None offset item more is_item fits =
    let word : size_word (item ++ more) ≡ length item = size_word-append item more is_item.least ∙ is_item.size in
    rw (word, length-append) (grind (arith, nat_tests))
end_at-item limit (Some most) offset item more is_item fits =
    let word : size_word (item ++ more) ≡ length item = size_word-append item more is_item.least ∙ is_item.size in
    rw (word, length-append) (grind (arith, nat_tests))

pub end_at-taken : (limit input : Option ℕ) (offset : ℕ) (item more : List ℕ) → IsTaken limit item
    → IsWithin input (offset + length item) → end_at limit input offset (item ++ more) ≡ None
end_at-taken None input offset item more taken fits = absurd taken
end_at-taken (Some limit) input offset item more taken fits = end_at-item limit input offset item more taken fits

taken_size : (limit : Option ℕ) (item : List ℕ) → IsTaken limit item → (size_word item ≡ length item) × (4 ≤ length item)
taken_size None item taken = absurd taken
taken_size (Some limit) item taken = (taken.size, taken.least)

-- an offset within the limit has its earlier ones within it
within_less : (input : Option ℕ) (less more : ℕ) → less ≤ more → IsWithin input more → IsWithin input less
within_less None less more le within = tt
within_less (Some limit) less more le within = omega (arith, le, within)

-- where the reading ends, the split is the rest alone
pub split_from-end : (n : ℕ) (limits : Limits) (place offset : ℕ) (bytes : List ℕ) (end : End) → end_at (limits.item place) limits.input offset bytes ≡ Some end
    → split_from (suc n) limits place offset bytes ≡ record { items = []; rest = bytes; end = end }
split_from-end n limits place offset bytes end ends = rw (ends, split_from) refl

-- where an item stands, the split is that of what follows with the item before it
pub split_from-item : (n : ℕ) (limits : Limits) (place offset : ℕ) (item more : List ℕ) → IsTaken (limits.item place) item
    → IsWithin limits.input (offset + length item)
    → split_from (suc n) limits place offset (item ++ more) ≡ with_first_item item (split_from n limits (place + 1) (offset + length item) more)
split_from-item n limits place offset item more taken fits =
    let sized = taken_size (limits.item place) item taken in
    let word : size_word (item ++ more) ≡ length item = size_word-append item more sized.1 ∙ sized.0 in
    let front : take (length item) (item ++ more) ≡ item = grind (arith, common_steps) in
    let back : drop (length item) (item ++ more) ≡ more = grind (arith, common_steps) in
    rw (end_at-taken (limits.item place) limits.input offset item more taken fits, split_from) (rw (word, front, back) refl)

pub split_from-is : (n : ℕ) (limits : Limits) (place offset : ℕ) (items : List (List ℕ)) (rest : List ℕ) (end : End)
    → AreItems limits place items → IsWithin limits.input (offset + length (concat items))
    → end_at (limits.item (place + length items)) limits.input (offset + length (concat items)) rest ≡ Some end → length (concat items) < n
    → split_from n limits place offset (concat items ++ rest) ≡ record { items = items; rest = rest; end = end }
split_from-is zero limits place offset items rest end all fits ends enough = absurd (omega arith)
split_from-is (suc n) limits place offset [] rest end all fits ends enough =
    split_from-end n limits place offset rest end (rw (add-zero, add-zero) at ends)
split_from-is (suc n) limits place offset (item ∷ items) rest end all fits ends enough =
    let long : length (item ++ concat items) ≡ length item + length (concat items) = length-append item (concat items) in
    let sized = taken_size (limits.item place) item all.0 in
    let least : 4 ≤ length item = sized.1 in
    let there : offset + length (item ++ concat items) ≡ (offset + length item) + length (concat items) = omega (arith, long) in
    let count : place + length (item ∷ items) ≡ (place + 1) + length items = omega arith in
    let first : IsWithin limits.input (offset + length item) = within_less limits.input (offset + length item) (offset + length (item ++ concat items)) (omega (arith, long)) fits in
    rw append_assoc
    (split_from-item n limits place offset item (concat items ++ rest) all.0 first
    ∙ ap (with_first_item item) (split_from-is n limits (place + 1) (offset + length item) items rest end all.1 (rw there at fits) (rw (count, there) at ends) (omega (arith, long, enough, least))))

-- `split_of` gives each split of an input
pub split_of-is : (limits : Limits) (input : List ℕ) (split : Split) → IsSplit limits input split → split_of limits input ≡ split
unfolding split_of
split_of-is limits input split is =
    let enough : length (concat split.items) < suc (length input) = rw (is.whole, length-append) (omega arith) in
    ap (split_from (suc (length input)) limits 0 0) is.whole
    ∙ split_from-is (suc (length input)) limits 0 0 split.items split.rest split.end is.items (rw zero-add is.within) (rw (zero-add, zero-add) is.ends) enough

-- ---- How the reading ends

pub end_at-nothing : (limit input : Option ℕ) (offset : ℕ) → end_at limit input offset [] ≡ Some AtEnd
unfolding end_at
end_at-nothing None input offset = refl
end_at-nothing (Some limit) input offset = refl

-- a few bytes
pub end_at-few : (limit : ℕ) (input : Option ℕ) (offset : ℕ) (bytes : List ℕ) → 0 < length bytes → length bytes < 4
    → end_at (Some limit) input offset bytes ≡ Some Cut
unfolding end_at
end_at-few limit input offset bytes some few = grind (arith, nat_tests)

pub end_at-bad_size : (limit : ℕ) (input : Option ℕ) (offset : ℕ) (bytes : List ℕ) → 4 ≤ length bytes
    → (size_word bytes < 4) ⊎ (limit < size_word bytes) → end_at (Some limit) input offset bytes ≡ Some BadSize
unfolding end_at
end_at-bad_size limit input offset bytes long (inl small) = grind (arith, nat_tests)
end_at-bad_size limit input offset bytes long (inr large) = grind (arith, nat_tests)

pub end_at-extra : (limit most offset : ℕ) (bytes : List ℕ) → 4 ≤ length bytes
    → 4 ≤ size_word bytes → size_word bytes ≤ limit → most < offset + size_word bytes
    → end_at (Some limit) (Some most) offset bytes ≡ Some Extra
unfolding end_at
end_at-extra limit most offset bytes long least small past = grind (arith, nat_tests)

-- what stands where the reading does not end
record IsWhole (limit : ℕ) (input : Option ℕ) (offset : ℕ) (bytes : List ℕ) : Type 0 where
  pub least : 4 ≤ size_word bytes
  pub most : size_word bytes ≤ limit
  pub within : IsWithin input (offset + size_word bytes)
  pub there : size_word bytes ≤ length bytes

whole_at : (limit : ℕ) (input : Option ℕ) (offset : ℕ) (bytes : List ℕ) → end_at (Some limit) input offset bytes ≡ None → IsWhole limit input offset bytes
unfolding end_at
whole_at limit None offset bytes goes_on = record {
  least = grind (arith, nat_tests);
  most = grind (arith, nat_tests);
  within = tt;
  there = grind (arith, nat_tests);
}
whole_at limit (Some bound) offset bytes goes_on = record {
  least = grind (arith, nat_tests);
  most = grind (arith, nat_tests);
  within = grind (arith, nat_tests);
  there = grind (arith, nat_tests);
}

-- where no item is taken the reading ends
always_ends : (input : Option ℕ) (offset : ℕ) (bytes : List ℕ) → end_at None input offset bytes ≡ None → ⊥
unfolding end_at
always_ends input offset bytes goes_on = by_test (length bytes == 0) goes_on
  where
    by_test : (nothing : Bool) → cond nothing (Some AtEnd) (Some Extra) ≡ None → ⊥
    by_test true e = cc
    by_test false e = cc

size_word-take : (n : ℕ) (bytes : List ℕ) → 4 ≤ n → size_word (take n bytes) ≡ size_word bytes
unfolding size_word
size_word-take n bytes long = rw (take-take 4 n bytes long) refl

-- where the reading goes on an item is taken
record TakesItem (limit input : Option ℕ) (offset : ℕ) (bytes : List ℕ) : Type 0 where
  pub taken : IsTaken limit (take (size_word bytes) bytes)
  pub within : IsWithin input (offset + size_word bytes)
  pub least : 4 ≤ size_word bytes
  pub there : size_word bytes ≤ length bytes

takes_item : (limit input : Option ℕ) (offset : ℕ) (bytes : List ℕ) → end_at limit input offset bytes ≡ None → TakesItem limit input offset bytes
takes_item None input offset bytes goes_on = absurd (always_ends input offset bytes goes_on)
takes_item (Some limit) input offset bytes goes_on =
    let whole = whole_at limit input offset bytes goes_on in
    let long : length (take (size_word bytes) bytes) ≡ size_word bytes = length-take-le (size_word bytes) bytes whole.there in
    record {
      taken = record {
        size = size_word-take (size_word bytes) bytes whole.least ∙ sym long;
        least = rw long whole.least;
        most = rw long whole.most;
      };
      within = whole.within;
      least = whole.least;
      there = whole.there;
    }

-- from a place and an offset on, bytes are the items of their split and its rest
pub record Splits (limits : Limits) (place offset : ℕ) (bytes : List ℕ) (split : Split) : Type 0 where
  pub whole : bytes ≡ concat split.items ++ split.rest
  pub items : AreItems limits place split.items
  pub within : IsWithin limits.input (offset + length (concat split.items))
  pub ends : end_at (limits.item (place + length split.items)) limits.input (offset + length (concat split.items)) split.rest ≡ Some split.end

splits_front : (limits : Limits) (place offset : ℕ) (item bytes : List ℕ) (split : Split) → IsTaken (limits.item place) item
    → Splits limits (place + 1) (offset + length item) bytes split → Splits limits place offset (item ++ bytes) (with_first_item item split)
splits_front limits place offset item bytes split taken after =
    let long : length (item ++ concat split.items) ≡ length item + length (concat split.items) = length-append item (concat split.items) in
    let there : offset + length (item ++ concat split.items) ≡ (offset + length item) + length (concat split.items) = omega (arith, long) in
    let count : place + length (item ∷ split.items) ≡ (place + 1) + length split.items = omega arith in
    record {
      whole = ap (λ xs. item ++ xs) after.whole ∙ sym (append_assoc item (concat split.items) split.rest);
      items = (taken, after.items);
      within = rw there after.within;
      ends = rw (count, there) after.ends;
    }

pub split_from-splits : (n : ℕ) (limits : Limits) (place offset : ℕ) (bytes : List ℕ) → length bytes < n → IsWithin limits.input offset
    → Splits limits place offset bytes (split_from n limits place offset bytes)
split_from-splits zero limits place offset bytes enough fits = absurd (omega arith)
split_from-splits (suc n) limits place offset bytes enough fits =
    split_step (λ place offset bytes. split_from-splits n limits place offset bytes) (end_at (limits.item place) limits.input offset bytes) refl
  where
    split_step : ((place offset : ℕ) (bytes : List ℕ) → length bytes < n → IsWithin limits.input offset → Splits limits place offset bytes (split_from n limits place offset bytes))
        → (found : Option End) → end_at (limits.item place) limits.input offset bytes ≡ found → Splits limits place offset bytes (split_from (suc n) limits place offset bytes)
    split_step after_splits (Some end) ends =
        rw (split_from-end n limits place offset bytes end ends) (record {
          whole = refl;
          items = tt;
          within = rw add-zero fits;
          ends = rw (add-zero, add-zero) ends;
        })
    split_step after_splits None ends =
        let whole = takes_item (limits.item place) limits.input offset bytes ends in
        let size = size_word bytes in
        let item = take size bytes in
        let more = drop size bytes in
        let long : length item ≡ size = length-take-le size bytes whole.there in
        let left : length more < n = omega (arith, length-drop size bytes, whole.least, enough, whole.there) in
        let joined : item ++ more ≡ bytes = take-append-drop size bytes in
        let after = after_splits (place + 1) (offset + length item) more left (rw long whole.within) in
        subst (λ bs. Splits limits place offset bs (split_from (suc n) limits place offset bs)) joined
        (rw (split_from-item n limits place offset item more whole.taken (rw long whole.within))
        (splits_front limits place offset item more (split_from n limits (place + 1) (offset + length item) more) whole.taken after))

within_at_start : (input : Option ℕ) → IsWithin input 0
within_at_start None = tt
within_at_start (Some limit) = omega arith

-- `split_of` gives a split of every input
pub split_of-splits : (limits : Limits) (input : List ℕ) → IsSplit limits input (split_of limits input)
unfolding split_of
split_of-splits limits input =
    let splits = split_from-splits (suc (length input)) limits 0 0 input (omega arith) (within_at_start limits.input) in
    record {
      whole = splits.whole;
      items = splits.items;
      within = rw zero-add at splits.within;
      ends = rw (zero-add, zero-add) at splits.ends;
    }

pub splits-are-one : SplitsAreOne
splits-are-one limits input split = (
  λ is. subst (λ (s : Split). IsSplit limits input s) is (split_of-splits limits input),
  λ is. split_of-is limits input split is,
)

pub all_items-append : (limits : Limits) (place : ℕ) (xs ys : List (List ℕ)) → AreItems limits place xs → AreItems limits (place + length xs) ys
    → AreItems limits place (xs ++ ys)
all_items-append limits place [] ys all more = rw add-zero at more
all_items-append limits place (x ∷ xs) ys all more =
    let count : place + length (x ∷ xs) ≡ (place + 1) + length xs = omega arith in
    (all.0, all_items-append limits (place + 1) xs ys all.1 (rw count at more))

-- items, and then what the rest is cut into from their end on
pub split_of-append : (limits : Limits) (items : List (List ℕ)) (tail : List ℕ) → AreItems limits 0 items
    → IsWithin limits.input (length (concat items))
    → (split : Split) × Splits limits (length items) (length (concat items)) tail split
    × (split_of limits (concat items ++ tail) ≡ record { items = items ++ split.items; rest = split.rest; end = split.end })
split_of-append limits items tail all fits =
    let split = split_from (suc (length tail)) limits (length items) (length (concat items)) tail in
    let after = split_from-splits (suc (length tail)) limits (length items) (length (concat items)) tail (omega arith) fits in
    let joined = concat-append items split.items in
    let there : length (concat (items ++ split.items)) ≡ length (concat items) + length (concat split.items) =
    ap length joined ∙ length-append (concat items) (concat split.items) in
    let count : length (items ++ split.items) ≡ length items + length split.items = length-append items split.items in (
      split,
      after,
      split_of-is limits (concat items ++ tail) (record { items = items ++ split.items; rest = split.rest; end = split.end }) (record {
        whole = ap (λ bs. concat items ++ bs) after.whole ∙ sym (append_assoc (concat items) (concat split.items) split.rest)
            ∙ ap (λ bs. bs ++ split.rest) (sym joined);
        items = all_items-append limits 0 items split.items all (rw zero-add after.items);
        within = rw there after.within;
        ends = rw (count, there) after.ends;
      }),
    )
