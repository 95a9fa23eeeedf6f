-- What was given of an input that is read whole, at each exit.
use Rattle.std.proofs.Common.{◌≡◌, ◌⊎◌, inl, inr, ℕ, ◌+◌, ◌≤◌, ◌<◌, true, false, List, [], ◌∷◌, ◌++◌, length, map, get_or, drop, sum, slice_get, Vec, Global, refl, ap, sym, ◌∙◌, subst, arith, append-nil, append_assoc, length-append}
use Rattle.std.specs.Prelude.{Option, Some, None, Ok, nat_lt, if◌then◌else◌}
use Rattle.std.specs.List.{concat}
use Rattle.std.specs.Io.KnownBytes.{IsAtEnd}
use Rattle.std.proofs.lemmas.Bool.Decides.{nat_tests, leb_tells}
use Rattle.std.proofs.Output.{concat-append}
use Rattle.std.proofs.lemmas.List.{length-map}
use Rattle.std.proofs.lemmas.List.Sums.{sum_by-drop_more}
use Rattle.std.proofs.lemmas.Option.{slice_get-get_or, slice_get_past}
use Rattle.outside.specs.Streams.{Gives}
use Rattle.outside.proofs.Streams.{gives_more}
use Rattle.report_defs.specs.declared.end.End.{End}
use Rattle.report_defs.specs.declared.end.End.TheVariants.{AtEnd, Cut, BadSize, Extra}
use Rattle.report_defs.specs.Items.{Split, IsItem, IsTaken, AreItems, split_of, end_offset, whole_limits, end_of_needed, end_after, end_of_whole, ReadsNoFurther}
use Rattle.report_defs.proofs.ItemLemmas.{split_of-is, all_items-append}
use Rattle.run_text.specs.Items.{IsPartial, IsItemAt, EndsAt}
use Rattle.run_text.specs.Whole.{IsWhole, EndsEarly, IsReadWhole, whole_at}
use Rattle.run_text.proofs.Reading.{ends_at_byte}
use Rattle.run_text.proofs.FurtherLemmas.{items_no_further, partial_no_further, stopped_no_further, byte_no_further}

-- ---- The items that were read

-- The source gave these items, one for each of the first limits.
pub record HasReadItems (limits : List ℕ) (left_old left_new : Option (List ℕ)) (items : List (List ℕ)) (offset : ℕ) : Type 0 where
  pub gives : Gives left_old left_new (concat items)
  pub all : AreItems (whole_limits limits) 0 items
  pub place : offset ≡ length (concat items)

concat_push : (items : List (List ℕ)) (item : List ℕ) → concat (items ++ item ∷ []) ≡ concat items ++ item
concat_push items item = concat-append items (item ∷ []) ∙ ap (λ bs. concat items ++ bs) (append-nil item)

pub count_of : (vectors : List (Vec ℕ Global)) (i : ℕ) → length vectors ≡ i → length (map (λ (v : Vec ℕ Global). v.items) vectors) ≡ i
count_of vectors i count = length-map vectors (λ (v : Vec ℕ Global). v.items) ∙ count

-- the limit of the next item
pub next_limit : (limits : List ℕ) (vectors : List (Vec ℕ Global)) (i : ℕ) → length vectors ≡ i → i < length limits
    → slice_get limits (length (map (λ (v : Vec ℕ Global). v.items) vectors)) ≡ Some (get_or limits i 0)
next_limit limits vectors i count more = ap (slice_get limits) (count_of vectors i count) ∙ slice_get-get_or limits i 0 more

-- none is taken after the last
pub last_limit : (limits : List ℕ) (items : List (List ℕ)) → length items ≡ length limits → slice_get limits (length items) ≡ None
last_limit limits items count = slice_get_past limits (length items) (omega (arith, count))

all_push : (limits : List ℕ) (items : List (List ℕ)) (item : List ℕ) (limit : ℕ) → AreItems (whole_limits limits) 0 items
    → slice_get limits (length items) ≡ Some limit → IsItem limit item → AreItems (whole_limits limits) 0 (items ++ item ∷ [])
all_push limits items item limit all limit_is is =
    let zero : 0 + length items ≡ length items = omega arith in
    let here : slice_get limits (0 + length items) ≡ Some limit = ap (slice_get limits) zero ∙ limit_is in
    all_items-append (whole_limits limits) 0 items (item ∷ []) all (subst (λ (l : Option ℕ). IsTaken l item) (sym here) is, tt)

-- one item more
pub has_read_more : (limits : List ℕ) (left_old left left_new : Option (List ℕ)) (items : List (List ℕ)) (item given : List ℕ) (offset limit : ℕ)
    → HasReadItems limits left_old left items offset → slice_get limits (length items) ≡ Some limit → IsItemAt limit None offset item given → Gives left left_new given
    → HasReadItems limits left_old left_new (items ++ item ∷ []) (offset + length item)
has_read_more limits left_old left left_new items item given offset limit read limit_is at gives = record {
  gives = subst (Gives left_old left_new) (sym (concat_push items item))
      (gives_more left_old left left_new (concat items) item read.gives (subst (Gives left left_new) at.same gives));
  all = all_push limits items item limit read.all limit_is at.is_item;
  place = ap (λ n. n + length item) read.place ∙ sym (length-append (concat items) item) ∙ sym (ap length (concat_push items item));
}

-- the limits that are left
pub offset_fits : (limits : List ℕ) (i offset size : ℕ) → i < length limits → offset + sum (drop i limits) ≤ sum limits → size ≤ get_or limits i 0
    → offset + size + sum (drop (i + 1) limits) ≤ sum limits
offset_fits limits i offset size more fits least = omega (arith, fits, least, sum_by-drop_more (λ (n : ℕ). n) limits i 0 more)

-- ---- How many they are

-- no more than there are limits
pub few_items : (limits : List ℕ) (place : ℕ) (items : List (List ℕ)) → AreItems (whole_limits limits) place items → place ≤ length limits
    → place + length items ≤ length limits
few_items limits place [] all few = omega (arith, few)
few_items limits place (item ∷ items) all few = elim (leb_tells (place + 1) (length limits)) [
  | inl there ↦ omega (arith, few_items limits (place + 1) items all.1 there.1)
  | inr none ↦ absurd (subst (λ (l : Option ℕ). IsTaken l item) (slice_get_past limits place (omega (arith, none.1))) all.0)
]

-- ---- How the reading ended

needed_early : (end : End) → end_of_needed end ≡ AtEnd → ⊥
needed_early AtEnd e = cc
needed_early Cut e = cc
needed_early BadSize e = cc
needed_early Extra e = cc

-- it is at the end only after all that is needed
after_at_end : (needed count : ℕ) (end : End) → end_after needed count end ≡ AtEnd → (needed ≤ count) × (end ≡ AtEnd)
after_at_end needed count end is = elim (leb_tells needed count) [
  | inl enough ↦
      let test : nat_lt count needed ≡ false = grind (arith, nat_tests) in
      (enough.1, rw test at is)
  | inr few ↦
      let test : nat_lt count needed ≡ true = grind (arith, nat_tests) in
      absurd (needed_early end (rw test at is))
]

module _ (limits : List ℕ) (items : List (List ℕ)) (all : AreItems (whole_limits limits) 0 items) where
  -- the split of all of the input
  split_there : (limit : Option ℕ) (left : Option (List ℕ)) (end : End) (offset : ℕ) (given whole more : List ℕ)
      → whole ≡ concat items ++ given → slice_get limits (length items) ≡ limit → offset ≡ length (concat items)
      → EndsAt limit None offset left end given → left ≡ Some more
      → split_of (whole_limits limits) (whole ++ more) ≡ record { items = items; rest = given ++ more; end = end }
  split_there limit left end offset given whole more whole_is limit_is offset_is ends_here is =
      split_of-is (whole_limits limits) (whole ++ more) (record { items = items; rest = given ++ more; end = end }) (record {
        whole = ap (λ bs. bs ++ more) whole_is ∙ append_assoc (concat items) given more;
        items = all;
        within = tt;
        ends = here.ends more is;
      })
    where
      here : EndsAt (slice_get limits (length items)) None (length (concat items)) left end given
      here = subst (λ l. EndsAt l None (length (concat items)) left end given) (sym limit_is) (subst (λ n. EndsAt limit None n left end given) offset_is ends_here)

  -- where the reading ended otherwise than after all that is needed
  ended_early : (needed limit : ℕ) (left : Option (List ℕ)) (end : End) (offset : ℕ) (given whole : List ℕ)
      → whole ≡ concat items ++ given → slice_get limits (length items) ≡ Some limit → offset ≡ length (concat items)
      → EndsAt (Some limit) None offset left end given → IsPartial limit None offset given
      → (end_after needed (length items) end ≡ AtEnd → ⊥) → EndsEarly limits needed left (end_after needed (length items) end) offset whole
  ended_early needed limit left end offset given whole whole_is limit_is offset_is ends_here partial early = record {
    early = early;
    ends = λ more is. ap (λ (s : Split). end_of_whole needed s) (split more is);
    there = λ more is. ap (λ (s : Split). end_offset s) (split more is) ∙ sym offset_is;
    enough = omega (arith, ap length whole_is, length-append (concat items) given, offset_is);
    no_further = partial_no_further (whole_limits limits) items all tt limit offset given whole whole_is limit_is offset_is partial;
  }
    where
      split : (more : List ℕ) → left ≡ Some more → split_of (whole_limits limits) (whole ++ more) ≡ record { items = items; rest = given ++ more; end = end }
      split more is = split_there (Some limit) left end offset given whole more whole_is limit_is offset_is ends_here is

  -- after all that is needed
  ended_whole : (needed limit : ℕ) (left : Option (List ℕ)) (end : End) (offset : ℕ) (given whole : List ℕ)
      → whole ≡ concat items ++ given → EndsAt (Some limit) None offset left end given
      → end_after needed (length items) end ≡ AtEnd → IsWhole limits needed left items whole
  ended_whole needed limit left end offset given whole whole_is ends_here is =
      let there = after_at_end needed (length items) end is in
      record {
        same = whole_is ∙ ap (λ bs. concat items ++ bs) (ends_here.nothing there.1) ∙ append-nil (concat items);
        all = all;
        count = there.0;
        to_end = ends_here.to_end there.1;
      }

  -- by how it ended
  answer_at : (needed limit : ℕ) (left : Option (List ℕ)) (vectors : Vec (Vec ℕ Global) Global) (end told : End) (offset : ℕ) (given whole : List ℕ)
      → items ≡ map (λ (v : Vec ℕ Global). v.items) vectors.items
      → whole ≡ concat items ++ given → slice_get limits (length items) ≡ Some limit → offset ≡ length (concat items)
      → EndsAt (Some limit) None offset left end given → IsPartial limit None offset given
      → end_after needed (length items) end ≡ told → IsReadWhole limits needed left (Ok (whole_at vectors offset told)) whole
  answer_at needed limit left vectors end AtEnd offset given whole items_are whole_is limit_is offset_is ends_here partial is =
      subst (λ (them : List (List ℕ)). IsWhole limits needed left them whole) items_are (ended_whole needed limit left end offset given whole whole_is ends_here is)
  answer_at needed limit left vectors end Cut offset given whole items_are whole_is limit_is offset_is ends_here partial is =
      subst (λ (e : End). EndsEarly limits needed left e offset whole) is
      (ended_early needed limit left end offset given whole whole_is limit_is offset_is ends_here partial (λ at. absurd (cc)))
  answer_at needed limit left vectors end BadSize offset given whole items_are whole_is limit_is offset_is ends_here partial is =
      subst (λ (e : End). EndsEarly limits needed left e offset whole) is
      (ended_early needed limit left end offset given whole whole_is limit_is offset_is ends_here partial (λ at. absurd (cc)))
  answer_at needed limit left vectors end Extra offset given whole items_are whole_is limit_is offset_is ends_here partial is =
      subst (λ (e : End). EndsEarly limits needed left e offset whole) is
      (ended_early needed limit left end offset given whole whole_is limit_is offset_is ends_here partial (λ at. absurd (cc)))

  -- before an item that may be there
  pub read_at : (needed limit count : ℕ) (left : Option (List ℕ)) (vectors : Vec (Vec ℕ Global) Global) (end : End) (offset : ℕ) (given whole : List ℕ)
      → items ≡ map (λ (v : Vec ℕ Global). v.items) vectors.items → count ≡ length vectors.items
      → whole ≡ concat items ++ given → slice_get limits (length items) ≡ Some limit → offset ≡ length (concat items)
      → EndsAt (Some limit) None offset left end given → IsPartial limit None offset given
      → IsReadWhole limits needed left (Ok (whole_at vectors offset (end_after needed count end))) whole
  read_at needed limit count left vectors end offset given whole items_are count_is whole_is limit_is offset_is ends_here partial =
      answer_at needed limit left vectors end (end_after needed count end) offset given whole items_are whole_is limit_is offset_is ends_here partial
      (ap (λ (n : ℕ). end_after needed n end) (ap length items_are ∙ count_of vectors.items count (sym count_is)))

  -- after the last
  pub ends_behind : (needed : ℕ) (left : Option (List ℕ)) (offset : ℕ) (given whole : List ℕ)
      → whole ≡ concat items ++ given → needed ≤ length limits → length items ≡ length limits → offset ≡ length (concat items)
      → length given ≡ 1 → EndsEarly limits needed left Extra offset whole
  ends_behind needed left offset given whole whole_is enough count offset_is one = record {
    early = λ e. cc;
    ends = λ more is.
        let test : nat_lt (length items) needed ≡ false = grind (arith, nat_tests) in
        ap (λ (s : Split). end_of_whole needed s) (split more is) ∙ rw test refl;
    there = λ more is. ap (λ (s : Split). end_offset s) (split more is) ∙ sym offset_is;
    enough = omega (arith, ap length whole_is, length-append (concat items) given, offset_is);
    no_further = byte_no_further (whole_limits limits) items all tt given whole whole_is (last_limit limits items count) one;
  }
    where
      split : (more : List ℕ) → left ≡ Some more → split_of (whole_limits limits) (whole ++ more) ≡ record { items = items; rest = given ++ more; end = Extra }
      split more is = split_there None left Extra offset given whole more whole_is (last_limit limits items count) offset_is (ends_at_byte offset given left one) is

  -- the reading was stopped at an item that is needed
  pub stopped_before : (limit offset : ℕ) (given whole : List ℕ) → whole ≡ concat items ++ given → slice_get limits (length items) ≡ Some limit
      → offset ≡ length (concat items) → IsPartial limit None offset given ⊎ IsItemAt limit None offset given given → ReadsNoFurther (whole_limits limits) whole
  stopped_before limit offset given whole whole_is limit_is offset_is stopped =
      stopped_no_further (whole_limits limits) items all tt limit offset given whole whole_is limit_is offset_is
      (λ is. items_no_further (whole_limits limits) (items ++ given ∷ []) (all_push limits items given limit all limit_is is) tt whole
      (whole_is ∙ sym (concat_push items given))) stopped
