-- The pages that segments touch, in the table and in memory.
use Rattle.std.proofs.Common.{◌≡◌, ℕ, ltb, leb, ◌+◌, ◌-◌, ◌<◌, ◌≤◌, max, Bool, true, false, ◌&&◌, ◌||◌, List, [], ◌∷◌, ◌++◌, length, replicate, get_or, slice_range, Option, Some, None, if◌then◌else◌, refl, sym, ◌∙◌, ap, arith, inl, inr, ◌⊎◌}
use Rattle.std.specs.List.{list_any}
use Rattle.std.proofs.lemmas.Bool.{and_from, and_left, and_parts, and_right, cases_Bool, cases_lt, false_from_ne_true, false≢true, leb-true, ltb-true, or_cases, or_from, or_left, or_right}
use Rattle.std.proofs.lemmas.Bool.Decides.{nat_tests}
use Rattle.std.proofs.lemmas.List.{length-replicate, get_or-replicate}
use Rattle.std.proofs.lemmas.List.Folds.{Any-from_list_any, list_any-append, list_any_at}
use Rattle.machine_defs.specs.declared.memory.PageKind.{PageKind}
use Rattle.machine_defs.specs.declared.memory.PageKind.TheVariants.{Data, Code}
use Rattle.machine_defs.specs.Memory.{Memory, is_code, new_memory, overwritten, page_count}
use Rattle.machine_defs.specs.Elf.{Segment, can_run, clashes, first_page, kinds_with, last_page, page_span, share_a_page}
use Rattle.elf_load.specs.Judging.{Marks, is_closed, kind_after, kind_of, makes_code, touches}
use Rattle.elf_load.specs.Placing.{HasCode}
use Rattle.machine_defs.proofs.CodeLaws.{get_or-before, length-overwritten}
use Rattle.elf_load.proofs.Lists.{any-of_passes, any-weaker, filled-behind, filled-within, passes-of_any, same-tests}

-- ---- the pages of a segment

pub touches-parts : (page : ℕ) (s : Segment) → touches page s ≡ true → (0 < s.memory_size) × (first_page s ≤ page) × (page ≤ last_page s)
touches-parts page s h = grind (arith, nat_tests)

pub touches-from : (page : ℕ) (s : Segment) → 0 < s.memory_size → first_page s ≤ page → page ≤ last_page s → touches page s ≡ true
touches-from page s some low high = grind (arith, nat_tests)

pages-in_order : (s : Segment) → first_page s ≤ last_page s ⊎ (s.memory_size ≡ 0)
unfolding first_page last_page
pages-in_order s = elim (cases_lt 0 s.memory_size) [ inl some ↦ inl (omega arith) | inr none ↦ inr (omega (arith, none)) ]

span-none : (s : Segment) → s.memory_size ≡ 0 → page_span s ≡ 0
unfolding page_span
span-none s h = rw h refl

span-some : (s : Segment) → 0 < s.memory_size → page_span s ≡ last_page s - first_page s + 1
unfolding page_span
span-some s h = grind (arith, nat_tests)

pub touches-of_span : (page : ℕ) (s : Segment) → first_page s ≤ page → page < first_page s + page_span s → touches page s ≡ true
touches-of_span page s low high = elim (cases_lt 0 s.memory_size) [
  | inl some ↦ elim (pages-in_order s) [
    | inl order ↦ touches-from page s some low (omega (arith, order, high, low, span-some s some))
    | inr none ↦ absurd (omega (arith, some, none))
  ]
  | inr none ↦ absurd (omega (arith, low, high, span-none s (omega (arith, none))))
]

pub span-of_touches : (page : ℕ) (s : Segment) → touches page s ≡ true → (first_page s ≤ page) × (page < first_page s + page_span s)
span-of_touches page s h =
    let parts = touches-parts page s h in
    (parts.1, omega (arith, parts.1, parts.2, span-some s parts.0))

untouched : (page : ℕ) (s : Segment) → (page < first_page s) ⊎ (first_page s + page_span s ≤ page) → touches page s ≡ false
untouched page s out = false_from_ne_true (touches page s) (λ h.
    let within = span-of_touches page s h in
    elim out [ inl before ↦ omega (arith, before, within.0) | inr behind ↦ omega (arith, behind, within.1) ])

or-none : (b : Bool) → (b || false) ≡ b
or-none true = refl
or-none false = refl

-- ---- two segments with a page in common

clash-from : (page : ℕ) (s e : Segment) → touches page s ≡ true → touches page e ≡ true → (can_run s || can_run e) ≡ true → clashes s e ≡ true
unfolding share_a_page
clash-from page s e h h' run =
    let mine = touches-parts page s h in
    let other = touches-parts page e h' in
    grind (arith, nat_tests)

pub clash-of_code : (page : ℕ) (s e : Segment) → touches page s ≡ true → makes_code page e ≡ true → clashes s e ≡ true
clash-of_code page s e h code =
    let parts = and_parts (touches page e) (can_run e) code in
    clash-from page s e h parts.0 (or_right (can_run s) (can_run e) parts.1)

clash-of_run : (page : ℕ) (s e : Segment) → touches page s ≡ true → can_run s ≡ true → touches page e ≡ true → clashes s e ≡ true
clash-of_run page s e h run h' = clash-from page s e h h' (or_left (can_run s) (can_run e) run)

-- the first page that both touch
record Shared (s e : Segment) : Type 0 where
  page : ℕ
  mine : touches page s ≡ true
  other : touches page e ≡ true
  run : (can_run s || can_run e) ≡ true

shared : (s e : Segment) → clashes s e ≡ true → Shared s e
unfolding share_a_page
shared s e h =
    let parts = and_parts (share_a_page s e) (can_run s || can_run e) h in
    let parts' = and_parts (ltb 0 s.memory_size && ltb 0 e.memory_size && leb (first_page s) (last_page e)) (leb (first_page e) (last_page s)) parts.0 in
    let parts'' = and_parts (ltb 0 s.memory_size && ltb 0 e.memory_size) (leb (first_page s) (last_page e)) parts'.0 in
    let some = and_parts (ltb 0 s.memory_size) (ltb 0 e.memory_size) parts''.0 in
    let mine : 0 < s.memory_size = ltb-true 0 s.memory_size some.0 in
    let other : 0 < e.memory_size = ltb-true 0 e.memory_size some.1 in
    let low : first_page s ≤ last_page e = leb-true (first_page s) (last_page e) parts''.1 in
    let high : first_page e ≤ last_page s = leb-true (first_page e) (last_page s) parts'.1 in
    let page = max (first_page s) (first_page e) in
    let order = pages-in_order s in
    let order' = pages-in_order e in
    record {
      page = page;
      mine = touches-from page s mine (omega arith) (grind arith);
      other = touches-from page e other (omega arith) (grind arith);
      run = parts.1;
    }

-- ---- the kind of a page

closed-means : (run code some : Bool) → is_closed run (if code then Some Code else if some then Some Data else None) ≡ true
    → (code ≡ true) ⊎ ((some ≡ true) × (run ≡ true))
closed-means run true some h = inl refl
closed-means run false true h = inr (refl, h)
closed-means run false false h = absurd (false≢true h)

closed-of_code : (run code some : Bool) → code ≡ true → is_closed run (if code then Some Code else if some then Some Data else None) ≡ true
closed-of_code run true some h = refl
closed-of_code run false some h = absurd (false≢true h)

closed-of_run : (run code some : Bool) → some ≡ true → run ≡ true → is_closed run (if code then Some Code else if some then Some Data else None) ≡ true
closed-of_run run true some h h' = refl
closed-of_run run false true h h' = h'
closed-of_run run false false h h' = absurd (false≢true h)

-- a page of the segment that is closed to it is one that an earlier segment clashes in
clash-of_closed : (earlier : List Segment) (s : Segment) (page : ℕ) → touches page s ≡ true → is_closed (can_run s) (kind_after earlier page) ≡ true
    → list_any (clashes s) earlier ≡ true
unfolding kind_after
clash-of_closed earlier s page h closed =
    elim (closed-means (can_run s) (list_any (makes_code page) earlier) (list_any (touches page) earlier) closed) [
      | inl code ↦ any-weaker (makes_code page) (clashes s) earlier (λ e code. clash-of_code page s e h code) code
      | inr both ↦ any-weaker (touches page) (clashes s) earlier (λ e h'. clash-of_run page s e h both.1 h') both.0
    ]

record Closed (earlier : List Segment) (s : Segment) : Type 0 where
  page : ℕ
  mine : touches page s ≡ true
  closed : is_closed (can_run s) (kind_after earlier page) ≡ true

closed-of_clash : (earlier : List Segment) (s : Segment) → list_any (clashes s) earlier ≡ true → Closed earlier s
unfolding kind_after
closed-of_clash earlier s any =
    let found = Any-from_list_any (clashes s) earlier any in
    let k = found.0 in
    let e = found.1 in
    let both = shared s e found.4 in
    let touched = list_any_at (touches both.page) earlier k e found.2 (ap (touches both.page) found.3 ∙ both.other) in
    record {
      page = both.page;
      mine = both.mine;
      closed = elim (or_cases (can_run s) (can_run e) both.run) [
        | inl run ↦ closed-of_run (can_run s) (list_any (makes_code both.page) earlier) (list_any (touches both.page) earlier) touched run
        | inr run ↦ closed-of_code (can_run s) (list_any (makes_code both.page) earlier) (list_any (touches both.page) earlier)
            (list_any_at (makes_code both.page) earlier k e found.2
            (ap (makes_code both.page) found.3 ∙ and_from (touches both.page e) (can_run e) both.other run))
      ];
    }

-- what the table answers
pub marked-clashes : (table : List (Option PageKind)) (earlier : List Segment) (s : Segment) → Marks table earlier → first_page s + page_span s ≤ page_count
    → list_any (is_closed (can_run s)) (slice_range table (first_page s) (first_page s + page_span s)) ≡ list_any (clashes s) earlier
marked-clashes table earlier s marks within =
    same-tests (list_any (is_closed (can_run s)) (slice_range table (first_page s) (first_page s + page_span s))) (list_any (clashes s) earlier)
    (λ any.
    let found = passes-of_any (is_closed (can_run s)) table (first_page s) (first_page s + page_span s) None any in
    let kind = marks.kinds found.at (omega (arith, found.high, within)) in
    clash-of_closed earlier s found.at (touches-of_span found.at s found.low found.high) (ap (is_closed (can_run s)) (sym kind) ∙ found.passes))
    (λ any.
    let found = closed-of_clash earlier s any in
    let place = span-of_touches found.page s found.mine in
    let inside : found.page < page_count = omega (arith, place.1, within) in
    let size = marks.size in
    any-of_passes (is_closed (can_run s)) table (first_page s) (first_page s + page_span s) None found.page place.0 place.1 (omega (arith, inside, size))
    (ap (is_closed (can_run s)) (marks.kinds found.page inside) ∙ found.closed))

-- ---- one more segment

more : (p : Segment → Bool) (earlier : List Segment) (s : Segment) → list_any p (earlier ++ s ∷ []) ≡ (list_any p earlier || p s)
more p earlier s = list_any-append p earlier (s ∷ []) ∙ ap (λ b. list_any p earlier || b) (or-none (p s))

kind-apart : (earlier : List Segment) (s : Segment) (page : ℕ) → touches page s ≡ false → kind_after (earlier ++ s ∷ []) page ≡ kind_after earlier page
unfolding kind_after
kind-apart earlier s page apart =
    let code = more (makes_code page) earlier s ∙ ap (λ b. list_any (makes_code page) earlier || b) (and_left (touches page s) (can_run s) apart) ∙ or-none (list_any (makes_code page) earlier) in
    let some = more (touches page) earlier s ∙ ap (λ b. list_any (touches page) earlier || b) apart ∙ or-none (list_any (touches page) earlier) in
    rw (code, some) refl

kind-marked : (earlier : List Segment) (s : Segment) (page : ℕ) → touches page s ≡ true → list_any (clashes s) earlier ≡ false
    → kind_after (earlier ++ s ∷ []) page ≡ Some (kind_of s)
unfolding kind_after
kind-marked earlier s page h none = elim (cases_Bool (can_run s)) [
  | inl run ↦
      let code = more (makes_code page) earlier s ∙ or_right (list_any (makes_code page) earlier) (makes_code page s) (and_from (touches page s) (can_run s) h run) in
      rw (code, run) refl
  | inr still ↦
      let apart : list_any (makes_code page) earlier ≡ false =
      false_from_ne_true (list_any (makes_code page) earlier) (λ code.
      false≢true (sym none ∙ any-weaker (makes_code page) (clashes s) earlier (λ e code. clash-of_code page s e h code) code)) in
      let code = more (makes_code page) earlier s ∙ or_from (list_any (makes_code page) earlier) (makes_code page s) apart (and_right (touches page s) (can_run s) still) in
      let some = more (touches page) earlier s ∙ or_right (list_any (touches page) earlier) (touches page s) h in
      rw (code, some, still) refl
]

pub marks-more : (table new : List (Option PageKind)) (earlier : List Segment) (s : Segment) → Marks table earlier → first_page s + page_span s ≤ page_count
    → list_any (clashes s) earlier ≡ false → new ≡ overwritten table (first_page s) (replicate (page_span s) (Some (kind_of s)))
    → Marks new (earlier ++ s ∷ [])
marks-more table new earlier s marks within none is =
    let count = length-replicate (page_span s) (Some (kind_of s)) in
    let size = marks.size in
    let first : first_page s ≤ length table = omega (arith, size, within) in
    let marked = overwritten table (first_page s) (replicate (page_span s) (Some (kind_of s))) in
    let new-size : length marked ≡ page_count =
    length-overwritten table (first_page s) (replicate (page_span s) (Some (kind_of s))) (omega (arith, size, count, within)) ∙ size in
    let kinds : (page : ℕ) → page < page_count → get_or marked page None ≡ kind_after (earlier ++ s ∷ []) page = λ page below.
    elim (cases_lt page (first_page s)) [
      | inl before ↦
          get_or-before table (first_page s) (replicate (page_span s) (Some (kind_of s))) page None first before
          ∙ marks.kinds page below ∙ sym (kind-apart earlier s page (untouched page s (inl before)))
      | inr from ↦ elim (cases_lt page (first_page s + page_span s)) [
        | inl inside ↦
            filled-within table (first_page s) (page_span s) (Some (kind_of s)) page None first from inside
            ∙ sym (kind-marked earlier s page (touches-of_span page s from inside) none)
        | inr behind ↦
            filled-behind table (first_page s) (page_span s) (Some (kind_of s)) page None first behind
            ∙ marks.kinds page below ∙ sym (kind-apart earlier s page (untouched page s (inr behind)))
      ]
    ] in
    rw is (record { size = new-size; kinds = kinds })

pub marks-none : (count : ℕ) → count ≡ page_count → Marks (replicate count None) []
unfolding kind_after
marks-none count is = rw is (record {
  size = length-replicate page_count None;
  kinds = λ page below. get_or-replicate page_count page None None below;
})

-- ---- the code in memory

pub code-none : HasCode new_memory []
unfolding new_memory
code-none = record {
  size = length-replicate page_count Data;
  code = λ page below. ap is_code (get_or-replicate page_count page Data Data below);
}

code-apart : (earlier : List Segment) (s : Segment) (page : ℕ) → makes_code page s ≡ false → list_any (makes_code page) (earlier ++ s ∷ []) ≡ list_any (makes_code page) earlier
code-apart earlier s page apart =
    more (makes_code page) earlier s ∙ ap (λ b. list_any (makes_code page) earlier || b) apart ∙ or-none (list_any (makes_code page) earlier)

code-kinds : (kinds : List PageKind) (earlier : List Segment) (s : Segment) → length kinds ≡ page_count
    → ((page : ℕ) → page < page_count → is_code (get_or kinds page Data) ≡ list_any (makes_code page) earlier) → first_page s + page_span s ≤ page_count → can_run s ≡ true
    → (page : ℕ) → page < page_count
    → is_code (get_or (overwritten kinds (first_page s) (replicate (page_span s) Code)) page Data) ≡ list_any (makes_code page) (earlier ++ s ∷ [])
code-kinds kinds earlier s size code within run page below =
    let first : first_page s ≤ length kinds = omega (arith, size, within) in
    elim (cases_lt page (first_page s)) [
      | inl before ↦
          ap is_code (get_or-before kinds (first_page s) (replicate (page_span s) Code) page Data first before)
          ∙ code page below ∙ sym (code-apart earlier s page (and_left (touches page s) (can_run s) (untouched page s (inl before))))
      | inr from ↦ elim (cases_lt page (first_page s + page_span s)) [
        | inl inside ↦
            ap is_code (filled-within kinds (first_page s) (page_span s) Code page Data first from inside)
            ∙ sym (more (makes_code page) earlier s
            ∙ or_right (list_any (makes_code page) earlier) (makes_code page s) (and_from (touches page s) (can_run s) (touches-of_span page s from inside) run))
        | inr behind ↦
            ap is_code (filled-behind kinds (first_page s) (page_span s) Code page Data first behind)
            ∙ code page below ∙ sym (code-apart earlier s page (and_left (touches page s) (can_run s) (untouched page s (inr behind))))
      ]
    ]

pub code-more : (memory new : Memory) (earlier : List Segment) (s : Segment) → HasCode memory earlier → first_page s + page_span s ≤ page_count
    → new.kinds ≡ kinds_with memory.kinds s → HasCode new (earlier ++ s ∷ [])
code-more memory new earlier s has within is = elim (cases_Bool (can_run s)) [
  | inl run ↦
      let kinds : new.kinds ≡ overwritten memory.kinds (first_page s) (replicate (page_span s) Code) = is ∙ rw run refl in
      let size = has.size in
      let count = length-replicate (page_span s) Code in
      record {
        size = ap length kinds ∙ length-overwritten memory.kinds (first_page s) (replicate (page_span s) Code) (omega (arith, size, count, within)) ∙ size;
        code = λ page below. ap (λ kinds. is_code (get_or kinds page Data)) kinds ∙ code-kinds memory.kinds earlier s size has.code within run page below;
      }
  | inr still ↦
      let kinds : new.kinds ≡ memory.kinds = is ∙ rw still refl in
      record {
        size = ap length kinds ∙ has.size;
        code = λ page below. ap (λ kinds. is_code (get_or kinds page Data)) kinds ∙ has.code page below ∙ sym (code-apart earlier s page (and_right (touches page s) (can_run s) still));
      }
]
