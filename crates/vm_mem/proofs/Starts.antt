-- Pages whose bytes stand among all bytes: what is read, written and allocated.
use Rattle.std.proofs.Common.{◌≡◌, ◌≢◌, ℕ, zero, suc, ◌+◌, ◌-◌, ◌/◌, ◌%◌, ◌==◌, nat_lt, ◌<◌, ◌≤◌, ◌⊎◌, Bool, true, false, List, [], ◌++◌, length, take, set, replicate, get_or, slice_range, map, refl, sym, ◌∙◌, ap, subst, arith, inl, inr, length-set}
use Rattle.std.proofs.Math.Bool.{not}
use Rattle.std.specs.List.{concat}
use Rattle.std.proofs.lemmas.Bool.{cases_eq, cases_lt, false≢true}
use Rattle.std.proofs.lemmas.Grind.{get_or_default_zero}
use Rattle.std.proofs.lemmas.List.{get_or_default, get_or-map, get_or-set_other, get_or-set_same, get_or-replicate, get_or_past, length-append, length-map, length-replicate, map-id, same_lists, set-get_or}
use Rattle.machine_defs.specs.Memory.{page_size, page_count, memory_size, number_of, overwritten}
use Rattle.machine_defs.proofs.CodeLaws.{length-overwritten}
use Rattle.machine_defs.proofs.Overwritten.{take-past}
use Rattle.vm_mem.specs.Pages.{ArePlaced, IsAllocated, IsMarked, IsPage, Pages, is_allocated, page_at, pages_of, whole, written}
use Rattle.vm_mem.proofs.Cleared.{clear-clean, clear-marked, clear-pages}
use Rattle.vm_mem.proofs.Edited.{AreSound, make-bytes, make-is-made, make-only, make-stays, through, whole-full, whole-zeros, write-pages}
use Rattle.vm_mem.proofs.Placed.{number-page, page-below}
use Rattle.vm_mem.proofs.Ranges.{length-range, range-append, range-behind, range-beside, range-range, range-written}
use Rattle.vm_mem.proofs.Wholes.{whole-empty}

-- ---- the bytes of a page

pub page_at-none : (bytes : List ℕ) → page_at bytes 0 ≡ []
unfolding page_at
page_at-none bytes = refl

starts-some : (start : ℕ) → start ≢ 0 → (start == 0) ≡ false
starts-some start some = grind (arith, some)

pub page_at-some : (bytes : List ℕ) (start : ℕ) → start ≢ 0 → page_at bytes start ≡ slice_range bytes start (start + page_size)
unfolding page_at
page_at-some bytes start some = rw (starts-some start some) refl

pub length-some : (bytes : List ℕ) (start : ℕ) → start ≢ 0 → start + page_size ≤ length bytes → length (page_at bytes start) ≡ page_size
length-some bytes start some h = rw (page_at-some bytes start some) (length-range bytes start page_size h)

page-is : (bytes : List ℕ) (start : ℕ) → start + page_size ≤ length bytes → IsPage (page_at bytes start)
page-is bytes start h = elim (cases_eq start 0) [
  | inl none ↦ inl (rw (none, page_at-none bytes) refl)
  | inr some ↦ inr (length-some bytes start some h)
]

-- allocated or not, they are those from its start on
whole-page : (bytes : List ℕ) (start : ℕ) → slice_range bytes 0 page_size ≡ replicate page_size 0 → start + page_size ≤ length bytes
    → whole (page_at bytes start) ≡ slice_range bytes start (start + page_size)
whole-page bytes start zeros h = elim (cases_eq start 0) [
  | inl none ↦ rw (none, page_at-none bytes) (whole-empty [] refl ∙ sym zeros)
  | inr some ↦ whole-full (page_at bytes start) (length-some bytes start some h) ∙ page_at-some bytes start some
]

-- ---- pages that are placed

pub sound-placed : (bytes starts : List ℕ) (dirty : List Bool) → ArePlaced bytes starts dirty → AreSound (page_at bytes) starts
sound-placed bytes starts dirty p = (
  p.count,
  λ page d below. subst (λ start. IsPage (page_at bytes start)) (sym (get_or_default_zero starts page d below)) (page-is bytes (get_or starts page 0) (p.inside page)),
)

-- the start of a page, as it was read
pub start-is : (starts : List ℕ) (page start : ℕ) → start ≡ get_or starts page start → page < length starts → start ≡ get_or starts page 0
start-is starts page start is below = is ∙ get_or_default_zero starts page start below

-- the start of the page of an address, whose bytes are within
pub start-of : (bytes starts : List ℕ) (dirty : List Bool) (at start : ℕ) → ArePlaced bytes starts dirty → start ≡ get_or starts (at / page_size) start
    → at < memory_size → start ≡ get_or starts (at / page_size) 0
start-of bytes starts dirty at start p is h = start-is starts (at / page_size) start is (page-below at (length starts) p.count h)

pub room-at : (bytes starts : List ℕ) (dirty : List Bool) (at start : ℕ) → ArePlaced bytes starts dirty → start ≡ get_or starts (at / page_size) start
    → at < memory_size → start + page_size ≤ length bytes
room-at bytes starts dirty at start p is h = rw (start-of bytes starts dirty at start p is h) (p.inside (at / page_size))

-- a number is read
pub number-at : (bytes starts : List ℕ) (dirty : List Bool) (at start count : ℕ) (paged : Pages) → ArePlaced bytes starts dirty
    → start ≡ get_or starts (at / page_size) start → at < memory_size → at % page_size + count ≤ page_size → pages_of (map (page_at bytes) starts) ≡ paged
    → number_of (slice_range bytes (start + at % page_size) (start + at % page_size + count)) ≡ number_of (slice_range paged.bytes at (at + count))
number-at bytes starts dirty at start count paged p is h le view =
    let room = room-at bytes starts dirty at start p is h in
    let inner : slice_range (whole (page_at bytes start)) (at % page_size) (at % page_size + count) ≡ slice_range bytes (start + at % page_size) (start + at % page_size + count) =
    ap (λ page. slice_range page (at % page_size) (at % page_size + count)) (whole-page bytes start p.zeros room)
    ∙ range-range bytes start page_size (at % page_size) count room le in
    sym (ap number_of inner) ∙ sym (number-page (page_at bytes) starts start at count (sound-placed bytes starts dirty p) is h le)
    ∙ ap (λ (pages : Pages). number_of (slice_range pages.bytes at (at + count))) view

-- ---- bytes of a page are written

-- bytes of an allocated page become others
pub record Edits (bytes new starts : List ℕ) (dirty : List Bool) (page o : ℕ) (others : List ℕ) : Type 0 where
  pub placed : ArePlaced bytes starts dirty
  pub some : get_or starts page 0 ≢ 0
  pub below : page < length starts
  pub within : o + length others ≤ page_size
  pub edit : new ≡ overwritten bytes (get_or starts page 0 + o) others

room : (bytes new starts : List ℕ) (dirty : List Bool) (page o : ℕ) (others : List ℕ) → Edits bytes new starts dirty page o others
    → get_or starts page 0 + o + length others ≤ length bytes
room bytes new starts dirty page o others e = omega (arith, e.placed.inside page, e.within)

pub length-edited : (bytes new starts : List ℕ) (dirty : List Bool) (page o : ℕ) (others : List ℕ) → Edits bytes new starts dirty page o others
    → length new ≡ length bytes
length-edited bytes new starts dirty page o others e =
    rw e.edit (length-overwritten bytes (get_or starts page 0 + o) others (room bytes new starts dirty page o others e))

pub page-edited : (bytes new starts : List ℕ) (dirty : List Bool) (page o : ℕ) (others : List ℕ) → Edits bytes new starts dirty page o others
    → page_at new (get_or starts page 0) ≡ overwritten (page_at bytes (get_or starts page 0)) o others
page-edited bytes new starts dirty page o others e =
    rw (page_at-some new (get_or starts page 0) e.some, page_at-some bytes (get_or starts page 0) e.some, e.edit)
    (range-written bytes (get_or starts page 0) page_size o others (e.placed.inside page) e.within)

apart-starts : (s other : ℕ) → s ≢ other → s % page_size ≡ 0 → other % page_size ≡ 0 → (other + page_size ≤ s) ⊎ (s + page_size ≤ other)
apart-starts s other apart aligned aligned' = elim (cases_lt other s) [
  | inl before ↦ inl (omega (arith, before, aligned, aligned'))
  | inr from ↦
      let after : s < other = grind (arith, from, apart) in
      inr (omega (arith, after, aligned, aligned'))
]

-- another page has bytes of its own
page-kept : (bytes new starts : List ℕ) (dirty : List Bool) (page o : ℕ) (others : List ℕ) → Edits bytes new starts dirty page o others
    → (other : ℕ) → other ≢ page → page_at new (get_or starts other 0) ≡ page_at bytes (get_or starts other 0)
page-kept bytes new starts dirty page o others e other apart =
    let s = get_or starts page 0 in
    let t = get_or starts other 0 in
    elim (cases_eq t 0) [
      | inl none ↦ rw (none, page_at-none new, page_at-none bytes) refl
      | inr some ↦
          let differ : s ≢ t = λ same. elim (e.placed.own page other same) [ inl none ↦ absurd (e.some none) | inr is ↦ absurd (apart (sym is)) ] in
          let beside : (t + page_size ≤ s + o) ⊎ (s + o + length others ≤ t) = elim (apart-starts s t differ (e.placed.aligned page) (e.placed.aligned other)) [
            | inl before ↦ inl (omega (arith, before))
            | inr behind ↦ inr (omega (arith, behind, e.within))
          ] in
          page_at-some new t some
          ∙ ap (λ xs. slice_range xs t (t + page_size)) e.edit
          ∙ range-beside bytes (s + o) others t page_size (room bytes new starts dirty page o others e) (e.placed.inside other) beside
          ∙ sym (page_at-some bytes t some)
    ]

contents-edited : (bytes new starts : List ℕ) (dirty : List Bool) (page o : ℕ) (others : List ℕ) → Edits bytes new starts dirty page o others
    → map (page_at new) starts ≡ set (map (page_at bytes) starts) page (overwritten (page_at bytes (get_or starts page 0)) o others)
contents-edited bytes new starts dirty page o others e =
    let contents = map (page_at bytes) starts in
    let edited = overwritten (page_at bytes (get_or starts page 0)) o others in
    let size : length (map (page_at new) starts) ≡ length starts = length-map starts (page_at new) in
    let size' : length contents ≡ length starts = length-map starts (page_at bytes) in
    same_lists (map (page_at new) starts) (set contents page edited) (size ∙ sym (length-set contents page edited ∙ size')) (λ k d below.
    let inner : k < length starts = omega (arith, below, size) in
    elim (cases_eq k page) [
      | inl same ↦ rw same (get_or-map (page_at new) starts page 0 d e.below ∙ page-edited bytes new starts dirty page o others e
          ∙ sym (get_or-set_same contents page edited d (omega (arith, e.below, size'))))
      | inr apart ↦ get_or-map (page_at new) starts k 0 d inner ∙ page-kept bytes new starts dirty page o others e k apart
          ∙ sym (get_or-set_other contents page k edited d apart ∙ get_or-map (page_at bytes) starts k 0 d inner)
    ])

sound-contents : (bytes starts : List ℕ) (dirty : List Bool) → ArePlaced bytes starts dirty → AreSound (λ page. page) (map (page_at bytes) starts)
sound-contents bytes starts dirty p =
    let sound = sound-placed bytes starts dirty p in
    let size : length (map (page_at bytes) starts) ≡ length starts = length-map starts (page_at bytes) in (
      size ∙ sound.0,
      λ k d below.
          let inner : k < length starts = omega (arith, below, size) in
          subst IsPage (sym (get_or-map (page_at bytes) starts k 0 d inner)) (sound.1 k 0 inner),
    )

pub write-placed : (bytes new starts : List ℕ) (dirty : List Bool) (at : ℕ) (others : List ℕ) (paged : Pages)
    → Edits bytes new starts dirty (at / page_size) (at % page_size) others → at < memory_size → pages_of (map (page_at bytes) starts) ≡ paged
    → pages_of (map (page_at new) starts) ≡ written paged at others
write-placed bytes new starts dirty at others paged e h view =
    let contents = map (page_at bytes) starts in
    let page = page_at bytes (get_or starts (at / page_size) 0) in
    let is : page ≡ get_or contents (at / page_size) page = sym (get_or-map (page_at bytes) starts (at / page_size) 0 page e.below) in
    let full : length page ≡ page_size = length-some bytes (get_or starts (at / page_size) 0) e.some (e.placed.inside (at / page_size)) in
    let edited = overwritten page (at % page_size) others in
    let done : pages_of (map (λ x. x) (set contents (at / page_size) edited)) ≡ written paged at others =
    write-pages (λ x. x) contents page edited at others paged (sound-contents bytes starts dirty e.placed) is h e.within full refl (rw (map-id contents) view) in
    ap pages_of (contents-edited bytes new starts dirty (at / page_size) (at % page_size) others e)
    ∙ subst (λ pages. pages_of pages ≡ written paged at others) (map-id (set contents (at / page_size) edited)) done

at-least : (start : ℕ) → start ≢ 0 → start % page_size ≡ 0 → page_size ≤ start
at-least start some aligned =
    let above : 0 < start = grind (arith, some) in
    omega (arith, above, aligned)

pub placed-edited : (bytes new starts : List ℕ) (dirty : List Bool) (page o : ℕ) (others : List ℕ) (mark : Bool) → Edits bytes new starts dirty page o others
    → IsMarked mark (page_at new (get_or starts page 0)) → ArePlaced new starts (set dirty page mark)
placed-edited bytes new starts dirty page o others mark e marked =
    let p = e.placed in
    let s = get_or starts page 0 in
    let size = length-edited bytes new starts dirty page o others e in
    let first : page_size ≤ s = at-least s e.some (p.aligned page) in
    let below : page < length dirty = omega (arith, e.below, p.count, p.marks) in
    record {
      count = p.count;
      marks = length-set dirty page mark ∙ p.marks;
      zeros = ap (λ xs. slice_range xs 0 page_size) e.edit
          ∙ range-beside bytes (s + o) others 0 page_size (room bytes new starts dirty page o others e) (omega (arith, p.inside page)) (inl (omega (arith, first)))
          ∙ p.zeros;
      sized = rw size p.sized;
      aligned = p.aligned;
      inside = λ other. rw size (p.inside other);
      own = p.own;
      marked = λ other within. elim (cases_eq other page) [
        | inl same ↦ rw (same, get_or-set_same dirty page mark false below) marked
        | inr apart ↦ rw (get_or-set_other dirty page other mark false apart, page-kept bytes new starts dirty page o others e other apart) (p.marked other within)
      ];
    }

-- ---- bytes that are made zero

-- a page that is dirty is allocated
pub dirty-starts : (bytes starts : List ℕ) (dirty : List Bool) (page : ℕ) → ArePlaced bytes starts dirty → page < page_count → get_or dirty page false ≡ true
    → get_or starts page 0 ≢ 0
dirty-starts bytes starts dirty page p below is none =
    let full : length (page_at bytes (get_or starts page 0)) ≡ page_size = subst (λ mark. IsMarked mark (page_at bytes (get_or starts page 0))) is (p.marked page below) in
    let empty : length (page_at bytes (get_or starts page 0)) ≡ 0 = rw (none, page_at-none bytes) refl in
    omega (arith, full, empty)

-- one that is not has zeros
pub clean-placed : (bytes starts : List ℕ) (dirty : List Bool) (at count : ℕ) (paged : Pages) → ArePlaced bytes starts dirty → at < memory_size
    → at / page_size < page_count → at % page_size + count ≤ page_size → get_or dirty (at / page_size) false ≡ false
    → pages_of (map (page_at bytes) starts) ≡ paged → paged ≡ written paged at (replicate count 0)
clean-placed bytes starts dirty at count paged p h below le clean view =
    let i = at / page_size in
    let s = get_or starts i 0 in
    let zeros : whole (page_at bytes s) ≡ replicate page_size 0 = subst (λ mark. IsMarked mark (page_at bytes s)) clean (p.marked i below) in
    let is : s ≡ get_or starts i s = sym (get_or_default_zero starts i s (page-below at (length starts) p.count h)) in
    let size : at % page_size + length (replicate {A = ℕ} count 0) ≤ page_size = rw (length-replicate {A = ℕ} count 0) le in
    let done = clear-pages (page_at bytes) starts s s at (replicate count 0) paged (sound-placed bytes starts dirty p) is h size refl
    (clear-clean (page_at bytes s) (at % page_size) count zeros le) view in
    sym view ∙ subst (λ xs. pages_of (map (page_at bytes) xs) ≡ written paged at (replicate count 0)) (set-get_or starts i 0) done

-- ---- a page is allocated

page-before : (bytes more : List ℕ) (start : ℕ) → start + page_size ≤ length bytes → page_at (bytes ++ more) start ≡ page_at bytes start
page-before bytes more start h = elim (cases_eq start 0) [
  | inl none ↦ rw (none, page_at-none (bytes ++ more), page_at-none bytes) refl
  | inr some ↦ page_at-some (bytes ++ more) start some ∙ range-append bytes more start page_size h ∙ sym (page_at-some bytes start some)
]

-- those that were placed have their bytes where they had them
pub contents-before : (bytes starts : List ℕ) (dirty : List Bool) (more : List ℕ) → ArePlaced bytes starts dirty
    → map (page_at (bytes ++ more)) starts ≡ map (page_at bytes) starts
contents-before bytes starts dirty more p =
    let size : length (map (page_at (bytes ++ more)) starts) ≡ length starts = length-map starts (page_at (bytes ++ more)) in
    same_lists (map (page_at (bytes ++ more)) starts) (map (page_at bytes) starts) (size ∙ sym (length-map starts (page_at bytes))) (λ k d below.
    let inner : k < length starts = omega (arith, below, size) in
    get_or-map (page_at (bytes ++ more)) starts k 0 d inner ∙ page-before bytes more (get_or starts k 0) (p.inside k)
    ∙ sym (get_or-map (page_at bytes) starts k 0 d inner))

pub page-behind : (bytes : List ℕ) → length bytes ≢ 0 → page_at (bytes ++ replicate page_size 0) (length bytes) ≡ replicate page_size 0
page-behind bytes some =
    page_at-some (bytes ++ replicate page_size 0) (length bytes) some ∙ range-behind bytes page_size

-- one that had no bytes was not dirty
marked-new : (bytes : List ℕ) (dirty : Bool) → 0 < length bytes → IsMarked dirty (page_at bytes 0)
    → IsMarked dirty (page_at (bytes ++ replicate page_size 0) (length bytes))
marked-new bytes true some marked =
    let empty : length (page_at bytes 0) ≡ 0 = rw (page_at-none bytes) refl in
    absurd (omega (arith, empty, marked))
marked-new bytes false some marked =
    let some' : length bytes ≢ 0 = λ none. omega (arith, none, some) in
    rw (page-behind bytes some') (whole-zeros (replicate page_size 0) refl)

pub placed-made : (bytes starts : List ℕ) (dirty : List Bool) (page : ℕ) → ArePlaced bytes starts dirty → page < page_count → get_or starts page 0 ≡ 0
    → ArePlaced (bytes ++ replicate page_size 0) (set starts page (length bytes)) dirty
placed-made bytes starts dirty page p below none =
    let new = bytes ++ replicate {A = ℕ} page_size 0 in
    let size : length new ≡ length bytes + page_size = length-append bytes (replicate page_size 0) ∙ ap (λ n. length bytes + n) (length-replicate {A = ℕ} page_size 0) in
    let first : page_size ≤ length bytes = omega (arith, p.inside page) in
    let inner : page < length starts = rw p.count below in
    let mine : get_or (set starts page (length bytes)) page 0 ≡ length bytes = get_or-set_same starts page (length bytes) 0 inner in
    let other-is : (other : ℕ) → other ≢ page → get_or (set starts page (length bytes)) other 0 ≡ get_or starts other 0 =
    λ other apart. get_or-set_other starts page other (length bytes) 0 apart in
    record {
      count = length-set starts page (length bytes) ∙ p.count;
      marks = p.marks;
      zeros = range-append bytes (replicate page_size 0) 0 page_size first ∙ p.zeros;
      sized = rw size (omega (arith, p.sized));
      aligned = λ other. elim (cases_eq other page) [
        | inl same ↦ rw (same, mine) p.sized
        | inr apart ↦ rw (other-is other apart) (p.aligned other)
      ];
      inside = λ other. elim (cases_eq other page) [
        | inl same ↦ rw (same, mine, size) (omega arith)
        | inr apart ↦ rw (other-is other apart, size) (omega (arith, p.inside other))
      ];
      own = λ one other same. elim (cases_eq one page) [
        | inl is ↦ elim (cases_eq other page) [
          | inl is' ↦ inr (is ∙ sym is')
          | inr apart ↦ absurd (omega (arith, p.inside other, sym mine ∙ ap (λ k. get_or (set starts page (length bytes)) k 0) (sym is) ∙ same ∙ other-is other apart))
        ]
        | inr apart ↦ elim (cases_eq other page) [
          | inl is' ↦ absurd (omega (arith, p.inside one, sym (other-is one apart) ∙ same ∙ ap (λ k. get_or (set starts page (length bytes)) k 0) is' ∙ mine))
          | inr apart' ↦ elim (p.own one other (sym (other-is one apart) ∙ same ∙ other-is other apart')) [
            | inl zero-start ↦ inl (other-is one apart ∙ zero-start)
            | inr is ↦ inr is
          ]
        ]
      ];
      marked = λ other within. elim (cases_eq other page) [
        | inl same ↦ rw (same, mine) (marked-new bytes (get_or dirty page false) (omega (arith, first)) (subst (λ start. IsMarked (get_or dirty page false) (page_at bytes start)) none (p.marked page below)))
        | inr apart ↦ rw (other-is other apart, page-before bytes (replicate page_size 0) (get_or starts other 0) (p.inside other)) (p.marked other within)
      ];
    }

-- ---- no page is allocated

no-start : (n page : ℕ) → get_or (replicate {A = ℕ} n 0) page 0 ≡ 0
no-start n page = elim (cases_lt page n) [
  | inl below ↦ get_or-replicate n page 0 0 below
  | inr past ↦ get_or_past (replicate {A = ℕ} n 0) page 0 (omega (arith, past, length-replicate {A = ℕ} n 0))
]

whole-range : (xs : List ℕ) (n : ℕ) → length xs ≡ n → slice_range xs 0 n ≡ xs
whole-range xs n size = let all : n - 0 ≡ n = omega arith in rw all (take-past xs n (omega (arith, size)))

pub new-placed : (bytes starts : List ℕ) (dirty : List Bool) → bytes ≡ replicate page_size 0 → starts ≡ replicate page_count 0
    → dirty ≡ replicate page_count false → ArePlaced bytes starts dirty
new-placed bytes starts dirty bytes-are starts-are dirty-are =
    let size : length bytes ≡ page_size = ap length bytes-are ∙ length-replicate {A = ℕ} page_size 0 in
    let none : (page : ℕ) → get_or starts page 0 ≡ 0 = λ page. ap (λ xs. get_or xs page 0) starts-are ∙ no-start page_count page in
    record {
      count = ap length starts-are ∙ length-replicate {A = ℕ} page_count 0;
      marks = ap length dirty-are ∙ length-replicate {A = Bool} page_count false;
      zeros = whole-range bytes page_size size ∙ bytes-are;
      sized = omega (arith, size);
      aligned = λ page. rw (none page) refl;
      inside = λ page. rw (none page, size) (omega arith);
      own = λ page other same. inl (none page);
      marked = λ page below.
          let clean : get_or dirty page false ≡ false = ap (λ marks. get_or marks page false) dirty-are ∙ get_or-replicate page_count page false false below in
          rw (clean, none page, page_at-none bytes) (whole-empty [] refl);
    }

all-none : (bytes : List ℕ) (n : ℕ) → map (page_at bytes) (replicate n 0) ≡ replicate n []
unfolding page_at
all-none bytes zero = refl
all-none bytes (suc n) = rw (all-none bytes n) refl

pub new-contents : (bytes starts : List ℕ) → starts ≡ replicate page_count 0 → map (page_at bytes) starts ≡ replicate page_count []
new-contents bytes starts is = ap (map (page_at bytes)) is ∙ all-none bytes page_count

-- ---- what the functions on pages are proved with

pub allocated-is : (bytes starts : List ℕ) (dirty : List Bool) (page start : ℕ) → ArePlaced bytes starts dirty → start ≡ get_or starts page start
    → page < page_count → not (start == 0) ≡ get_or (map is_allocated (map (page_at bytes) starts)) page false
allocated-is bytes starts dirty page start p is below =
    let inner : page < length starts = rw p.count below in
    let room : start + page_size ≤ length bytes = rw (start-is starts page start is inner) (p.inside page) in
    let test : not (start == 0) ≡ is_allocated (page_at bytes start) = elim (cases_eq start 0) [
      | inl none ↦ rw (none, page_at-none bytes) refl
      | inr some ↦ rw (starts-some start some, length-some bytes start some room) refl
    ] in
    test ∙ sym (through (page_at bytes) is_allocated starts start page false is inner)

pub some-is-allocated : (bytes starts : List ℕ) (dirty : List Bool) (page start : ℕ) → ArePlaced bytes starts dirty → start ≡ get_or starts page start
    → page < page_count → start ≢ 0 → IsAllocated (map is_allocated (map (page_at bytes) starts)) page
some-is-allocated bytes starts dirty page start p is below some =
    let test : not (start == 0) ≡ true = rw (starts-some start some) refl in
    sym (allocated-is bytes starts dirty page start p is below) ∙ test

pub none-is-not : (bytes starts : List ℕ) (dirty : List Bool) (page start : ℕ) → ArePlaced bytes starts dirty → start ≡ get_or starts page start
    → page < page_count → start ≡ 0 → IsAllocated (map is_allocated (map (page_at bytes) starts)) page → ⊥
none-is-not bytes starts dirty page start p is below none allocated =
    let test : not (start == 0) ≡ false = rw none refl in
    false≢true (sym test ∙ allocated-is bytes starts dirty page start p is below ∙ allocated)

-- a page that is not allocated gets bytes after the others
pub record Makes (bytes new starts : List ℕ) (dirty : List Bool) (page start : ℕ) : Type 0 where
  pub placed : ArePlaced bytes starts dirty
  pub below : page < page_count
  pub none : get_or starts page 0 ≡ 0
  pub grown : new ≡ bytes ++ replicate page_size 0
  pub start_is : start ≡ length bytes

pub makes : (bytes new starts : List ℕ) (dirty : List Bool) (page start was : ℕ) → ArePlaced bytes starts dirty → was ≡ get_or starts page was
    → page < page_count → was ≡ 0 → new ≡ bytes ++ replicate page_size 0 → start ≡ length bytes → Makes bytes new starts dirty page start
makes bytes new starts dirty page start was p is below none grown start-is' = record {
  placed = p;
  below = below;
  none = sym (start-is starts page was is (rw p.count below)) ∙ none;
  grown = grown;
  start_is = start-is';
}

pub grown-by : (bytes new : List ℕ) (n size : ℕ) → size ≡ length bytes → n ≡ size + page_size → new ≡ take n bytes ++ replicate (n - size) 0
    → new ≡ bytes ++ replicate page_size 0
grown-by bytes new n size size-is n-is is =
    let more : n - size ≡ page_size = omega (arith, n-is) in
    is ∙ rw (take-past bytes n (omega (arith, size-is, n-is)), more) refl

pub makes-placed : (bytes new starts : List ℕ) (dirty : List Bool) (page start : ℕ) → Makes bytes new starts dirty page start
    → ArePlaced new (set starts page start) dirty
makes-placed bytes new starts dirty page start m = rw (m.grown, m.start_is) (placed-made bytes starts dirty page m.placed m.below m.none)

inner : (bytes new starts : List ℕ) (dirty : List Bool) (page start : ℕ) → Makes bytes new starts dirty page start → page < length starts
inner bytes new starts dirty page start m = rw m.placed.count m.below

zeros-there : (bytes new starts : List ℕ) (dirty : List Bool) (page start : ℕ) → Makes bytes new starts dirty page start
    → page_at new start ≡ replicate page_size 0
zeros-there bytes new starts dirty page start m =
    let some : length bytes ≢ 0 = λ none. omega (arith, none, m.placed.inside page) in
    rw (m.grown, m.start_is) (page-behind bytes some)

before : (bytes new starts : List ℕ) (dirty : List Bool) (page start : ℕ) → Makes bytes new starts dirty page start
    → map (page_at new) starts ≡ map (page_at bytes) starts
before bytes new starts dirty page start m = rw m.grown (contents-before bytes starts dirty (replicate page_size 0) m.placed)

pub makes-bytes : (bytes new starts : List ℕ) (dirty : List Bool) (page start : ℕ) → Makes bytes new starts dirty page start
    → concat (map whole (map (page_at new) (set starts page start))) ≡ concat (map whole (map (page_at bytes) starts))
makes-bytes bytes new starts dirty page start m =
    let empty : true ≡ (length (page_at new 0) == 0) = rw (page_at-none new) refl in
    make-bytes (page_at new) starts 0 start page (sym m.none) (inner bytes new starts dirty page start m) empty (zeros-there bytes new starts dirty page start m)
    ∙ ap (λ contents. concat (map whole contents)) (before bytes new starts dirty page start m)

pub makes-allocated : (bytes new starts : List ℕ) (dirty : List Bool) (page start : ℕ) → Makes bytes new starts dirty page start
    → IsAllocated (map is_allocated (map (page_at new) (set starts page start))) page
makes-allocated bytes new starts dirty page start m =
    make-is-made (page_at new) starts start page (inner bytes new starts dirty page start m) (zeros-there bytes new starts dirty page start m)

pub makes-kept : (bytes new starts : List ℕ) (dirty : List Bool) (page start : ℕ) → Makes bytes new starts dirty page start
    → (other : ℕ) → IsAllocated (map is_allocated (map (page_at bytes) starts)) other
    → IsAllocated (map is_allocated (map (page_at new) (set starts page start))) other
makes-kept bytes new starts dirty page start m other allocated =
    make-stays (page_at new) starts start page (inner bytes new starts dirty page start m) (zeros-there bytes new starts dirty page start m) other
    (subst (λ contents. IsAllocated (map is_allocated contents) other) (sym (before bytes new starts dirty page start m)) allocated)

pub makes-added : (bytes new starts : List ℕ) (dirty : List Bool) (page start : ℕ) → Makes bytes new starts dirty page start
    → (other : ℕ) → IsAllocated (map is_allocated (map (page_at new) (set starts page start))) other
    → IsAllocated (map is_allocated (map (page_at bytes) starts)) other ⊎ (other ≡ page)
makes-added bytes new starts dirty page start m other allocated =
    elim (make-only (page_at new) starts start page (zeros-there bytes new starts dirty page start m) other allocated) [
      | inl was ↦ inl (subst (λ contents. IsAllocated (map is_allocated contents) other) (before bytes new starts dirty page start m) was)
      | inr same ↦ inr same
    ]

-- bytes are written to a page that is allocated
pub edits-allocated : (bytes new starts : List ℕ) (dirty : List Bool) (at start : ℕ) (others : List ℕ) (paged : Pages) → ArePlaced bytes starts dirty
    → start ≡ get_or starts (at / page_size) start → at < memory_size → at % page_size + length others ≤ page_size
    → IsAllocated paged.allocated (at / page_size) → pages_of (map (page_at bytes) starts) ≡ paged
    → new ≡ overwritten bytes (start + at % page_size) others → Edits bytes new starts dirty (at / page_size) (at % page_size) others
edits-allocated bytes new starts dirty at start others paged p is h le allocated view edit =
    let below = page-below at (length starts) p.count h in
    let first = start-is starts (at / page_size) start is below in
    let some : start ≢ 0 = λ none. none-is-not bytes starts dirty (at / page_size) start p is (rw (← p.count) below) none
    (subst (λ (pages : Pages). IsAllocated pages.allocated (at / page_size)) (sym view) allocated) in
    record { placed = p; some = λ none. some (first ∙ none); below = below; within = le; edit = rw (← first) edit }

pub edited-marked : (bytes new starts : List ℕ) (dirty : List Bool) (page o : ℕ) (others : List ℕ) → Edits bytes new starts dirty page o others
    → IsMarked true (page_at new (get_or starts page 0))
edited-marked bytes new starts dirty page o others e =
    length-some new (get_or starts page 0) e.some (rw (length-edited bytes new starts dirty page o others e) (e.placed.inside page))

-- zeros are written to a page that is dirty
pub edits-dirty : (bytes new starts : List ℕ) (dirty : List Bool) (at start count : ℕ) (mark : Bool) → ArePlaced bytes starts dirty
    → start ≡ get_or starts (at / page_size) start → mark ≡ get_or dirty (at / page_size) mark → mark ≡ true → at < memory_size
    → at % page_size + count ≤ page_size → new ≡ overwritten bytes (start + at % page_size) (replicate count 0)
    → Edits bytes new starts dirty (at / page_size) (at % page_size) (replicate count 0)
edits-dirty bytes new starts dirty at start count mark p is mark-is on h le edit =
    let below = page-below at (length starts) p.count h in
    let first = start-is starts (at / page_size) start is below in
    let marks : at / page_size < length dirty = page-below at (length dirty) p.marks h in
    let marked : get_or dirty (at / page_size) false ≡ true = get_or_default dirty (at / page_size) false mark marks ∙ sym mark-is ∙ on in
    record {
      placed = p;
      some = dirty-starts bytes starts dirty (at / page_size) p (rw (← p.count) below) marked;
      below = below;
      within = rw (length-replicate {A = ℕ} count 0) le;
      edit = rw (← first) edit;
    }

pub cleared-marked : (bytes new starts : List ℕ) (dirty : List Bool) (page o count : ℕ) → Edits bytes new starts dirty page o (replicate count 0)
    → o + count ≤ page_size → IsMarked (nat_lt count page_size) (page_at new (get_or starts page 0))
cleared-marked bytes new starts dirty page o count e le =
    clear-marked (page_at bytes (get_or starts page 0)) (page_at new (get_or starts page 0)) o count (nat_lt count page_size)
    (length-some bytes (get_or starts page 0) e.some (e.placed.inside page)) le (page-edited bytes new starts dirty page o (replicate count 0) e) refl

pub clean-is : (dirty : List Bool) (at : ℕ) (mark : Bool) → length dirty ≡ page_count → at < memory_size → mark ≡ get_or dirty (at / page_size) mark
    → mark ≡ false → get_or dirty (at / page_size) false ≡ false
clean-is dirty at mark marks h mark-is off =
    get_or_default dirty (at / page_size) false mark (page-below at (length dirty) marks h) ∙ sym mark-is ∙ off
