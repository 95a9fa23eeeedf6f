-- A store in two pieces.
use Rattle.std.proofs.Common.{◌≡◌, ℕ, ◌+◌, ◌-◌, ◌/◌, ◌==◌, Bool, ◌<◌, ◌≤◌, true, false, List, ◌++◌, length, drop, get_or, slice_range, Result, Ok, Err, refl, sym, ◌∙◌, ap, subst, arith, inl, inr}
use Rattle.std.specs.List.{list_any}
use Rattle.std.specs.Prelude.{if◌then◌else◌}
use Rattle.std.proofs.lemmas.Bool.{cases_lt, false_from_ne_true, false≢true}
use Rattle.std.proofs.lemmas.Bool.Decides.{nat_tests}
use Rattle.std.proofs.lemmas.List.{get_or-drop, get_or-take, get_or_default, length-append, length-drop, length-take}
use Rattle.std.proofs.lemmas.List.Folds.{Any-from_list_any, list_any_at}
use Rattle.machine_defs.specs.declared.memory.MemFault.{MemFault}
use Rattle.machine_defs.specs.declared.memory.MemFault.TheVariants.{Range, WriteCode}
use Rattle.machine_defs.specs.declared.memory.PageKind.{PageKind}
use Rattle.machine_defs.specs.declared.memory.PageKind.TheVariants.{Data}
use Rattle.machine_defs.specs.Memory.{Memory, is_code, is_out_of_range, kinds_under, memory_size, overwritten, page_size, store}
use Rattle.machine_defs.proofs.Overwritten.{overwritten-more}

pub in-memory : (at count : ℕ) → is_out_of_range at count ≡ false → at + count ≤ 4194304
unfolding is_out_of_range memory_size
in-memory at count h = grind (arith, nat_tests)

pub in-memory_from : (at count : ℕ) → at + count ≤ 4194304 → is_out_of_range at count ≡ false
unfolding is_out_of_range memory_size
in-memory_from at count h = grind (arith, nat_tests)

pub out-from : (at count : ℕ) → 4194304 < at + count → is_out_of_range at count ≡ true
unfolding is_out_of_range memory_size
out-from at count h = grind (arith, nat_tests)

ne-zero : (count : ℕ) → 0 < count → (count == 0) ≡ false
ne-zero count some = grind (arith, nat_tests)

is-zero : (count : ℕ) → count ≤ 0 → (count == 0) ≡ true
is-zero count none = grind (arith, nat_tests)

-- ---- a page of code under a range of bytes

record Under (memory : Memory) (at count : ℕ) : Type 0 where
  page : ℕ
  some : 0 < count
  low : at / page_size ≤ page
  high : page ≤ (at + count - 1) / page_size
  inside : page < length memory.kinds
  code : is_code (get_or memory.kinds page Data) ≡ true

found-in : (memory : Memory) (at count from to : ℕ) → 0 < count → from ≡ at / page_size → to ≡ (at + count - 1) / page_size + 1
    → list_any is_code (slice_range memory.kinds from to) ≡ true → Under memory at count
found-in memory at count from to some first last any =
    let found = Any-from_list_any is_code (slice_range memory.kinds from to) any in
    let k = found.0 in
    let x = found.1 in
    let size = length-take (to - from) (drop from memory.kinds) in
    let size' = length-drop from memory.kinds in
    let below : k < to - from = omega (arith, found.2, size) in
    let inside : from + k < length memory.kinds = omega (arith, found.2, size, size') in
    let item : get_or memory.kinds (from + k) x ≡ x = sym (get_or-drop from memory.kinds k x) ∙ sym (get_or-take (to - from) (drop from memory.kinds) k x below) ∙ found.3 in
    record {
      page = from + k;
      some = some;
      low = omega (arith, first);
      high = omega (arith, below, last);
      inside = inside;
      code = ap is_code (get_or_default memory.kinds (from + k) Data x inside ∙ item) ∙ found.4;
    }

under-of_any : (memory : Memory) (at count : ℕ) → list_any is_code (kinds_under memory at count) ≡ true → Under memory at count
unfolding kinds_under
under-of_any memory at count any = elim (cases_lt 0 count) [
  | inl some ↦ found-in memory at count _ _ some refl refl (rw (ne-zero count some) at any)
  | inr none ↦ absurd (false≢true (rw (is-zero count none) at any))
]

any-in : (kinds : List PageKind) (from to page : ℕ) → from ≤ page → page < to → page < length kinds
    → is_code (get_or kinds page Data) ≡ true → list_any is_code (slice_range kinds from to) ≡ true
any-in kinds from to page low high inside code =
    let size = length-take (to - from) (drop from kinds) in
    let size' = length-drop from kinds in
    let place : from + (page - from) ≡ page = omega (arith, low) in
    let item : get_or (slice_range kinds from to) (page - from) Data ≡ get_or kinds page Data =
    get_or-take (to - from) (drop from kinds) (page - from) Data (omega (arith, low, high)) ∙ get_or-drop from kinds (page - from) Data ∙ ap (λ k. get_or kinds k Data) place in
    list_any_at is_code (slice_range kinds from to) (page - from) Data (omega (arith, size, size', low, high, inside)) (ap is_code item ∙ code)

any-of_under : (memory : Memory) (at count : ℕ) → Under memory at count → list_any is_code (kinds_under memory at count) ≡ true
unfolding kinds_under
any-of_under memory at count u =
    rw (ne-zero count u.some)
    (any-in memory.kinds (at / page_size) ((at + count - 1) / page_size + 1) u.page u.low (let high = u.high in omega (arith, high)) u.inside u.code)

-- where a piece has code, so has the whole
any-first : (memory : Memory) (at count more : ℕ) → list_any is_code (kinds_under memory at count) ≡ true
    → list_any is_code (kinds_under memory at (count + more)) ≡ true
any-first memory at count more any =
    let u = under-of_any memory at count any in
    let some = u.some in
    let high = u.high in
    any-of_under memory at (count + more)
    (record { page = u.page; some = omega (arith, some); low = u.low; high = omega (arith, high, some); inside = u.inside; code = u.code })

any-rest : (memory first : Memory) (at count more : ℕ) → first.kinds ≡ memory.kinds → list_any is_code (kinds_under first (at + count) more) ≡ true
    → list_any is_code (kinds_under memory at (count + more)) ≡ true
any-rest memory first at count more same any =
    let u = under-of_any first (at + count) more any in
    let some = u.some in
    let low = u.low in
    let high = u.high in
    any-of_under memory at (count + more)
    (record {
      page = u.page;
      some = omega (arith, some);
      low = omega (arith, low);
      high = omega (arith, high, some);
      inside = subst (λ kinds. u.page < length kinds) same u.inside;
      code = subst (λ kinds. is_code (get_or kinds u.page Data) ≡ true) same u.code;
    })

-- and where neither has, the whole has none
none-whole : (memory first : Memory) (at count more : ℕ) → first.kinds ≡ memory.kinds → list_any is_code (kinds_under memory at count) ≡ false
    → list_any is_code (kinds_under first (at + count) more) ≡ false → list_any is_code (kinds_under memory at (count + more)) ≡ false
none-whole memory first at count more same none none' =
    false_from_ne_true (list_any is_code (kinds_under memory at (count + more))) (λ any.
    let u = under-of_any memory at (count + more) any in
    let some = u.some in
    let low = u.low in
    let high = u.high in
    elim (cases_lt 0 more) [
      | inl rest ↦ elim (cases_lt u.page ((at + count) / page_size)) [
        | inl below ↦ false≢true (sym none ∙ any-of_under memory at count
            (record { page = u.page; some = omega (arith, low, below); low = low; high = omega (arith, below); inside = u.inside; code = u.code }))
        | inr from ↦ false≢true (sym none' ∙ any-of_under first (at + count) more
            (record {
              page = u.page;
              some = rest;
              low = from;
              high = omega (arith, high, rest);
              inside = subst (λ kinds. u.page < length kinds) (sym same) u.inside;
              code = subst (λ kinds. is_code (get_or kinds u.page Data) ≡ true) (sym same) u.code;
            }))
      ]
      | inr nothing ↦ false≢true (sym none ∙ any-of_under memory at count
          (record { page = u.page; some = omega (arith, some, nothing); low = low; high = omega (arith, high, nothing); inside = u.inside; code = u.code }))
    ])

-- ---- a store

pub store-out : (memory : Memory) (at : ℕ) (bytes : List ℕ) → is_out_of_range at (length bytes) ≡ true → store memory at bytes ≡ Err Range
unfolding store
store-out memory at bytes out = rw out refl

store-code : (memory : Memory) (at : ℕ) (bytes : List ℕ) → is_out_of_range at (length bytes) ≡ false
    → list_any is_code (kinds_under memory at (length bytes)) ≡ true → store memory at bytes ≡ Err WriteCode
unfolding store
store-code memory at bytes inside code = rw (inside, code) refl

store-ok : (memory : Memory) (at : ℕ) (bytes : List ℕ) → is_out_of_range at (length bytes) ≡ false
    → list_any is_code (kinds_under memory at (length bytes)) ≡ false → store memory at bytes ≡ Ok (record memory { bytes = overwritten memory.bytes at bytes })
unfolding store
store-ok memory at bytes inside none = rw (inside, none) refl

pub record Stored (memory new : Memory) (at : ℕ) (bytes : List ℕ) : Type 0 where
  pub inside : is_out_of_range at (length bytes) ≡ false
  pub none : list_any is_code (kinds_under memory at (length bytes)) ≡ false
  pub is : new ≡ record memory { bytes = overwritten memory.bytes at bytes }

abbrev decided : Bool → Bool → Memory → Result Memory MemFault
decided out code done = if out then Err Range else if code then Err WriteCode else Ok done

tests : (out code : Bool) (done new : Memory) → decided out code done ≡ Ok new
    → (out ≡ false) × (code ≡ false) × (new ≡ done)
tests true code done new h = absurd cc
tests false true done new h = absurd cc
tests false false done new h = (refl, refl, cc)

pub stored-parts : (memory new : Memory) (at : ℕ) (bytes : List ℕ) → store memory at bytes ≡ Ok new → Stored memory new at bytes
unfolding store
stored-parts memory new at bytes ok =
    let parts = tests (is_out_of_range at (length bytes)) (list_any is_code (kinds_under memory at (length bytes))) _ new ok in
    record { inside = parts.0; none = parts.1; is = parts.2 }

inside-piece : (at : ℕ) (ys zs : List ℕ) → is_out_of_range at (length (ys ++ zs)) ≡ false
    → (is_out_of_range at (length ys) ≡ false) × (is_out_of_range (at + length ys) (length zs) ≡ false)
inside-piece at ys zs inside =
    let within = in-memory at (length (ys ++ zs)) inside in
    let size = length-append ys zs in
    (in-memory_from at (length ys) (omega (arith, within, size)), in-memory_from (at + length ys) (length zs) (omega (arith, within, size)))

pub refused-first : (memory : Memory) (at : ℕ) (ys zs : List ℕ) (fault : MemFault) → is_out_of_range at (length (ys ++ zs)) ≡ false
    → store memory at ys ≡ Err fault → store memory at (ys ++ zs) ≡ Err fault
refused-first memory at ys zs fault inside refused = by_test (list_any is_code (kinds_under memory at (length ys))) refl
  where
    within : is_out_of_range at (length ys) ≡ false
    within = (inside-piece at ys zs inside).0

    by_test : (b : Bool) → list_any is_code (kinds_under memory at (length ys)) ≡ b → store memory at (ys ++ zs) ≡ Err fault
    by_test true is =
        let any = subst (λ n. list_any is_code (kinds_under memory at n) ≡ true) (sym (length-append ys zs)) (any-first memory at (length ys) (length zs) is) in
        store-code memory at (ys ++ zs) inside any ∙ sym (store-code memory at ys within is) ∙ refused
    by_test false is = absurd (let ok = store-ok memory at ys within is in cc)

pub refused-rest : (memory first : Memory) (at : ℕ) (ys zs : List ℕ) (fault : MemFault) → is_out_of_range at (length (ys ++ zs)) ≡ false
    → store memory at ys ≡ Ok first → store first (at + length ys) zs ≡ Err fault → store memory at (ys ++ zs) ≡ Err fault
refused-rest memory first at ys zs fault inside ok refused = by_test (list_any is_code (kinds_under first (at + length ys) (length zs))) refl
  where
    within : is_out_of_range (at + length ys) (length zs) ≡ false
    within = (inside-piece at ys zs inside).1

    same : first.kinds ≡ memory.kinds
    same = ap (λ m. m.kinds) (stored-parts memory first at ys ok).is

    by_test : (b : Bool) → list_any is_code (kinds_under first (at + length ys) (length zs)) ≡ b → store memory at (ys ++ zs) ≡ Err fault
    by_test true is =
        let any = subst (λ n. list_any is_code (kinds_under memory at n) ≡ true) (sym (length-append ys zs))
        (any-rest memory first at (length ys) (length zs) same is) in
        store-code memory at (ys ++ zs) inside any ∙ sym (store-code first (at + length ys) zs within is) ∙ refused
    by_test false is = absurd (let done = store-ok first (at + length ys) zs within is in cc)

pub stored-both : (memory first second : Memory) (at : ℕ) (ys zs : List ℕ) → is_out_of_range at (length (ys ++ zs)) ≡ false
    → store memory at ys ≡ Ok first → store first (at + length ys) zs ≡ Ok second → store memory at (ys ++ zs) ≡ Ok second
stored-both memory first second at ys zs inside ok ok' =
    let one = stored-parts memory first at ys ok in
    let two = stored-parts first second (at + length ys) zs ok' in
    let none = subst (λ n. list_any is_code (kinds_under memory at n) ≡ false) (sym (length-append ys zs))
    (none-whole memory first at (length ys) (length zs) (ap (λ m. m.kinds) one.is) one.none two.none) in
    store-ok memory at (ys ++ zs) inside none
    ∙ ap Ok (sym (two.is ∙ rw one.is (ap (λ b. record memory { bytes = b }) (overwritten-more memory.bytes at ys zs))))
