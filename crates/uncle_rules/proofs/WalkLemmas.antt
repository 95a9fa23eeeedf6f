-- A walk along the entries with one hash.
use Rattle.std.proofs.Common.{◌≡◌, ℕ, zero, suc, ◌<◌, Bool, true, false, List, [], ◌∷◌, length, map, take, Option, Some, None, refl, sym, ap, ◌∙◌, subst, arith}
use Rattle.std.specs.Prelude.{◌&&◌, ◌||◌, slice_get}
use Rattle.std.specs.List.{list_any}
use Rattle.std.proofs.lemmas.Bool.{or_right}
use Rattle.std.proofs.lemmas.Option.{slice_get_within}
use Rattle.uncle_rules.specs.declared.index.Entry.{Entry}
use Rattle.uncle_rules.specs.Embedded.{Embedded}
use Rattle.uncle_rules.specs.Known.{has_number, is_on, is_named_on}
use Rattle.uncle_rules.specs.Linked.{last_of, IsLinked}
use Rattle.uncle_rules.proofs.KnownLemmas.{any-map}
use Rattle.uncle_rules.proofs.LinkLemmas.{passes_with, any-linked, or-false}

-- an entry that is looked for, by its number and its place
abbrev pub is_at : List ℕ → Option ℕ → Entry → Bool
is_at places number entry = has_number number entry.number && is_on places entry.place

abbrev pub is_one : List ℕ → List ℕ → Option ℕ → Entry → Bool
is_one places hash number = passes_with hash (is_at places number)

-- how many entries may be left
abbrev pub left_of : Option ℕ → ℕ
left_of None = 0
left_of (Some i) = suc i

-- an entry as clauses see it
abbrev pub seen : Entry → Embedded
seen entry = record { hash = entry.hash; number = entry.number; place = entry.place }

pub any-seen : (places hash : List ℕ) (number : Option ℕ) (entries : List Entry)
    → list_any (is_named_on places hash number) (map seen entries) ≡ list_any (is_one places hash number) entries
any-seen places hash number entries = any-map (is_named_on places hash number) seen entries

-- ---- A step

-- an element of a prefix is one of the list
record IsInFront {X : Type 0} (n : ℕ) (xs : List X) (i : ℕ) (x : X) : Type 0 where
  there : slice_get xs i ≡ Some x
  front : take i (take n xs) ≡ take i xs
  below : i < n

in-front : {X : Type 0} (n : ℕ) (xs : List X) (i : ℕ) (x : X) → slice_get (take n xs) i ≡ Some x → IsInFront n xs i x
in-front zero xs i x there = absurd (cc)
in-front (suc n) [] i x there = absurd (cc)
in-front (suc n) (y ∷ ys) zero x there = record { there = there; front = refl; below = omega arith }
in-front (suc n) (y ∷ ys) (suc i) x there =
    let rest = in-front n ys i x there in
    let below : i < n = rest.below in
    record { there = rest.there; front = ap (λ l. y ∷ l) rest.front; below = omega (arith, below) }

-- the next of the first n entries
pub record IsStep (places hash : List ℕ) (number : Option ℕ) (entries : List Entry) (n i : ℕ) : Type 0 where
  pub entry : Entry
  pub there : slice_get entries i ≡ Some entry
  pub within : i < length entries
  pub same : entry.hash ≡ hash
  pub below : i < n
  pub any : list_any (is_one places hash number) (take n entries) ≡ (list_any (is_one places hash number) (take i entries) || is_at places number entry)

pub step : (places hash : List ℕ) (number : Option ℕ) (entries : List Entry) (n i : ℕ) → last_of (take n entries) hash ≡ Some i
    → IsStep places hash number entries n i
step places hash number entries n i found =
    let last = any-linked hash (is_at places number) (take n entries) i found in
    let at = in-front n entries i last.entry last.there in
    record {
      entry = last.entry;
      there = at.there;
      within = slice_get_within entries i last.entry at.there;
      same = last.same;
      below = at.below;
      any = last.any ∙ ap (λ (front : List Entry). list_any (is_one places hash number) front || is_at places number last.entry) at.front;
    }

-- it passes
pub passing : (places hash : List ℕ) (number : Option ℕ) (entries : List Entry) (n i : ℕ) (entry : Entry) → last_of (take n entries) hash ≡ Some i
    → slice_get entries i ≡ Some entry → is_at places number entry ≡ true → list_any (is_one places hash number) (take n entries) ≡ true
passing places hash number entries n i entry found there passes =
    let here = step places hash number entries n i found in
    here.any ∙ or_right (list_any (is_one places hash number) (take i entries)) (is_at places number here.entry)
    (ap (λ (e : Option Entry). elim e [ None ↦ true | Some x ↦ is_at places number x ]) (sym here.there ∙ there) ∙ passes)

-- it does not
pub failing : (places hash : List ℕ) (number : Option ℕ) (entries : List Entry) (n i : ℕ) (entry : Entry) → last_of (take n entries) hash ≡ Some i
    → slice_get entries i ≡ Some entry → is_at places number entry ≡ false
    → list_any (is_one places hash number) (take n entries) ≡ list_any (is_one places hash number) (take i entries)
failing places hash number entries n i entry found there fails =
    let here = step places hash number entries n i found in
    let test : is_at places number here.entry ≡ false =
    ap (λ (e : Option Entry). elim e [ None ↦ true | Some x ↦ is_at places number x ]) (sym here.there ∙ there) ∙ fails in
    here.any ∙ ap (λ (t : Bool). list_any (is_one places hash number) (take i entries) || t) test
    ∙ or-false (list_any (is_one places hash number) (take i entries))

-- the one before it is the next of those before it
pub before : (hash : List ℕ) (entries : List Entry) (latest : List ℕ → Option ℕ) (n i : ℕ) (entry : Entry) → IsLinked entries latest
    → last_of (take n entries) hash ≡ Some i → slice_get entries i ≡ Some entry → entry.earlier ≡ last_of (take i entries) hash
before hash entries latest n i entry linked found there =
    let here = step [] hash None entries n i found in
    let same : entry.hash ≡ hash =
    ap (λ (e : Option Entry). elim e [ None ↦ hash | Some x ↦ x.hash ]) (sym there ∙ here.there) ∙ here.same in
    linked.earlier i entry there ∙ ap (last_of (take i entries)) same

pub fewer : (hash : List ℕ) (entries : List Entry) (i : ℕ) (next earlier : Option ℕ) → next ≡ Some i → earlier ≡ last_of (take i entries) hash
    → left_of earlier < left_of next
fewer hash entries i next earlier is before =
    subst (λ (o : Option ℕ). left_of earlier < left_of o) (sym is) (by_earlier earlier before)
  where
    by_earlier : (e : Option ℕ) → e ≡ last_of (take i entries) hash → left_of e < suc i
    by_earlier None before = omega arith
    by_earlier (Some j) before =
        let below : j < i = (step [] hash None entries i j (sym before)).below in
        omega (arith, below)
