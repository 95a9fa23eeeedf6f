-- Entries that are linked by their hashes: one more, and a walk along them.
use Rattle.std.proofs.Common.{◌≡◌, ℕ, suc, ◌<◌, Bool, true, false, cond, List, [], ◌∷◌, ◌++◌, length, take, Option, Some, None, refl, sym, ap, ◌∙◌, subst, inl, inr, ◌⊎◌, arith}
use Rattle.std.specs.Prelude.{◌&&◌, ◌||◌, option_map, slice_get}
use Rattle.std.specs.Option.{option_or}
use Rattle.std.specs.List.{list_any}
use Rattle.std.specs.Str.{bytes_eq}
use Rattle.std.proofs.lemmas.Bool.{or_from, and_left}
use Rattle.std.proofs.lemmas.Slice.Eq.{bytes_eq-Decides}
use Rattle.std.proofs.lemmas.List.{take-append-le, take_at}
use Rattle.chain_defs.proofs.KeptLaws.{slice_get-pushed}
use Rattle.uncle_rules.specs.declared.index.Entry.{Entry}
use Rattle.uncle_rules.specs.Linked.{last_of, IsLinked}

-- ---- One more

last_of-push : (entries : List Entry) (entry : Entry) (hash : List ℕ)
    → last_of (entries ++ entry ∷ []) hash ≡ cond (bytes_eq entry.hash hash) (Some (length entries)) (last_of entries hash)
unfolding last_of
last_of-push [] entry hash = refl
last_of-push (first ∷ later) entry hash =
    ap (λ (found : Option ℕ). option_or (option_map suc found) (cond (bytes_eq first.hash hash) (Some 0) None)) (last_of-push later entry hash)
    ∙ by_test (bytes_eq entry.hash hash)
  where
    by_test : (last : Bool) → option_or (option_map suc (cond last (Some (length later)) (last_of later hash))) (cond (bytes_eq first.hash hash) (Some 0) None)
        ≡ cond last (Some (suc (length later))) (option_or (option_map suc (last_of later hash)) (cond (bytes_eq first.hash hash) (Some 0) None))
    by_test true = refl
    by_test false = refl

pub IsLinked-none : (latest : List ℕ → Option ℕ) → ((hash : List ℕ) → latest hash ≡ None) → IsLinked [] latest
unfolding last_of
IsLinked-none latest none = record { last = none; earlier = λ i entry there. absurd (cc) }

-- maps with the same entries
pub IsLinked-same : (entries : List Entry) (latest others : List ℕ → Option ℕ) → IsLinked entries latest → ((hash : List ℕ) → others hash ≡ latest hash)
    → IsLinked entries others
IsLinked-same entries latest others linked same = record { last = λ hash. same hash ∙ linked.last hash; earlier = linked.earlier }

pub IsLinked-push : (entries : List Entry) (latest after : List ℕ → Option ℕ) (entry : Entry) (index : ℕ) → IsLinked entries latest
    → index ≡ length entries → entry.earlier ≡ latest entry.hash
    → ((hash : List ℕ) → after hash ≡ cond (bytes_eq entry.hash hash) (Some index) (latest hash)) → IsLinked (entries ++ entry ∷ []) after
IsLinked-push entries latest after entry index linked is link puts = record {
  last = λ hash. puts hash ∙ ap (λ (n : ℕ). cond (bytes_eq entry.hash hash) (Some n) (latest hash)) is
      ∙ ap (λ (found : Option ℕ). cond (bytes_eq entry.hash hash) (Some (length entries)) found) (linked.last hash) ∙ sym (last_of-push entries entry hash);
  earlier = λ i other there. at i other (slice_get-pushed entries entry i other there);
}
  where
    at : (i : ℕ) (other : Entry) → ((i < length entries) × (slice_get entries i ≡ Some other)) ⊎ ((i ≡ length entries) × (entry ≡ other))
        → other.earlier ≡ last_of (take i (entries ++ entry ∷ [])) other.hash
    at i other (inl before) =
        linked.earlier i other before.1
        ∙ ap (λ (front : List Entry). last_of front other.hash) (sym (take-append-le i entries (entry ∷ []) (omega (arith, before.0))))
    at i other (inr last) =
        subst (λ (e : Entry). e.earlier ≡ last_of (take i (entries ++ entry ∷ [])) e.hash) last.1 (
        link ∙ linked.last entry.hash
        ∙ ap (λ (front : List Entry). last_of front entry.hash) (sym (take_at entries (entry ∷ []) i (sym last.0)))
        )

-- ---- A walk

-- an entry with a hash passes a test
abbrev pub passes_with : List ℕ → (Entry → Bool) → Entry → Bool
passes_with hash test entry = bytes_eq entry.hash hash && test entry

pub any-unlinked : (hash : List ℕ) (test : Entry → Bool) (entries : List Entry) → last_of entries hash ≡ None → list_any (passes_with hash test) entries ≡ false
unfolding last_of
any-unlinked hash test [] none = refl
any-unlinked hash test (first ∷ later) none = by_parts (last_of later hash) refl (bytes_eq first.hash hash) refl none (any-unlinked hash test later)
  where
    by_parts : (behind : Option ℕ) → last_of later hash ≡ behind → (here : Bool) → bytes_eq first.hash hash ≡ here
        → option_or (option_map suc behind) (cond here (Some 0) None) ≡ None
        → (last_of later hash ≡ None → list_any (passes_with hash test) later ≡ false) → list_any (passes_with hash test) (first ∷ later) ≡ false
    by_parts (Some i) is here at none rest = absurd (cc)
    by_parts None is true at none rest = absurd (cc)
    by_parts None is false at none rest =
        or_from (passes_with hash test first) (list_any (passes_with hash test) later) (and_left (bytes_eq first.hash hash) (test first) at) (rest is)

-- the last entry with a hash, after those before it
pub record IsLast (hash : List ℕ) (test : Entry → Bool) (entries : List Entry) (i : ℕ) : Type 0 where
  pub entry : Entry
  pub there : slice_get entries i ≡ Some entry
  pub same : entry.hash ≡ hash
  pub any : list_any (passes_with hash test) entries ≡ (list_any (passes_with hash test) (take i entries) || test entry)

pub or-false : (b : Bool) → (b || false) ≡ b
or-false true = refl
or-false false = refl

or-assoc : (a b d : Bool) → (a || (b || d)) ≡ ((a || b) || d)
or-assoc true b d = refl
or-assoc false b d = refl

pub any-linked : (hash : List ℕ) (test : Entry → Bool) (entries : List Entry) (i : ℕ) → last_of entries hash ≡ Some i → IsLast hash test entries i
unfolding last_of
any-linked hash test [] i found = absurd (cc)
any-linked hash test (first ∷ later) i found =
    by_parts (last_of later hash) refl (bytes_eq first.hash hash) refl found (any-linked hash test later)
  where
    by_parts : (behind : Option ℕ) → last_of later hash ≡ behind → (here : Bool) → bytes_eq first.hash hash ≡ here
        → option_or (option_map suc behind) (cond here (Some 0) None) ≡ Some i
        → ((j : ℕ) → last_of later hash ≡ Some j → IsLast hash test later j) → IsLast hash test (first ∷ later) i
    by_parts (Some j) is here at found rest =
        let last = rest j is in
        let next : suc j ≡ i = grind arith in
        subst (IsLast hash test (first ∷ later)) next (record {
          entry = last.entry;
          there = last.there;
          same = last.same;
          any = ap (λ (r : Bool). passes_with hash test first || r) last.any
              ∙ or-assoc (passes_with hash test first) (list_any (passes_with hash test) (take j later)) (test last.entry);
        })
    by_parts None is true at found rest =
        let zeroth : 0 ≡ i = grind arith in
        subst (IsLast hash test (first ∷ later)) zeroth (record {
          entry = first;
          there = refl;
          same = (bytes_eq-Decides first.hash hash).0 at;
          any = ap (λ (r : Bool). passes_with hash test first || r) (any-unlinked hash test later is)
              ∙ ap (λ (t : Bool). (t && test first) || false) at ∙ or-false (test first);
        })
    by_parts None is false at found rest = absurd (cc)
