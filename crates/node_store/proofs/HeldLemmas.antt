-- What a cache holds after its calls.
use Rattle.std.proofs.Common.{◌≡◌, ℕ, ◌<◌, Bool, true, false, cond, List, [], ◌∷◌, Option, Some, None, Result, Ok, Err, refl, sym, ap, subst, ⊎_elim, ◌∙◌, nat_eq, inl, inr}
use Rattle.std.specs.Prelude.{is_some, IsTrue, IsSome, OnOk, OnErr}
use Rattle.std.specs.Option.{option_map}
use Rattle.std.specs.Map.{lookup_entry, set_value}
use Rattle.std.specs.Cmp.{nat_eq_equiv}
use Rattle.std.proofs.lemmas.Bool.{eqb-true}
use Rattle.lru.specs.LruCache.{LruCache, lru_cache, promoted, put_entries}
use Rattle.lru.proofs.CallerLemmas.{Contains-promoted, Contains-put_entries, Contains-lookup, Contains-lookup_entry, lookup-put_entries}
use Rattle.lru.proofs.Pairs.{lookup-lookup_entry}
use Rattle.chain_defs.specs.Ext.{is_ext}
use Rattle.chain_tree.specs.Told.{Stored}
use Rattle.node_store.specs.Held.{held_at, Holds, NothingNew, OnlyAdds, HaveForm}

-- ---- What is found is held

pub found-held : (held : List (ℕ × Stored)) (e : ℕ) (it : Stored) → held_at held e ≡ Some it → Holds held e it
found-held held e it found =
    let there = Contains-lookup (nat_eq e) held it found in
    subst (λ (k : ℕ). Holds held k it) (sym (eqb-true e there.0 there.2)) there.1

-- ---- The last used goes first

pub promoted-new : (held : List (ℕ × Stored)) (e : ℕ) → NothingNew held (promoted (nat_eq e) held)
promoted-new held e = λ other it there. Contains-promoted (nat_eq e) held (other, it) there

promoted-by : (held : List (ℕ × Stored)) (e : ℕ) (first : Option (ℕ × Stored)) → lookup_entry (nat_eq e) held ≡ first
    → IsTrue (is_some (option_map (λ p. p.1) first)) → IsSome (held_at (promoted (nat_eq e) held) e)
promoted-by held e None is found = absurd cc
promoted-by held e (Some p) is found =
    let test = (Contains-lookup_entry (nat_eq e) held p is).1 in
    rw is (rw test refl)

pub promoted-found : (held : List (ℕ × Stored)) (e : ℕ) (answer : Bool) → answer ≡ is_some (held_at held e) → IsTrue answer → IsSome (held_at (promoted (nat_eq e) held) e)
promoted-found held e answer is found =
    promoted-by held e (lookup_entry (nat_eq e) held) refl (ap is_some (lookup-lookup_entry (nat_eq e) held) ∙ sym is ∙ found)

pub nothing_new-form : (old new : List (ℕ × Stored)) → NothingNew old new → HaveForm old → HaveForm new
nothing_new-form old new nothing form = λ e it there later. form e it (nothing e it there) later

-- ---- One that is written over with what it was

pub set-same : (held : List (ℕ × Stored)) (e : ℕ) (it : Stored) → held_at held e ≡ Some it → set_value (nat_eq e) held it ≡ held
set-same [] e it is = refl
set-same (p ∷ held) e it is = by_test (nat_eq e p.0) (λ later. set-same held e it later) is
  where
    by_test : (test : Bool) → (held_at held e ≡ Some it → set_value (nat_eq e) held it ≡ held) → cond test (Some p.1) (held_at held e) ≡ Some it
        → cond test ((p.0, it) ∷ held) (p ∷ set_value (nat_eq e) held it) ≡ p ∷ held
    by_test true rest same = let one : p.1 ≡ it = cc in ap (λ (v : Stored). (p.0, v) ∷ held) (sym one)
    by_test false rest same = ap (λ (later : List (ℕ × Stored)). p ∷ later) (rest same)

-- ---- One is put

pub put-adds : (held : List (ℕ × Stored)) (cap e : ℕ) (it : Stored) → OnlyAdds e it held (put_entries nat_eq (lru_cache held cap) e it)
put-adds held cap e it = λ other found there. elim (Contains-put_entries nat_eq (lru_cache held cap) e it (other, found) there) [
  | inl before ↦ inl before
  | inr put ↦ inr (⊎_elim (λ (same : other ≡ e). same) (λ equal. sym (eqb-true e other equal.2)) put.1, put.0)
]

pub put-found : (held : List (ℕ × Stored)) (cap e : ℕ) (it : Stored) → held_at (put_entries nat_eq (lru_cache held cap) e it) e ≡ Some it
put-found held cap e it = lookup-put_entries nat_eq (lru_cache held cap) e it nat_eq_equiv

pub adds-form : (old new : List (ℕ × Stored)) (e : ℕ) (it : Stored) → OnlyAdds e it old new → (0 < e → IsTrue (is_ext it.ext)) → HaveForm old → HaveForm new
adds-form old new e it adds form forms = λ other found there later. elim (adds other found there) [
  | inl before ↦ forms other found before later
  | inr same ↦ subst (λ (ext : Stored). IsTrue (is_ext ext.ext)) (sym same.1) (form (subst (λ (k : ℕ). 0 < k) same.0 later))
]

-- the cache after a `put`, whatever that answers
pub after-put : {X Y : Type 0} (result : Result X Y) (old new : LruCache ℕ Stored) (e : ℕ) (it : Stored)
    → OnOk result (new ≡ lru_cache (put_entries nat_eq old e it) old.cap) → OnErr result (new ≡ old) → OnlyAdds e it old.entries new.entries
after-put (Ok value) old new e it put kept =
    subst (λ (c : LruCache ℕ Stored). OnlyAdds e it old.entries c.entries) (sym put) (put-adds old.entries old.cap e it)
after-put (Err stop) old new e it put kept = λ other found there. inl (subst (λ (c : LruCache ℕ Stored). Holds c.entries other found) kept there)
