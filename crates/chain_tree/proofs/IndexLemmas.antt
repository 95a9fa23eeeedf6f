-- What a tree keeps beside its entries, at a genesis alone and with one more entry at the end.
use Rattle.std.proofs.Common.{◌≡◌, ℕ, zero, suc, ◌+◌, ◌^◌, ◌<◌, ◌≤◌, Bool, true, false, cond, List, [], ◌∷◌, ◌++◌, length, Option, Some, None, refl, sym, ap, ◌∙◌, subst, inl, inr, ◌⊎◌, arith}
use Rattle.std.specs.Prelude.{option_map, slice_get, IfSome}
use Rattle.std.specs.Option.{option_or}
use Rattle.std.specs.Str.{bytes_eq}
use Rattle.std.proofs.lemmas.Slice.Eq.{bytes_eq-Decides}
use Rattle.std.proofs.lemmas.List.{length_push}
use Rattle.std.proofs.lemmas.Option.{slice_get_within, same_Some}
use Rattle.chain_defs.proofs.KeptLaws.{slice_get-before, slice_get-push, slice_get-pushed, suc_of}
use Rattle.chain_tree.specs.declared.entry.Entry.{Entry}
use Rattle.chain_tree.specs.Entries.{entry_at, place_of_hash, IsAncestor, FollowsParent, IsTipEntry, IsTree}
use Rattle.chain_tree.specs.Indexed.{AreJumps, IsIndexed}
use Rattle.chain_tree.proofs.EntryLemmas.{ancestor-parent, ancestor-push, ancestor-below, parent_of-there, some_and, and_some, there-within}

-- an entry of a list with one more at the end
abbrev IsPushed : List Entry → Entry → ℕ → Entry → Type 0
IsPushed entries entry place other = ((place < length entries) × (entry_at entries place ≡ Some other)) ⊎ ((place ≡ length entries) × (entry ≡ other))

-- ---- Hashes

place_of_hash-push : (entries : List Entry) (entry : Entry) (hash : List ℕ)
    → place_of_hash (entries ++ entry ∷ []) hash
    ≡ option_or (place_of_hash entries hash) (cond (bytes_eq entry.hash hash) (Some (length entries)) None)
place_of_hash-push [] entry hash = refl
place_of_hash-push (first ∷ later) entry hash =
    by_test (bytes_eq first.hash hash) (bytes_eq entry.hash hash) (place_of_hash later hash) (place_of_hash-push later entry hash)
  where
    by_test : (here last : Bool) (found : Option ℕ) → place_of_hash (later ++ entry ∷ []) hash ≡ option_or found (cond last (Some (length later)) None)
        → cond here (Some 0) (option_map suc (place_of_hash (later ++ entry ∷ []) hash))
        ≡ option_or (cond here (Some 0) (option_map suc found)) (cond last (Some (suc (length later))) None)
    by_test true last found after = refl
    by_test false true None after = ap (option_map suc) after
    by_test false false None after = ap (option_map suc) after
    by_test false last (Some i) after = ap (option_map suc) after

-- A place that is found is below the length.
found-below : (entries : List Entry) (hash : List ℕ) (place : ℕ) → place_of_hash entries hash ≡ Some place → place < length entries
found-below [] hash place found = absurd (cc)
found-below (entry ∷ later) hash place found = by_test (bytes_eq entry.hash hash) found (found-below later hash)
  where
    by_test : (here : Bool) → cond here (Some 0) (option_map suc (place_of_hash later hash)) ≡ Some place
        → ((i : ℕ) → place_of_hash later hash ≡ Some i → i < length later) → place < suc (length later)
    by_test true found rest = let first : 0 ≡ place = grind arith in omega (arith, first)
    by_test false found rest =
        let behind = suc_of (place_of_hash later hash) place found in
        let below : behind.0 < length later = rest behind.0 behind.2 in
        omega (arith, below, behind.1)

pub found-within : (entries : List Entry) (hash : List ℕ) (found : Option ℕ) → found ≡ place_of_hash entries hash → IfSome found (λ place. place < length entries)
found-within entries hash None is = tt
found-within entries hash (Some place) is = found-below entries hash place (sym is)

own-hash : (hash : List ℕ) → bytes_eq hash hash ≡ true
own-hash hash = (bytes_eq-Decides hash hash).1 refl

-- the places with that of one more hash
pub finds-push : (entries : List Entry) (entry : Entry) (places : List ℕ → Option ℕ) → ((hash : List ℕ) → places hash ≡ place_of_hash entries hash)
    → place_of_hash entries entry.hash ≡ None → (hash : List ℕ)
    → cond (bytes_eq entry.hash hash) (Some (length entries)) (places hash) ≡ place_of_hash (entries ++ entry ∷ []) hash
finds-push entries entry places finds new hash =
    ap (cond (bytes_eq entry.hash hash) (Some (length entries))) (finds hash)
    ∙ by_test (bytes_eq entry.hash hash) (place_of_hash entries hash) (λ same. ap (place_of_hash entries) (sym ((bytes_eq-Decides entry.hash hash).0 same)) ∙ new)
    ∙ sym (place_of_hash-push entries entry hash)
  where
    by_test : (last : Bool) (found : Option ℕ) → (last ≡ true → found ≡ None)
        → cond last (Some (length entries)) found ≡ option_or found (cond last (Some (length entries)) None)
    by_test true found none = sym (ap (λ (o : Option ℕ). option_or o (Some (length entries))) (none refl))
    by_test false None none = refl
    by_test false (Some i) none = refl

-- ---- The entries

follows-push : (entries : List Entry) (entry other : Entry) → FollowsParent entries other → FollowsParent (entries ++ entry ∷ []) other
follows-push entries entry other follows =
    let parent = some_and (entry_at entries other.parent) (λ p. other.number ≡ p.number + 1) follows in
    let below : other.parent < length entries = slice_get_within entries other.parent parent.0 parent.1 in
    and_some (entry_at (entries ++ entry ∷ []) other.parent) (λ p. other.number ≡ p.number + 1) parent.0
    (slice_get-before entries (entry ∷ []) other.parent below ∙ parent.1) parent.2

pub IsTree-push : (entries : List Entry) (entry : Entry) → IsTree entries → length entries + 1 < 2 ^ 32 → FollowsParent entries entry
    → place_of_hash entries entry.hash ≡ None → IsTree (entries ++ entry ∷ [])
IsTree-push entries entry tree few follows new = record {
  genesis = and_some (entry_at (entries ++ entry ∷ []) 0) (λ e. e.number ≡ 0) first.0
      (slice_get-before entries (entry ∷ []) 0 (slice_get_within entries 0 first.0 first.1) ∙ first.1) first.2;
  few = let more : length (entries ++ entry ∷ []) ≡ length entries + 1 = length_push entries entry in omega (arith, more, few);
  earlier = λ place other there. earlier_at place other (slice_get-pushed entries entry (suc place) other there);
  follows = λ place other there. follows-push entries entry other (follows_at place other (slice_get-pushed entries entry (suc place) other there));
  numbers = λ place other there. numbers_at place other (slice_get-pushed entries entry place other there);
  found = λ place other there. place_of_hash-push entries entry other.hash ∙ found_at place other (slice_get-pushed entries entry place other there);
}
  where
    first : (e : Entry) × (entry_at entries 0 ≡ Some e) × (e.number ≡ 0)
    first = some_and (entry_at entries 0) (λ e. e.number ≡ 0) tree.genesis

    parent : (e : Entry) × (entry_at entries entry.parent ≡ Some e) × (entry.number ≡ e.number + 1)
    parent = some_and (entry_at entries entry.parent) (λ p. entry.number ≡ p.number + 1) follows

    below : entry.parent < length entries
    below = slice_get_within entries entry.parent parent.0 parent.1

    earlier_at : (place : ℕ) (other : Entry) → IsPushed entries entry (suc place) other → other.parent < suc place
    earlier_at place other (inl before) = tree.earlier place other before.1
    earlier_at place other (inr last) =
        let same : entry.parent ≡ other.parent = ap (λ (e : Entry). e.parent) last.1 in
        omega (arith, same, below, last.0)

    follows_at : (place : ℕ) (other : Entry) → IsPushed entries entry (suc place) other → FollowsParent entries other
    follows_at place other (inl before) = tree.follows place other before.1
    follows_at place other (inr last) = subst (FollowsParent entries) last.1 follows

    numbers_at : (place : ℕ) (other : Entry) → IsPushed entries entry place other → other.number ≤ place
    numbers_at place other (inl before) = tree.numbers place other before.1
    numbers_at place other (inr last) =
        let same : entry.number ≡ other.number = ap (λ (e : Entry). e.number) last.1 in
        let most : parent.0.number ≤ entry.parent = tree.numbers entry.parent parent.0 parent.1 in
        omega (arith, same, most, below, parent.2, last.0)

    found_at : (place : ℕ) (other : Entry) → IsPushed entries entry place other
        → option_or (place_of_hash entries other.hash) (cond (bytes_eq entry.hash other.hash) (Some (length entries)) None) ≡ Some place
    found_at place other (inl before) =
        ap (λ (found : Option ℕ). option_or found (cond (bytes_eq entry.hash other.hash) (Some (length entries)) None)) (tree.found place other before.1)
    found_at place other (inr last) =
        ap (λ (e : Entry). option_or (place_of_hash entries e.hash) (cond (bytes_eq entry.hash e.hash) (Some (length entries)) None)) (sym last.1)
        ∙ ap (λ (found : Option ℕ). option_or found (cond (bytes_eq entry.hash entry.hash) (Some (length entries)) None)) new
        ∙ ap (λ (b : Bool). cond b (Some (length entries)) None) (own-hash entry.hash)
        ∙ ap Some (sym last.0)

-- ---- The jumps

pub AreJumps-push : (entries : List Entry) (jumps : List ℕ) (entry : Entry) (jump : ℕ) → IsTree entries → AreJumps entries jumps
    → FollowsParent entries entry → IsAncestor entries entry.parent jump → AreJumps (entries ++ entry ∷ []) (jumps ++ jump ∷ [])
AreJumps-push entries jumps entry jump tree jumps_up follows up = record {
  each = omega (arith, length_push entries entry, length_push jumps jump, jumps_up.each);
  up = λ place other there. up_at place other (slice_get-pushed jumps jump place other there);
  earlier = λ place other there. earlier_at place other (slice_get-pushed jumps jump (suc place) other there);
}
  where
    below : entry.parent < length entries
    below = there-within entries entry.parent (λ p. entry.number ≡ p.number + 1) follows

    most : jump ≤ entry.parent
    most = ancestor-below entries entry.parent jump tree up

    up_at : (place other : ℕ) → ((place < length jumps) × (slice_get jumps place ≡ Some other)) ⊎ ((place ≡ length jumps) × (jump ≡ other))
        → IsAncestor (entries ++ entry ∷ []) place other
    up_at place other (inl before) = ancestor-push entries entry place other (jumps_up.up place other before.1)
    up_at place other (inr last) =
        let here : place ≡ length entries = omega (arith, last.0, jumps_up.each) in
        let there : entry_at (entries ++ entry ∷ []) place ≡ Some entry = ap (entry_at (entries ++ entry ∷ [])) here ∙ slice_get-push entries entry in
        ancestor-parent (entries ++ entry ∷ []) place entry.parent other
        (parent_of-there (entries ++ entry ∷ []) place entry (omega (arith, here, below)) there)
        (subst (IsAncestor (entries ++ entry ∷ []) entry.parent) last.1 (ancestor-push entries entry entry.parent jump up))

    earlier_at : (place other : ℕ) → ((suc place < length jumps) × (slice_get jumps (suc place) ≡ Some other)) ⊎ ((suc place ≡ length jumps) × (jump ≡ other))
        → other < suc place
    earlier_at place other (inl before) = jumps_up.earlier place other before.1
    earlier_at place other (inr last) = omega (arith, last.0, last.1, jumps_up.each, below, most)

-- ---- A genesis alone

pub IsIndexed-one : (genesis : Entry) (places : List ℕ → Option ℕ) → genesis.number ≡ 0
    → ((hash : List ℕ) → places hash ≡ cond (bytes_eq genesis.hash hash) (Some 0) None) → IsIndexed (genesis ∷ []) (0 ∷ []) places 0
IsIndexed-one genesis places first finds = record {
  tree = record {
    genesis = first;
    few = omega arith;
    earlier = λ place entry there. absurd (cc);
    follows = λ place entry there. absurd (cc);
    numbers = numbers;
    found = found;
  };
  jumps_up = record {
    each = refl;
    up = up;
    earlier = λ place jump there. absurd (cc);
  };
  finds = finds;
  top = record {
    top = genesis;
    there = refl;
    greatest = greatest;
    earliest = λ other entry below there. absurd (omega (arith, below));
  };
}
  where
    numbers : (place : ℕ) (entry : Entry) → entry_at (genesis ∷ []) place ≡ Some entry → entry.number ≤ place
    numbers zero entry there =
        let same : genesis.number ≡ entry.number = ap (λ (e : Entry). e.number) (same_Some genesis entry there) in
        omega (arith, same, first)
    numbers (suc place) entry there = absurd (cc)

    found : (place : ℕ) (entry : Entry) → entry_at (genesis ∷ []) place ≡ Some entry → place_of_hash (genesis ∷ []) entry.hash ≡ Some place
    found zero entry there =
        ap (λ (e : Entry). place_of_hash (genesis ∷ []) e.hash) (sym (same_Some genesis entry there))
        ∙ ap (λ (b : Bool). cond b (Some 0) None) (own-hash genesis.hash)
    found (suc place) entry there = absurd (cc)

    up : (place jump : ℕ) → slice_get (0 ∷ []) place ≡ Some jump → IsAncestor (genesis ∷ []) place jump
    up zero jump there = (0, there)
    up (suc place) jump there = absurd (cc)

    greatest : (other : ℕ) (entry : Entry) → entry_at (genesis ∷ []) other ≡ Some entry → entry.number ≤ genesis.number
    greatest zero entry there =
        let same : genesis.number ≡ entry.number = ap (λ (e : Entry). e.number) (same_Some genesis entry there) in
        omega (arith, same)
    greatest (suc other) entry there = absurd (cc)

-- ---- All of it

-- maps with the same places
pub IsIndexed-same : (entries : List Entry) (jumps : List ℕ) (places others : List ℕ → Option ℕ) (tip : ℕ) → IsIndexed entries jumps places tip
    → ((hash : List ℕ) → others hash ≡ places hash) → IsIndexed entries jumps others tip
IsIndexed-same entries jumps places others tip indexed same = record {
  tree = indexed.tree;
  jumps_up = indexed.jumps_up;
  finds = λ hash. same hash ∙ indexed.finds hash;
  top = indexed.top;
}

pub IsIndexed-push : (entries : List Entry) (jumps : List ℕ) (places after : List ℕ → Option ℕ) (tip : ℕ) (entry : Entry) (place jump next : ℕ)
    → IsIndexed entries jumps places tip → length entries + 1 < 2 ^ 32 → FollowsParent entries entry → place_of_hash entries entry.hash ≡ None
    → place ≡ length entries → ((hash : List ℕ) → after hash ≡ cond (bytes_eq entry.hash hash) (Some place) (places hash))
    → IsAncestor entries entry.parent jump → IsTipEntry (entries ++ entry ∷ []) next
    → IsIndexed (entries ++ entry ∷ []) (jumps ++ jump ∷ []) after next
IsIndexed-push entries jumps places after tip entry place jump next indexed few follows new last puts up top = record {
  tree = IsTree-push entries entry indexed.tree few follows new;
  jumps_up = AreJumps-push entries jumps entry jump indexed.tree indexed.jumps_up follows up;
  finds = λ hash. puts hash ∙ ap (λ (n : ℕ). cond (bytes_eq entry.hash hash) (Some n) (places hash)) last
      ∙ finds-push entries entry places indexed.finds new hash;
  top = top;
}
