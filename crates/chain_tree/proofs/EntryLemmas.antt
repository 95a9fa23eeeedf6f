-- Paths by parents, and what the entries of a tree are.
use Rattle.std.proofs.Common.{◌≡◌, ℕ, zero, suc, ◌+◌, ◌<◌, ◌≤◌, List, [], ◌∷◌, ◌++◌, length, Option, Some, None, refl, sym, ap, ◌∙◌, subst, arith}
use Rattle.std.specs.Prelude.{option_map, slice_get, slice_index_or, IsSomeAnd}
use Rattle.std.specs.Option.{option_and_then}
use Rattle.std.proofs.lemmas.Option.{slice_get_within, slice_get-get_or, same_Some}
use Rattle.chain_defs.proofs.KeptLaws.{slice_get-before}
use Rattle.chain_tree.specs.declared.entry.Entry.{Entry}
use Rattle.chain_tree.specs.Entries.{entry_at, parent_of, place_up, IsAncestor, IsTree}
use Rattle.chain_tree.specs.Indexed.{AreJumps}

-- ---- Paths

pub ancestor-parent : (entries : List Entry) (place parent other : ℕ) → parent_of entries place ≡ Some parent → IsAncestor entries parent other
    → IsAncestor entries place other
ancestor-parent entries place parent other is up = (suc up.0, ap (option_and_then (place_up entries up.0)) is ∙ up.1)

-- the parent after the first of some steps
pub first_step : (entries : List Entry) (steps : ℕ) (found : Option ℕ) (other : ℕ) → option_and_then (place_up entries steps) found ≡ Some other
    → (parent : ℕ) × (found ≡ Some parent) × (place_up entries steps parent ≡ Some other)
first_step entries steps None other is = absurd (cc)
first_step entries steps (Some parent) other is = (parent, refl, is)

steps-then : (steps : ℕ) (entries : List Entry) (place middle other : ℕ) → place_up entries steps place ≡ Some middle → IsAncestor entries middle other
    → IsAncestor entries place other
steps-then zero entries place middle other is up = subst (λ (at : ℕ). IsAncestor entries at other) (sym (same_Some place middle is)) up
steps-then (suc steps) entries place middle other is up =
    let first = first_step entries steps (parent_of entries place) middle is in
    ancestor-parent entries place first.0 other first.1 (steps-then steps entries first.0 middle other first.2 up)

-- An ancestor of an ancestor is one.
pub ancestor-ancestor : (entries : List Entry) (place middle other : ℕ) → IsAncestor entries place middle → IsAncestor entries middle other
    → IsAncestor entries place other
ancestor-ancestor entries place middle other first second = steps-then first.0 entries place middle other first.1 second

-- One more entry changes no path.
parent_of-push : (entries : List Entry) (entry : Entry) (place parent : ℕ) → parent_of entries place ≡ Some parent
    → parent_of (entries ++ entry ∷ []) place ≡ Some parent
parent_of-push entries entry zero parent is = absurd (cc)
parent_of-push entries entry (suc place) parent is = by_entry (entry_at entries (suc place)) refl is
  where
    by_entry : (found : Option Entry) → entry_at entries (suc place) ≡ found → option_map (λ (e : Entry). e.parent) found ≡ Some parent
        → parent_of (entries ++ entry ∷ []) (suc place) ≡ Some parent
    by_entry None there is = absurd (cc)
    by_entry (Some other) there is =
        ap (option_map (λ (e : Entry). e.parent)) (slice_get-before entries (entry ∷ []) (suc place) (slice_get_within entries (suc place) other there) ∙ there) ∙ is

steps-push : (steps : ℕ) (entries : List Entry) (entry : Entry) (place other : ℕ) → place_up entries steps place ≡ Some other
    → place_up (entries ++ entry ∷ []) steps place ≡ Some other
steps-push zero entries entry place other is = is
steps-push (suc steps) entries entry place other is =
    let first = first_step entries steps (parent_of entries place) other is in
    ap (option_and_then (place_up (entries ++ entry ∷ []) steps)) (parent_of-push entries entry place first.0 first.1)
    ∙ steps-push steps entries entry first.0 other first.2

pub ancestor-push : (entries : List Entry) (entry : Entry) (place other : ℕ) → IsAncestor entries place other → IsAncestor (entries ++ entry ∷ []) place other
ancestor-push entries entry place other up = (up.0, steps-push up.0 entries entry place other up.1)

pub parent_of-there : (entries : List Entry) (place : ℕ) (entry : Entry) → 0 < place → entry_at entries place ≡ Some entry
    → parent_of entries place ≡ Some entry.parent
parent_of-there entries zero entry above there = absurd (omega (arith, above))
parent_of-there entries (suc place) entry above there = ap (option_map (λ (e : Entry). e.parent)) there

-- ---- A step up

-- what a parent is: earlier, on the path, and its number one less
pub record IsParent (entries : List Entry) (place : ℕ) (entry : Entry) : Type 0 where
  pub earlier : entry.parent < place
  pub up : IsAncestor entries place entry.parent
  pub parent : Entry
  pub there : entry_at entries entry.parent ≡ Some parent
  pub next : entry.number ≡ parent.number + 1

-- the entry of a fact on it
pub some_and : (found : Option Entry) (P : Entry → Type 0) → IsSomeAnd found P → (entry : Entry) × (found ≡ Some entry) × P entry
some_and None P is = absurd is
some_and (Some entry) P is = (entry, refl, is)

pub and_some : (found : Option Entry) (P : Entry → Type 0) (entry : Entry) → found ≡ Some entry → P entry → IsSomeAnd found P
and_some found P entry is holds = subst (λ (o : Option Entry). IsSomeAnd o P) (sym is) holds

parent-of-later : (entries : List Entry) (place : ℕ) (entry : Entry) → IsTree entries → entry_at entries (suc place) ≡ Some entry
    → IsParent entries (suc place) entry
parent-of-later entries place entry tree there =
    let parent = some_and (entry_at entries entry.parent) (λ p. entry.number ≡ p.number + 1) (tree.follows place entry there) in
    record {
      earlier = tree.earlier place entry there;
      up = (1, ap (option_and_then (place_up entries 0)) (ap (option_map (λ (e : Entry). e.parent)) there));
      parent = parent.0;
      there = parent.1;
      next = parent.2;
    }

-- An entry whose number is above another has a parent.
pub parent-there : (entries : List Entry) (place number : ℕ) (entry : Entry) → IsTree entries → entry_at entries place ≡ Some entry → number < entry.number
    → IsParent entries place entry
parent-there entries zero number entry tree there above =
    let genesis = some_and (entry_at entries 0) (λ e. e.number ≡ 0) tree.genesis in
    let same : genesis.0 ≡ entry = same_Some genesis.0 entry (sym genesis.1 ∙ there) in
    let number_is : genesis.0.number ≡ entry.number = ap (λ (e : Entry). e.number) same in
    absurd (omega (arith, above, genesis.2, number_is))
parent-there entries (suc place) number entry tree there above = parent-of-later entries place entry tree there

-- A place on the path is not after.
steps-below : (steps : ℕ) (entries : List Entry) (place other : ℕ) → IsTree entries → place_up entries steps place ≡ Some other → other ≤ place
steps-below zero entries place other tree is = let same = same_Some place other is in omega (arith, same)
steps-below (suc steps) entries place other tree is =
    let first = first_step entries steps (parent_of entries place) other is in
    let rest : other ≤ first.0 = steps-below steps entries first.0 other tree first.2 in
    let below : first.0 < place = earlier_parent place first.0 first.1 in
    omega (arith, rest, below)
  where
    earlier_parent : (at parent : ℕ) → parent_of entries at ≡ Some parent → parent < at
    earlier_parent zero parent found = absurd (cc)
    earlier_parent (suc at) parent found = by_entry (entry_at entries (suc at)) refl found
      where
        by_entry : (there : Option Entry) → entry_at entries (suc at) ≡ there → option_map (λ (e : Entry). e.parent) there ≡ Some parent → parent < suc at
        by_entry None is found = absurd (cc)
        by_entry (Some entry) is found =
            let same : entry.parent ≡ parent = same_Some entry.parent parent found in
            let below : entry.parent < suc at = tree.earlier at entry is in
            omega (arith, same, below)

pub ancestor-below : (entries : List Entry) (place other : ℕ) → IsTree entries → IsAncestor entries place other → other ≤ place
ancestor-below entries place other tree up = steps-below up.0 entries place other tree up.1

-- Nor is its number greater.
steps-number : (steps : ℕ) (entries : List Entry) (place other : ℕ) (entry above : Entry) → IsTree entries → entry_at entries place ≡ Some entry
    → entry_at entries other ≡ Some above → place_up entries steps place ≡ Some other → above.number ≤ entry.number
steps-number zero entries place other entry above tree there up is =
    let same : entry ≡ above = same_Some entry above (sym there ∙ ap (entry_at entries) (same_Some place other is) ∙ up) in
    let number : entry.number ≡ above.number = ap (λ (e : Entry). e.number) same in
    omega (arith, number)
steps-number (suc steps) entries zero other entry above tree there up is = absurd (cc)
steps-number (suc steps) entries (suc place) other entry above tree there up is =
    let parent = parent-of-later entries place entry tree there in
    let first = first_step entries steps (parent_of entries (suc place)) other is in
    let at : entry.parent ≡ first.0 = same_Some entry.parent first.0 (sym (ap (option_map (λ (e : Entry). e.parent)) there) ∙ first.1) in
    let rest : above.number ≤ parent.parent.number =
    steps-number steps entries first.0 other parent.parent above tree (ap (entry_at entries) (sym at) ∙ parent.there) up first.2 in
    omega (arith, rest, parent.next)

pub ancestor-number : (entries : List Entry) (place other : ℕ) (entry above : Entry) → IsTree entries → entry_at entries place ≡ Some entry
    → entry_at entries other ≡ Some above → IsAncestor entries place other → above.number ≤ entry.number
ancestor-number entries place other entry above tree there up path = steps-number path.0 entries place other entry above tree there up path.1

-- ---- Jumps

-- what a jump is
pub record IsJump (entries : List Entry) (place jump : ℕ) : Type 0 where
  pub up : IsAncestor entries place jump
  pub at_most : jump ≤ place
  pub earlier : 0 < place → jump < place
  pub lower : (d : Entry) → (slice_index_or entries jump d).number ≤ (slice_index_or entries place d).number

pub jump-read : (entries : List Entry) (jumps : List ℕ) (place : ℕ) → IsTree entries → AreJumps entries jumps → place < length entries
    → IsJump entries place (slice_index_or jumps place 0)
jump-read entries jumps place tree jumps_up below = is (slice_index_or jumps place 0) (slice_get-get_or jumps place 0 (omega (arith, below, jumps_up.each)))
  where
    nearer : (at jump : ℕ) → slice_get jumps at ≡ Some jump → 0 < at → jump < at
    nearer zero jump there some = absurd (omega (arith, some))
    nearer (suc at) jump there some = jumps_up.earlier at jump there

    is : (jump : ℕ) → slice_get jumps place ≡ Some jump → IsJump entries place jump
    is jump there =
        let path : IsAncestor entries place jump = jumps_up.up place jump there in
        let most : jump ≤ place = ancestor-below entries place jump tree path in
        record {
          up = path;
          at_most = most;
          earlier = nearer place jump there;
          lower = λ d. ancestor-number entries place jump (slice_index_or entries place d) (slice_index_or entries jump d) tree
              (slice_get-get_or entries place d below) (slice_get-get_or entries jump d (omega (arith, most, below))) path;
        }

-- A place with a number above another.
pub record IsAbove (entries : List Entry) (place number : ℕ) : Type 0 where
  pub within : place < length entries
  pub behind : 0 < place
  pub parent : (d : Entry) → IsParent entries place (slice_index_or entries place d)
  pub high : (d : Entry) → number < (slice_index_or entries place d).number

pub above-there : (entries : List Entry) (place number : ℕ) → IsTree entries → IsSomeAnd (entry_at entries place) (λ entry. number < entry.number)
    → IsAbove entries place number
above-there entries place number tree above = record {
  within = within;
  behind = omega (arith, (parent-there entries place number entry.0 tree entry.1 entry.2).earlier);
  parent = λ d. parent-there entries place number (slice_index_or entries place d) tree (slice_get-get_or entries place d within) (high_at d);
  high = high_at;
}
  where
    entry : (e : Entry) × (entry_at entries place ≡ Some e) × (number < e.number)
    entry = some_and (entry_at entries place) (λ e. number < e.number) above

    within : place < length entries
    within = slice_get_within entries place entry.0 entry.1

    high_at : (d : Entry) → number < (slice_index_or entries place d).number
    high_at d =
        let same : entry.0 ≡ slice_index_or entries place d = same_Some entry.0 (slice_index_or entries place d) (sym entry.1 ∙ slice_get-get_or entries place d within) in
        let number_is : entry.0.number ≡ (slice_index_or entries place d).number = ap (λ (e : Entry). e.number) same in
        omega (arith, number_is, entry.2)

-- what holds of the number that is read at a place
pub number-read : (entries : List Entry) (place : ℕ) (P : ℕ → Type 0) (d : Entry) → place < length entries → P (slice_index_or entries place d).number
    → IsSomeAnd (entry_at entries place) (λ entry. P entry.number)
number-read entries place P d below holds =
    and_some (entry_at entries place) (λ entry. P entry.number) (slice_index_or entries place d) (slice_get-get_or entries place d below) holds

-- The parent of a place above a number is not below it.
pub parent-high : (entries : List Entry) (place number : ℕ) (d : Entry) → IsAbove entries place number
    → IsSomeAnd (entry_at entries (slice_index_or entries place d).parent) (λ entry. number ≤ entry.number)
parent-high entries place number d above =
    let parent = above.parent d in
    let high = above.high d in
    and_some (entry_at entries (slice_index_or entries place d).parent) (λ entry. number ≤ entry.number) parent.parent parent.there (omega (arith, parent.next, high))

pub there-within : (entries : List Entry) (place : ℕ) (P : Entry → Type 0) → IsSomeAnd (entry_at entries place) P → place < length entries
there-within entries place P holds = let entry = some_and (entry_at entries place) P holds in slice_get_within entries place entry.0 entry.1

-- A number that is at least another and reads as at most it is that one.
pub number-exact : (entries : List Entry) (place number : ℕ) (d : Entry) → IsSomeAnd (entry_at entries place) (λ entry. number ≤ entry.number)
    → (slice_index_or entries place d).number ≤ number → IsSomeAnd (entry_at entries place) (λ entry. entry.number ≡ number)
number-exact entries place number d least most =
    let entry = some_and (entry_at entries place) (λ e. number ≤ e.number) least in
    let within : place < length entries = slice_get_within entries place entry.0 entry.1 in
    let same : entry.0 ≡ slice_index_or entries place d = same_Some entry.0 (slice_index_or entries place d) (sym entry.1 ∙ slice_get-get_or entries place d within) in
    let read : entry.0.number ≡ (slice_index_or entries place d).number = ap (λ (e : Entry). e.number) same in
    and_some (entry_at entries place) (λ e. e.number ≡ number) entry.0 entry.1 (omega (arith, entry.2, read, most))
