-- Groups that grow, and the place of each by its hash.
use Rattle.std.proofs.Common.{◌≡◌, ℕ, zero, suc, ◌+◌, ◌<◌, ◌≤◌, Bool, true, false, List, [], ◌∷◌, ◌++◌, length, map, get_or, Option, Some, None, if◌then◌else◌, refl, sym, ap, ◌∙◌, subst, arith}
use Rattle.std.specs.Cmp.Lexicographic.{nat_list_eq_equiv}
use Rattle.std.specs.List.{All, AllByRecursion, filter_map}
use Rattle.std.specs.Map.{lookup}
use Rattle.std.specs.Str.{bytes_eq}
use Rattle.std.proofs.Math.ListN.{set}
use Rattle.std.proofs.lemmas.List.{append-nil, append_assoc, map-append}
use Rattle.std.proofs.lemmas.List.Elements.{All-append, All-map, All-same, filter_map-append}
use Rattle.std.specs.Option.{option_map}
use Rattle.std.proofs.lemmas.Option.{same_Some}
use Rattle.chain_defs.specs.Schema.{Script, CellOutput, Transaction}
use Rattle.chain_defs.specs.Cell.{script_hash}
use Rattle.verdict_defs.specs.Groups.{Group, has_hash, first_scripts, places_with, present, input_locks, lock_group, lock_groups, type_groups, groups_of}
use Rattle.verdict_defs.specs.Scene.{Scene, ShownCell}
use Rattle.script_run.specs.Shown.{GroupValue, HasItsHash}
use Rattle.script_run.specs.Grouping.{group_for, grouped, new_group, with_group, with_input, with_output, changed, place_with, FindsEachGroup}
use Rattle.script_run.proofs.ScriptLemmas.{NoneHas, Apart, same-is, same-itself, with_script, first-push, apart-first, none-of_first, places-none, places-other, places-one, places-empty, none-front, none-back}

-- ---- The group of a hash

pub with-found : (hash : List ℕ) (s : Script) (groups : List GroupValue) (place i : ℕ) → place_with hash place groups ≡ Some i → with_group hash s groups ≡ groups
unfolding with_group place_with
with-found hash s [] place i is = absurd (cc)
with-found hash s (it ∷ later) place i is = by_test (bytes_eq it.hash hash) is (with-found hash s later (suc place) i)
  where
    by_test : (b : Bool) → (if b then Some place else place_with hash (suc place) later) ≡ Some i
        → (place_with hash (suc place) later ≡ Some i → with_group hash s later ≡ later) → (if b then it ∷ later else it ∷ with_group hash s later) ≡ it ∷ later
    by_test true is rest = refl
    by_test false is rest = ap (λ (l : List GroupValue). it ∷ l) (rest is)

pub with-new : (hash : List ℕ) (s : Script) (groups : List GroupValue) (place : ℕ) → place_with hash place groups ≡ None → with_group hash s groups ≡ groups ++ new_group hash s ∷ []
unfolding with_group place_with
with-new hash s [] place is = refl
with-new hash s (it ∷ later) place is = by_test (bytes_eq it.hash hash) is (with-new hash s later (suc place))
  where
    by_test : (b : Bool) → (if b then Some place else place_with hash (suc place) later) ≡ None
        → (place_with hash (suc place) later ≡ None → with_group hash s later ≡ later ++ new_group hash s ∷ []) → (if b then it ∷ later else it ∷ with_group hash s later) ≡ it ∷ (later ++ new_group hash s ∷ [])
    by_test true is rest = absurd (cc)
    by_test false is rest = ap (λ (l : List GroupValue). it ∷ l) (rest is)

-- ---- The places of hashes

place-push : (q hash : List ℕ) (s : Script) (groups : List GroupValue) (place n : ℕ) → place_with hash place groups ≡ None → n ≡ place + length groups
    → (if bytes_eq hash q then Some n else place_with q place groups) ≡ place_with q place (groups ++ new_group hash s ∷ [])
unfolding place_with
place-push q hash s [] place n is end = ap (λ (m : ℕ). if bytes_eq hash q then Some m else None) (let e : n ≡ place = omega arith in e)
place-push q hash s (it ∷ later) place n is end =
    by_test (bytes_eq it.hash hash) refl is (λ none. place-push q hash s later (suc place) n none (let e : n ≡ suc place + length later = omega arith in e))
  where
    by_other : (b : Bool) → bytes_eq it.hash q ≡ b → bytes_eq it.hash hash ≡ false
        → (if bytes_eq hash q then Some n else place_with q (suc place) later) ≡ place_with q (suc place) (later ++ new_group hash s ∷ [])
        → (if bytes_eq hash q then Some n else if b then Some place else place_with q (suc place) later) ≡ (if b then Some place else place_with q (suc place) (later ++ new_group hash s ∷ []))
    by_other false there apart later = later
    by_other true there apart later = by_both (bytes_eq hash q) refl
      where
        by_both : (x : Bool) → bytes_eq hash q ≡ x → (if x then Some n else Some place) ≡ Some place
        by_both false same = refl
        by_both true same =
            let one : it.hash ≡ q = same-is it.hash q there in
            let two : hash ≡ q = same-is hash q same in
            let equal : bytes_eq it.hash hash ≡ true = ap (λ (h : List ℕ). bytes_eq it.hash h) (two ∙ sym one) ∙ same-itself it.hash in
            absurd (cc)

    by_test : (b : Bool) → bytes_eq it.hash hash ≡ b → (if b then Some place else place_with hash (suc place) later) ≡ None
        → (place_with hash (suc place) later ≡ None
        → (if bytes_eq hash q then Some n else place_with q (suc place) later) ≡ place_with q (suc place) (later ++ new_group hash s ∷ []))
        → (if bytes_eq hash q then Some n else if bytes_eq it.hash q then Some place else place_with q (suc place) later)
        ≡ (if bytes_eq it.hash q then Some place else place_with q (suc place) (later ++ new_group hash s ∷ []))
    by_test true apart none rest = absurd (cc)
    by_test false apart none rest = by_other (bytes_eq it.hash q) refl apart (rest none)

-- a map with the place of a new group finds each
pub finds-new : (places after : List (List ℕ × ℕ)) (groups : List GroupValue) (hash : List ℕ) (s : Script) → FindsEachGroup places groups → place_with hash 0 groups ≡ None
    → ((q : List ℕ) → lookup (bytes_eq q) after ≡ (if bytes_eq hash q then Some (length groups) else lookup (bytes_eq q) places))
    → FindsEachGroup after (groups ++ new_group hash s ∷ [])
finds-new places after groups hash s finds none updates = record {
  at = λ q. updates q ∙ ap (λ (f : Option ℕ). if bytes_eq hash q then Some (length groups) else f) (finds.at q)
      ∙ place-push q hash s groups 0 (length groups) none (let e : length groups ≡ 0 + length groups = omega arith in e);
}

pub finds-none : (places : List (List ℕ × ℕ)) (groups : List GroupValue) → places ≡ [] → groups ≡ [] → FindsEachGroup places groups
unfolding place_with
finds-none places groups none empty = record {
  at = λ q. ap (lookup (bytes_eq q)) none ∙ ap (place_with q 0) (sym empty);
}

pub new-place : (hash : List ℕ) (s : Script) (groups : List GroupValue) → place_with hash 0 groups ≡ None → place_with hash 0 (groups ++ new_group hash s ∷ []) ≡ Some (length groups)
new-place hash s groups none =
    sym (place-push hash hash s groups 0 (length groups) none (let e : length groups ≡ 0 + length groups = omega arith in e))
    ∙ ap (λ (b : Bool). if b then Some (length groups) else place_with hash 0 groups) (same-itself hash)

-- ---- A change to the group at a place

place-from : (hash : List ℕ) (groups : List GroupValue) (place i : ℕ) → place_with hash place groups ≡ Some i → place ≤ i
unfolding place_with
place-from hash [] place i is = absurd (cc)
place-from hash (it ∷ later) place i is = by_test (bytes_eq it.hash hash) is (place-from hash later (suc place) i)
  where
    by_test : (b : Bool) → (if b then Some place else place_with hash (suc place) later) ≡ Some i → (place_with hash (suc place) later ≡ Some i → suc place ≤ i) → place ≤ i
    by_test true is rest = let same : place ≡ i = same_Some place i is in omega arith
    by_test false is rest = let more : suc place ≤ i = rest is in omega arith

place-below : (hash : List ℕ) (groups : List GroupValue) (place i : ℕ) → place_with hash place groups ≡ Some i → i < place + length groups
unfolding place_with
place-below hash [] place i is = absurd (cc)
place-below hash (it ∷ later) place i is = by_test (bytes_eq it.hash hash) is (place-below hash later (suc place) i)
  where
    by_test : (b : Bool) → (if b then Some place else place_with hash (suc place) later) ≡ Some i
        → (place_with hash (suc place) later ≡ Some i → i < suc place + length later) → i < place + length (it ∷ later)
    by_test true is rest = let same : place ≡ i = same_Some place i is in omega arith
    by_test false is rest = let more : i < suc place + length later = rest is in omega arith

pub place-within : (hash : List ℕ) (groups : List GroupValue) (i : ℕ) → place_with hash 0 groups ≡ Some i → i < length groups
place-within hash groups i is = let below : i < 0 + length groups = place-below hash groups 0 i is in omega arith

set-at : (change : GroupValue → GroupValue) (hash : List ℕ) (groups : List GroupValue) (place k : ℕ) (g : GroupValue) → place_with hash place groups ≡ Some (place + k)
    → g ≡ get_or groups k g → set groups k (change g) ≡ changed change hash groups
unfolding place_with changed
set-at change hash [] place k g is there = absurd (cc)
set-at change hash (it ∷ later) place zero g is there = by_test (bytes_eq it.hash hash) is
  where
    by_test : (b : Bool) → (if b then Some place else place_with hash (suc place) later) ≡ Some (place + 0) → change g ∷ later ≡ (if b then change it ∷ later else it ∷ changed change hash later)
    by_test true is = ap (λ (x : GroupValue). change x ∷ later) there
    by_test false is = let more : suc place ≤ place + 0 = place-from hash later (suc place) (place + 0) is in absurd (omega arith)
set-at change hash (it ∷ later) place (suc k) g is there = by_test (bytes_eq it.hash hash) is (λ behind. set-at change hash later (suc place) k g behind there)
  where
    by_test : (b : Bool) → (if b then Some place else place_with hash (suc place) later) ≡ Some (place + suc k)
        → (place_with hash (suc place) later ≡ Some (suc place + k) → set later k (change g) ≡ changed change hash later)
        → it ∷ set later k (change g) ≡ (if b then change it ∷ later else it ∷ changed change hash later)
    by_test true is rest = let same : place ≡ place + suc k = same_Some place (place + suc k) is in absurd (omega arith)
    by_test false is rest = ap (λ (l : List GroupValue). it ∷ l) (rest (is ∙ ap (λ (n : ℕ). Some n) (let e : place + suc k ≡ suc place + k = omega arith in e)))

pub changed-at : (change : GroupValue → GroupValue) (hash : List ℕ) (groups : List GroupValue) (k : ℕ) (g : GroupValue) → place_with hash 0 groups ≡ Some k
    → g ≡ get_or groups k g → set groups k (change g) ≡ changed change hash groups
changed-at change hash groups k g is there =
    set-at change hash groups 0 k g (is ∙ ap (λ (n : ℕ). Some n) (let e : k ≡ 0 + k = omega arith in e)) there

changed-places : (change : GroupValue → GroupValue) → ((g : GroupValue) → (change g).hash ≡ g.hash) → (hash q : List ℕ) (groups : List GroupValue) (place : ℕ)
    → place_with q place groups ≡ place_with q place (changed change hash groups)
unfolding place_with changed
changed-places change keeps hash q [] place = refl
changed-places change keeps hash q (it ∷ later) place = by_test (bytes_eq it.hash hash) (changed-places change keeps hash q later (suc place))
  where
    by_test : (b : Bool) → place_with q (suc place) later ≡ place_with q (suc place) (changed change hash later)
        → (if bytes_eq it.hash q then Some place else place_with q (suc place) later) ≡ place_with q place (if b then change it ∷ later else it ∷ changed change hash later)
    by_test true rest = ap (λ (h : List ℕ). if bytes_eq h q then Some place else place_with q (suc place) later) (sym (keeps it))
    by_test false rest = ap (λ (f : Option ℕ). if bytes_eq it.hash q then Some place else f) rest

pub finds-changed : (places : List (List ℕ × ℕ)) (groups : List GroupValue) (change : GroupValue → GroupValue) (hash : List ℕ) → ((g : GroupValue) → (change g).hash ≡ g.hash)
    → FindsEachGroup places groups → FindsEachGroup places (changed change hash groups)
finds-changed places groups change hash keeps finds = record {
  at = λ q. finds.at q ∙ changed-places change keeps hash q groups 0;
}

-- ---- A script more

agree : {X Y : Type 0} (P : X → Type 0) (f g : X → Y) (xs : List X) → AllByRecursion P xs → ((x : X) → P x → f x ≡ g x) → map f xs ≡ map g xs
agree P f g [] all each = refl
agree {Y = Y} P f g (x ∷ xs) all each = ap (λ (y : Y). y ∷ map f xs) (each x all.0) ∙ ap (λ (l : List Y). g x ∷ l) (agree P f g xs all.1 each)

map-same : {X Y : Type 0} (f g : X → Y) (xs : List X) → ((x : X) → f x ≡ g x) → map f xs ≡ map g xs
map-same f g [] each = refl
map-same {Y = Y} f g (x ∷ xs) each = ap (λ (y : Y). y ∷ map f xs) (each x) ∙ ap (λ (l : List Y). g x ∷ l) (map-same f g xs each)

turned : (t s : Script) → has_hash (script_hash t) s ≡ has_hash (script_hash s) t
turned t s = nat_list_eq_equiv.symm (script_hash s) (script_hash t)

-- how the groups of some inputs and outputs differ from those of others, where one script more is among them
pub record Grows (change : GroupValue → GroupValue) (s : Script) (inputs outputs more_inputs more_outputs : List (Option Script)) : Type 0 where
  pub apart : (t : Script) → has_hash (script_hash s) t ≡ false → group_for more_inputs more_outputs t ≡ group_for inputs outputs t
  pub same : (t : Script) → has_hash (script_hash s) t ≡ true → group_for more_inputs more_outputs t ≡ change (group_for inputs outputs t)

grown : (change : GroupValue → GroupValue) (s : Script) (inputs outputs more_inputs more_outputs : List (Option Script)) (scripts : List Script)
    → Grows change s inputs outputs more_inputs more_outputs → Apart scripts
    → (NoneHas (script_hash s) scripts → group_for more_inputs more_outputs s ≡ change (new_group (script_hash s) s))
    → map (group_for more_inputs more_outputs) (with_script s scripts) ≡ changed change (script_hash s) (with_group (script_hash s) s (map (group_for inputs outputs) scripts))
unfolding with_script changed with_group Apart
grown change s inputs outputs more_inputs more_outputs [] grows apart new =
    ap (λ (g : GroupValue). g ∷ []) (new tt)
    ∙ ap (λ (b : Bool). if b then change (new_group (script_hash s) s) ∷ [] else new_group (script_hash s) s ∷ []) (sym (same-itself (script_hash s)))
grown change s inputs outputs more_inputs more_outputs (t ∷ later) grows apart new =
    by_test (has_hash (script_hash s) t) refl
    (λ no. grown change s inputs outputs more_inputs more_outputs later grows apart.1 (λ none. new (no, none)))
  where
    by_test : (b : Bool) → has_hash (script_hash s) t ≡ b
        → (has_hash (script_hash s) t ≡ false
        → map (group_for more_inputs more_outputs) (with_script s later) ≡ changed change (script_hash s) (with_group (script_hash s) s (map (group_for inputs outputs) later)))
        → map (group_for more_inputs more_outputs) (if b then t ∷ later else t ∷ with_script s later)
        ≡ changed change (script_hash s)
        (if b then group_for inputs outputs t ∷ map (group_for inputs outputs) later
        else group_for inputs outputs t ∷ with_group (script_hash s) s (map (group_for inputs outputs) later))
    by_test true is rest =
        let none : NoneHas (script_hash s) later = subst (λ (h : List ℕ). NoneHas h later) (same-is (script_hash t) (script_hash s) is) apart.0 in
        ap (λ (g : GroupValue). g ∷ map (group_for more_inputs more_outputs) later) (grows.same t is)
        ∙ ap (λ (l : List GroupValue). change (group_for inputs outputs t) ∷ l)
        (agree (λ (u : Script). has_hash (script_hash s) u ≡ false) (group_for more_inputs more_outputs) (group_for inputs outputs) later none grows.apart)
        ∙ ap (λ (b : Bool). if b then change (group_for inputs outputs t) ∷ map (group_for inputs outputs) later
        else group_for inputs outputs t ∷ changed change (script_hash s) (map (group_for inputs outputs) later)) (sym is)
    by_test false is rest =
        ap (λ (g : GroupValue). g ∷ map (group_for more_inputs more_outputs) (with_script s later)) (grows.apart t is)
        ∙ ap (λ (l : List GroupValue). group_for inputs outputs t ∷ l) (rest is)
        ∙ ap (λ (b : Bool). if b then change (group_for inputs outputs t) ∷ with_group (script_hash s) s (map (group_for inputs outputs) later)
        else group_for inputs outputs t ∷ changed change (script_hash s) (with_group (script_hash s) s (map (group_for inputs outputs) later))) (sym is)

present-push : (xs : List (Option Script)) (s : Script) → filter_map present (xs ++ Some s ∷ []) ≡ filter_map present xs ++ s ∷ []
present-push xs s = filter_map-append present xs (Some s ∷ [])

present-none : (xs : List (Option Script)) → filter_map present (xs ++ None ∷ []) ≡ filter_map present xs
present-none xs = filter_map-append present xs (None ∷ []) ∙ append-nil (filter_map present xs)

-- groups by the places of their members
abbrev made : List ℕ → List ℕ → Script → GroupValue
made inputs outputs s = record { group = record { script = s; inputs = inputs; outputs = outputs }; hash = script_hash s }

grouped-more : (change : GroupValue → GroupValue) (s : Script) (inputs outputs more_inputs more_outputs : List (Option Script))
    → Grows change s inputs outputs more_inputs more_outputs
    → filter_map present (more_inputs ++ more_outputs) ≡ filter_map present (inputs ++ outputs) ++ s ∷ []
    → (NoneHas (script_hash s) (filter_map present (inputs ++ outputs)) → group_for more_inputs more_outputs s ≡ change (new_group (script_hash s) s))
    → grouped more_inputs more_outputs ≡ changed change (script_hash s) (with_group (script_hash s) s (grouped inputs outputs))
unfolding grouped
grouped-more change s inputs outputs more_inputs more_outputs grows scripts new =
    ap (λ (l : List Script). map (group_for more_inputs more_outputs) (first_scripts l)) scripts
    ∙ ap (map (group_for more_inputs more_outputs)) (first-push (filter_map present (inputs ++ outputs)) s)
    ∙ grown change s inputs outputs more_inputs more_outputs (first_scripts (filter_map present (inputs ++ outputs))) grows
    (apart-first (filter_map present (inputs ++ outputs)))
    (λ none. new (none-of_first (script_hash s) (filter_map present (inputs ++ outputs)) none))

-- one input more, with a script
pub grouped-input : (before : List (Option Script)) (s : Script)
    → grouped (before ++ Some s ∷ []) [] ≡ changed (with_input (length before)) (script_hash s) (with_group (script_hash s) s (grouped before []))
grouped-input before s = grouped-more (with_input (length before)) s before [] (before ++ Some s ∷ []) []
    (record {
      apart = λ t no. ap (λ (l : List ℕ). made l (places_with (script_hash t) []) t) (places-other (script_hash t) before s (turned t s ∙ no));
      same = λ t yes. ap (λ (l : List ℕ). made l (places_with (script_hash t) []) t) (places-one (script_hash t) before s (turned t s ∙ yes));
    })
    (ap (filter_map present) (append-nil (before ++ Some s ∷ [])) ∙ present-push before s ∙ ap (λ (l : List (Option Script)). filter_map present l ++ s ∷ []) (sym (append-nil before)))
    (λ none. ap (λ (l : List ℕ). made l (places_with (script_hash s) []) s)
    (places-one (script_hash s) before s (same-itself (script_hash s))
    ∙ ap (λ (l : List ℕ). l ++ length before ∷ [])
    (places-empty (script_hash s) before (subst (λ (l : List (Option Script)). NoneHas (script_hash s) (filter_map present l)) (append-nil before) none)))
    ∙ ap (λ (l : List ℕ). made (length before ∷ []) l s) (places-empty (script_hash s) [] tt))

-- one input more, with none
pub grouped-input-none : (before : List (Option Script)) → grouped (before ++ None ∷ []) [] ≡ grouped before []
unfolding grouped
grouped-input-none before =
    ap (λ (l : List Script). map (group_for (before ++ None ∷ []) []) (first_scripts l))
    (ap (filter_map present) (append-nil (before ++ None ∷ [])) ∙ present-none before ∙ ap (filter_map present) (sym (append-nil before)))
    ∙ map-same (group_for (before ++ None ∷ []) []) (group_for before []) (first_scripts (filter_map present (before ++ [])))
    (λ t. ap (λ (l : List ℕ). made l (places_with (script_hash t) []) t) (places-none (script_hash t) before))

-- one output more, with a script
pub grouped-output : (inputs before : List (Option Script)) (s : Script)
    → grouped inputs (before ++ Some s ∷ []) ≡ changed (with_output (length before)) (script_hash s) (with_group (script_hash s) s (grouped inputs before))
grouped-output inputs before s = grouped-more (with_output (length before)) s inputs before inputs (before ++ Some s ∷ [])
    (record {
      apart = λ t no. ap (λ (l : List ℕ). made (places_with (script_hash t) inputs) l t) (places-other (script_hash t) before s (turned t s ∙ no));
      same = λ t yes. ap (λ (l : List ℕ). made (places_with (script_hash t) inputs) l t) (places-one (script_hash t) before s (turned t s ∙ yes));
    })
    (ap (filter_map present) (sym (append_assoc inputs before (Some s ∷ []))) ∙ present-push (inputs ++ before) s)
    (λ none.
    let each : NoneHas (script_hash s) (filter_map present inputs ++ filter_map present before) =
    subst (λ (l : List Script). NoneHas (script_hash s) l) (filter_map-append present inputs before) none in
    ap (λ (l : List ℕ). made l (places_with (script_hash s) (before ++ Some s ∷ [])) s)
    (places-empty (script_hash s) inputs (none-front (script_hash s) (filter_map present inputs) (filter_map present before) each))
    ∙ ap (λ (l : List ℕ). made [] l s)
    (places-one (script_hash s) before s (same-itself (script_hash s))
    ∙ ap (λ (l : List ℕ). l ++ length before ∷ [])
    (places-empty (script_hash s) before (none-back (script_hash s) (filter_map present inputs) (filter_map present before) each))))

-- one output more, with none
pub grouped-output-none : (inputs before : List (Option Script)) → grouped inputs (before ++ None ∷ []) ≡ grouped inputs before
unfolding grouped
grouped-output-none inputs before =
    ap (λ (l : List Script). map (group_for inputs (before ++ None ∷ [])) (first_scripts l))
    (ap (filter_map present) (sym (append_assoc inputs before (None ∷ []))) ∙ present-none (inputs ++ before))
    ∙ map-same (group_for inputs (before ++ None ∷ [])) (group_for inputs before) (first_scripts (filter_map present (inputs ++ before)))
    (λ t. ap (λ (l : List ℕ). made (places_with (script_hash t) inputs) l t) (places-none (script_hash t) before))

-- ---- What a step of the loops does

pub joined-input : (before : List (Option Script)) (s t : Script) (hash : List ℕ) (n : ℕ) (old after : List GroupValue) → old ≡ grouped before [] → n ≡ length before → t ≡ s
    → hash ≡ script_hash s → after ≡ changed (with_input n) hash (with_group hash t old) → after ≡ grouped (before ++ Some s ∷ []) []
joined-input before s t hash n old after groups place script its_hash is =
    is
    ∙ ap (λ (h : List ℕ). changed (with_input n) h (with_group h t old)) its_hash
    ∙ ap (λ (m : ℕ). changed (with_input m) (script_hash s) (with_group (script_hash s) t old)) place
    ∙ ap (λ (u : Script). changed (with_input (length before)) (script_hash s) (with_group (script_hash s) u old)) script
    ∙ ap (λ (l : List GroupValue). changed (with_input (length before)) (script_hash s) (with_group (script_hash s) s l)) groups
    ∙ sym (grouped-input before s)

pub joined-output : (inputs before : List (Option Script)) (s t : Script) (hash : List ℕ) (n : ℕ) (old after : List GroupValue) → old ≡ grouped inputs before → n ≡ length before
    → t ≡ s → hash ≡ script_hash s → after ≡ changed (with_output n) hash (with_group hash t old) → after ≡ grouped inputs (before ++ Some s ∷ [])
joined-output inputs before s t hash n old after groups place script its_hash is =
    is
    ∙ ap (λ (h : List ℕ). changed (with_output n) h (with_group h t old)) its_hash
    ∙ ap (λ (m : ℕ). changed (with_output m) (script_hash s) (with_group (script_hash s) t old)) place
    ∙ ap (λ (u : Script). changed (with_output (length before)) (script_hash s) (with_group (script_hash s) u old)) script
    ∙ ap (λ (l : List GroupValue). changed (with_output (length before)) (script_hash s) (with_group (script_hash s) s l)) groups
    ∙ sym (grouped-output inputs before s)

-- a script with its hash
abbrev pub hashed : Script → Script × List ℕ
hashed s = (s, script_hash s)

pub typed-none : (x : Option Script) → None ≡ option_map hashed x → x ≡ None
typed-none None is = refl
typed-none (Some s) is = absurd (cc)

pub typed-some : (x : Option Script) (found : Script × List ℕ) → Some found ≡ option_map hashed x → (x ≡ Some found.0) × (found.1 ≡ script_hash found.0)
typed-some None found is = absurd (cc)
typed-some (Some s) found is =
    let same : found ≡ hashed s = same_Some found (hashed s) is in (
      sym (ap (λ (it : Script × List ℕ). Some it.0) same),
      ap (λ (it : Script × List ℕ). it.1) same ∙ ap (λ (it : Script × List ℕ). script_hash it.0) (sym same),
    )

pub grouped-none : grouped [] [] ≡ []
unfolding grouped first_scripts
grouped-none = refl

-- ---- All groups of a transaction

map-map : {X Y Z : Type 0} (f : Y → Z) (g : X → Y) (xs : List X) → map f (map g xs) ≡ map (λ (x : X). f (g x)) xs
map-map f g [] = refl
map-map {Z = Z} f g (x ∷ xs) = ap (λ (l : List Z). f (g x) ∷ l) (map-map f g xs)

all-present : {X : Type 0} (f : X → Script) (xs : List X) → filter_map present (map (λ (x : X). Some (f x)) xs) ≡ map f xs
all-present f [] = refl
all-present f (x ∷ xs) = ap (λ (l : List Script). f x ∷ l) (all-present f xs)

abbrev pub lock_given : ShownCell → Option Script
lock_given cell = Some cell.output.lock

abbrev pub type_given : ShownCell → Option Script
type_given cell = cell.output.type_script

abbrev pub type_made : CellOutput → Option Script
type_made output = output.type_script

abbrev pub group_in : GroupValue → Group
group_in it = it.group

locks-are : (scene : Scene) → map group_in (grouped (map lock_given scene.inputs) []) ≡ lock_groups scene
unfolding grouped
locks-are scene =
    let given = map lock_given scene.inputs in
    map-map group_in (group_for given []) (first_scripts (filter_map present (given ++ [])))
    ∙ ap (λ (l : List Script). map (λ (s : Script). (group_for given [] s).group) (first_scripts l))
    (ap (filter_map present) (append-nil given) ∙ all-present (λ (cell : ShownCell). cell.output.lock) scene.inputs)
    ∙ map-same (λ (s : Script). (group_for given [] s).group) (lock_group scene) (first_scripts (input_locks scene))
    (λ s.
    ap (λ (l : List ℕ). record { script = s; inputs = places_with (script_hash s) given; outputs = l }) (places-empty (script_hash s) [] tt)
    ∙ ap (λ (l : List (Option Script)). record { script = s; inputs = places_with (script_hash s) l; outputs = [] })
    (sym (map-map (λ (t : Script). Some t) (λ (cell : ShownCell). cell.output.lock) scene.inputs)))

types-are : (scene : Scene) → map group_in (grouped (map type_given scene.inputs) (map type_made scene.transaction.raw.outputs)) ≡ type_groups scene
unfolding grouped
types-are scene =
    map-map group_in (group_for (map type_given scene.inputs) (map type_made scene.transaction.raw.outputs))
    (first_scripts (filter_map present (map type_given scene.inputs ++ map type_made scene.transaction.raw.outputs)))

pub groups-are : (scene : Scene) (t : Transaction) (list locks types : List GroupValue) → scene.transaction ≡ t → list ≡ locks ++ types
    → locks ≡ grouped (map lock_given scene.inputs) [] → types ≡ grouped (map type_given scene.inputs) (map type_made t.raw.outputs) → map group_in list ≡ groups_of scene
unfolding groups_of
groups-are scene t list locks types its_own is of_locks of_types =
    ap (map group_in) is
    ∙ map-append group_in locks types
    ∙ ap (λ (l : List GroupValue). map group_in l ++ map group_in types) of_locks
    ∙ ap (λ (l : List Group). l ++ map group_in types) (locks-are scene)
    ∙ ap (λ (l : List GroupValue). lock_groups scene ++ map group_in l)
    (of_types ∙ ap (λ (u : Transaction). grouped (map type_given scene.inputs) (map type_made u.raw.outputs)) (sym its_own))
    ∙ ap (λ (l : List Group). lock_groups scene ++ l) (types-are scene)

grouped-hashes : (inputs outputs : List (Option Script)) → All HasItsHash (grouped inputs outputs)
unfolding grouped
grouped-hashes inputs outputs =
    All-map HasItsHash (group_for inputs outputs) (first_scripts (filter_map present (inputs ++ outputs))) (λ k d within. record { hash = refl })

pub groups-hashed : (a b x y : List (Option Script)) (list locks types : List GroupValue) → list ≡ locks ++ types → locks ≡ grouped a b → types ≡ grouped x y → All HasItsHash list
groups-hashed a b x y list locks types is of_locks of_types =
    All-same HasItsHash list (grouped a b ++ grouped x y)
    (is ∙ ap (λ (l : List GroupValue). l ++ types) of_locks ∙ ap (λ (l : List GroupValue). grouped a b ++ l) of_types)
    (All-append HasItsHash (grouped a b) (grouped x y) (grouped-hashes a b) (grouped-hashes x y))
