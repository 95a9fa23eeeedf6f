-- Scripts of a list, one for each hash, and the places at which a hash stands.
use Rattle.std.proofs.Common.{◌≡◌, ℕ, ◌+◌, Bool, true, false, not, List, [], ◌∷◌, ◌++◌, length, Option, Some, None, if◌then◌else◌, refl, sym, ap, ◌∙◌, arith}
use Rattle.std.specs.Prelude.{⊤}
use Rattle.std.specs.Cmp.Lexicographic.{nat_list_eq_equiv}
use Rattle.std.specs.List.{AllByRecursion, filter, filter_map, cons_option, enumerate_from}
use Rattle.std.specs.Str.{bytes_eq}
use Rattle.std.proofs.lemmas.List.{append-nil}
use Rattle.std.proofs.lemmas.List.Elements.{filter_map-append}
use Rattle.std.proofs.lemmas.Slice.Eq.{bytes_eq-Decides}
use Rattle.chain_defs.specs.Schema.{Script}
use Rattle.chain_defs.specs.Cell.{script_hash}
use Rattle.verdict_defs.specs.Groups.{has_hash, first_scripts, place_if, places_with, present}
use Rattle.script_run.proofs.WalkLemmas.{enumerate-push}

-- ---- Hashes

pub same-is : (one other : List ℕ) → bytes_eq one other ≡ true → one ≡ other
same-is one other same = (bytes_eq-Decides one other).0 same

pub same-itself : (hash : List ℕ) → bytes_eq hash hash ≡ true
same-itself hash = (bytes_eq-Decides hash hash).1 refl

-- no script of a list has a hash
abbrev pub NoneHas : List ℕ → List Script → Type 0
NoneHas hash scripts = AllByRecursion (λ (t : Script). has_hash hash t ≡ false) scripts

-- ---- One script more

-- the scripts, and one more where none of them has its hash
unfoldable pub with_script : Script → List Script → List Script
with_script s [] = s ∷ []
with_script s (t ∷ later) = if has_hash (script_hash s) t then t ∷ later else t ∷ with_script s later

abbrev pub others : Script → List Script → List Script
others t scripts = filter (λ (other : Script). not (has_hash (script_hash t) other)) scripts

-- a script that has the hash of another is apart from what that one is apart from
has-both : (s t b : Script) → has_hash (script_hash s) b ≡ true → has_hash (script_hash t) b ≡ has_hash (script_hash t) s
has-both s t b same = ap (λ (h : List ℕ). bytes_eq h (script_hash t)) (same-is (script_hash b) (script_hash s) same)

others-with : (s t : Script) (scripts : List Script) → others t (with_script s scripts) ≡ (if has_hash (script_hash t) s then others t scripts else with_script s (others t scripts))
unfolding with_script
others-with s t [] = by_test (has_hash (script_hash t) s)
  where
    by_test : (b : Bool) → (if not b then s ∷ [] else []) ≡ (if b then [] else s ∷ [])
    by_test true = refl
    by_test false = refl
others-with s t (b ∷ later) = by_same (has_hash (script_hash s) b) refl (others-with s t later)
  where
    kept : (left : List Script) → Bool → List Script
    kept left x = if not x then b ∷ left else left

    when_same : (x y : Bool) → x ≡ y → has_hash (script_hash s) b ≡ true
        → (if not x then b ∷ others t later else others t later)
        ≡ (if y then (if not x then b ∷ others t later else others t later) else with_script s (if not x then b ∷ others t later else others t later))
    when_same true true is same = refl
    when_same true false is same = absurd (cc)
    when_same false true is same = absurd (cc)
    when_same false false is same = ap (λ (x : Bool). if x then b ∷ others t later else b ∷ with_script s (others t later)) (sym same)

    when_apart : (x y : Bool) → has_hash (script_hash s) b ≡ false → others t (with_script s later) ≡ (if y then others t later else with_script s (others t later))
        → (if not x then b ∷ others t (with_script s later) else others t (with_script s later))
        ≡ (if y then (if not x then b ∷ others t later else others t later) else with_script s (if not x then b ∷ others t later else others t later))
    when_apart true true apart is = is
    when_apart true false apart is = is
    when_apart false true apart is = ap (λ (l : List Script). b ∷ l) is
    when_apart false false apart is =
        ap (λ (l : List Script). b ∷ l) is ∙ ap (λ (x : Bool). if x then b ∷ others t later else b ∷ with_script s (others t later)) (sym apart)

    by_same : (x : Bool) → has_hash (script_hash s) b ≡ x
        → others t (with_script s later) ≡ (if has_hash (script_hash t) s then others t later else with_script s (others t later))
        → others t (if x then b ∷ later else b ∷ with_script s later)
        ≡ (if has_hash (script_hash t) s then others t (b ∷ later) else with_script s (others t (b ∷ later)))
    by_same true same rest = when_same (has_hash (script_hash t) b) (has_hash (script_hash t) s) (has-both s t b same) same
    by_same false apart rest = when_apart (has_hash (script_hash t) b) (has_hash (script_hash t) s) apart rest

pub first-push : (scripts : List Script) (s : Script) → first_scripts (scripts ++ s ∷ []) ≡ with_script s (first_scripts scripts)
unfolding first_scripts with_script
first-push [] s = refl
first-push (t ∷ later) s = ap (λ (l : List Script). t ∷ others t l) (first-push later s) ∙ ap (λ (l : List Script). t ∷ l) (others-with s t (first_scripts later)) ∙ by_test (has_hash (script_hash t) s) (has_hash (script_hash s) t) (nat_list_eq_equiv.symm (script_hash s) (script_hash t))
  where
    by_test : (x y : Bool) → x ≡ y
        → t ∷ (if x then others t (first_scripts later) else with_script s (others t (first_scripts later)))
        ≡ (if y then t ∷ others t (first_scripts later) else t ∷ with_script s (others t (first_scripts later)))
    by_test true true is = refl
    by_test true false is = absurd (cc)
    by_test false true is = absurd (cc)
    by_test false false is = refl

-- ---- Their hashes differ

unfoldable pub Apart : List Script → Type 0
Apart [] = ⊤
Apart (t ∷ later) = NoneHas (script_hash t) later × Apart later

none-filtered : (hash : List ℕ) (t : Script) (scripts : List Script) → NoneHas hash scripts → NoneHas hash (others t scripts)
none-filtered hash t [] none = tt
none-filtered hash t (b ∷ later) none = by_test (not (has_hash (script_hash t) b)) (none-filtered hash t later none.1)
  where
    by_test : (x : Bool) → NoneHas hash (others t later) → NoneHas hash (if x then b ∷ others t later else others t later)
    by_test true rest = (none.0, rest)
    by_test false rest = rest

apart-filtered : (t : Script) (scripts : List Script) → Apart scripts → Apart (others t scripts)
unfolding Apart
apart-filtered t [] apart = tt
apart-filtered t (b ∷ later) apart = by_test (not (has_hash (script_hash t) b)) (apart-filtered t later apart.1)
  where
    by_test : (x : Bool) → Apart (others t later) → Apart (if x then b ∷ others t later else others t later)
    by_test true rest = (none-filtered (script_hash b) t later apart.0, rest)
    by_test false rest = rest

none-others : (t : Script) (scripts : List Script) → NoneHas (script_hash t) (others t scripts)
none-others t [] = tt
none-others t (b ∷ later) = by_test (has_hash (script_hash t) b) refl (none-others t later)
  where
    by_test : (x : Bool) → has_hash (script_hash t) b ≡ x → NoneHas (script_hash t) (others t later) → NoneHas (script_hash t) (if not x then b ∷ others t later else others t later)
    by_test true is rest = rest
    by_test false is rest = (is, rest)

pub apart-first : (scripts : List Script) → Apart (first_scripts scripts)
unfolding first_scripts Apart
apart-first [] = tt
apart-first (t ∷ later) = (none-others t (first_scripts later), apart-filtered t (first_scripts later) (apart-first later))

-- ---- None of the first scripts has a hash, so none of all has it

none-behind : (hash : List ℕ) (t : Script) (scripts : List Script) → has_hash hash t ≡ false → NoneHas hash (others t scripts) → NoneHas hash scripts
none-behind hash t [] apart none = tt
none-behind hash t (b ∷ later) apart none = by_test (has_hash (script_hash t) b) refl none (none-behind hash t later apart)
  where
    by_test : (x : Bool) → has_hash (script_hash t) b ≡ x → NoneHas hash (if not x then b ∷ others t later else others t later)
        → (NoneHas hash (others t later) → NoneHas hash later) → NoneHas hash (b ∷ later)
    by_test true is rest behind = (ap (λ (h : List ℕ). bytes_eq h hash) (same-is (script_hash b) (script_hash t) is) ∙ apart, behind rest)
    by_test false is rest behind = (rest.0, behind rest.1)

pub none-of_first : (hash : List ℕ) (scripts : List Script) → NoneHas hash (first_scripts scripts) → NoneHas hash scripts
unfolding first_scripts
none-of_first hash [] none = tt
none-of_first hash (t ∷ later) none = (none.0, none-of_first hash later (none-behind hash t (first_scripts later) none.0 none.1))

-- ---- Places

abbrev pub place_at : List ℕ → ℕ × Option Script → Option ℕ
place_at hash it = place_if hash it.0 it.1

places-more : (hash : List ℕ) (xs : List (Option Script)) (x : Option Script)
    → places_with hash (xs ++ x ∷ []) ≡ places_with hash xs ++ filter_map (place_at hash) ((length xs, x) ∷ [])
unfolding places_with
places-more hash xs x =
    ap (filter_map (place_at hash)) (enumerate-push 0 xs x
    ∙ ap (λ (m : ℕ). enumerate_from 0 xs ++ (m, x) ∷ []) (let e : 0 + length xs ≡ length xs = omega arith in e))
    ∙ filter_map-append (place_at hash) (enumerate_from 0 xs) ((length xs, x) ∷ [])

pub places-none : (hash : List ℕ) (xs : List (Option Script)) → places_with hash (xs ++ None ∷ []) ≡ places_with hash xs
places-none hash xs = places-more hash xs None ∙ append-nil (places_with hash xs)

pub places-other : (hash : List ℕ) (xs : List (Option Script)) (s : Script) → has_hash hash s ≡ false → places_with hash (xs ++ Some s ∷ []) ≡ places_with hash xs
places-other hash xs s apart = places-more hash xs (Some s) ∙ by_test (has_hash hash s) apart ∙ append-nil (places_with hash xs)
  where
    by_test : (x : Bool) → x ≡ false → places_with hash xs ++ filter_map (λ (y : Option ℕ). y) ((if x then Some (length xs) else None) ∷ []) ≡ places_with hash xs ++ []
    by_test true is = absurd (cc)
    by_test false is = refl

pub places-one : (hash : List ℕ) (xs : List (Option Script)) (s : Script) → has_hash hash s ≡ true → places_with hash (xs ++ Some s ∷ []) ≡ places_with hash xs ++ length xs ∷ []
places-one hash xs s same = places-more hash xs (Some s) ∙ by_test (has_hash hash s) same
  where
    by_test : (x : Bool) → x ≡ true → places_with hash xs ++ filter_map (λ (y : Option ℕ). y) ((if x then Some (length xs) else None) ∷ []) ≡ places_with hash xs ++ length xs ∷ []
    by_test true is = refl
    by_test false is = absurd (cc)

none-placed : (hash : List ℕ) (n : ℕ) (xs : List (Option Script)) → NoneHas hash (filter_map present xs) → filter_map (place_at hash) (enumerate_from n xs) ≡ []
none-placed hash n [] none = refl
none-placed hash n (None ∷ xs) none = none-placed hash (n + 1) xs none
none-placed hash n (Some s ∷ xs) none = by_test (has_hash hash s) none.0 (none-placed hash (n + 1) xs none.1)
  where
    by_test : (x : Bool) → x ≡ false → filter_map (place_at hash) (enumerate_from (n + 1) xs) ≡ []
        → cons_option (if x then Some n else None) (filter_map (place_at hash) (enumerate_from (n + 1) xs)) ≡ []
    by_test true is rest = absurd (cc)
    by_test false is rest = rest

pub places-empty : (hash : List ℕ) (xs : List (Option Script)) → NoneHas hash (filter_map present xs) → places_with hash xs ≡ []
unfolding places_with
places-empty hash xs none = none-placed hash 0 xs none

-- none of two lists, one after the other
pub none-front : (hash : List ℕ) (xs ys : List Script) → NoneHas hash (xs ++ ys) → NoneHas hash xs
none-front hash [] ys none = tt
none-front hash (x ∷ xs) ys none = (none.0, none-front hash xs ys none.1)

pub none-back : (hash : List ℕ) (xs ys : List Script) → NoneHas hash (xs ++ ys) → NoneHas hash ys
none-back hash [] ys none = none
none-back hash (x ∷ xs) ys none = none-back hash xs ys none.1
