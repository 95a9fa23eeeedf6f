-- Where deps stand by their hashes, and the codes that scripts name.
use Rattle.std.proofs.Common.{◌≡◌, ℕ, zero, suc, ◌+◌, ◌-◌, ◌<◌, ◌≤◌, Bool, true, false, List, [], ◌∷◌, length, get_or, drop, Option, Some, None, if◌then◌else◌, refl, sym, ap, ◌∙◌, subst, arith, drop-cons}
use Rattle.std.specs.Prelude.{◌||◌, ◌&&◌, ◌==◌, not}
use Rattle.std.specs.List.{AllZip, find, filter, list_all}
use Rattle.std.specs.Map.{lookup}
use Rattle.std.specs.Str.{bytes_eq}
use Rattle.std.specs.Option.{option_map}
use Rattle.std.proofs.Math.Nat.{suc-ne-zero}
use Rattle.std.proofs.lemmas.Bool.{ne_eqb}
use Rattle.std.proofs.lemmas.List.{drop_all, get_or-drop, length-drop}
use Rattle.std.proofs.lemmas.Option.{same_Some}
use Rattle.chain_defs.specs.Schema.{Script}
use Rattle.chain_defs.specs.Cell.{script_hash, data_hash}
use Rattle.cell_state.specs.Copies.{ResolvedValue}
use Rattle.verdict_defs.specs.Codes.{Code, NoCode, ManyCodes, Is, has_data_hash, has_type_hash, is_script_of_hash, code_by_data, code_by_type, code_in, only_code, are_one_code}
use Rattle.verdict_defs.specs.Scene.{Scene, ShownCell}
use Rattle.script_run.specs.Locating.{first_with_data, typed_with, is_hash, has_type, with_type, are_many}
use Rattle.script_run.specs.Shown.{AreCodesIn, CodesValue, IsShownAs}
use Rattle.script_run.specs.declared.codes.Typed.{Typed}
use Rattle.script_run.proofs.PlaceLemmas.{zip-lengths}
use Rattle.script_run.proofs.ScriptLemmas.{same-is}

-- ---- One dep more, before the others

pub rest-of : (deps : List ResolvedValue) (behind place : ℕ) (dep : ResolvedValue) → behind < length deps → place ≡ length deps - 1 - behind → dep ≡ get_or deps place dep
    → drop (length deps - (behind + 1)) deps ≡ dep ∷ drop (length deps - behind) deps
rest-of deps behind place dep below at is =
    let within : place < length deps = omega arith in
    let here : length deps - (behind + 1) ≡ place = omega arith in
    let next : suc place ≡ length deps - behind = omega arith in
    ap (λ (n : ℕ). drop n deps) here ∙ drop-cons deps place dep within ∙ ap (λ (d : ResolvedValue). d ∷ drop (suc place) deps) (sym is)
    ∙ ap (λ (n : ℕ). dep ∷ drop n deps) next

pub data-more : (deps : List ResolvedValue) (behind place : ℕ) (dep : ResolvedValue) (hash : List ℕ) (found after : Option ℕ) → behind < length deps
    → place ≡ length deps - 1 - behind → dep ≡ get_or deps place dep → found ≡ first_with_data hash (length deps - behind) (drop (length deps - behind) deps)
    → after ≡ (if bytes_eq dep.row.data_hash hash then Some place else found)
    → after ≡ first_with_data hash (length deps - (behind + 1)) (drop (length deps - (behind + 1)) deps)
unfolding first_with_data
data-more deps behind place dep hash found after below at is so_far updates =
    let here : length deps - (behind + 1) ≡ place = omega arith in
    let next : length deps - behind ≡ suc place = omega arith in
    updates
    ∙ ap (λ (f : Option ℕ). if bytes_eq dep.row.data_hash hash then Some place else f) (so_far ∙ ap (λ (n : ℕ). first_with_data hash n (drop (length deps - behind) deps)) next)
    ∙ sym (ap (λ (n : ℕ). first_with_data hash n (drop (length deps - (behind + 1)) deps)) here ∙ ap (first_with_data hash place) (rest-of deps behind place dep below at is))

-- what is kept with one dep before others, by what is kept of these
abbrev pub typed_before : Bool → List ℕ → ℕ → ResolvedValue → List ResolvedValue → Option Typed → Option Typed
typed_before second hash place dep rest found = if has_type hash dep then Some (record { first = place; many = are_many second dep (with_type hash rest) }) else found

pub type-more : (second : Bool) (deps : List ResolvedValue) (behind place : ℕ) (dep : ResolvedValue) (hash : List ℕ) (found after : Option Typed) → behind < length deps
    → place ≡ length deps - 1 - behind → dep ≡ get_or deps place dep → found ≡ typed_with second hash (length deps - behind) (drop (length deps - behind) deps)
    → after ≡ typed_before second hash place dep (drop (length deps - behind) deps) found
    → after ≡ typed_with second hash (length deps - (behind + 1)) (drop (length deps - (behind + 1)) deps)
unfolding typed_with
type-more second deps behind place dep hash found after below at is so_far updates =
    let here : length deps - (behind + 1) ≡ place = omega arith in
    let next : length deps - behind ≡ suc place = omega arith in
    let rest = drop (length deps - behind) deps in
    updates
    ∙ ap (typed_before second hash place dep rest) (so_far ∙ ap (λ (n : ℕ). typed_with second hash n rest) next)
    ∙ sym (ap (λ (n : ℕ). typed_with second hash n (drop (length deps - (behind + 1)) deps)) here
    ∙ ap (typed_with second hash place) (rest-of deps behind place dep below at is))

-- before any, and after all
pub data-none : (deps : List ResolvedValue) (hash : List ℕ) → None ≡ first_with_data hash (length deps - 0) (drop (length deps - 0) deps)
unfolding first_with_data
data-none deps hash = ap (first_with_data hash (length deps - 0)) (sym (drop_all (length deps - 0) deps (omega arith)))

pub type-none : (second : Bool) (deps : List ResolvedValue) (hash : List ℕ) → None ≡ typed_with second hash (length deps - 0) (drop (length deps - 0) deps)
unfolding typed_with
type-none second deps hash = ap (typed_with second hash (length deps - 0)) (sym (drop_all (length deps - 0) deps (omega arith)))

pub all-behind : {X : Type 0} (f : ℕ → List ResolvedValue → X) (deps : List ResolvedValue) (behind : ℕ) → length deps ≤ behind
    → f (length deps - behind) (drop (length deps - behind) deps) ≡ f 0 deps
all-behind f deps behind all = let none : length deps - behind ≡ 0 = omega arith in ap (λ (n : ℕ). f n (drop n deps)) none

-- ---- The dep that is found

-- the deps of the codes are shown
pub own-deps : (deps : List ResolvedValue) (codes : CodesValue) (scene : Scene) → deps ≡ codes.deps → AreCodesIn codes scene → AllZip IsShownAs deps scene.deps
own-deps deps codes scene same are = subst (λ (these : List ResolvedValue). AllZip IsShownAs these scene.deps) (sym same) are.deps

pub record FoundAt (deps : List ResolvedValue) (start place : ℕ) (code : Code) : Type 0 where
  pub from : start ≤ place
  pub within : place < start + length deps
  pub content : (k : ℕ) (dep : ResolvedValue) → start + k ≡ place → dep ≡ get_or deps k dep → Is dep.content ≡ code

found-here : (dep : ResolvedValue) (later : List ResolvedValue) (start place : ℕ) (content : List ℕ) → start ≡ place → dep.content ≡ content
    → FoundAt (dep ∷ later) start place (Is content)
found-here dep later start place content at same = record {
  from = omega arith;
  within = omega arith;
  content = λ k d there is.
      let none : k ≡ 0 = omega arith in
      ap (λ (x : ResolvedValue). Is x.content) (is ∙ ap (λ (n : ℕ). get_or (dep ∷ later) n d) none) ∙ ap Is same;
}

found-later : (dep : ResolvedValue) (later : List ResolvedValue) (start place : ℕ) (code : Code) → FoundAt later (suc start) place code → FoundAt (dep ∷ later) start place code
found-later dep later start place code found = record {
  from = omega (arith, found.from);
  within = omega (arith, found.within);
  content = λ k d there is. behind k d there is;
}
  where
    behind : (k : ℕ) (d : ResolvedValue) → start + k ≡ place → d ≡ get_or (dep ∷ later) k d → Is d.content ≡ code
    behind zero d there is = absurd (omega (arith, found.from))
    behind (suc k) d there is = found.content k d (omega arith) is

data-same : (hash : List ℕ) (dep : ResolvedValue) (cell : ShownCell) → IsShownAs dep cell → bytes_eq dep.row.data_hash hash ≡ has_data_hash hash cell
data-same hash dep cell shown = ap (λ (h : List ℕ). bytes_eq h hash) (shown.content_hash ∙ ap data_hash refl)

pub data-found : (hash : List ℕ) (deps : List ResolvedValue) (cells : List ShownCell) (start place : ℕ) → AllZip IsShownAs deps cells
    → first_with_data hash start deps ≡ Some place → FoundAt deps start place (code_by_data cells hash)
unfolding first_with_data
data-found hash [] cells start place zip is = absurd (cc)
data-found hash (dep ∷ later) [] start place zip is = absurd zip
data-found hash (dep ∷ later) (cell ∷ cells) start place zip is =
    by_test (bytes_eq dep.row.data_hash hash) (has_data_hash hash cell) (data-same hash dep cell zip.0) is (data-found hash later cells (suc start) place zip.1)
  where
    by_test : (x y : Bool) → x ≡ y → (if x then Some start else first_with_data hash (suc start) later) ≡ Some place
        → (first_with_data hash (suc start) later ≡ Some place → FoundAt later (suc start) place (code_by_data cells hash))
        → FoundAt (dep ∷ later) start place (code_in (if y then Some cell else find (has_data_hash hash) cells))
    by_test true true same is rest = found-here dep later start place cell.content (same_Some start place is) zip.0.content
    by_test true false same is rest = absurd (cc)
    by_test false true same is rest = absurd (cc)
    by_test false false same is rest = found-later dep later start place (code_by_data cells hash) (rest is)

pub data-missing : (hash : List ℕ) (deps : List ResolvedValue) (cells : List ShownCell) (start : ℕ) → AllZip IsShownAs deps cells
    → first_with_data hash start deps ≡ None → NoCode ≡ code_by_data cells hash
unfolding first_with_data
data-missing hash [] [] start zip is = refl
data-missing hash [] (cell ∷ cells) start zip is = absurd zip
data-missing hash (dep ∷ later) [] start zip is = absurd zip
data-missing hash (dep ∷ later) (cell ∷ cells) start zip is =
    by_test (bytes_eq dep.row.data_hash hash) (has_data_hash hash cell) (data-same hash dep cell zip.0) is (data-missing hash later cells (suc start) zip.1)
  where
    by_test : (x y : Bool) → x ≡ y → (if x then Some start else first_with_data hash (suc start) later) ≡ None
        → (first_with_data hash (suc start) later ≡ None → NoCode ≡ code_by_data cells hash)
        → NoCode ≡ code_in (if y then Some cell else find (has_data_hash hash) cells)
    by_test true true same is rest = absurd (cc)
    by_test true false same is rest = absurd (cc)
    by_test false true same is rest = absurd (cc)
    by_test false false same is rest = rest is

-- ---- The deps with a type hash

type-same : (hash : List ℕ) (dep : ResolvedValue) (cell : ShownCell) → IsShownAs dep cell → is_hash hash dep.row.type_hash ≡ has_type_hash hash cell
type-same hash dep cell shown = ap (is_hash hash) shown.type_script ∙ of_script cell.output.type_script
  where
    of_script : (x : Option Script) → is_hash hash (option_map script_hash x) ≡ is_script_of_hash hash x
    of_script None = refl
    of_script (Some s) = refl

abbrev typed_cells : List ℕ → List ShownCell → List ShownCell
typed_cells hash cells = filter (has_type_hash hash) cells

-- they are shown as the cells with it
typed-shown : (hash : List ℕ) (deps : List ResolvedValue) (cells : List ShownCell) → AllZip IsShownAs deps cells → AllZip IsShownAs (with_type hash deps) (typed_cells hash cells)
typed-shown hash [] [] zip = tt
typed-shown hash [] (cell ∷ cells) zip = absurd zip
typed-shown hash (dep ∷ later) [] zip = absurd zip
typed-shown hash (dep ∷ later) (cell ∷ cells) zip =
    by_test (has_type hash dep) (has_type_hash hash cell) (type-same hash dep cell zip.0) (typed-shown hash later cells zip.1)
  where
    by_test : (x y : Bool) → x ≡ y → AllZip IsShownAs (with_type hash later) (typed_cells hash cells)
        → AllZip IsShownAs (if x then dep ∷ with_type hash later else with_type hash later) (if y then cell ∷ typed_cells hash cells else typed_cells hash cells)
    by_test true true same rest = (zip.0, rest)
    by_test true false same rest = absurd (cc)
    by_test false true same rest = absurd (cc)
    by_test false false same rest = rest

-- where none is kept there is none
none-typed : (second : Bool) (hash : List ℕ) (start : ℕ) (deps : List ResolvedValue) → typed_with second hash start deps ≡ None → with_type hash deps ≡ []
unfolding typed_with
none-typed second hash start [] is = refl
none-typed second hash start (dep ∷ later) is = by_test (has_type hash dep) is (none-typed second hash (suc start) later)
  where
    by_test : (x : Bool) → (if x then Some (record { first = start; many = are_many second dep (with_type hash later) }) else typed_with second hash (suc start) later) ≡ None
        → (typed_with second hash (suc start) later ≡ None → with_type hash later ≡ []) → (if x then dep ∷ with_type hash later else with_type hash later) ≡ []
    by_test true is rest = absurd (cc)
    by_test false is rest = rest is

-- the first dep with a type hash among those from a place on, and those after it
pub record FirstTyped (second : Bool) (hash : List ℕ) (start : ℕ) (deps : List ResolvedValue) (typed : Typed) : Type 0 where
  pub from : start ≤ typed.first
  pub within : typed.first < start + length deps
  pub dep : ResolvedValue
  pub others : List ResolvedValue
  pub are : with_type hash deps ≡ dep ∷ others
  pub there : (k : ℕ) (other : ResolvedValue) → start + k ≡ typed.first → other ≡ get_or deps k other → other ≡ dep
  pub many : typed.many ≡ are_many second dep others

first-here : (second : Bool) (hash : List ℕ) (start : ℕ) (dep : ResolvedValue) (later : List ResolvedValue) (typed : Typed) → has_type hash dep ≡ true
    → record { first = start; many = are_many second dep (with_type hash later) } ≡ typed → FirstTyped second hash start (dep ∷ later) typed
first-here second hash start dep later typed is same =
    subst (λ (t : Typed). FirstTyped second hash start (dep ∷ later) t) same (record {
      from = omega arith;
      within = omega arith;
      dep = dep;
      others = with_type hash later;
      are = ap (λ (x : Bool). if x then dep ∷ with_type hash later else with_type hash later) is;
      there = λ k other at got.
          let none : k ≡ 0 = omega arith in
          got ∙ ap (λ (n : ℕ). get_or (dep ∷ later) n other) none;
      many = refl;
    })

first-later : (second : Bool) (hash : List ℕ) (start : ℕ) (dep : ResolvedValue) (later : List ResolvedValue) (typed : Typed) → has_type hash dep ≡ false
    → FirstTyped second hash (suc start) later typed → FirstTyped second hash start (dep ∷ later) typed
first-later second hash start dep later typed is found = record {
  from = omega (arith, found.from);
  within = omega (arith, found.within);
  dep = found.dep;
  others = found.others;
  are = ap (λ (x : Bool). if x then dep ∷ with_type hash later else with_type hash later) is ∙ found.are;
  there = λ k other at got. behind k other at got;
  many = found.many;
}
  where
    behind : (k : ℕ) (other : ResolvedValue) → start + k ≡ typed.first → other ≡ get_or (dep ∷ later) k other → other ≡ found.dep
    behind zero other at got = absurd (omega (arith, found.from))
    behind (suc k) other at got = found.there k other (omega arith) got

pub first-typed : (second : Bool) (hash : List ℕ) (start : ℕ) (deps : List ResolvedValue) (typed : Typed) → typed_with second hash start deps ≡ Some typed
    → FirstTyped second hash start deps typed
unfolding typed_with
first-typed second hash start [] typed is = absurd (cc)
first-typed second hash start (dep ∷ later) typed is = by_test (has_type hash dep) refl is (first-typed second hash (suc start) later typed)
  where
    by_test : (x : Bool) → has_type hash dep ≡ x
        → (if x then Some (record { first = start; many = are_many second dep (with_type hash later) }) else typed_with second hash (suc start) later) ≡ Some typed
        → (typed_with second hash (suc start) later ≡ Some typed → FirstTyped second hash (suc start) later typed) → FirstTyped second hash start (dep ∷ later) typed
    by_test true test is rest = first-here second hash start dep later typed test (same_Some (record { first = start; many = are_many second dep (with_type hash later) }) typed is)
    by_test false test is rest = first-later second hash start dep later typed test (rest is)

-- ---- One dep more with a type hash

-- what is written where a dep has no type script
pub untyped-before : (second : Bool) (hash : List ℕ) (place : ℕ) (dep : ResolvedValue) (rest : List ResolvedValue) (found : Option Typed) → dep.row.type_hash ≡ None
    → found ≡ typed_before second hash place dep rest found
untyped-before second hash place dep rest found none =
    sym (ap (λ (t : Option (List ℕ)). if is_hash hash t then Some (record { first = place; many = are_many second dep (with_type hash rest) }) else found) none)

-- one before others is not one code with them where they are not one code, or one of them is not one code with it
one-before : (second : Bool) (dep next : ResolvedValue) (others : List ResolvedValue)
    → (are_many second next others || not second || not (bytes_eq next.content dep.content)) ≡ are_many second dep (next ∷ others)
one-before false dep next others =
    ors (are_many false next others) ∙ sym (ap not (ne_eqb (suc (length others)) 0 (suc-ne-zero (length others))))
  where
    ors : (x : Bool) → (x || true || not (bytes_eq next.content dep.content)) ≡ true
    ors true = refl
    ors false = refl
one-before true dep next others = by_test (bytes_eq next.content dep.content) refl
  where
    alike : (x : Bool) → (not x || false || false) ≡ not x
    alike true = refl
    alike false = refl

    unlike : (x : Bool) → (not x || false || true) ≡ true
    unlike true = refl
    unlike false = refl

    by_test : (x : Bool) → bytes_eq next.content dep.content ≡ x
        → (are_many true next others || false || not x) ≡ not (x && list_all (λ (other : ResolvedValue). bytes_eq other.content dep.content) others)
    by_test true same =
        alike (list_all (λ (other : ResolvedValue). bytes_eq other.content next.content) others)
        ∙ ap (λ (content : List ℕ). not (list_all (λ (other : ResolvedValue). bytes_eq other.content content) others)) (same-is next.content dep.content same)
    by_test false same = unlike (list_all (λ (other : ResolvedValue). bytes_eq other.content next.content) others)

-- whether it is so, by what is kept of those behind it
pub many-none : (second : Bool) (hash : List ℕ) (start : ℕ) (deps : List ResolvedValue) (dep : ResolvedValue) → typed_with second hash start deps ≡ None
    → false ≡ are_many second dep (with_type hash deps)
many-none second hash start deps dep is = sym (ap (are_many second dep) (none-typed second hash start deps is) ∙ alone second)
  where
    alone : (second : Bool) → are_many second dep [] ≡ false
    alone true = refl
    alone false = refl

pub many-some : (second : Bool) (hash : List ℕ) (start : ℕ) (deps : List ResolvedValue) (dep next : ResolvedValue) (typed : Typed)
    → typed_with second hash start (drop start deps) ≡ Some typed → next ≡ get_or deps typed.first next
    → (typed.many || not second || not (bytes_eq next.content dep.content)) ≡ are_many second dep (with_type hash (drop start deps))
many-some second hash start deps dep next typed is got =
    let found = first-typed second hash start (drop start deps) typed is in
    let at : start + (typed.first - start) ≡ typed.first = omega (arith, found.from) in
    let same : next ≡ found.dep =
    found.there (typed.first - start) next at
    (got ∙ ap (λ (n : ℕ). get_or deps n next) (sym at) ∙ sym (get_or-drop start deps (typed.first - start) next)) in
    ap (λ (b : Bool). b || not second || not (bytes_eq next.content dep.content)) found.many
    ∙ ap (λ (d : ResolvedValue). are_many second found.dep found.others || not second || not (bytes_eq d.content dep.content)) same
    ∙ one-before second dep found.dep found.others
    ∙ sym (ap (are_many second dep) found.are)

-- what is written at the hash of a dep
pub inserted-type : (second : Bool) (entries : List (List ℕ × Typed)) (key hash : List ℕ) (place : ℕ) (dep : ResolvedValue) (rest : List ResolvedValue) (many : Bool) (after : Option Typed)
    → dep.row.type_hash ≡ Some key
    → after ≡ (if bytes_eq key hash then Some (record { first = place; many = many }) else lookup (bytes_eq hash) entries)
    → many ≡ are_many second dep (with_type key rest) → after ≡ typed_before second hash place dep rest (lookup (bytes_eq hash) entries)
inserted-type second entries key hash place dep rest many after is updates tells =
    updates ∙ by_test (bytes_eq key hash) refl ∙ ap (λ (t : Option (List ℕ)). if is_hash hash t then Some (record { first = place; many = are_many second dep (with_type hash rest) }) else lookup (bytes_eq hash) entries) (sym is)
  where
    by_test : (b : Bool) → bytes_eq key hash ≡ b
        → (if b then Some (record { first = place; many = many }) else lookup (bytes_eq hash) entries)
        ≡ (if b then Some (record { first = place; many = are_many second dep (with_type hash rest) }) else lookup (bytes_eq hash) entries)
    by_test true same =
        ap (λ (b : Bool). Some (record { first = place; many = b })) (tells ∙ ap (λ (h : List ℕ). are_many second dep (with_type h rest)) (same-is key hash same))
    by_test false same = refl

-- ---- The code that is found by type

pub no-type : (scene : Scene) (codes : CodesValue) (hash : List ℕ) → AreCodesIn codes scene → typed_with codes.second hash 0 codes.deps ≡ None
    → NoCode ≡ code_by_type scene.second scene.deps hash
no-type scene codes hash are is =
    sym (ap (only_code scene.second) (none-shown (with_type hash codes.deps) (typed_cells hash scene.deps) (typed-shown hash codes.deps scene.deps are.deps)
    (none-typed codes.second hash 0 codes.deps is)))
  where
    none-shown : (deps : List ResolvedValue) (cells : List ShownCell) → AllZip IsShownAs deps cells → deps ≡ [] → cells ≡ []
    none-shown [] [] zip is = refl
    none-shown [] (cell ∷ cells) zip is = absurd zip
    none-shown (dep ∷ later) cells zip is = absurd (cc)

contents-same : (content other : List ℕ) (deps : List ResolvedValue) (cells : List ShownCell) → content ≡ other → AllZip IsShownAs deps cells
    → list_all (λ (dep : ResolvedValue). bytes_eq dep.content content) deps ≡ list_all (λ (cell : ShownCell). bytes_eq cell.content other) cells
contents-same content other [] [] same zip = refl
contents-same content other [] (cell ∷ cells) same zip = absurd zip
contents-same content other (dep ∷ later) [] same zip = absurd zip
contents-same content other (dep ∷ later) (cell ∷ cells) same zip =
    ap (λ (it : List ℕ). bytes_eq it content && list_all (λ (dep : ResolvedValue). bytes_eq dep.content content) later) zip.0.content
    ∙ ap (λ (it : List ℕ). bytes_eq cell.content it && list_all (λ (dep : ResolvedValue). bytes_eq dep.content content) later) same
    ∙ ap (λ (b : Bool). bytes_eq cell.content other && b) (contents-same content other later cells same zip.1)

many-shown : (second : Bool) (dep : ResolvedValue) (cell : ShownCell) (others : List ResolvedValue) (cells : List ShownCell) → IsShownAs dep cell → AllZip IsShownAs others cells
    → are_many second dep others ≡ not (are_one_code second cell cells)
many-shown true dep cell others cells shown zip = ap not (contents-same dep.content cell.content others cells shown.content zip)
many-shown false dep cell others cells shown zip = ap (λ (n : ℕ). not (n == 0)) (zip-lengths IsShownAs others cells zip)

-- by the dep that is found
pub record TypedCode (deps : List ResolvedValue) (typed : Typed) (code : Code) : Type 0 where
  pub within : typed.first < length deps
  pub one : typed.many ≡ false → (dep : ResolvedValue) → dep ≡ get_or deps typed.first dep → Is dep.content ≡ code
  pub many : typed.many ≡ true → ManyCodes ≡ code

code-typed : (second : Bool) (dep : ResolvedValue) (others : List ResolvedValue) (deps : List ResolvedValue) (cells : List ShownCell) → deps ≡ dep ∷ others → AllZip IsShownAs deps cells
    → only_code second cells ≡ (if are_many second dep others then ManyCodes else Is dep.content)
code-typed second dep others [] cells is zip = absurd (cc)
code-typed second dep others (first ∷ later) [] is zip = absurd zip
code-typed second dep others (first ∷ later) (cell ∷ cells) is zip =
    ap (λ (b : Bool). if b then Is cell.content else ManyCodes) (twice (are_one_code second cell cells) ∙ ap not (sym (many-shown second first cell later cells zip.0 zip.1)))
    ∙ turned (are_many second first later)
    ∙ ap (λ (content : List ℕ). if are_many second first later then ManyCodes else Is content) (sym zip.0.content)
    ∙ of_list (first ∷ later) (dep ∷ others) is
  where
    twice : (b : Bool) → b ≡ not (not b)
    twice true = refl
    twice false = refl

    turned : (b : Bool) → (if not b then Is cell.content else ManyCodes) ≡ (if b then ManyCodes else Is cell.content)
    turned true = refl
    turned false = refl

    code_in_front : List ResolvedValue → Code
    code_in_front [] = NoCode
    code_in_front (it ∷ more) = if are_many second it more then ManyCodes else Is it.content

    of_list : (these those : List ResolvedValue) → these ≡ those → code_in_front these ≡ code_in_front those
    of_list these those same = ap code_in_front same

pub typed-found : (scene : Scene) (codes : CodesValue) (hash : List ℕ) (typed : Typed) → AreCodesIn codes scene → typed_with codes.second hash 0 codes.deps ≡ Some typed
    → TypedCode codes.deps typed (code_by_type scene.second scene.deps hash)
typed-found scene codes hash typed are is =
    let found = first-typed codes.second hash 0 codes.deps typed is in
    let code : code_by_type scene.second scene.deps hash ≡ (if are_many codes.second found.dep found.others then ManyCodes else Is found.dep.content) =
    ap (λ (second : Bool). code_by_type second scene.deps hash) are.second
    ∙ code-typed codes.second found.dep found.others (with_type hash codes.deps) (typed_cells hash scene.deps) found.are (typed-shown hash codes.deps scene.deps are.deps) in
    record {
      within = let within : typed.first < 0 + length codes.deps = found.within in omega (arith, within);
      one = λ single dep got.
          ap (λ (it : ResolvedValue). Is it.content) (found.there typed.first dep (omega arith) got)
          ∙ sym (code ∙ ap (λ (b : Bool). if b then ManyCodes else Is found.dep.content) (sym found.many ∙ single));
      many = λ many. sym (code ∙ ap (λ (b : Bool). if b then ManyCodes else Is found.dep.content) (sym found.many ∙ many));
    }

-- ---- Places that are found are within

data-below : (hash : List ℕ) (deps : List ResolvedValue) (start place : ℕ) → first_with_data hash start deps ≡ Some place → place < start + length deps
unfolding first_with_data
data-below hash [] start place is = absurd (cc)
data-below hash (dep ∷ later) start place is = by_test (bytes_eq dep.row.data_hash hash) is (data-below hash later (suc start) place)
  where
    by_test : (x : Bool) → (if x then Some start else first_with_data hash (suc start) later) ≡ Some place
        → (first_with_data hash (suc start) later ≡ Some place → place < suc start + length later) → place < start + length (dep ∷ later)
    by_test true is rest = let same : start ≡ place = same_Some start place is in omega arith
    by_test false is rest = let more : place < suc start + length later = rest is in omega arith

pub data-within : (hash : List ℕ) (deps : List ResolvedValue) (place : ℕ) → first_with_data hash 0 deps ≡ Some place → place < length deps
data-within hash deps place is = let below : place < 0 + length deps = data-below hash deps 0 place is in omega arith

pub type-within : (second : Bool) (hash : List ℕ) (start : ℕ) (deps : List ResolvedValue) (typed : Typed) → start ≤ length deps
    → typed_with second hash start (drop start deps) ≡ Some typed → typed.first < length deps
type-within second hash start deps typed few is =
    let within = (first-typed second hash start (drop start deps) typed is).within in
    let left : length (drop start deps) ≡ length deps - start = length-drop start deps in
    omega (arith, within, left)
