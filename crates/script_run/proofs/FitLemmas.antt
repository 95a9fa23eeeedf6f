-- What fits, and what is shown.
use Rattle.std.proofs.Common.{◌≡◌, ℕ, zero, suc, ◌+◌, ◌<◌, ◌≤◌, Bool, true, false, List, [], ◌∷◌, length, drop, get_or, Option, Some, None, cond, refl, sym, ap, ◌∙◌, subst, arith, eqb}
use Rattle.std.specs.Prelude.{nat_lt, ◌&&◌, IsTrue, slice_get}
use Rattle.std.specs.Option.{option_map, option_or}
use Rattle.std.specs.List.{All, AllZip, list_all}
use Rattle.std.proofs.lemmas.Bool.{false≢true, eqb-true, eq-eqb, ne_eqb, lt-ltb, ltb-true}
use Rattle.std.proofs.lemmas.List.{drop_all, drop_more}
use Rattle.std.proofs.lemmas.Option.{slice_get_within}
use Rattle.chain_defs.specs.Shape.{decoded}
use Rattle.chain_defs.specs.Schema.{CellOutput, cell_output, Header}
use Rattle.chain_defs.specs.Cell.{script_hash}
use Rattle.cell_state.specs.Copies.{ResolvedValue, ResolvedTxValue}
use Rattle.chain_tree.specs.declared.entry.Entry.{Entry}
use Rattle.verdict_defs.specs.Scene.{ShownCell}
use Rattle.script_run.specs.Fitting.{Fits, agree, is_typed, record_of, typed_as, uncopied, unfit, unkept, untyped}
use Rattle.chain_tree.specs.Told.{Stored}
use Rattle.verdict_defs.specs.Scene.{Scene}
use Rattle.script_run.specs.Lookups.{kept_header}
use Rattle.script_run.specs.Showing.{scene_shown}
use Rattle.script_run.specs.Shown.{IsShownAs}
use Rattle.script_run.proofs.ShowingLemmas.{shown-over}

-- ---- Copies

typed-some : (hash : Option (List ℕ)) (o : Option CellOutput) → IsTrue (typed_as hash o) → (output : CellOutput) × (o ≡ Some output)
typed-some hash None typed = absurd (false≢true typed)
typed-some hash (Some output) typed = (output, refl)

-- a copy that is typed is an output
pub output-of : (copy : ResolvedValue) → IsTrue (is_typed copy) → (output : CellOutput) × (decoded cell_output copy.output ≡ Some output)
output-of copy typed = typed-some copy.row.type_hash (decoded cell_output copy.output) typed

agree-map : {A B : Type 0} (f : A → B) (x : Option A) → IsTrue (agree x (option_map f x))
agree-map f None = refl
agree-map f (Some a) = refl

-- what is shown is typed
pub shown-typed : (copy : ResolvedValue) (cell : ShownCell) → IsShownAs copy cell → IsTrue (is_typed copy)
shown-typed copy cell is =
    subst (λ (o : Option CellOutput). IsTrue (typed_as copy.row.type_hash o)) (sym is.output)
    (subst (λ (hash : Option (List ℕ)). IsTrue (agree cell.output.type_script hash)) (sym is.type_script) (agree-map script_hash cell.output.type_script))

first-typed : (entries : List Entry) (copy : ResolvedValue) (copies : List ResolvedValue) (typed : Bool) → is_typed copy ≡ typed
    → cond typed (untyped entries copies) (Some (record_of entries copy.row.block)) ≡ None → IsTrue (is_typed copy) × (untyped entries copies ≡ None)
first-typed entries copy copies false is none = absurd cc
first-typed entries copy copies true is none = (is, none)

untyped-none : (entries : List Entry) (copies : List ResolvedValue) → untyped entries copies ≡ None → All (λ copy. IsTrue (is_typed copy)) copies
unfolding untyped
untyped-none entries [] none k d within = absurd (omega arith)
untyped-none entries (copy ∷ copies) none zero d within = (first-typed entries copy copies (is_typed copy) refl none).0
untyped-none entries (copy ∷ copies) none (suc k) d within =
    untyped-none entries copies (first-typed entries copy copies (is_typed copy) refl none).1 k d (omega arith)

-- from one of them on
pub untyped-at : (entries : List Entry) (copies : List ResolvedValue) (i : ℕ) (copy : ResolvedValue) (typed : Bool) → i < length copies → copy ≡ get_or copies i copy
    → is_typed copy ≡ typed
    → untyped entries (drop i copies) ≡ cond typed (untyped entries (drop (i + 1) copies)) (Some (record_of entries copy.row.block))
unfolding untyped
untyped-at entries copies i copy typed within is test =
    ap (untyped entries) (drop_more copies i copy within)
    ∙ ap (λ (first : ResolvedValue). untyped entries (first ∷ drop (i + 1) copies)) (sym is)
    ∙ ap (λ (b : Bool). cond b (untyped entries (drop (i + 1) copies)) (Some (record_of entries copy.row.block))) test

pub untyped-end : (entries : List Entry) (copies : List ResolvedValue) (i : ℕ) → length copies ≤ i → untyped entries (drop i copies) ≡ None
unfolding untyped
untyped-end entries copies i long = ap (untyped entries) (drop_all i copies long)

none-untyped : (entries : List Entry) (copies : List ResolvedValue) (cells : List ShownCell) → AllZip IsShownAs copies cells → untyped entries copies ≡ None
unfolding untyped
none-untyped entries [] cells zip = refl
none-untyped entries (copy ∷ copies) [] zip = absurd zip
none-untyped entries (copy ∷ copies) (cell ∷ cells) zip =
    ap (λ (b : Bool). cond b (untyped entries copies) (Some (record_of entries copy.row.block))) (shown-typed copy cell zip.0)
    ∙ none-untyped entries copies cells zip.1

-- ---- Header deps

and-parts : (a b : Bool) → a && b ≡ true → IsTrue a × IsTrue b
and-parts true true is = (refl, refl)
and-parts true false is = absurd (false≢true is)
and-parts false b is = absurd (false≢true is)

all-kept : (kept : ℕ) (places : List ℕ) → IsTrue (list_all (λ place. nat_lt place kept) places) → All (λ place. place < kept) places
all-kept kept [] all k d within = absurd (omega arith)
all-kept kept (place ∷ places) all zero d within = ltb-true place kept (and-parts (nat_lt place kept) _ all).0
all-kept kept (place ∷ places) all (suc k) d within = all-kept kept places (and-parts (nat_lt place kept) _ all).1 k d (omega arith)

none-unkept : (kept : ℕ) (places : List ℕ) → unkept kept places ≡ None → All (λ place. place < kept) places
none-unkept kept places none =
    elim (list_all (λ place. nat_lt place kept) places) as (λ all. list_all (λ place. nat_lt place kept) places ≡ all → cond {A = Option ℕ} all None (Some 0) ≡ None → All (λ place. place < kept) places) [
      | true ↦ λ all is. all-kept kept places all
      | false ↦ λ all is. absurd cc
    ] refl none

all-below : (kept : ℕ) (headers : ℕ → Option Header) (places : List ℕ) (shown : List Header) → ((place : ℕ) (h : Header) → headers place ≡ Some h → place < kept)
    → AllZip (λ place h. headers place ≡ Some h) places shown → IsTrue (list_all (λ place. nat_lt place kept) places)
all-below kept headers [] shown within zip = refl
all-below kept headers (place ∷ places) [] within zip = absurd zip
all-below kept headers (place ∷ places) (h ∷ shown) within zip =
    ap (λ (b : Bool). b && list_all (λ it. nat_lt it kept) places) (lt-ltb place kept (within place h zip.0)) ∙ all-below kept headers places shown within zip.1

below-kept : (kept : ℕ) (headers : ℕ → Option Header) (places : List ℕ) (shown : List Header) → ((place : ℕ) (h : Header) → headers place ≡ Some h → place < kept)
    → AllZip (λ place h. headers place ≡ Some h) places shown → unkept kept places ≡ None
below-kept kept headers places shown within zip = ap (λ (b : Bool). cond {A = Option ℕ} b None (Some 0)) (all-below kept headers places shown within zip)

-- ---- What fits

or-none : {T : Type 0} (a b : Option T) → option_or a b ≡ None → (a ≡ None) × (b ≡ None)
or-none None b none = (refl, none)
or-none (Some it) b none = absurd cc

copied : (it : ResolvedTxValue) → uncopied it ≡ None → length it.inputs ≡ length it.tx.raw.inputs
copied it none =
    elim (eqb (length it.inputs) (length it.tx.raw.inputs)) as (λ same. eqb (length it.inputs) (length it.tx.raw.inputs) ≡ same → cond {A = Option ℕ} same None (Some 0) ≡ None
    → length it.inputs ≡ length it.tx.raw.inputs) [
      | true ↦ λ same is. eqb-true (length it.inputs) (length it.tx.raw.inputs) same
      | false ↦ λ other is. absurd cc
    ] refl none

pub fits : (entries : List Entry) (it : ResolvedTxValue) → unfit entries it ≡ None → Fits (length entries) it
unfolding unfit
fits entries it none =
    let a = or-none _ _ none in
    let b = or-none _ _ a.1 in
    let c = or-none _ _ b.1 in
    record {
      copied = copied it a.0;
      inputs = untyped-none entries it.inputs b.0;
      deps = untyped-none entries it.deps c.0;
      kept_all = none-unkept (length entries) it.headers c.1;
    }

uncopied-none : (it : ResolvedTxValue) → length it.inputs ≡ length it.tx.raw.inputs → uncopied it ≡ None
uncopied-none it same = ap (λ (b : Bool). cond {A = Option ℕ} b None (Some 0)) (eq-eqb (length it.inputs) (length it.tx.raw.inputs) same)

pub unfit-uncopied : (entries : List Entry) (it : ResolvedTxValue) → (length it.inputs ≡ length it.tx.raw.inputs → ⊥) → Some 0 ≡ unfit entries it
unfolding unfit
unfit-uncopied entries it other =
    let a : uncopied it ≡ Some 0 = ap (λ (b : Bool). cond {A = Option ℕ} b None (Some 0)) (ne_eqb (length it.inputs) (length it.tx.raw.inputs) other) in
    sym (ap (λ (o : Option ℕ). option_or o (option_or (untyped entries it.inputs) (option_or (untyped entries it.deps) (unkept (length entries) it.headers)))) a)

pub unfit-inputs : (entries : List Entry) (it : ResolvedTxValue) (at : ℕ) → length it.inputs ≡ length it.tx.raw.inputs → untyped entries it.inputs ≡ Some at → Some at ≡ unfit entries it
unfolding unfit
unfit-inputs entries it at same found =
    let a = uncopied-none it same in
    sym (λ i. option_or (a i) (option_or (found i) (option_or (untyped entries it.deps) (unkept (length entries) it.headers))))

pub unfit-deps : (entries : List Entry) (it : ResolvedTxValue) (at : ℕ) → length it.inputs ≡ length it.tx.raw.inputs → untyped entries it.inputs ≡ None
    → untyped entries it.deps ≡ Some at → Some at ≡ unfit entries it
unfolding unfit
unfit-deps entries it at same none found =
    let a = uncopied-none it same in
    sym (λ i. option_or (a i) (option_or (none i) (option_or (found i) (unkept (length entries) it.headers))))

pub unfit-headers : (entries : List Entry) (it : ResolvedTxValue) → length it.inputs ≡ length it.tx.raw.inputs → untyped entries it.inputs ≡ None → untyped entries it.deps ≡ None
    → unkept (length entries) it.headers ≡ unfit entries it
unfolding unfit
unfit-headers entries it same inputs deps =
    let a = uncopied-none it same in
    sym (λ i. option_or (a i) (option_or (inputs i) (option_or (deps i) (unkept (length entries) it.headers))))

-- ---- What is shown fits

some-stored : (o : Option Stored) (h : Header) → option_map (λ it. it.block.header) o ≡ Some h → (made : Stored) × (o ≡ Some made)
some-stored None h is = absurd cc
some-stored (Some made) h is = (made, refl)

stored-within : (stored : List Stored) (place : ℕ) (h : Header) → kept_header stored place ≡ Some h → place < length stored
stored-within stored place h is = let made = some-stored (slice_get stored place) h is in slice_get_within stored place made.0 made.1

pub shown-fits : (entries : List Entry) (second : Bool) (epoch_length : ℕ) (stored : List Stored) (it : ResolvedTxValue) (scene : Scene) → length stored ≡ length entries
    → scene_shown second epoch_length stored it ≡ Some scene → unfit entries it ≡ None
unfolding unfit
shown-fits entries second epoch_length stored it scene long shown =
    let over = shown-over second epoch_length stored it scene shown in
    let a : uncopied it ≡ None = uncopied-none it over.shows.whole in
    let b : untyped entries it.inputs ≡ None = none-untyped entries it.inputs scene.inputs over.shows.inputs in
    let c : untyped entries it.deps ≡ None = none-untyped entries it.deps scene.deps over.shows.deps in
    let d : unkept (length entries) it.headers ≡ None =
    below-kept (length entries) (kept_header stored) it.headers scene.headers
    (λ place h is. subst (λ (n : ℕ). place < n) long (stored-within stored place h is)) over.headers.by_place in
    λ i. option_or (a i) (option_or (b i) (option_or (c i) (d i)))
