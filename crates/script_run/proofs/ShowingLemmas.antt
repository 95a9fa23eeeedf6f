-- What a scene that is shown over kept blocks has.
use Rattle.std.proofs.Common.{◌≡◌, ℕ, Bool, true, false, cond, List, [], ◌∷◌, length, map, Option, Some, None, refl, sym, ap, subst, ◌∙◌}
use Rattle.std.specs.Prelude.{IfSome}
use Rattle.std.specs.Option.{option_map, option_and_then}
use Rattle.std.specs.List.{AllZip}
use Rattle.std.proofs.lemmas.Bool.{and_parts, eqb-true}
use Rattle.std.proofs.lemmas.Slice.Eq.{bytes_eq-Decides}
use Rattle.chain_defs.specs.Shape.{decoded}
use Rattle.chain_defs.specs.Schema.{Header, CellOutput, cell_output, Transaction}
use Rattle.chain_defs.specs.Hashes.{transaction_hash}
use Rattle.chain_defs.specs.Cell.{script_hash, data_hash, occupied_by}
use Rattle.cell_state.specs.Copies.{ResolvedValue, ResolvedTxValue}
use Rattle.chain_tree.specs.Told.{Stored}
use Rattle.rule_defs.specs.Site.{all_there}
use Rattle.machine_defs.specs.World.{Items}
use Rattle.verdict_defs.specs.Scene.{Scene, ShownCell}
use Rattle.script_run.specs.Lookups.{ShowsHeaders, items_of, known_items, kept_header}
use Rattle.script_run.specs.Showing.{cell_shown, cells_shown, tells_output, header_of, headers_shown, is_whole, same_hash, scene_shown, scene_with}
use Rattle.script_run.specs.Shown.{GroupValue, IsShownAs, Shows}
use Rattle.script_run.proofs.PlaceLemmas.{some-is, zip-lengths, zip-map}

-- ---- Lists of what may be there

record There {V : Type 0} (first : Option V) (later_ones : Option (List V)) (vs : List V) : Type 0 where
  v : V
  rest : List V
  here : first ≡ Some v
  later : later_ones ≡ Some rest
  whole : v ∷ rest ≡ vs

later-there : {V : Type 0} (first : Option V) (later : Option (List V)) (vs : List V) → option_and_then (λ v. option_map (λ rest. v ∷ rest) later) first ≡ Some vs
    → There first later vs
later-there None later vs all = absurd cc
later-there (Some v) None vs all = absurd cc
later-there (Some v) (Some rest) vs all = record { v = v; rest = rest; here = refl; later = refl; whole = some-is _ _ all }

pub all-zip : {A B : Type 0} (f : A → Option B) (R : A → B → Type 0) → ((x : A) (y : B) → f x ≡ Some y → R x y) → (xs : List A) (ys : List B)
    → all_there (map f xs) ≡ Some ys → AllZip R xs ys
unfolding all_there
all-zip f R each [] ys all = subst (λ (l : List _). AllZip R [] l) (some-is [] ys all) tt
all-zip f R each (x ∷ xs) ys all =
    let t = later-there (f x) (all_there (map f xs)) ys all in
    subst (λ (l : List _). AllZip R (x ∷ xs) l) t.whole (each x t.v t.here, all-zip f R each xs t.rest t.later)

-- ---- One cell

same-hashes : (one other : Option (List ℕ)) → same_hash one other ≡ true → one ≡ other
same-hashes None None is = refl
same-hashes None (Some other) is = absurd cc
same-hashes (Some one) None is = absurd cc
same-hashes (Some one) (Some other) is = ap Some ((bytes_eq-Decides one other).0 is)

-- what is so of a copy that is shown
record CopyShown (stored : List Stored) (headers : List ℕ) (copy : ResolvedValue) (cell : ShownCell) : Type 0 where
  is : IsShownAs copy cell
  header : cell.header ≡ header_of stored headers copy.row.block

by-output : (stored : List Stored) (headers : List ℕ) (copy : ResolvedValue) (cell : ShownCell) (output : CellOutput) (test : Bool)
    → decoded cell_output copy.output ≡ Some output → tells_output copy.row output copy.content ≡ test
    → cond test (Some (record { output = output; content = copy.content; header = header_of stored headers copy.row.block })) None ≡ Some cell → CopyShown stored headers copy cell
by-output stored headers copy cell output false is test shown = absurd cc
by-output stored headers copy cell output true is test shown =
    let made : ShownCell = record { output = output; content = copy.content; header = header_of stored headers copy.row.block } in
    let same : made ≡ cell = some-is made cell shown in
    let all = and_parts _ _ test in
    let both = and_parts _ _ all.0 in
    let first = and_parts _ _ both.0 in
    let it : CopyShown stored headers copy made = record {
      is = record {
        output = is;
        content = refl;
        lock = (bytes_eq-Decides copy.row.lock_hash (script_hash output.lock)).0 first.0;
        type_script = same-hashes copy.row.type_hash (option_map script_hash output.type_script) first.1;
        content_hash = (bytes_eq-Decides copy.row.data_hash (data_hash copy.content)).0 both.1;
        occupied = eqb-true copy.row.occupied (occupied_by output copy.content) all.1;
      };
      header = refl;
    } in
    subst (CopyShown stored headers copy) same it

by-decoded : (stored : List Stored) (headers : List ℕ) (copy : ResolvedValue) (cell : ShownCell) (output : Option CellOutput) → decoded cell_output copy.output ≡ output
    → option_and_then (λ it. cond (tells_output copy.row it copy.content)
    (Some (record { output = it; content = copy.content; header = header_of stored headers copy.row.block })) None) output ≡ Some cell
    → CopyShown stored headers copy cell
by-decoded stored headers copy cell None is shown = absurd cc
by-decoded stored headers copy cell (Some output) is shown = by-output stored headers copy cell output (tells_output copy.row output copy.content) is refl shown

copy-shown : (stored : List Stored) (headers : List ℕ) (copy : ResolvedValue) (cell : ShownCell) → cell_shown stored headers copy ≡ Some cell → CopyShown stored headers copy cell
unfolding cell_shown
copy-shown stored headers copy cell shown = by-decoded stored headers copy cell (decoded cell_output copy.output) refl shown

-- ---- A scene

pub record SceneParts (second : Bool) (epoch_length : ℕ) (tx : Transaction) (inputs deps : Option (List ShownCell)) (headers : Option (List Header)) (scene : Scene) : Type 0 where
  pub transaction : scene.transaction ≡ tx
  pub inputs_are : inputs ≡ Some scene.inputs
  pub deps_are : deps ≡ Some scene.deps
  pub headers_are : headers ≡ Some scene.headers
  pub length_is : scene.epoch_length ≡ epoch_length
  pub second_is : scene.second ≡ second

scene-parts : (second : Bool) (epoch_length : ℕ) (tx : Transaction) (inputs deps : Option (List ShownCell)) (headers : Option (List Header)) (scene : Scene)
    → scene_with second epoch_length tx inputs deps headers ≡ Some scene → SceneParts second epoch_length tx inputs deps headers scene
scene-parts second epoch_length tx None deps headers scene is = absurd cc
scene-parts second epoch_length tx (Some inputs) None headers scene is = absurd cc
scene-parts second epoch_length tx (Some inputs) (Some deps) None scene is = absurd cc
scene-parts second epoch_length tx (Some inputs) (Some deps) (Some headers) scene is =
    let made : Scene = record { transaction = tx; inputs = inputs; deps = deps; headers = headers; epoch_length = epoch_length; second = second } in
    let same : made ≡ scene = some-is made scene is in
    subst (SceneParts second epoch_length tx (Some inputs) (Some deps) (Some headers)) same (record { transaction = refl; inputs_are = refl; deps_are = refl; headers_are = refl; length_is = refl; second_is = refl })

-- a scene that is shown over kept blocks
pub record ShownOver (second : Bool) (epoch_length : ℕ) (stored : List Stored) (it : ResolvedTxValue) (scene : Scene) : Type 0 where
  pub shows : Shows it scene
  pub headers : ShowsHeaders (kept_header stored) it scene
  pub length_is : scene.epoch_length ≡ epoch_length
  pub second_is : scene.second ≡ second

by-whole : (second : Bool) (epoch_length : ℕ) (stored : List Stored) (it : ResolvedTxValue) (scene : Scene) (whole : Bool) → is_whole it ≡ whole
    → cond whole (scene_with second epoch_length it.tx (cells_shown stored it.headers it.inputs) (cells_shown stored it.headers it.deps) (headers_shown stored it.headers)) None ≡ Some scene
    → ShownOver second epoch_length stored it scene
by-whole second epoch_length stored it scene false test shown = absurd cc
by-whole second epoch_length stored it scene true test shown =
    let both = and_parts _ _ test in
    let parts = scene-parts second epoch_length it.tx (cells_shown stored it.headers it.inputs) (cells_shown stored it.headers it.deps) (headers_shown stored it.headers) scene shown in
    let by_place : AllZip (λ place shown. kept_header stored place ≡ Some shown) it.headers scene.headers =
    all-zip (kept_header stored) (λ place shown. kept_header stored place ≡ Some shown) (λ place header is. is) it.headers scene.headers parts.headers_are in
    let inputs : AllZip (CopyShown stored it.headers) it.inputs scene.inputs =
    all-zip (cell_shown stored it.headers) (CopyShown stored it.headers) (copy-shown stored it.headers) it.inputs scene.inputs parts.inputs_are in
    let deps : AllZip (CopyShown stored it.headers) it.deps scene.deps =
    all-zip (cell_shown stored it.headers) (CopyShown stored it.headers) (copy-shown stored it.headers) it.deps scene.deps parts.deps_are in
    record {
      shows = record {
        transaction = parts.transaction;
        hash = (bytes_eq-Decides it.hash (transaction_hash it.tx)).0 both.0;
        whole = eqb-true (length it.inputs) (length it.tx.raw.inputs) both.1;
        inputs = zip-map (CopyShown stored it.headers) IsShownAs (λ copy cell shown. shown.is) it.inputs scene.inputs inputs;
        deps = zip-map (CopyShown stored it.headers) IsShownAs (λ copy cell shown. shown.is) it.deps scene.deps deps;
        headers = sym (zip-lengths (λ place shown. kept_header stored place ≡ Some shown) it.headers scene.headers by_place);
      };
      headers = record {
        inputs = zip-map (CopyShown stored it.headers) _ (λ copy cell shown. shown.header) it.inputs scene.inputs inputs;
        deps = zip-map (CopyShown stored it.headers) _ (λ copy cell shown. shown.header) it.deps scene.deps deps;
        by_place = by_place;
      };
      length_is = parts.length_is;
      second_is = parts.second_is;
    }

pub shown-over : (second : Bool) (epoch_length : ℕ) (stored : List Stored) (it : ResolvedTxValue) (scene : Scene) → scene_shown second epoch_length stored it ≡ Some scene → ShownOver second epoch_length stored it scene
unfolding scene_shown
shown-over second epoch_length stored it scene shown = by-whole second epoch_length stored it scene (is_whole it) refl shown

-- ---- What surrounds a script

pub if-told : (second : Bool) (epoch_length : ℕ) (it : ResolvedTxValue) (group : GroupValue) (told : Option (List Stored)) (P : Items → Type 0)
    → ((stored : List Stored) (scene : Scene) → told ≡ Some stored → scene_shown second epoch_length stored it ≡ Some scene → P (items_of scene group))
    → IfSome (known_items second epoch_length it group told) P
if-told second epoch_length it group None P each = tt
if-told second epoch_length it group (Some stored) P each =
    elim (scene_shown second epoch_length stored it) as (λ shown. scene_shown second epoch_length stored it ≡ shown → IfSome (option_map (λ scene. items_of scene group) shown) P) [
      | None ↦ λ none. tt
      | Some scene ↦ λ some. each stored scene refl some
    ] refl

pub told-is : (second : Bool) (epoch_length : ℕ) (it : ResolvedTxValue) (group : GroupValue) (told : Option (List Stored)) (stored : List Stored) (scene : Scene) → told ≡ Some stored
    → scene_shown second epoch_length stored it ≡ Some scene → known_items second epoch_length it group told ≡ Some (items_of scene group)
told-is second epoch_length it group told stored scene told_are shown =
    ap (known_items second epoch_length it group) told_are ∙ ap (option_map (λ s. items_of s group)) shown
