-- What is found for a script is the item that it is answered.
use Rattle.std.proofs.Common.{◌≡◌, ℕ, zero, suc, ◌+◌, ◌<◌, ◌/◌, ◌%◌, ◌^◌, Bool, true, false, List, [], ◌∷◌, length, get_or, Option, Some, None, refl, sym, ap, subst, ◌∙◌, arith, eqb, cond}
use Rattle.std.specs.Prelude.{slice_get, IsSomeAnd, ◌==◌, ◌||◌}
use Rattle.std.specs.Option.{option_map, option_and_then}
use Rattle.std.specs.Int.{w64, to_le_bytes}
use Rattle.std.specs.List.{All, AllZip, enumerate_from, list_any}
use Rattle.std.proofs.lemmas.Option.{slice_get-map, get_or_from_slice_get}
use Rattle.std.proofs.lemmas.Bool.{eqb-true}
use Rattle.std.proofs.lemmas.List.{length-map}
use Rattle.std.proofs.lemmas.List.FromFn.{length-enumerate_from}
use Rattle.chain_defs.specs.Shape.{decoded}
use Rattle.chain_defs.specs.Schema.{Header, CellInput, CellOutput, cell_output, Transaction}
use Rattle.chain_defs.specs.Row.{Row}
use Rattle.chain_defs.specs.Cell.{data_of}
use Rattle.cell_state.specs.Copies.{ResolvedValue}
use Rattle.machine_defs.specs.World.{Call, Item, Here, NoIndex, Missing, Unknown}
use Rattle.verdict_defs.specs.Scene.{ShownCell}
use Rattle.verdict_defs.specs.Items.{OutputWithData, answer, item_at, listed, output_of}
use Rattle.verdict_defs.specs.Groups.{Group}
use Rattle.verdict_defs.specs.Sources.{Place, place_in_source, source_of}
use Rattle.script_run.specs.declared.bytes.Answer.{Answer}
use Rattle.script_run.specs.declared.bytes.CellPart.{CellPart}
use Rattle.script_run.specs.declared.bytes.HeaderPart.{HeaderPart}
use Rattle.script_run.specs.declared.bytes.InputPart.{InputPart}
use Rattle.script_run.specs.declared.bytes.Lookup.{Lookup}
use Rattle.script_run.specs.declared.sources.Place as code
use Rattle.script_run.specs.declared.sources.Target.{Target}
use Rattle.script_run.specs.declared.sources.Target.TheVariants.{At}
use Rattle.script_run.specs.Places.{place_meaning, target_meaning}
use Rattle.script_run.specs.Lookups.{TellsOutput, IsFound, cell_part, header_among, header_part, input_part, item_of}
use Rattle.script_run.specs.Shown.{IsShownAs, output_row, output_rows}
use Rattle.script_run.proofs.PlaceLemmas.{Beside, beside, beside-none, some-is}

pub found : (headers : ℕ → Option Header) (epoch_length : ℕ) (item other : Item) (look : Lookup) → item ≡ other → IsFound headers epoch_length other look
    → IsFound headers epoch_length item look
found headers epoch_length item other look same is = subst (λ (it : Item). IsFound headers epoch_length it look) (sym same) is

-- ---- Cells

pub part-here : (cell : OutputWithData) (part kind : CellPart) (bytes : List ℕ) → part ≡ kind → cell_part kind cell ≡ Some bytes → answer (Some (cell_part part cell)) ≡ Here bytes
part-here cell part kind bytes is here = ap (λ (p : CellPart). answer (Some (cell_part p cell))) is ∙ ap (λ (b : Option (List ℕ)). answer (Some b)) here

pub input-here : (input : CellInput) (part kind : InputPart) (bytes : List ℕ) → part ≡ kind → input_part kind input ≡ Some bytes → answer (Some (input_part part input)) ≡ Here bytes
input-here input part kind bytes is here = ap (λ (p : InputPart). answer (Some (input_part p input))) is ∙ ap (λ (b : Option (List ℕ)). answer (Some b)) here

pub none-there : {A B : Type 0} (R : A → B → Type 0) (f : B → Option (List ℕ)) (xs : List A) (ys : List B) (i : ℕ) → AllZip R xs ys → slice_get xs i ≡ None
    → answer (option_map f (slice_get ys i)) ≡ NoIndex
none-there R f xs ys i zip none = ap (λ (o : Option _). answer (option_map f o)) (beside-none R xs ys i zip none)

pub one-there : {A : Type 0} (f : A → Option (List ℕ)) (xs : List A) (i : ℕ) (x : A) → slice_get xs i ≡ Some x → answer (option_map f (slice_get xs i)) ≡ answer (Some (f x))
one-there f xs i x here = ap (λ (o : Option _). answer (option_map f o)) here

pub shown-copy : (cells : List ShownCell) (copies : List ResolvedValue) (i : ℕ) (copy : ResolvedValue) (part : CellPart) (result : Answer)
    → AllZip IsShownAs copies cells → slice_get copies i ≡ Some copy
    → ((cell : ShownCell) → IsShownAs copy cell → answer (Some (cell_part part (output_of cell))) ≡ item_of result)
    → answer (option_map (λ cell. cell_part part (output_of cell)) (slice_get cells i)) ≡ item_of result
shown-copy cells copies i copy part result zip here each =
    let it : Beside IsShownAs copy cells i = beside IsShownAs copies cells i copy zip here in
    one-there (λ cell. cell_part part (output_of cell)) cells i it.item it.there ∙ each it.item it.holds

pub tells-output : (copy : ResolvedValue) (cell : ShownCell) → IsShownAs copy cell → TellsOutput copy.row (output_of cell)
tells-output copy cell is = record { lock = is.lock; type_script = is.type_script; content_hash = is.content_hash; occupied = is.occupied }

-- its row, as a part of what it is made of
pub row-tells-output : (copy : ResolvedValue) (row : Row) (cell : ShownCell) → row ≡ copy.row → IsShownAs copy cell → TellsOutput row (output_of cell)
row-tells-output copy row cell same is = subst (λ (r : Row). TellsOutput r (output_of cell)) (sym same) (tells-output copy cell is)

pub same-output : (copy : ResolvedValue) (cell : ShownCell) (output : CellOutput) → IsShownAs copy cell → decoded cell_output copy.output ≡ Some output → output ≡ cell.output
same-output copy cell output is some = let it = is.output in cc

-- ---- Outputs

enumerated : {A : Type 0} (n : ℕ) (xs : List A) (i : ℕ) (x : A) → slice_get xs i ≡ Some x → slice_get (enumerate_from n xs) i ≡ Some (n + i, x)
enumerated n [] i x here = absurd cc
enumerated n (y ∷ xs) zero x here =
    let same : n ≡ n + 0 = omega arith in
    ap Some (λ t. (same t, some-is y x here t))
enumerated n (y ∷ xs) (suc i) x here =
    let next : n + 1 + i ≡ n + suc i = omega arith in
    enumerated (n + 1) xs i x here ∙ ap (λ (k : ℕ). Some (k, x)) next

pub as-many-rows : (t : Transaction) → length (output_rows t) ≡ length t.raw.outputs
unfolding output_rows
as-many-rows t = length-map (enumerate_from 0 t.raw.outputs) (output_row t) ∙ length-enumerate_from 0 t.raw.outputs

-- the row of an output
pub its-row : (t : Transaction) (i : ℕ) (output : CellOutput) (row : Row) → slice_get t.raw.outputs i ≡ Some output → row ≡ get_or (output_rows t) i row
    → row ≡ output_row t (i, output)
unfolding output_rows
its-row t i output row here is =
    let none_more : 0 + i ≡ i = omega arith in
    let at : slice_get (output_rows t) i ≡ Some (output_row t (i, output)) =
    slice_get-map (output_row t) (enumerate_from 0 t.raw.outputs) i ∙ ap (option_map (output_row t)) (enumerated 0 t.raw.outputs i output here)
    ∙ ap (λ (k : ℕ). Some (output_row t (k, output))) none_more in
    is ∙ get_or_from_slice_get (output_rows t) i (output_row t (i, output)) row at

pub own-row-tells : (t : Transaction) (i : ℕ) (output : CellOutput) (row : Row) → row ≡ output_row t (i, output) → TellsOutput row (record { output = output; content = data_of t i })
own-row-tells t i output row is = record { lock = ap (λ (r : Row). r.lock_hash) is; type_script = ap (λ (r : Row). r.type_hash) is; content_hash = ap (λ (r : Row). r.data_hash) is; occupied = ap (λ (r : Row). r.occupied) is }

-- ---- Headers

-- a place among those of the header deps has a header
pub record HasHeader (headers : ℕ → Option Header) (place : ℕ) : Type 0 where
  pub it : Header
  pub there : headers place ≡ Some it

pub among : (headers : ℕ → Option Header) (places : List ℕ) (shown : List Header) (place : ℕ) → AllZip (λ p h. headers p ≡ Some h) places shown
    → list_any (λ p. p == place) places ≡ true → HasHeader headers place
among headers [] shown place zip any = absurd cc
among headers (p ∷ places) [] place zip any = absurd zip
among headers (p ∷ places) (h ∷ shown) place zip any =
    elim (eqb p place) as (λ b. eqb p place ≡ b → HasHeader headers place) [
      | true ↦ λ same. record { it = h; there = ap headers (sym (eqb-true p place same)) ∙ zip.0 }
      | false ↦ λ other. among headers places shown place zip.1 (sym (ap (λ (b : Bool). b || list_any (λ q. q == place) places) other) ∙ any)
    ] refl

pub some-and : {A : Type 0} (P : A → Type 0) (o : Option A) (x : A) → o ≡ Some x → P x → IsSomeAnd o P
some-and P o x is holds = subst (λ (it : Option _). IsSomeAnd it P) (sym is) holds

-- that of the block that made a cell, which is among those of the header deps
pub made-among : (headers : ℕ → Option Header) (epoch_length : ℕ) (part : HeaderPart) (places : List ℕ) (shown : List Header) (copies : List ResolvedValue) (cells : List ShownCell)
    (i : ℕ) (copy : ResolvedValue) (place : ℕ) → AllZip (λ p h. headers p ≡ Some h) places shown → AllZip (λ it cell. cell.header ≡ header_among places headers it.row.block) copies cells
    → slice_get copies i ≡ Some copy → place ≡ copy.row.block → list_any (λ p. p == place) places ≡ true
    → IsSomeAnd (headers place) (λ h. answer (option_map (λ cell. option_and_then (λ it. Some (header_part epoch_length part it)) cell.header) (slice_get cells i)) ≡ Here (header_part epoch_length part h))
made-among headers epoch_length part places shown copies cells i copy place by_place zip here same any =
    let h = among headers places shown place by_place any in
    let it : Beside (λ (copy : ResolvedValue) (cell : ShownCell). cell.header ≡ header_among places headers copy.row.block) copy cells i = beside _ copies cells i copy zip here in
    let header : it.item.header ≡ Some h.it = it.holds ∙ ap (header_among places headers) (sym same) ∙ ap (λ (b : Bool). cond b (headers place) None) any ∙ h.there in
    some-and _ (headers place) h.it h.there
    (one-there (λ cell. option_and_then (λ x. Some (header_part epoch_length part x)) cell.header) cells i it.item it.there
    ∙ ap (λ (o : Option Header). answer (Some (option_and_then (λ x. Some (header_part epoch_length part x)) o))) header)

pub made-elsewhere : (headers : ℕ → Option Header) (epoch_length : ℕ) (part : HeaderPart) (places : List ℕ) (copies : List ResolvedValue) (cells : List ShownCell) (i : ℕ)
    (copy : ResolvedValue) (place : ℕ) → AllZip (λ it cell. cell.header ≡ header_among places headers it.row.block) copies cells → slice_get copies i ≡ Some copy
    → place ≡ copy.row.block → list_any (λ p. p == place) places ≡ false
    → answer (option_map (λ cell. option_and_then (λ it. Some (header_part epoch_length part it)) cell.header) (slice_get cells i)) ≡ Missing
made-elsewhere headers epoch_length part places copies cells i copy place zip here same any =
    let it : Beside (λ (copy : ResolvedValue) (cell : ShownCell). cell.header ≡ header_among places headers copy.row.block) copy cells i = beside _ copies cells i copy zip here in
    let header : it.item.header ≡ None = it.holds ∙ ap (header_among places headers) (sym same) ∙ ap (λ (b : Bool). cond b (headers place) None) any in
    one-there (λ cell. option_and_then (λ x. Some (header_part epoch_length part x)) cell.header) cells i it.item it.there
    ∙ ap (λ (o : Option Header). answer (Some (option_and_then (λ x. Some (header_part epoch_length part x)) o))) header

pub made-as : (headers : ℕ → Option Header) (places others : List ℕ) (copies same : List ResolvedValue) (cells : List ShownCell) → others ≡ places → same ≡ copies
    → AllZip (λ it cell. cell.header ≡ header_among places headers it.row.block) copies cells → AllZip (λ it cell. cell.header ≡ header_among others headers it.row.block) same cells
made-as headers places others copies same cells as_places as_copies zip =
    subst (λ (ps : List ℕ). AllZip (λ it cell. cell.header ≡ header_among ps headers it.row.block) same cells) (sym as_places)
    (subst (λ (cs : List ResolvedValue). AllZip (λ it cell. cell.header ≡ header_among places headers it.row.block) cs cells) (sym as_copies) zip)

pub of-dep : (headers : ℕ → Option Header) (epoch_length : ℕ) (part : HeaderPart) (places : List ℕ) (shown : List Header) (i place : ℕ)
    → AllZip (λ p h. headers p ≡ Some h) places shown → slice_get places i ≡ Some place
    → IsSomeAnd (headers place) (λ h. answer (option_map (λ it. Some (header_part epoch_length part it)) (slice_get shown i)) ≡ Here (header_part epoch_length part h))
of-dep headers epoch_length part places shown i place zip here =
    let it : Beside (λ (p : ℕ) (h : Header). headers p ≡ Some h) place shown i = beside _ places shown i place zip here in
    some-and _ (headers place) it.item it.holds (one-there (λ h. Some (header_part epoch_length part h)) shown i it.item it.there)

-- ---- An item of a list

-- what is asked of an item that stands at a place
pub mapped : {I J : Type 0} (bytes : J → Option (List ℕ)) (of : I → Option J) (o : Option I)
    → answer (option_map (λ it. option_and_then bytes it) (option_map of o)) ≡ answer (option_map (λ it. option_and_then bytes (of it)) o)
mapped bytes of None = refl
mapped bytes of (Some it) = refl

pub listed-at : {I : Type 0} (group : Group) (call : Call) (at : Place → Option (Option I)) (bytes : I → Option (List ℕ)) (place : Place)
    → Some (Some place) ≡ option_map (λ it. place_in_source group it call.index) (source_of call.source) → listed group call at (Some bytes) ≡ item_at at bytes (Some place)
listed-at group call at bytes place is =
    elim (source_of call.source) as (λ source. Some (Some place) ≡ option_map (λ it. place_in_source group it call.index) source
    → (elim source [ None ↦ Unknown | Some it ↦ item_at at bytes (place_in_source group it call.index) ]) ≡ item_at at bytes (Some place)) [
      | None ↦ λ none. absurd cc
      | Some it ↦ λ some. ap (item_at at bytes) (sym (some-is _ _ some))
    ] is

-- an item of a list at the place that its source and index name
pub listed-to : {I : Type 0} (group : Group) (call : Call) (at : Place → Option (Option I)) (bytes : I → Option (List ℕ)) (target : Target) (place : code.Place) (index source : ℕ)
    → target_meaning target ≡ option_map (λ it. place_in_source group it index) (source_of source) → target ≡ At place → index ≡ call.index → source ≡ call.source
    → listed group call at (Some bytes) ≡ item_at at bytes (Some (place_meaning place))
listed-to group call at bytes target place index source named is same_index same_source =
    let here : Some (Some (place_meaning place)) ≡ option_map (λ it. place_in_source group it call.index) (source_of call.source) =
    sym (ap target_meaning is) ∙ named ∙ (λ t. option_map (λ it. place_in_source group it (same_index t)) (source_of (same_source t))) in
    listed-at group call at bytes (place_meaning place) here

-- ---- Numbers

-- the lowest 64 bits have the bytes of the number
pub low-bytes : (n : ℕ) → to_le_bytes w64 (n % 2 ^ 64) ≡ to_le_bytes w64 n
low-bytes n =
    let b0 : n % 2 ^ 64 % 256 ≡ n % 256 = omega arith in
    let b1 : n % 2 ^ 64 / 256 % 256 ≡ n / 256 % 256 = omega arith in
    let b2 : n % 2 ^ 64 / 65536 % 256 ≡ n / 65536 % 256 = omega arith in
    let b3 : n % 2 ^ 64 / 16777216 % 256 ≡ n / 16777216 % 256 = omega arith in
    let b4 : n % 2 ^ 64 / 4294967296 % 256 ≡ n / 4294967296 % 256 = omega arith in
    let b5 : n % 2 ^ 64 / 1099511627776 % 256 ≡ n / 1099511627776 % 256 = omega arith in
    let b6 : n % 2 ^ 64 / 281474976710656 % 256 ≡ n / 281474976710656 % 256 = omega arith in
    let b7 : n % 2 ^ 64 / 72057594037927936 % 256 ≡ n / 72057594037927936 % 256 = omega arith in
    λ t. b0 t ∷ b1 t ∷ b2 t ∷ b3 t ∷ b4 t ∷ b5 t ∷ b6 t ∷ b7 t ∷ []

-- a place among those that are kept
pub any-kept : (kept : ℕ) (places : List ℕ) (place : ℕ) → All (λ it. it < kept) places → list_any (λ it. it == place) places ≡ true → place < kept
any-kept kept [] place all any = absurd cc
any-kept kept (it ∷ places) place all any =
    elim (eqb it place) as (λ b. eqb it place ≡ b → place < kept) [
      | true ↦ λ same. subst (λ (n : ℕ). n < kept) (eqb-true it place same) (all 0 0 (omega arith))
      | false ↦ λ other. any-kept kept places place (λ k d within. all (suc k) d (omega arith)) (sym (ap (λ (b : Bool). b || list_any (λ q. q == place) places) other) ∙ any)
    ] refl
