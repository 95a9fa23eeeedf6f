-- Kept blocks in two lists, as what they are seen as.
use Rattle.std.proofs.Common.{◌≡◌, ℕ, zero, suc, ◌+◌, ◌^◌, ◌<◌, ◌≤◌, Bool, true, List, [], ◌∷◌, ◌++◌, length, map, drop, get_or, Vec, Global, Option, Some, None, Result, Ok, Err, refl, sym, ap, subst, ⊎_elim, ◌∙◌, append_assoc, append-nil, arith}
use Rattle.std.specs.Prelude.{slice_get, if◌then◌else◌, IsSome, IfSome, IfOk}
use Rattle.std.specs.List.{All}
use Rattle.std.proofs.lemmas.Bool.{lt-ltb, cases_lt}
use Rattle.std.proofs.lemmas.List.{length-map, length_push, map_push, get_or-map, get_or_append_left, get_or_push, drop_more, drop_all}
use Rattle.std.proofs.lemmas.List.Elements.{All-push}
use Rattle.chain_defs.specs.Shape.{decoded}
use Rattle.chain_defs.specs.Schema.{Block, block}
use Rattle.chain_defs.proofs.ShapeLaws.{IsEncoding-decoded}
use Rattle.chain_defs.proofs.RowLaws.{block-check}
use Rattle.chain_tree.specs.Told.{Stored, blocks_of}
use Rattle.chain_defs.specs.Ext.{is_ext}
use Rattle.cell_state.specs.ListBlocks.{ListBlocksValue, place_among, current_place, contents, IsCanonical, IsExtFor, AreKept, stored_from, ids_of, all_ids, id_lists}

-- ---- A canonical block is the one that is taken out of its bytes

taken_out : (bytes : List ℕ) (found : Option Block) → decoded block bytes ≡ found → IsSome found → decoded block bytes ≡ Some (block.decoding bytes)
taken_out bytes None is some = absurd (cc)
taken_out bytes (Some b) is some =
    let whole = IsEncoding-decoded block bytes b is in
    is ∙ ap (λ (it : Block). Some it) (sym (block-check.value bytes b whole))

pub canonical-decoded : (bytes : List ℕ) → IsCanonical bytes → decoded block bytes ≡ Some (block.decoding bytes)
canonical-decoded bytes canonical = taken_out bytes (decoded block bytes) refl canonical

pub decoding-is : (bytes : List ℕ) (b : Block) → decoded block bytes ≡ Some b → block.decoding bytes ≡ b
decoding-is bytes b is = block-check.value bytes b (IsEncoding-decoded block bytes b is)

-- ---- The two lists of what they are seen as

pub length-stored_from : (blocks exts : List (List ℕ)) → length exts ≡ length blocks → length (stored_from blocks exts) ≡ length blocks
length-stored_from [] exts same = refl
length-stored_from (b ∷ blocks) [] same = same
length-stored_from (b ∷ blocks) (ext ∷ exts) same = ap suc (length-stored_from blocks exts (omega (arith, same)))

pub blocks-stored_from : (blocks exts : List (List ℕ)) → length exts ≡ length blocks → All IsCanonical blocks
    → map (decoded block) blocks ≡ map (λ b. Some b) (blocks_of (stored_from blocks exts))
blocks-stored_from [] exts same canonical = refl
blocks-stored_from (b ∷ blocks) [] same canonical = absurd (omega (arith, same))
blocks-stored_from (b ∷ blocks) (ext ∷ exts) same canonical =
    (λ i. canonical-decoded b (canonical 0 [] (omega arith)) i
    ∷ blocks-stored_from blocks exts (omega (arith, same)) (λ k d within. canonical (suc k) d (omega (arith, within))) i)

pub exts-stored_from : (blocks exts : List (List ℕ)) → length exts ≡ length blocks → map (λ it. it.ext) (stored_from blocks exts) ≡ exts
exts-stored_from [] [] same = refl
exts-stored_from [] (ext ∷ exts) same = absurd (omega (arith, same))
exts-stored_from (b ∷ blocks) [] same = refl
exts-stored_from (b ∷ blocks) (ext ∷ exts) same = ap (λ (l : List (List ℕ)). ext ∷ l) (exts-stored_from blocks exts (omega (arith, same)))

-- the one at a place
pub stored_at : (blocks exts : List (List ℕ)) (place : ℕ) → length exts ≡ length blocks → place < length blocks
    → slice_get (stored_from blocks exts) place ≡ Some (record { block = block.decoding (get_or blocks place []); ext = get_or exts place [] })
stored_at [] exts place same within = absurd (omega (arith, within))
stored_at (b ∷ blocks) [] place same within = absurd (omega (arith, same))
stored_at (b ∷ blocks) (ext ∷ exts) zero same within = refl
stored_at (b ∷ blocks) (ext ∷ exts) (suc place) same within = stored_at blocks exts place (omega (arith, same)) (omega (arith, within))

pub stored_from-push : (blocks exts : List (List ℕ)) (bytes ext : List ℕ) → length exts ≡ length blocks
    → stored_from (blocks ++ bytes ∷ []) (exts ++ ext ∷ []) ≡ stored_from blocks exts ++ record { block = block.decoding bytes; ext = ext } ∷ []
stored_from-push [] [] bytes ext same = refl
stored_from-push [] (e ∷ exts) bytes ext same = absurd (omega (arith, same))
stored_from-push (b ∷ blocks) [] bytes ext same = absurd (omega (arith, same))
stored_from-push (b ∷ blocks) (e ∷ exts) bytes ext same =
    ap (λ (l : List Stored). record { block = block.decoding b; ext = e } ∷ l) (stored_from-push blocks exts bytes ext (omega (arith, same)))

-- ---- One more

is_for : {bytes other ext more : List ℕ} → bytes ≡ other → ext ≡ more → IsExtFor bytes ext → IsExtFor other more
is_for {bytes} {other} {ext} {more} same beside it = subst (λ (e : List ℕ). IsExtFor other e) beside (subst (λ (b : List ℕ). IsExtFor b ext) same it)

pub kept-push : (blocks exts : List (List ℕ)) (bytes ext : List ℕ) → AreKept blocks exts → length blocks + 1 < 2 ^ 32 → IsCanonical bytes
    → (0 < length blocks → IsExtFor bytes ext) → AreKept (blocks ++ bytes ∷ []) (exts ++ ext ∷ [])
kept-push blocks exts bytes ext kept few canonical later = record {
  lengths = length_push exts ext ∙ omega (arith, kept.lengths, length_push blocks bytes);
  few = omega (arith, few, length_push blocks bytes);
  canonical = All-push IsCanonical blocks bytes kept.canonical canonical;
  later = λ place behind within. ⊎_elim
      (λ there. is_for
      (sym (get_or_append_left blocks (bytes ∷ []) [] place there))
      (sym (get_or_append_left exts (ext ∷ []) [] place (omega (arith, there, kept.lengths))))
      (kept.later place behind there))
      (λ past.
      let last : length blocks ≡ place = omega (arith, past, within, length_push blocks bytes) in
      is_for
      (sym (get_or_push blocks bytes [] place last))
      (sym (get_or_push exts ext [] place (kept.lengths ∙ last)))
      (later (omega (arith, behind, last))))
      (cases_lt place (length blocks));
}

-- ---- A list that is gone through, with an image of each element

-- one image more
pub one_image_more : {X Y : Type 0} (f : X → Y) (xs : List X) (i : ℕ) (x : X) (done more all : List Y) (y : Y) → i < length xs → get_or xs i x ≡ x
    → y ≡ f x → done ++ map f (drop i xs) ≡ all → more ≡ done ++ y ∷ [] → more ++ map f (drop (i + 1) xs) ≡ all
one_image_more f xs i x done more all y within here is so_far grown =
    let rest = map f (drop (i + 1) xs) in
    ap (λ l. l ++ rest) grown ∙ append_assoc done (y ∷ []) rest ∙ ap (λ z. done ++ z ∷ rest) is
    ∙ ap (λ z. done ++ f z ∷ rest) (sym here) ∙ ap (λ l. done ++ map f l) (sym (drop_more xs i x within)) ∙ so_far

-- all of them
pub all_images : {X Y : Type 0} (f : X → Y) (xs : List X) (i : ℕ) (done all : List Y) → length xs ≤ i → done ++ map f (drop i xs) ≡ all → done ≡ all
all_images f xs i done all past so_far =
    sym (append-nil done) ∙ ap (λ l. done ++ map f l) (sym (drop_all i xs past)) ∙ so_far

-- ---- By the vectors that hold the bytes

pub as_many : (blocks exts : List (Vec ℕ Global)) (stored : List Stored) → AreKept (contents blocks) (contents exts) → stored_from (contents blocks) (contents exts) ≡ stored
    → length stored ≡ length blocks
as_many blocks exts stored kept is =
    ap length (sym is) ∙ length-stored_from (contents blocks) (contents exts) kept.lengths ∙ length-map blocks (λ (v : Vec ℕ Global). v.items)

pub place-within : (blocks exts : List (Vec ℕ Global)) (stored : List Stored) (place : ℕ) → AreKept (contents blocks) (contents exts)
    → stored_from (contents blocks) (contents exts) ≡ stored → place < length stored → place < length blocks
place-within blocks exts stored place kept is within = omega (arith, within, as_many blocks exts stored kept is)

pub as_many_exts : (blocks exts : List (Vec ℕ Global)) → AreKept (contents blocks) (contents exts) → length exts ≡ length blocks
as_many_exts blocks exts kept =
    sym (length-map exts (λ (v : Vec ℕ Global). v.items)) ∙ kept.lengths ∙ length-map blocks (λ (v : Vec ℕ Global). v.items)

-- what stands at a place
pub read_at : (vectors : List (Vec ℕ Global)) (place : ℕ) (vector : Vec ℕ Global) → place < length vectors → vector ≡ get_or vectors place vector
    → vector.items ≡ get_or (contents vectors) place []
read_at vectors place vector within is =
    ap (λ (v : Vec ℕ Global). v.items) is ∙ sym (get_or-map (λ (v : Vec ℕ Global). v.items) vectors place vector [] within)

pub entry_at : (blocks exts : List (Vec ℕ Global)) (stored : List Stored) (place : ℕ) → AreKept (contents blocks) (contents exts)
    → stored_from (contents blocks) (contents exts) ≡ stored → place < length blocks
    → slice_get stored place ≡ Some (record { block = block.decoding (get_or (contents blocks) place []); ext = get_or (contents exts) place [] })
entry_at blocks exts stored place kept is within =
    ap (λ (l : List Stored). slice_get l place) (sym is)
    ∙ stored_at (contents blocks) (contents exts) place kept.lengths (omega (arith, within, length-map blocks (λ (v : Vec ℕ Global). v.items)))

pub canonical_at : (blocks exts : List (Vec ℕ Global)) (place : ℕ) (bytes : List ℕ) → AreKept (contents blocks) (contents exts) → place < length blocks
    → bytes ≡ get_or (contents blocks) place [] → decoded block bytes ≡ Some (block.decoding (get_or (contents blocks) place []))
canonical_at blocks exts place bytes kept within is =
    ap (decoded block) is
    ∙ canonical-decoded (get_or (contents blocks) place []) (kept.canonical place [] (omega (arith, within, length-map blocks (λ (v : Vec ℕ Global). v.items))))

pub ext_at : (blocks exts : List (Vec ℕ Global)) (place : ℕ) → AreKept (contents blocks) (contents exts) → 0 < place → place < length blocks
    → is_ext (get_or (contents exts) place []) ≡ true
ext_at blocks exts place kept behind within = (kept.later place behind (omega (arith, within, length-map blocks (λ (v : Vec ℕ Global). v.items)))).form

pub at_entry : (P : Stored → Type 0) (stored : List Stored) (place : ℕ) (entry : Stored) → slice_get stored place ≡ Some entry → P entry → IfSome (slice_get stored place) P
at_entry P stored place entry there holds = subst (λ (it : Option Stored). IfSome it P) (sym there) holds

pub of_entry : (P : Stored → Type 0) (stored : List Stored) (place : ℕ) (entry : Stored) → slice_get stored place ≡ Some entry → IfSome (slice_get stored place) P → P entry
of_entry P stored place entry there holds = subst (λ (it : Option Stored). IfSome it P) there holds

as_many_ids : (blocks : List (Vec ℕ Global)) (ids : List (Vec (List ℕ) Global)) → id_lists ids ≡ all_ids blocks → length ids ≡ length blocks
as_many_ids blocks ids are =
    sym (length-map ids (λ (v : Vec (List ℕ) Global). v.items)) ∙ ap length are ∙ length-map blocks (λ (v : Vec ℕ Global). ids_of (block.decoding v.items))

-- the ids beside the block at a place
pub ids_at : (blocks : List (Vec ℕ Global)) (ids : List (Vec (List ℕ) Global)) (place : ℕ) (vector : Vec (List ℕ) Global) → id_lists ids ≡ all_ids blocks
    → place < length blocks → vector ≡ get_or ids place vector → vector.items ≡ ids_of (block.decoding (get_or (contents blocks) place []))
ids_at [] ids place vector are within is = absurd (omega (arith, within))
ids_at (first ∷ later) ids place vector are within is =
    let blocks : List (Vec ℕ Global) = first ∷ later in
    let there : place < length ids = omega (arith, within, as_many_ids blocks ids are) in
    ap (λ (v : Vec (List ℕ) Global). v.items) is ∙ sym (get_or-map (λ (v : Vec (List ℕ) Global). v.items) ids place vector [] there)
    ∙ ap (λ (l : List (List (List ℕ))). get_or l place []) are ∙ get_or-map (λ (v : Vec ℕ Global). ids_of (block.decoding v.items)) blocks place first [] within
    ∙ ap (λ (b : List ℕ). ids_of (block.decoding b)) (sym (get_or-map (λ (v : Vec ℕ Global). v.items) blocks place first [] within))

-- the block that one of several vectors encodes
pub decoded_in : (blocks : List (Vec ℕ Global)) (place : ℕ) (vector : Vec ℕ Global) (bytes : List ℕ) → All IsCanonical (contents blocks) → place < length blocks
    → vector ≡ get_or blocks place vector → bytes ≡ vector.items → decoded block bytes ≡ Some (block.decoding vector.items)
decoded_in blocks place vector bytes canonical within is same =
    ap (decoded block) same
    ∙ canonical-decoded vector.items (subst IsCanonical (sym (read_at blocks place vector within is))
    (canonical place [] (omega (arith, within, length-map blocks (λ (v : Vec ℕ Global). v.items)))))

-- the ids of one block more
pub ids_more : (blocks more_blocks : List (Vec ℕ Global)) (ids more_ids : List (Vec (List ℕ) Global)) (bytes : Vec ℕ Global) (one : Vec (List ℕ) Global)
    → id_lists ids ≡ all_ids blocks → more_blocks ≡ blocks ++ bytes ∷ [] → more_ids ≡ ids ++ one ∷ [] → one.items ≡ ids_of (block.decoding bytes.items)
    → id_lists more_ids ≡ all_ids more_blocks
ids_more blocks more_blocks ids more_ids bytes one are blocks_grow ids_grow is =
    ap id_lists ids_grow ∙ map_push (λ (v : Vec (List ℕ) Global). v.items) ids one ∙ (λ i. are i ++ is i ∷ [])
    ∙ sym (map_push (λ (v : Vec ℕ Global). ids_of (block.decoding v.items)) blocks bytes) ∙ ap all_ids (sym blocks_grow)

-- the current entry
pub by_hand : (P : Stored → Type 0) (it : ListBlocksValue) (place : ℕ) (entry : Stored) → it.hand ≡ Some place → place < length it.stored
    → slice_get it.stored place ≡ Some entry → P entry → IfSome (current_place it) (λ e. IfSome (slice_get it.stored e) P)
by_hand P it place entry taken within there holds =
    let place_is : current_place it ≡ Some place =
    ap (place_among (length it.stored)) taken ∙ ap (λ (b : Bool). if b then Some place else None) (lt-ltb place (length it.stored) within) in
    subst (λ (o : Option ℕ). IfSome o (λ e. IfSome (slice_get it.stored e) P)) (sym place_is) (at_entry P it.stored place entry there holds)

-- what is so of the current place
pub of_hand : (P : ℕ → Type 0) (it : ListBlocksValue) (place : ℕ) → it.hand ≡ Some place → place < length it.stored → IfSome (current_place it) P → P place
of_hand P it place taken within holds =
    subst (λ (o : Option ℕ). IfSome o P)
    (ap (place_among (length it.stored)) taken ∙ ap (λ (b : Bool). if b then Some place else None) (lt-ltb place (length it.stored) within)) holds

pub hand-more : (hand : Option ℕ) (len more : ℕ) → len ≤ more → IfSome hand (λ place. place < len) → IfSome hand (λ place. place < more)
hand-more None len more le below = tt
hand-more (Some place) len more le below = omega (arith, le, below)

pub contents-push : (vectors more : List (Vec ℕ Global)) (vector : Vec ℕ Global) → more ≡ vectors ++ vector ∷ [] → contents more ≡ contents vectors ++ vector.items ∷ []
contents-push vectors more vector is = ap contents is ∙ map_push (λ (v : Vec ℕ Global). v.items) vectors vector

pub seen-push : (blocks exts : List (Vec ℕ Global)) (more_blocks more_exts : List (Vec ℕ Global)) (bytes ext : Vec ℕ Global) (b : Block)
    → AreKept (contents blocks) (contents exts) → more_blocks ≡ blocks ++ bytes ∷ [] → more_exts ≡ exts ++ ext ∷ [] → decoded block bytes.items ≡ Some b
    → stored_from (contents more_blocks) (contents more_exts) ≡ stored_from (contents blocks) (contents exts) ++ record { block = b; ext = ext.items } ∷ []
seen-push blocks exts more_blocks more_exts bytes ext b kept one other is =
    (λ i. stored_from (contents-push blocks more_blocks bytes one i) (contents-push exts more_exts ext other i))
    ∙ stored_from-push (contents blocks) (contents exts) bytes.items ext.items kept.lengths
    ∙ ap (λ (it : Block). stored_from (contents blocks) (contents exts) ++ record { block = it; ext = ext.items } ∷ []) (decoding-is bytes.items b is)

pub kept_more : (blocks exts : List (Vec ℕ Global)) (more_blocks more_exts : List (Vec ℕ Global)) (bytes ext : Vec ℕ Global)
    → AreKept (contents blocks) (contents exts) → more_blocks ≡ blocks ++ bytes ∷ [] → more_exts ≡ exts ++ ext ∷ [] → length blocks + 1 < 2 ^ 32
    → IsCanonical bytes.items → (0 < length blocks → IsExtFor bytes.items ext.items) → AreKept (contents more_blocks) (contents more_exts)
kept_more blocks exts more_blocks more_exts bytes ext kept one other few canonical later =
    let many = length-map blocks (λ (v : Vec ℕ Global). v.items) in
    let more =
    kept-push (contents blocks) (contents exts) bytes.items ext.items kept (omega (arith, few, many)) canonical (λ some. later (omega (arith, some, many))) in
    subst (λ (e : List (List ℕ)). AreKept (contents more_blocks) e) (sym (contents-push exts more_exts ext other))
    (subst (λ (b : List (List ℕ)). AreKept b (contents exts ++ ext.items ∷ [])) (sym (contents-push blocks more_blocks bytes one)) more)

-- ---- What a call gives, where it gives something

pub if_ok-so : {T E : Type 0} (result : Result T E) (P Q : T → Type 0) → ((value : T) → P value → Q value) → IfOk result P → IfOk result Q
if_ok-so (Ok value) P Q so is = so value is
if_ok-so (Err stop) P Q so is = tt
