-- What there is to check, by kind of shape.
use Rattle.std.proofs.Common.{◌≡◌, ℕ, zero, suc, ◌+◌, ◌-◌, ◌^◌, ◌<◌, ◌≤◌, Bool, false, eqb, List, [], ◌∷◌, ◌++◌, length, map, drop, get_or, Option, Some, None, refl, sym, ap, subst, ◌∙◌, arith}
use Rattle.std.specs.Prelude.{IsTrue, IfSome, ◌↔◌, unwrap_or, slice_get, slice_index}
use Rattle.std.specs.Int.{w32, w64, w128, from_le_bytes}
use Rattle.std.specs.Option.{is_some}
use Rattle.std.specs.List.{concat, slice_range, AllByRecursion}
use Rattle.std.proofs.lemmas.Bool.{and_from, and_parts, ne_eqb, lt-ltb, ltb-true, eq-eqb, eqb-true}
use Rattle.std.proofs.lemmas.List.{length-append, length-map, length-take, length-drop, take_at, drop_at, drop_all, drop-drop}
use Rattle.std.proofs.lemmas.List.Folds.{drop_split}
use Rattle.std.proofs.lemmas.Option.{none-some}
use Rattle.std.proofs.lemmas.Nat.{le_bytes_4, le_bytes_8, from_le_bytes-to_le_bytes_4, from_le_bytes-to_le_bytes_8}
use Rattle.chain_defs.specs.Molecule as molecule
use Rattle.chain_defs.specs.Molecule.{IsFixvec, IsDynvec, IsTable}
use Rattle.chain_defs.specs.Shape.{Encoding, Shape, IsEncoding, encoded, byte, u32, u64, u128, byte_array, bytes, fixvec, dynvec, option, struct, table, parts, table_field}
use Rattle.chain_defs.specs.Checked.{AreBytes, IsCheckOf, HasLength, IsItems, IsBytes, IsOptionOf, IsListOf, HasFields}
use Rattle.chain_defs.proofs.MoleculeLaws.{IsFixvec_only, IsDynvec_only, length-concat, length-dynvec, length-fixvec, items_of_fixvec-fixvec}
use Rattle.chain_defs.proofs.Numbers.{le_bytes_16, from_le_bytes-to_le_bytes_16}
use Rattle.chain_defs.proofs.ShapeLaws.{AreBytes-drop, AreBytes-range, AreBytes-items, AreBytes-parts, AreBytes-table_field, are_bytes-from, AllFit, AllFit-from, all_fit-from, length-parts, values_back, parts_of-table, FieldsAt, table-parts, table-whole}

-- ---- numbers and arrays: "fixed size"

single : (b : List ℕ) → length b ≡ 1 → b ≡ get_or b 0 0 ∷ []
single [] len = absurd (omega arith)
single (x ∷ []) len = refl
single (x ∷ y ∷ b) len = absurd (omega arith)

pub byte-check : IsCheckOf (HasLength 1) byte
byte-check = record {
  value = λ b v a. ap (λ (l : List ℕ). slice_index l 0) a.encoding;
  sound = λ b small len. record { fits = lt-ltb _ 256 (small 0); encoding = single b len };
  complete = λ b v a. ap length a.encoding;
}

pub u32-check : IsCheckOf (HasLength 4) u32
u32-check = record {
  value = λ b v a. ap (from_le_bytes w32) a.encoding ∙ from_le_bytes-to_le_bytes_4 v (ltb-true v 4294967296 a.fits);
  sound = λ b small len. record { fits = lt-ltb _ 4294967296 (omega (arith, small 0, small 1, small 2, small 3)); encoding = sym (le_bytes_4 b _ len small refl) };
  complete = λ b v a. ap length a.encoding;
}

pub u64-check : IsCheckOf (HasLength 8) u64
u64-check = record {
  value = λ b v a. ap (from_le_bytes w64) a.encoding ∙ from_le_bytes-to_le_bytes_8 v (ltb-true v 18446744073709551616 a.fits);
  sound = λ b small len. record { fits = lt-ltb _ 18446744073709551616 (omega (arith, small 0, small 1, small 2, small 3, small 4, small 5, small 6, small 7)); encoding = sym (le_bytes_8 b _ len small refl) };
  complete = λ b v a. ap length a.encoding;
}

pub u128-check : IsCheckOf (HasLength 16) u128
u128-check = record {
  value = λ b v a. ap (from_le_bytes w128) a.encoding ∙ from_le_bytes-to_le_bytes_16 v (ltb-true v (256 ^ 16) a.fits);
  sound = λ b small len. record { fits = lt-ltb _ (256 ^ 16) (omega (arith, small 0, small 1, small 2, small 3, small 4, small 5, small 6, small 7, small 8, small 9, small 10, small 11, small 12, small 13, small 14, small 15)); encoding = sym (le_bytes_16 b len small) };
  complete = λ b v a. ap length a.encoding;
}

pub byte_array-check : (n : ℕ) → IsCheckOf (HasLength n) (byte_array n)
byte_array-check n = record {
  value = λ b v a. a.encoding;
  sound = λ b small len. record { fits = and_from _ _ (eq-eqb (length b) n len) (are_bytes-from b small); encoding = refl };
  complete = λ b v a. ap length a.encoding ∙ eqb-true (length v) n (and_parts _ _ a.fits).0;
}

-- ---- Bytes: "fixvec"

concat-singles : (content : List ℕ) → concat (map (λ b. b ∷ []) content) ≡ content
concat-singles [] = refl
concat-singles (b ∷ content) = ap (λ (l : List ℕ). b ∷ l) (concat-singles content)

singles : (items : List (List ℕ)) → AllByRecursion (λ item. length item ≡ 1) items → map (λ b. b ∷ []) (concat items) ≡ items
singles [] sizes = refl
singles ([] ∷ items) sizes = absurd (omega (arith, sizes.0))
singles ((x ∷ []) ∷ items) sizes = ap (λ (l : List (List ℕ)). (x ∷ []) ∷ l) (singles items sizes.1)
singles ((x ∷ y ∷ item) ∷ items) sizes = absurd (omega (arith, sizes.0))

content_of : (items : List (List ℕ)) → drop 4 (molecule.fixvec items) ≡ concat items
unfolding molecule.fixvec
content_of items = refl

sizes_single : (content : List ℕ) → AllByRecursion (λ item. length item ≡ 1) (map (λ b. b ∷ []) content)
sizes_single [] = tt
sizes_single (b ∷ content) = (refl, sizes_single content)

-- a fixvec as `items_of_fixvec` reads it
reads_items : (size : ℕ) (b : List ℕ) (items : List (List ℕ)) → IsFixvec size b items → IsItems size b
reads_items size b items h = subst (λ (l : List (List ℕ)). IsFixvec size b l) (sym (IsFixvec_only size b items h)) h

pub length-content : (b : List ℕ) → IsItems 1 b → length (drop 4 b) < 2 ^ 32
length-content b p =
    let items = molecule.items_of_fixvec 1 b in
    let content : drop 4 b ≡ concat items = ap (drop 4) p.encoding ∙ content_of items in
    omega (arith, p.count, ap length content, length-concat 1 items p.sizes)

-- each part has an offset of four bytes
pub length-items : (b : List ℕ) (items : List (List ℕ)) → IsDynvec b items → length items < 2 ^ 30
unfolding molecule.full_size molecule.header_size
length-items b items p = omega (arith, p.size, ap length p.encoding, length-dynvec items)

bytes-value : (b v : List ℕ) → b ≡ encoded bytes v → drop 4 b ≡ v
unfolding molecule.fixvec
bytes-value b v is = ap (drop 4) is ∙ concat-singles v

pub bytes-check : IsCheckOf IsBytes bytes
bytes-check = record {
  value = λ b v a. bytes-value b v a.encoding;
  sound = λ b small p.
      let items = molecule.items_of_fixvec 1 b in
      let content : drop 4 b ≡ concat items = ap (drop 4) p.encoding ∙ content_of items in
      let few : length (drop 4 b) < 2 ^ 32 = omega (arith, p.count, ap length content, length-concat 1 items p.sizes) in
      record {
        fits = and_from _ _ (lt-ltb _ 4294967296 few) (are_bytes-from (drop 4 b) (AreBytes-drop 4 b small));
        encoding = p.encoding ∙ ap molecule.fixvec (sym (ap (map (λ x. x ∷ [])) content ∙ singles items p.sizes));
      };
  complete = λ b v a.
      let few = ltb-true (length v) 4294967296 (and_parts _ _ a.fits).0 in
      reads_items 1 b (map (λ x. x ∷ []) v) (record { encoding = a.encoding; sizes = sizes_single v; count = omega (arith, length-map v (λ x. x ∷ [])) });
}

-- ---- vectors: "fixvec" and "dynvec"

each-sound : {V : Type 0} (P : List ℕ → Type 0) (s : Shape V) → IsCheckOf P s → (items : List (List ℕ)) → AllByRecursion AreBytes items → AllByRecursion P items
    → (items ≡ parts (map s.encoding (map s.decoding items))) × AllFit (map s.encoding (map s.decoding items))
each-sound P s check [] small p = (refl, tt)
each-sound P s check (item ∷ items) small p =
    let here = check.sound item small.0 p.0 in
    let rest = each-sound P s check items small.1 p.1 in
    let both : item ∷ items ≡ encoded s (s.decoding item) ∷ parts (map s.encoding (map s.decoding items)) = λ i. here.encoding i ∷ rest.0 i in
    (both, (here.fits, rest.1))

each-only : {V : Type 0} (P : List ℕ → Type 0) (s : Shape V) → IsCheckOf P s → (vs : List V) → AllFit (map s.encoding vs) → AllByRecursion P (parts (map s.encoding vs))
each-only P s check [] fit = tt
each-only P s check (v ∷ vs) fit = (check.complete (encoded s v) v (record { fits = fit.0; encoding = refl }), each-only P s check vs fit.1)

pub fixvec-check : {V : Type 0} {s : Shape V} (n : ℕ) → IsCheckOf (HasLength n) s → IsCheckOf (IsItems n) (fixvec n s)
fixvec-check {s = s} n check = record {
  value = λ b vs a.
      let both = and_parts _ _ a.fits in
      let fit = AllFit-from (map s.encoding vs) both.1 in
      let few : length (parts (map s.encoding vs)) < 2 ^ 32 = rw (length-parts s vs) (ltb-true (length vs) 4294967296 both.0) in
      let items = ap (molecule.items_of_fixvec n) a.encoding ∙ items_of_fixvec-fixvec n (parts (map s.encoding vs)) (each-only (HasLength n) s check vs fit) few in
      ap (map s.decoding) items ∙ values_back (HasLength n) s check vs fit;
  sound = λ b small p.
      let items = molecule.items_of_fixvec n b in
      let each = each-sound (HasLength n) s check items (AreBytes-items n b small) p.sizes in
      let few : length (map s.decoding items) < 2 ^ 32 = rw (length-map items s.decoding) p.count in
      record {
        fits = and_from _ _ (lt-ltb _ 4294967296 few) (all_fit-from _ each.1);
        encoding = p.encoding ∙ ap molecule.fixvec each.0;
      };
  complete = λ b vs a.
      let both = and_parts _ _ a.fits in
      let few = ltb-true (length vs) 4294967296 both.0 in
      let sizes = each-only (HasLength n) s check vs (AllFit-from (map s.encoding vs) both.1) in
      reads_items n b (parts (map s.encoding vs)) (record { encoding = a.encoding; sizes = sizes; count = rw (length-parts s vs) few });
}

index-each : (P : List ℕ → Type 0) (xs : List (List ℕ)) → ((i : ℕ) → i < length xs → P (unwrap_or (slice_get xs i) [])) → AllByRecursion P xs
index-each P [] h = tt
index-each P (x ∷ xs) h = (h 0 (omega arith), index-each P xs (λ i lt. h (suc i) (omega arith)))

each-index : (P : List ℕ → Type 0) (xs : List (List ℕ)) → AllByRecursion P xs → (i : ℕ) → i < length xs → P (unwrap_or (slice_get xs i) [])
each-index P [] a i lt = absurd (omega arith)
each-index P (x ∷ xs) a zero lt = a.0
each-index P (x ∷ xs) a (suc i) lt = each-index P xs a.1 i (omega arith)

pub dynvec-check : {V : Type 0} {P : List ℕ → Type 0} {s : Shape V} → IsCheckOf P s → IsCheckOf (IsListOf P) (dynvec s)
dynvec-check {P = P} {s = s} check = record {
  value = λ b vs a.
      let fit = AllFit-from (map s.encoding vs) (and_parts _ _ a.fits).1 in
      ap (map s.decoding) (parts_of-table b (map s.encoding vs) a.encoding a.fits) ∙ values_back P s check vs fit;
  sound = λ b small p.
      let items = molecule.parts_of b in
      let each = each-sound P s check items (AreBytes-parts b small) (index-each P items p.items) in
      let is : b ≡ molecule.dynvec (parts (map s.encoding (map s.decoding items))) = p.dynvec.encoding ∙ ap molecule.dynvec each.0 in
      let short : length (molecule.dynvec (parts (map s.encoding (map s.decoding items)))) < 2 ^ 32 = subst (λ (l : List ℕ). length l < 2 ^ 32) is p.dynvec.size in
      record { fits = and_from _ _ (lt-ltb _ 4294967296 short) (all_fit-from _ each.1); encoding = is };
  complete = λ b vs a.
      let both = and_parts _ _ a.fits in
      let ps = parts (map s.encoding vs) in
      let short = ltb-true (length (molecule.dynvec ps)) 4294967296 both.0 in
      let whole : IsDynvec b ps = record { encoding = a.encoding; size = subst (λ (l : List ℕ). length l < 2 ^ 32) (sym a.encoding) short } in
      let read = sym (IsDynvec_only b ps whole) in
      let each : AllByRecursion P ps = each-only P s check vs (AllFit-from (map s.encoding vs) both.1) in
      record {
        dynvec = subst (λ (l : List (List ℕ)). IsDynvec b l) read whole;
        items = subst (λ (l : List (List ℕ)). (i : ℕ) → i < length l → P (unwrap_or (slice_get l i) [])) read (each-index P ps each);
      };
}

-- ---- "option": of a shape that has no empty encoding

option-only : {V : Type 0} (P : List ℕ → Type 0) (s : Shape V) → IsCheckOf P s → (b : List ℕ) (o : Option V) → IsEncoding (option s) b o → 0 < length b → P b
option-only P s check b None a long = absurd (omega (arith, ap length a.encoding))
option-only P s check b (Some v) a long = check.complete b v (record { fits = a.fits; encoding = a.encoding })

option-sound : {V : Type 0} (P : List ℕ → Type 0) (s : Shape V) → IsCheckOf P s → (b : List ℕ) → AreBytes b → (0 < length b → P b) → IsEncoding (option s) b ((option s).decoding b)
option-sound P s check [] small p = record { fits = refl; encoding = refl }
option-sound P s check (x ∷ b) small p =
    let some = check.sound (x ∷ b) small (p (omega arith)) in
    let long : eqb (length (x ∷ b)) 0 ≡ false = ne_eqb _ 0 (λ e. absurd (omega arith)) in
    let here : IsEncoding (option s) (x ∷ b) (Some (s.decoding (x ∷ b))) = record { fits = some.fits; encoding = some.encoding } in
    rw long here

option-value : {V : Type 0} (P : List ℕ → Type 0) (s : Shape V) → IsCheckOf P s → ((b : List ℕ) → P b → 0 < length b) → (b : List ℕ) (o : Option V) → IsEncoding (option s) b o → (option s).decoding b ≡ o
option-value P s check some b None a = rw a.encoding refl
option-value P s check some b (Some v) a =
    let here : IsEncoding s b v = record { fits = a.fits; encoding = a.encoding } in
    let long : 0 < length b = some b (check.complete b v here) in
    rw (ne_eqb (length b) 0 (λ e. absurd (omega arith))) (ap (λ (u : _). Some u) (check.value b v here))

pub option-check : {V : Type 0} {P : List ℕ → Type 0} {s : Shape V} → IsCheckOf P s → ((b : List ℕ) → P b → 0 < length b) → IsCheckOf (IsOptionOf P) (option s)
option-check {P = P} {s = s} check some = record { value = option-value P s check some; sound = option-sound P s check; complete = option-only P s check }

-- ---- the fields of a table

-- The fields of a table from field k on: their encodings, and their values by the bytes of the table.
pub record AreFieldsFrom {V : Type 0} (k : ℕ) (P : List ℕ → Type 0) (encodings : V → List Encoding) (decoding : List ℕ → V) : Type 0 where
  pub value : (b : List ℕ) (v : V) → FieldsAt b k (encodings v) → decoding b ≡ v
  pub sound : (b : List ℕ) → AreBytes b → P b → FieldsAt b k (encodings (decoding b))
  pub complete : (b : List ℕ) (v : V) → FieldsAt b k (encodings v) → P b

pub last_field : {V : Type 0} {P : List ℕ → Type 0} {s : Shape V} (k : ℕ) → IsCheckOf P s
    → AreFieldsFrom k (λ b. P (table_field b k)) (λ v. s.encoding v ∷ []) (λ b. s.decoding (table_field b k))
last_field k check = record {
  value = λ b v f. check.value (table_field b k) v (record { fits = f.0.0; encoding = f.0.1 });
  sound = λ b small p. let is = check.sound (table_field b k) (AreBytes-table_field b k small) p in ((is.fits, is.encoding), tt);
  complete = λ b v f. check.complete (table_field b k) v (record { fits = f.0.0; encoding = f.0.1 });
}

pub field : {V W : Type 0} {P Q : List ℕ → Type 0} {s : Shape V} {encodings : W → List Encoding} {decoding : List ℕ → W} (k : ℕ) → IsCheckOf P s → AreFieldsFrom (k + 1) Q encodings decoding
    → AreFieldsFrom k (λ b. P (table_field b k) × Q b) (λ (v : V × W). s.encoding v.0 ∷ encodings v.1) (λ b. (s.decoding (table_field b k), decoding b))
field k check rest = record {
  value = λ b v f.
      let here = check.value (table_field b k) v.0 (record { fits = f.0.0; encoding = f.0.1 }) in
      let later = rest.value b v.1 f.1 in
      λ i. (here i, later i);
  sound = λ b small p.
      let is = check.sound (table_field b k) (AreBytes-table_field b k small) p.0 in
      ((is.fits, is.encoding), rest.sound b small p.1);
  complete = λ b v f. (check.complete (table_field b k) v.0 (record { fits = f.0.0; encoding = f.0.1 }), rest.complete b v.1 f.1);
}

-- a table of n fields: a row whose values `to` takes apart and `from` puts together
pub table-check : {V W : Type 0} {P : List ℕ → Type 0} {encodings : W → List Encoding} {decoding : List ℕ → W} (n : ℕ) → AreFieldsFrom 0 P encodings decoding
    → (to : V → W) (from : W → V) → ((v : V) → from (to v) ≡ v) → ((w : W) → to (from w) ≡ w) → ((w : W) → length (encodings w) ≡ n)
    → IsCheckOf (λ b. HasFields n b × P b) (record { encoding = λ v. table (encodings (to v)); decoding = λ b. from (decoding b) })
table-check {encodings = encodings} {decoding = decoding} n fields to from back forth count = record {
  value = λ b v a.
      let whole = table-parts b (encodings (to v)) a.encoding a.fits in
      ap from (fields.value b (to v) whole.fields) ∙ back v;
  sound = λ b small p.
      let w = decoding b in
      let same : encodings w ≡ encodings (to (from w)) = ap encodings (sym (forth w)) in
      let whole = table-whole b (encodings w) (record { table = subst (λ (k : ℕ). IsTable k b (molecule.parts_of b)) (sym (count w)) p.0; fields = fields.sound b small p.1 }) in
      let placed = subst (λ (fs : List Encoding). IsTrue (table fs).fits × (b ≡ (table fs).bytes)) same whole in
      record { fits = placed.0; encoding = placed.1 };
  complete = λ b v a.
      let whole = table-parts b (encodings (to v)) a.encoding a.fits in
      (subst (λ (k : ℕ). IsTable k b (molecule.parts_of b)) (count (to v)) whole.table, fields.complete b (to v) whole.fields);
}

-- ---- the fields of a struct

-- The fields of a struct of `total` bytes, from the place `at` on.
pub record ArePlacedFrom {V : Type 0} (at total : ℕ) (encodings : V → List Encoding) (decoding : List ℕ → V) : Type 0 where
  pub within : at ≤ total
  pub value : (b : List ℕ) (v : V) → drop at b ≡ concat (parts (encodings v)) → AllFit (encodings v) → decoding b ≡ v
  pub sound : (b : List ℕ) → AreBytes b → length b ≡ total → AllFit (encodings (decoding b)) × (drop at b ≡ concat (parts (encodings (decoding b))))
  pub complete : (v : V) → AllFit (encodings v) → at + length (concat (parts (encodings v))) ≡ total

pub end : (total : ℕ) → ArePlacedFrom total total (λ (v : Unit {0}). []) (λ b. tt)
end total = record {
  within = omega arith;
  value = λ b v is fit. refl;
  sound = λ b small len. (tt, drop_all total b (omega arith));
  complete = λ v fit. omega arith;
}

length-range : (b : List ℕ) (at n : ℕ) → at + n ≤ length b → length (slice_range b at (at + n)) ≡ n
length-range b at n within = omega (arith, length-take ((at + n) - at) (drop at b), length-drop at b)

pub place : {V W : Type 0} {s : Shape V} {encodings : W → List Encoding} {decoding : List ℕ → W} {total : ℕ} (at n : ℕ) → IsCheckOf (HasLength n) s → ArePlacedFrom (at + n) total encodings decoding
    → ArePlacedFrom at total (λ (v : V × W). s.encoding v.0 ∷ encodings v.1) (λ b. (s.decoding (slice_range b at (at + n)), decoding b))
place {s = s} {encodings = encodings} {decoding = decoding} at n check rest = record {
  within = let within = rest.within in omega arith;
  value = λ b v is fit.
      let tail = concat (parts (encodings v.1)) in
      let size : length (encoded s v.0) ≡ n = check.complete (encoded s v.0) v.0 (record { fits = fit.0; encoding = refl }) in
      let count : (at + n) - at ≡ n = omega arith in
      let first : slice_range b at (at + n) ≡ encoded s v.0 = rw (count, is) (take_at (encoded s v.0) tail n size) in
      let later : drop (at + n) b ≡ tail = sym (drop-drop n at b) ∙ ap (drop n) is ∙ drop_at (encoded s v.0) tail n size in
      let here = check.value (slice_range b at (at + n)) v.0 (record { fits = fit.0; encoding = first }) in
      let others = rest.value b v.1 later fit.1 in
      λ i. (here i, others i);
  sound = λ b small len.
      let within : at + n ≤ length b = omega (arith, rest.within) in
      let here = check.sound (slice_range b at (at + n)) (AreBytes-range b at (at + n) small) (length-range b at n within) in
      let others = rest.sound b small len in
      let split : drop at b ≡ slice_range b at (at + n) ++ drop (at + n) b = drop_split b at (at + n) (omega arith) in
      ((here.fits, others.0), split ∙ (λ i. here.encoding i ++ others.1 i));
  complete = λ v fit.
      let size : length (encoded s v.0) ≡ n = check.complete (encoded s v.0) v.0 (record { fits = fit.0; encoding = refl }) in
      let later = rest.complete v.1 fit.1 in
      omega (arith, length-append (encoded s v.0) (concat (parts (encodings v.1))));
}

-- a struct: a row whose values `to` takes apart and `from` puts together
pub struct-check : {V W : Type 0} {total : ℕ} {encodings : W → List Encoding} {decoding : List ℕ → W} → ArePlacedFrom 0 total encodings decoding
    → (to : V → W) (from : W → V) → ((v : V) → from (to v) ≡ v) → ((w : W) → to (from w) ≡ w)
    → IsCheckOf (HasLength total) (record { encoding = λ v. struct (encodings (to v)); decoding = λ b. from (decoding b) })
struct-check {encodings = encodings} {decoding = decoding} fields to from back forth = record {
  value = λ b v a. ap from (fields.value b (to v) a.encoding (AllFit-from (encodings (to v)) a.fits)) ∙ back v;
  sound = λ b small len.
      let w = decoding b in
      let whole = fields.sound b small len in
      let same : encodings w ≡ encodings (to (from w)) = ap encodings (sym (forth w)) in
      record {
        fits = subst (λ (fs : List Encoding). IsTrue (struct fs).fits) same (all_fit-from (encodings w) whole.0);
        encoding = whole.1 ∙ ap (λ (fs : List Encoding). concat (parts fs)) same;
      };
  complete = λ b v a.
      let whole = fields.complete (to v) (AllFit-from (encodings (to v)) a.fits) in
      let long : length b ≡ length (concat (parts (encodings (to v)))) = ap length a.encoding in
      omega arith;
}

-- ---- encodings that are never empty

pub long_table : (n : ℕ) (b : List ℕ) → HasFields n b → 0 < length b
unfolding molecule.full_size molecule.header_size
long_table n b table = omega (arith, ap length table.encoding, length-dynvec (molecule.parts_of b))

pub long_items : (n : ℕ) (b : List ℕ) → IsItems n b → 0 < length b
long_items n b items = omega (arith, ap length items.encoding, length-fixvec (molecule.items_of_fixvec n b))

-- what the test of a fixvec tells
pub checked-items : (size : ℕ) (b : List ℕ) (t : Bool) (r : Option (List (List ℕ))) → t ≡ is_some r → IfSome r (IsFixvec size b) → ((items : List (List ℕ)) → IsFixvec size b items → r ≡ Some items) → IsTrue t ↔ IsItems size b
checked-items size b t None is found only = (λ h. absurd cc, λ p. absurd (none-some _ (only _ p)))
checked-items size b t (Some xs) is found only = (λ h. reads_items size b xs found, λ p. is)
