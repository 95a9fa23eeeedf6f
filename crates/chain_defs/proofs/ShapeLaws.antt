-- Laws of shapes: `decoded` finds the value of an encoding, and where the fields of a table stand.
use Rattle.std.proofs.Common.{◌≡◌, ℕ, zero, suc, ◌+◌, ◌-◌, ◌*◌, ◌^◌, ◌<◌, Bool, true, false, cond, ◌&&◌, List, [], ◌∷◌, ◌++◌, length, map, take, drop, get_or, Some, None, refl, sym, ap, subst, ◌∙◌, append_assoc, arith, inl, inr}
use Rattle.std.specs.Prelude.{IsTrue, unwrap_or, slice_get}
use Rattle.std.specs.List.{slice_range, range_with_len, AllByRecursion}
use Rattle.std.specs.Str.{bytes_eq}
use Rattle.std.proofs.lemmas.Bool.{and_parts, and_from, ltb-true, lt-ltb, cases_lt}
use Rattle.std.proofs.lemmas.List.{drop_more, drop_all, length-append, length-map, length-take, get_or-drop, get_or-take, get_or_past, get_or_at}
use Rattle.std.proofs.lemmas.Option.{unwrap_or-slice_get}
use Rattle.std.proofs.lemmas.Slice.Eq.{bytes_eq-Decides}
use Rattle.chain_defs.specs.Molecule as molecule
use Rattle.chain_defs.specs.Shape.{Encoding, Shape, IsEncoding, encoded, decoded, are_bytes, table, parts, all_fit, table_field}
use Rattle.chain_defs.specs.Checked.{AreBytes, IsCheckOf, HasFields}
use Rattle.chain_defs.proofs.MoleculeLaws.{length-dynvec, parts_of-dynvec}

-- ---- decoded

test_some : {V : Type 0} (t : Bool) (v w : V) → cond t (Some v) None ≡ Some w → (t ≡ true) × (v ≡ w)
test_some true v w e = (refl, cc)
test_some false v w e = absurd cc

pub IsEncoding-decoded : {V : Type 0} (s : Shape V) (b : List ℕ) (v : V) → decoded s b ≡ Some v → IsEncoding s b v
unfolding decoded
IsEncoding-decoded s b v e =
    let u = s.decoding b in
    let t = test_some ((s.encoding u).fits && bytes_eq (encoded s u) b) u v e in
    let both = and_parts _ _ t.0 in
    let found : IsEncoding s b u = record { fits = both.0; encoding = sym ((bytes_eq-Decides (encoded s u) b).0 both.1) } in
    subst (IsEncoding s b) t.1 found

pub decoded-is : {V : Type 0} {P : List ℕ → Type 0} (s : Shape V) → IsCheckOf P s → (b : List ℕ) (v : V) → IsEncoding s b v → decoded s b ≡ Some v
unfolding decoded
decoded-is s check b v a =
    let same = check.value b v a in
    let whole : IsEncoding s b (s.decoding b) = subst (IsEncoding s b) (sym same) a in
    let test : ((s.encoding (s.decoding b)).fits && bytes_eq (encoded s (s.decoding b)) b) ≡ true = and_from _ _ whole.fits ((bytes_eq-Decides (encoded s (s.decoding b)) b).1 (sym whole.encoding)) in
    rw test (ap (λ (u : _). Some u) same)

pub decoded-none : {V : Type 0} (s : Shape V) (b : List ℕ) → ((v : V) → IsEncoding s b v → ⊥) → decoded s b ≡ None
decoded-none s b none = elim (decoded s b) as (λ o. decoded s b ≡ o → o ≡ None) [ None ↦ λ e. refl | Some v ↦ λ e. absurd (none v (IsEncoding-decoded s b v e)) ] refl

-- what a read answers
pub read-some : {V : Type 0} {P : List ℕ → Type 0} (s : Shape V) → IsCheckOf P s → (b : List ℕ) → AreBytes b → P b → Some (s.decoding b) ≡ decoded s b
read-some s check b small p = sym (decoded-is s check b (s.decoding b) (check.sound b small p))

pub read-none : {V : Type 0} {P : List ℕ → Type 0} (s : Shape V) → IsCheckOf P s → (b : List ℕ) → (P b → ⊥) → None ≡ decoded s b
read-none s check b none = sym (decoded-none s b (λ v a. none (check.complete b v a)))

-- ---- parts of bytes are bytes

pub AreBytes-drop : (n : ℕ) (b : List ℕ) → AreBytes b → AreBytes (drop n b)
AreBytes-drop n b h i = rw get_or-drop (h (n + i))

pub AreBytes-take : (n : ℕ) (b : List ℕ) → AreBytes b → AreBytes (take n b)
AreBytes-take n b h i =
    elim (cases_lt i n) [
      | inl lt ↦ rw (get_or-take n b i 0 lt) (h i)
      | inr le ↦ rw (get_or_past (take n b) i 0 (omega (arith, length-take n b))) (omega arith)
    ]

pub AreBytes-range : (b : List ℕ) (i j : ℕ) → AreBytes b → AreBytes (slice_range b i j)
AreBytes-range b i j h = AreBytes-take (j - i) (drop i b) (AreBytes-drop i b h)

pub AreBytes-tail : (x : ℕ) (b : List ℕ) → AreBytes (x ∷ b) → AreBytes b
AreBytes-tail x b h i = h (suc i)

pub are_bytes-from : (b : List ℕ) → AreBytes b → IsTrue (are_bytes b)
are_bytes-from [] h = refl
are_bytes-from (x ∷ b) h = and_from _ _ (lt-ltb x 256 (h 0)) (are_bytes-from b (AreBytes-tail x b h))

each_mapped : {X Y : Type 0} (P : Y → Type 0) (f : X → Y) (xs : List X) → ((x : X) → P (f x)) → AllByRecursion P (map f xs)
each_mapped P f [] h = tt
each_mapped P f (x ∷ xs) h = (h x, each_mapped P f xs h)

pub AreBytes-items : (size : ℕ) (b : List ℕ) → AreBytes b → AllByRecursion AreBytes (molecule.items_of_fixvec size b)
unfolding molecule.items_of_fixvec molecule.item_of_fixvec
AreBytes-items size b h = each_mapped AreBytes (molecule.item_of_fixvec size b) (range_with_len 0 (molecule.header_number b 0)) (λ i. AreBytes-range b (4 + i * size) (4 + (i + 1) * size) h)

pub AreBytes-parts : (b : List ℕ) → AreBytes b → AllByRecursion AreBytes (molecule.parts_of b)
unfolding molecule.parts_of molecule.part_of
AreBytes-parts b h = each_mapped AreBytes (molecule.part_of b) (range_with_len 0 (molecule.part_count b)) (λ i. AreBytes-range b (molecule.part_start b i) (molecule.part_start b (i + 1)) h)

get-each : {X : Type 0} (P : X → Type 0) (xs : List X) (d : X) (i : ℕ) → P d → AllByRecursion P xs → P (unwrap_or (slice_get xs i) d)
get-each P [] d i h a = h
get-each P (x ∷ xs) d zero h a = a.0
get-each P (x ∷ xs) d (suc i) h a = get-each P xs d i h a.1

AreBytes-nil : AreBytes []
AreBytes-nil i = omega arith

pub AreBytes-table_field : (b : List ℕ) (i : ℕ) → AreBytes b → AreBytes (table_field b i)
AreBytes-table_field b i h = get-each AreBytes (molecule.parts_of b) [] i AreBytes-nil (AreBytes-parts b h)

-- ---- lists of encodings

-- each of the encodings is of a value
abbrev pub AllFit : List Encoding → Type 0
AllFit [] = Unit {0}
AllFit (e ∷ es) = IsTrue e.fits × AllFit es

pub AllFit-from : (es : List Encoding) → IsTrue (all_fit es) → AllFit es
AllFit-from [] f = tt
AllFit-from (e ∷ es) f = let p = and_parts _ _ f in (p.0, AllFit-from es p.1)

pub all_fit-from : (es : List Encoding) → AllFit es → IsTrue (all_fit es)
all_fit-from [] f = refl
all_fit-from (e ∷ es) f = and_from _ _ f.0 (all_fit-from es f.1)

pub values_back : {V : Type 0} (P : List ℕ → Type 0) (s : Shape V) → IsCheckOf P s → (vs : List V) → AllFit (map s.encoding vs) → map s.decoding (parts (map s.encoding vs)) ≡ vs
values_back P s check [] f = refl
values_back P s check (v ∷ vs) f =
    let here = check.value (encoded s v) v (record { fits = f.0; encoding = refl }) in
    let rest = values_back P s check vs f.1 in
    λ i. here i ∷ rest i

pub length-parts : {V : Type 0} (s : Shape V) (vs : List V) → length (parts (map s.encoding vs)) ≡ length vs
length-parts s vs = length-map _ _ ∙ length-map vs s.encoding

pub parts_of-table : (b : List ℕ) (fs : List Encoding) → b ≡ (table fs).bytes → IsTrue (table fs).fits → molecule.parts_of b ≡ parts fs
parts_of-table b fs is f =
    let small = ltb-true (length (molecule.dynvec (parts fs))) (2 ^ 32) (and_parts _ _ f).0 in
    ap molecule.parts_of is ∙ parts_of-dynvec (parts fs) (subst (λ (n : ℕ). n < 2 ^ 32) (length-dynvec (parts fs)) small)

-- ---- the fields of a table

-- From field k on, the parts of a table are the encodings of these fields.
abbrev pub FieldsAt : List ℕ → ℕ → List Encoding → Type 0
FieldsAt b k [] = Unit {0}
FieldsAt b k (f ∷ fs) = (IsTrue f.fits × (table_field b k ≡ f.bytes)) × FieldsAt b (k + 1) fs

get_at : (front : List (List ℕ)) (p : List ℕ) (back : List (List ℕ)) (k : ℕ) → length front ≡ k → unwrap_or (slice_get (front ++ p ∷ back) k) [] ≡ p
get_at front p back k len = unwrap_or-slice_get (front ++ p ∷ back) k [] ∙ get_or_at front p back [] k len

fields_from : (b : List ℕ) (front : List (List ℕ)) (fs : List Encoding) (k : ℕ) → length front ≡ k → molecule.parts_of b ≡ front ++ parts fs → AllFit fs → FieldsAt b k fs
fields_from b front [] k len is f = tt
fields_from b front (e ∷ fs) k len is f =
    let here : table_field b k ≡ e.bytes = ap (λ (ps : List (List ℕ)). unwrap_or (slice_get ps k) []) is ∙ get_at front e.bytes (parts fs) k len in
    let next : molecule.parts_of b ≡ (front ++ e.bytes ∷ []) ++ parts fs = is ∙ sym (append_assoc front (e.bytes ∷ []) (parts fs)) in
    let longer : length (front ++ e.bytes ∷ []) ≡ k + 1 = omega (arith, length-append front (e.bytes ∷ [])) in
    ((f.0, here), fields_from b (front ++ e.bytes ∷ []) fs (k + 1) longer next f.1)

-- what the bytes of a table are
pub record TableOf (b : List ℕ) (fs : List Encoding) : Type 0 where
  pub table : HasFields (length fs) b
  pub fields : FieldsAt b 0 fs

pub table-parts : (b : List ℕ) (fs : List Encoding) → b ≡ (table fs).bytes → IsTrue (table fs).fits → TableOf b fs
table-parts b fs is f =
    let both = and_parts _ _ f in
    let ps = parts_of-table b fs is f in
    record {
      table = record {
        encoding = is ∙ ap molecule.dynvec (sym ps);
        size = subst (λ (l : List ℕ). length l < 2 ^ 32) (sym is) (ltb-true (length (molecule.dynvec (parts fs))) (2 ^ 32) both.0);
        count = ap length ps ∙ length-map _ _;
      };
      fields = fields_from b [] fs 0 refl ps (AllFit-from fs both.1);
    }

fields_whole : (b : List ℕ) (k : ℕ) (fs : List Encoding) → length (molecule.parts_of b) ≡ k + length fs → FieldsAt b k fs → (drop k (molecule.parts_of b) ≡ parts fs) × AllFit fs
fields_whole b k [] len f = (drop_all k (molecule.parts_of b) (omega arith), tt)
fields_whole b k (e ∷ fs) len f =
    let ps = molecule.parts_of b in
    let rest = fields_whole b (k + 1) fs (omega arith) f.1 in
    let here : get_or ps k [] ≡ e.bytes = sym (unwrap_or-slice_get ps k []) ∙ f.0.1 in
    let more = drop_more ps k [] (omega arith) in
    let joined : get_or ps k [] ∷ drop (k + 1) ps ≡ e.bytes ∷ parts fs = λ i. here i ∷ rest.0 i in
    (more ∙ joined, (f.0.0, rest.1))

pub table-whole : (b : List ℕ) (fs : List Encoding) → TableOf b fs → IsTrue (table fs).fits × (b ≡ (table fs).bytes)
table-whole b fs t =
    let whole = fields_whole b 0 fs (omega (arith, t.table.count)) t.fields in
    let is : b ≡ molecule.dynvec (parts fs) = t.table.encoding ∙ ap molecule.dynvec whole.0 in
    let small : length (molecule.dynvec (parts fs)) < 2 ^ 32 = subst (λ (l : List ℕ). length l < 2 ^ 32) is t.table.size in
    (and_from _ _ (lt-ltb _ _ small) (all_fit-from fs whole.1), is)
