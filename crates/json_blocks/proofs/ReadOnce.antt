-- At most one value of its shape is read from a tree.
use Rattle.std.proofs.Common.{◌≡◌, ℕ, zero, suc, ◌+◌, ◌-◌, ◌*◌, ◌/◌, ◌%◌, ◌^◌, ◌<◌, ◌≤◌, ◌==◌, Bool, true, false, ◌&&◌, ◌⊎◌, inl, inr, List, [], ◌∷◌, map, slice_index, refl, sym, ap, ◌∙◌, arith, ltb-true, leb-true}
use Rattle.std.specs.Prelude.{if◌then◌else◌, Some, None, nat_lt, nat_le, ◌||◌, IsTrue, drop, codes}
use Rattle.std.specs.Int.{w32, w64, w128, byte_len}
use Rattle.std.specs.Str.{bytes_eq}
use Rattle.std.specs.Fmt.{digits, digits_onto, digit_glyph}
use Rattle.std.proofs.lemmas.Bool.{and_parts, eqb-true}
use Rattle.std.proofs.lemmas.Bool.Decides.{nat_tests}
use Rattle.std.proofs.lemmas.Slice.Eq.{bytes_eq-Decides}
use Rattle.hex.specs.Hex.{encode_lower, IsBytes}
use Rattle.hex.proofs.HexLemmas.{decode_of-encode_lower}
use Rattle.chain_defs.specs.Shape as shape
use Rattle.chain_defs.specs.Schema as schema
use Rattle.chain_defs.proofs.ShapeLaws.{AllFit, AllFit-from}
use Rattle.serde_json.specs.Data.{Data, null, boolean, number, string, array, object, Items, no_items, item, Members, no_members, member}
use Rattle.json_defs.specs.Form.{Form, Row, has_digits, is_text, hex_text, lowered, hex_number, byte_string, named_byte, items_read, list, option, members_read, without, is_object}
use Rattle.json_defs.specs.Blocks as form
use Rattle.json_defs.specs.Blocks.{free_key, usual_header_rows, other_header_rows, header_read}
use Rattle.json_defs.specs.Laws.{IsReadOnce}

pub is_false : {P : Type 0} → false ≡ true → P
is_false h = absurd (cc)

pub equal_texts : (s t : List ℕ) → bytes_eq s t ≡ true → s ≡ t
equal_texts s t e = (bytes_eq-Decides s t).0 e

-- ---- digits tell their number

-- the value of a digit in lower case
abbrev value_of : ℕ → ℕ
value_of c = if nat_lt c 58 then c - 48 else c - 87

unfoldable pub value_after : ℕ → List ℕ → ℕ
value_after n [] = n
value_after n (c ∷ s) = value_after (n * 16 + value_of c) s

unfoldable pub limit : ℕ → ℕ
limit zero = 1
limit (suc k) = 16 * limit k

glyph-value : (d : ℕ) → d < 16 → value_of (digit_glyph false d) ≡ d
glyph-value d below = grind (arith, nat_tests)

onto-value : (k n : ℕ) (s : List ℕ) → n < limit k → value_after 0 (digits_onto k 16 false n s) ≡ value_after n s
unfolding value_after limit
onto-value zero n s fits = ap (λ (m : ℕ). value_after m s) (omega arith)
onto-value (suc k) n s fits =
    by (n / 16 == 0) refl (onto-value k (n / 16) (last ∷ s) (omega arith))
  where
    last : ℕ
    last = digit_glyph false (n % 16)

    step : (m : ℕ) → m ≡ n / 16 → value_after m (last ∷ s) ≡ value_after n s
    step m is = ap (λ (x : ℕ). value_after x s) (omega (arith, glyph-value (n % 16) (omega arith)))

    by : (b : Bool) → (n / 16 == 0) ≡ b → value_after 0 (digits_onto k 16 false (n / 16) (last ∷ s)) ≡ value_after (n / 16) (last ∷ s)
        → value_after 0 (if b then last ∷ s else digits_onto k 16 false (n / 16) (last ∷ s)) ≡ value_after n s
    by true is others = step 0 (sym (eqb-true (n / 16) 0 is))
    by false is others = others ∙ step (n / 16) refl

digits-value : (n : ℕ) → n < limit 64 → value_after 0 (digits 16 false n) ≡ n
unfolding digits value_after
digits-value n fits = onto-value 64 n [] fits

-- ---- texts

same_digits : (a b : List ℕ) (t : Data) → has_digits a t ≡ true → has_digits b t ≡ true → a ≡ b
same_digits a b null first second = is_false first
same_digits a b (boolean x) first second = is_false first
same_digits a b (number x) first second = is_false first
same_digits a b (string s) first second =
    ap (drop 2) (sym (equal_texts (lowered s) (hex_text a) first) ∙ equal_texts (lowered s) (hex_text b) second)
same_digits a b (array ds) first second = is_false first
same_digits a b (object ms) first second = is_false first

pub same_number : (n m : ℕ) (t : Data) → n < limit 64 → m < limit 64 → hex_number.reads n t ≡ true → hex_number.reads m t ≡ true → n ≡ m
unfolding hex_number
same_number n m t fits fits' first second =
    sym (digits-value n fits) ∙ ap (value_after 0) (same_digits (digits 16 false n) (digits 16 false m) t first second) ∙ digits-value m fits'

pub same_bytes : (a b : List ℕ) (t : Data) → IsBytes a → IsBytes b → byte_string.reads a t ≡ true → byte_string.reads b t ≡ true → a ≡ b
unfolding byte_string
same_bytes a b t fits fits' first second =
    let same : encode_lower a ≡ encode_lower b = same_digits (encode_lower a) (encode_lower b) t first second in
    let a_back = decode_of-encode_lower a fits in
    let b_back = decode_of-encode_lower b fits' in
    cc

-- ---- what fits

pub bytes_fit : (b : List ℕ) → IsTrue (shape.are_bytes b) → IsBytes b
bytes_fit [] fits i = omega arith
bytes_fit (x ∷ b) fits zero = ltb-true x 256 (and_parts _ _ fits).0
bytes_fit (x ∷ b) fits (suc i) = bytes_fit b (and_parts _ _ fits).1 i

number_fits : (n most : ℕ) → nat_le most (limit 64) ≡ true → nat_lt n most ≡ true → n < limit 64
number_fits n most small below =
    let at_most : most ≤ limit 64 = leb-true most (limit 64) small in
    let less : n < most = ltb-true n most below in
    omega (arith, at_most, less)

-- ---- forms

pub bytes-once : IsReadOnce byte_string shape.bytes
bytes-once v w t fits fits' first second = same_bytes v w t (bytes_fit v (and_parts _ _ fits).1) (bytes_fit w (and_parts _ _ fits').1) first second

pub array-once : (n : ℕ) → IsReadOnce byte_string (shape.byte_array n)
array-once n v w t fits fits' first second = same_bytes v w t (bytes_fit v (and_parts _ _ fits).1) (bytes_fit w (and_parts _ _ fits').1) first second

pub u32-once : IsReadOnce hex_number shape.u32
unfolding limit
u32-once v w t fits fits' first second = same_number v w t (number_fits v (256 ^ byte_len w32) refl fits) (number_fits w (256 ^ byte_len w32) refl fits') first second

pub u64-once : IsReadOnce hex_number shape.u64
unfolding limit
u64-once v w t fits fits' first second = same_number v w t (number_fits v (256 ^ byte_len w64) refl fits) (number_fits w (256 ^ byte_len w64) refl fits') first second

pub u128-once : IsReadOnce hex_number shape.u128
unfolding limit
u128-once v w t fits fits' first second = same_number v w t (number_fits v (256 ^ byte_len w128) refl fits) (number_fits w (256 ^ byte_len w128) refl fits') first second

-- a name does not begin as a byte string
abbrev IsName : List ℕ → Type 0
IsName name = slice_index (lowered name) 0 ≡ 48 → ⊥

pub text_of_name : (name digits : List ℕ) (t : Data) → IsName name → is_text name t ≡ true → has_digits digits t ≡ true → ⊥
text_of_name name digits null other first second = is_false first
text_of_name name digits (boolean x) other first second = is_false first
text_of_name name digits (number x) other first second = is_false first
text_of_name name digits (string s) other first second =
    let same : s ≡ name = equal_texts s name first in
    let hex : lowered s ≡ hex_text digits = equal_texts (lowered s) (hex_text digits) second in
    other (ap (λ (l : List ℕ). slice_index (lowered l) 0) (sym same) ∙ ap (λ (l : List ℕ). slice_index l 0) hex)
text_of_name name digits (array ds) other first second = is_false first
text_of_name name digits (object ms) other first second = is_false first

digits_of_bytes : (b : List ℕ) (t : Data) → byte_string.reads b t ≡ true → has_digits (encode_lower b) t ≡ true
unfolding byte_string
digits_of_bytes b t read = read

pub two_names : (name other : List ℕ) (t : Data) → is_text name t ≡ true → is_text other t ≡ true → name ≡ other
two_names name other null first second = is_false first
two_names name other (boolean x) first second = is_false first
two_names name other (number x) first second = is_false first
two_names name other (string s) first second = sym (equal_texts s name first) ∙ equal_texts s other second
two_names name other (array ds) first second = is_false first
two_names name other (object ms) first second = is_false first

-- how a named byte is read
data NamedAs (zeroth first : List ℕ) (t : Data) (b : ℕ) : Type 0 where
  as_zeroth : b ≡ 0 → is_text zeroth t ≡ true → NamedAs zeroth first t b
  as_first : b ≡ 1 → is_text first t ≡ true → NamedAs zeroth first t b
  as_byte : byte_string.reads (b ∷ []) t ≡ true → NamedAs zeroth first t b

named_as : (zeroth first : List ℕ) (t : Data) (b : ℕ) → (named_byte zeroth first).reads b t ≡ true → NamedAs zeroth first t b
unfolding named_byte
named_as zeroth first t b read = by (b == 0) (b == 1) refl refl read
  where
    by : (x y : Bool) → (b == 0) ≡ x → (b == 1) ≡ y
        → (if x then is_text zeroth t else (if y then is_text first t else byte_string.reads (b ∷ []) t)) ≡ true → NamedAs zeroth first t b
    by true y is_zero is_one it = as_zeroth (eqb-true b 0 is_zero) it
    by false true is_zero is_one it = as_first (eqb-true b 1 is_one) it
    by false false is_zero is_one it = as_byte it

one_byte : (b : ℕ) → nat_lt b 256 ≡ true → IsBytes (b ∷ [])
one_byte b fits zero = ltb-true b 256 fits
one_byte b fits (suc i) = omega arith

named-once : (zeroth first : List ℕ) → IsName zeroth → IsName first → (zeroth ≡ first → ⊥) → IsReadOnce (named_byte zeroth first) shape.byte
named-once zeroth first is_name is_name' differ v w t fits fits' read read' =
    by (named_as zeroth first t v read) (named_as zeroth first t w read')
  where
    by : NamedAs zeroth first t v → NamedAs zeroth first t w → v ≡ w
    by (as_zeroth e p) (as_zeroth e' p') = e ∙ sym e'
    by (as_zeroth e p) (as_first e' p') = absurd (differ (two_names zeroth first t p p'))
    by (as_zeroth e p) (as_byte p') = absurd (text_of_name zeroth _ t is_name p (digits_of_bytes _ t p'))
    by (as_first e p) (as_zeroth e' p') = absurd (differ (two_names zeroth first t p' p))
    by (as_first e p) (as_first e' p') = e ∙ sym e'
    by (as_first e p) (as_byte p') = absurd (text_of_name first _ t is_name' p (digits_of_bytes _ t p'))
    by (as_byte p) (as_zeroth e' p') = absurd (text_of_name zeroth _ t is_name p' (digits_of_bytes _ t p))
    by (as_byte p) (as_first e' p') = absurd (text_of_name first _ t is_name' p' (digits_of_bytes _ t p))
    by (as_byte p) (as_byte p') = ap (λ (l : List ℕ). slice_index l 0) (same_bytes (v ∷ []) (w ∷ []) t (one_byte v fits) (one_byte w fits') p p')

-- the values of a list fit
abbrev pub Fits : {V : Type 0} → shape.Shape V → List V → Type 0
Fits it vs = IsTrue (shape.all_fit (map it.encoding vs))

pub items-once : {V : Type 0} (of : Form V) (it : shape.Shape V) → IsReadOnce of it → (vs ws : List V) (ds : Items) → Fits it vs → Fits it ws
    → items_read of.reads vs ds ≡ true → items_read of.reads ws ds ≡ true → vs ≡ ws
items-once of it once [] [] no_items fits fits' first second = refl
items-once of it once [] [] (item d ds) fits fits' first second = refl
items-once of it once [] (w ∷ ws) no_items fits fits' first second = is_false second
items-once of it once [] (w ∷ ws) (item d ds) fits fits' first second = is_false first
items-once of it once (v ∷ vs) [] no_items fits fits' first second = is_false first
items-once of it once (v ∷ vs) [] (item d ds) fits fits' first second = is_false second
items-once of it once (v ∷ vs) (w ∷ ws) no_items fits fits' first second = is_false first
items-once {V} of it once (v ∷ vs) (w ∷ ws) (item d ds) fits fits' first second =
    let head : v ≡ w = once v w d (and_parts _ _ fits).0 (and_parts _ _ fits').0 (and_parts _ _ first).0 (and_parts _ _ second).0 in
    let tail : vs ≡ ws = items-once of it once vs ws ds (and_parts _ _ fits).1 (and_parts _ _ fits').1 (and_parts _ _ first).1 (and_parts _ _ second).1 in
    λ i. head i ∷ tail i

pub list-once : {V : Type 0} (of : Form V) (it : shape.Shape V) → IsReadOnce of it → (vs ws : List V) (t : Data) → Fits it vs → Fits it ws
    → (list of).reads vs t ≡ true → (list of).reads ws t ≡ true → vs ≡ ws
list-once of it once vs ws null fits fits' first second = is_false first
list-once of it once vs ws (boolean x) fits fits' first second = is_false first
list-once of it once vs ws (number x) fits fits' first second = is_false first
list-once of it once vs ws (string s) fits fits' first second = is_false first
list-once of it once vs ws (array ds) fits fits' first second = items-once of it once vs ws ds fits fits' first second
list-once of it once vs ws (object ms) fits fits' first second = is_false first

pub option-once : {V : Type 0} (of : Form V) (it : shape.Shape V) → IsReadOnce of it → ((v : V) → of.reads v null ≡ false) → IsReadOnce (option of) (shape.option it)
option-once of it once some None None t fits fits' first second = refl
option-once of it once some None (Some w) null fits fits' first second = is_false (sym (some w) ∙ second)
option-once of it once some None (Some w) (boolean x) fits fits' first second = is_false first
option-once of it once some None (Some w) (number x) fits fits' first second = is_false first
option-once of it once some None (Some w) (string s) fits fits' first second = is_false first
option-once of it once some None (Some w) (array ds) fits fits' first second = is_false first
option-once of it once some None (Some w) (object ms) fits fits' first second = is_false first
option-once of it once some (Some v) None null fits fits' first second = is_false (sym (some v) ∙ first)
option-once of it once some (Some v) None (boolean x) fits fits' first second = is_false second
option-once of it once some (Some v) None (number x) fits fits' first second = is_false second
option-once of it once some (Some v) None (string s) fits fits' first second = is_false second
option-once of it once some (Some v) None (array ds) fits fits' first second = is_false second
option-once of it once some (Some v) None (object ms) fits fits' first second = is_false second
option-once of it once some (Some v) (Some w) t fits fits' first second = ap Some (once v w t fits fits' first second)

-- ---- objects

-- both of two tests hold of the members of one object
pub record Opened (P Q : Members → Bool) : Type 0 where
  pub ms : Members
  pub first : P ms ≡ true
  pub second : Q ms ≡ true

pub opened : (P Q : Members → Bool) (t : Data) → is_object P t ≡ true → is_object Q t ≡ true → Opened P Q
opened P Q null first second = is_false first
opened P Q (boolean x) first second = is_false first
opened P Q (number x) first second = is_false first
opened P Q (string s) first second = is_false first
opened P Q (array ds) first second = is_false first
opened P Q (object ms) first second = record { ms = ms; first = first; second = second }

-- one tree is read by both rows, which have one key
pub record Shares (r r' : Row) : Type 0 where
  pub tree : Data
  pub first : r.reads tree ≡ true
  pub second : r'.reads tree ≡ true
  pub key : r.key ≡ r'.key

-- each row shares a tree with its other
abbrev pub Agree : List Row → List Row → Type 0
Agree [] rows' = Unit {0}
Agree (r ∷ rows) [] = Unit {0}
Agree (r ∷ rows) (r' ∷ rows') = Shares r r' × Agree rows rows'

pub agree : (rows rows' : List Row) (ms : Members) → members_read rows ms ≡ true → members_read rows' ms ≡ true → Agree rows rows'
agree [] rows' ms first second = tt
agree (r ∷ rows) [] ms first second = tt
agree (r ∷ rows) (r' ∷ rows') no_members first second = is_false first
agree (r ∷ rows) (r' ∷ rows') (member k d ms) first second =
    let p = and_parts (bytes_eq k r.key) (r.reads d && members_read rows ms) first in
    let q = and_parts (bytes_eq k r'.key) (r'.reads d && members_read rows' ms) second in
    let p' = and_parts (r.reads d) (members_read rows ms) p.1 in
    let q' = and_parts (r'.reads d) (members_read rows' ms) q.1 in (
      record { tree = d; first = p'.0; second = q'.0; key = sym (equal_texts k r.key p.0) ∙ equal_texts k r'.key q.0 },
      agree rows rows' ms p'.1 q'.1,
    )

pub hash_type-once : IsReadOnce (named_byte (codes "data") (codes "type")) shape.byte
hash_type-once =
    named-once (codes "data") (codes "type") (λ h. let e : 100 ≡ 48 = h in omega arith) (λ h. let e : 116 ≡ 48 = h in omega arith)
    (λ h. let e : 100 ≡ 116 = ap (λ (l : List ℕ). slice_index l 0) h in omega arith)

pub dep_type-once : IsReadOnce (named_byte (codes "code") (codes "dep_group")) shape.byte
dep_type-once =
    named-once (codes "code") (codes "dep_group") (λ h. let e : 99 ≡ 48 = h in omega arith) (λ h. let e : 100 ≡ 48 = h in omega arith)
    (λ h. let e : 99 ≡ 100 = ap (λ (l : List ℕ). slice_index l 0) h in omega arith)

pub script-once : IsReadOnce form.script schema.script
unfolding form.script schema.script
script-once v w t fits fits' read read' =
    let o = opened (members_read (form.script_rows v)) (members_read (form.script_rows w)) t read read' in
    let a = agree (form.script_rows v) (form.script_rows w) o.ms o.first o.second in
    let f = AllFit-from (shape.encode_field schema.byte32 v.code_hash ∷ shape.encode_field shape.byte v.hash_type ∷ shape.encode_field shape.bytes v.args ∷ []) (and_parts _ _ fits).1 in
    let f' = AllFit-from (shape.encode_field schema.byte32 w.code_hash ∷ shape.encode_field shape.byte w.hash_type ∷ shape.encode_field shape.bytes w.args ∷ []) (and_parts _ _ fits').1 in
    let e_args = bytes-once v.args w.args a.0.tree f.1.1.0 f'.1.1.0 a.0.first a.0.second in
    let e_code_hash = array-once 32 v.code_hash w.code_hash a.1.0.tree f.0 f'.0 a.1.0.first a.1.0.second in
    let e_hash_type = hash_type-once v.hash_type w.hash_type a.1.1.0.tree f.1.0 f'.1.0 a.1.1.0.first a.1.1.0.second in
    λ i. record { code_hash = e_code_hash i; hash_type = e_hash_type i; args = e_args i }

pub cellbase_witness-once : IsReadOnce form.cellbase_witness schema.cellbase_witness
unfolding form.cellbase_witness schema.cellbase_witness
cellbase_witness-once v w t fits fits' read read' =
    let o = opened (members_read (form.cellbase_witness_rows v)) (members_read (form.cellbase_witness_rows w)) t read read' in
    let a = agree (form.cellbase_witness_rows v) (form.cellbase_witness_rows w) o.ms o.first o.second in
    let f = AllFit-from (shape.encode_field schema.script v.lock ∷ shape.encode_field shape.bytes v.message ∷ []) (and_parts _ _ fits).1 in
    let f' = AllFit-from (shape.encode_field schema.script w.lock ∷ shape.encode_field shape.bytes w.message ∷ []) (and_parts _ _ fits').1 in
    let e_lock = script-once v.lock w.lock a.0.tree f.0 f'.0 a.0.first a.0.second in
    let e_message = bytes-once v.message w.message a.1.0.tree f.1.0 f'.1.0 a.1.0.first a.1.0.second in
    λ i. record { lock = e_lock i; message = e_message i }

pub out_point-once : IsReadOnce form.out_point schema.out_point
unfolding form.out_point schema.out_point
out_point-once v w t fits fits' read read' =
    let o = opened (members_read (form.out_point_rows v)) (members_read (form.out_point_rows w)) t read read' in
    let a = agree (form.out_point_rows v) (form.out_point_rows w) o.ms o.first o.second in
    let f = AllFit-from (shape.encode_field schema.byte32 v.tx_hash ∷ shape.encode_field shape.u32 v.index ∷ []) fits in
    let f' = AllFit-from (shape.encode_field schema.byte32 w.tx_hash ∷ shape.encode_field shape.u32 w.index ∷ []) fits' in
    let e_index = u32-once v.index w.index a.0.tree f.1.0 f'.1.0 a.0.first a.0.second in
    let e_tx_hash = array-once 32 v.tx_hash w.tx_hash a.1.0.tree f.0 f'.0 a.1.0.first a.1.0.second in
    λ i. record { tx_hash = e_tx_hash i; index = e_index i }

pub cell_input-once : IsReadOnce form.cell_input schema.cell_input
unfolding form.cell_input schema.cell_input
cell_input-once v w t fits fits' read read' =
    let o = opened (members_read (form.cell_input_rows v)) (members_read (form.cell_input_rows w)) t read read' in
    let a = agree (form.cell_input_rows v) (form.cell_input_rows w) o.ms o.first o.second in
    let f = AllFit-from (shape.encode_field shape.u64 v.since ∷ shape.encode_field schema.out_point v.previous_output ∷ []) fits in
    let f' = AllFit-from (shape.encode_field shape.u64 w.since ∷ shape.encode_field schema.out_point w.previous_output ∷ []) fits' in
    let e_previous_output = out_point-once v.previous_output w.previous_output a.0.tree f.1.0 f'.1.0 a.0.first a.0.second in
    let e_since = u64-once v.since w.since a.1.0.tree f.0 f'.0 a.1.0.first a.1.0.second in
    λ i. record { since = e_since i; previous_output = e_previous_output i }

pub cell_dep-once : IsReadOnce form.cell_dep schema.cell_dep
unfolding form.cell_dep schema.cell_dep
cell_dep-once v w t fits fits' read read' =
    let o = opened (members_read (form.cell_dep_rows v)) (members_read (form.cell_dep_rows w)) t read read' in
    let a = agree (form.cell_dep_rows v) (form.cell_dep_rows w) o.ms o.first o.second in
    let f = AllFit-from (shape.encode_field schema.out_point v.out_point ∷ shape.encode_field shape.byte v.dep_type ∷ []) fits in
    let f' = AllFit-from (shape.encode_field schema.out_point w.out_point ∷ shape.encode_field shape.byte w.dep_type ∷ []) fits' in
    let e_dep_type = dep_type-once v.dep_type w.dep_type a.0.tree f.1.0 f'.1.0 a.0.first a.0.second in
    let e_out_point = out_point-once v.out_point w.out_point a.1.0.tree f.0 f'.0 a.1.0.first a.1.0.second in
    λ i. record { out_point = e_out_point i; dep_type = e_dep_type i }

pub no_script : (s : schema.Script) → form.script.reads s null ≡ false
unfolding form.script
no_script s = refl

pub cell_output-once : IsReadOnce form.cell_output schema.cell_output
unfolding form.cell_output schema.cell_output
cell_output-once v w t fits fits' read read' =
    let o = opened (members_read (form.cell_output_rows v)) (members_read (form.cell_output_rows w)) t read read' in
    let a = agree (form.cell_output_rows v) (form.cell_output_rows w) o.ms o.first o.second in
    let f = AllFit-from (shape.encode_field shape.u64 v.capacity ∷ shape.encode_field schema.script v.lock ∷ shape.encode_field (shape.option schema.script) v.type_script ∷ []) (and_parts _ _ fits).1 in
    let f' = AllFit-from (shape.encode_field shape.u64 w.capacity ∷ shape.encode_field schema.script w.lock ∷ shape.encode_field (shape.option schema.script) w.type_script ∷ []) (and_parts _ _ fits').1 in
    let e_capacity = u64-once v.capacity w.capacity a.0.tree f.0 f'.0 a.0.first a.0.second in
    let e_lock = script-once v.lock w.lock a.1.0.tree f.1.0 f'.1.0 a.1.0.first a.1.0.second in
    let e_type_script = option-once form.script schema.script script-once no_script v.type_script w.type_script a.1.1.0.tree f.1.1.0 f'.1.1.0 a.1.1.0.first a.1.1.0.second in
    λ i. record { capacity = e_capacity i; lock = e_lock i; type_script = e_type_script i }

pub transaction-once : IsReadOnce form.transaction schema.transaction
unfolding form.transaction schema.transaction schema.raw_transaction
transaction-once v w t fits fits' read read' =
    let o = opened (λ ms. members_read (form.transaction_rows v) (without free_key ms)) (λ ms. members_read (form.transaction_rows w) (without free_key ms)) t read read' in
    let a = agree (form.transaction_rows v) (form.transaction_rows w) (without free_key o.ms) o.first o.second in
    let g = AllFit-from (shape.encode_field schema.raw_transaction v.raw ∷ shape.encode_field (shape.dynvec shape.bytes) v.witnesses ∷ []) (and_parts _ _ fits).1 in
    let g' = AllFit-from (shape.encode_field schema.raw_transaction w.raw ∷ shape.encode_field (shape.dynvec shape.bytes) w.witnesses ∷ []) (and_parts _ _ fits').1 in
    let f = AllFit-from (shape.encode_field shape.u32 v.raw.version ∷ shape.encode_field (shape.fixvec 37 schema.cell_dep) v.raw.cell_deps ∷ shape.encode_field (shape.fixvec 32 schema.byte32) v.raw.header_deps ∷ shape.encode_field (shape.fixvec 44 schema.cell_input) v.raw.inputs ∷ shape.encode_field (shape.dynvec schema.cell_output) v.raw.outputs ∷ shape.encode_field (shape.dynvec shape.bytes) v.raw.outputs_data ∷ []) (and_parts _ _ g.0).1 in
    let f' = AllFit-from (shape.encode_field shape.u32 w.raw.version ∷ shape.encode_field (shape.fixvec 37 schema.cell_dep) w.raw.cell_deps ∷ shape.encode_field (shape.fixvec 32 schema.byte32) w.raw.header_deps ∷ shape.encode_field (shape.fixvec 44 schema.cell_input) w.raw.inputs ∷ shape.encode_field (shape.dynvec schema.cell_output) w.raw.outputs ∷ shape.encode_field (shape.dynvec shape.bytes) w.raw.outputs_data ∷ []) (and_parts _ _ g'.0).1 in
    let e_cell_deps = list-once form.cell_dep schema.cell_dep cell_dep-once v.raw.cell_deps w.raw.cell_deps a.0.tree (and_parts _ _ f.1.0).1 (and_parts _ _ f'.1.0).1 a.0.first a.0.second in
    let e_header_deps = list-once byte_string schema.byte32 (array-once 32) v.raw.header_deps w.raw.header_deps a.1.0.tree (and_parts _ _ f.1.1.0).1 (and_parts _ _ f'.1.1.0).1 a.1.0.first a.1.0.second in
    let e_inputs = list-once form.cell_input schema.cell_input cell_input-once v.raw.inputs w.raw.inputs a.1.1.0.tree (and_parts _ _ f.1.1.1.0).1 (and_parts _ _ f'.1.1.1.0).1 a.1.1.0.first a.1.1.0.second in
    let e_outputs = list-once form.cell_output schema.cell_output cell_output-once v.raw.outputs w.raw.outputs a.1.1.1.0.tree (and_parts _ _ f.1.1.1.1.0).1 (and_parts _ _ f'.1.1.1.1.0).1 a.1.1.1.0.first a.1.1.1.0.second in
    let e_outputs_data = list-once byte_string shape.bytes bytes-once v.raw.outputs_data w.raw.outputs_data a.1.1.1.1.0.tree (and_parts _ _ f.1.1.1.1.1.0).1 (and_parts _ _ f'.1.1.1.1.1.0).1 a.1.1.1.1.0.first a.1.1.1.1.0.second in
    let e_version = u32-once v.raw.version w.raw.version a.1.1.1.1.1.0.tree f.0 f'.0 a.1.1.1.1.1.0.first a.1.1.1.1.1.0.second in
    let e_witnesses = list-once byte_string shape.bytes bytes-once v.witnesses w.witnesses a.1.1.1.1.1.1.0.tree (and_parts _ _ g.1.0).1 (and_parts _ _ g'.1.0).1 a.1.1.1.1.1.1.0.first a.1.1.1.1.1.1.0.second in
    λ i. record {
      raw = record { version = e_version i; cell_deps = e_cell_deps i; header_deps = e_header_deps i; inputs = e_inputs i; outputs = e_outputs i; outputs_data = e_outputs_data i };
      witnesses = e_witnesses i;
    }

pub or_cases : (x y : Bool) → (x || y) ≡ true → (x ≡ true) ⊎ (y ≡ true)
or_cases true y h = inl refl
or_cases false y h = inr h

abbrev pub header_fields : schema.Header → List shape.Encoding
header_fields h = shape.encode_field shape.u32 h.version ∷ shape.encode_field shape.u32 h.compact_target ∷ shape.encode_field shape.u64 h.timestamp ∷ shape.encode_field shape.u64 h.number ∷ shape.encode_field shape.u64 h.epoch ∷ shape.encode_field schema.byte32 h.parent_hash ∷ shape.encode_field schema.byte32 h.transactions_root ∷ shape.encode_field schema.byte32 h.proposals_hash ∷ shape.encode_field schema.byte32 h.uncles_hash ∷ shape.encode_field schema.byte32 h.dao ∷ shape.encode_field shape.u128 h.nonce ∷ []

usual-once : (v w : schema.Header) → AllFit (header_fields v) → AllFit (header_fields w) → Agree (usual_header_rows v) (usual_header_rows w) → v ≡ w
usual-once v w f f' a =
    let e_compact_target = u32-once v.compact_target w.compact_target a.0.tree f.1.0 f'.1.0 a.0.first a.0.second in
    let e_dao = array-once 32 v.dao w.dao a.1.0.tree f.1.1.1.1.1.1.1.1.1.0 f'.1.1.1.1.1.1.1.1.1.0 a.1.0.first a.1.0.second in
    let e_epoch = u64-once v.epoch w.epoch a.1.1.0.tree f.1.1.1.1.0 f'.1.1.1.1.0 a.1.1.0.first a.1.1.0.second in
    let e_nonce = u128-once v.nonce w.nonce a.1.1.1.0.tree f.1.1.1.1.1.1.1.1.1.1.0 f'.1.1.1.1.1.1.1.1.1.1.0 a.1.1.1.0.first a.1.1.1.0.second in
    let e_number = u64-once v.number w.number a.1.1.1.1.0.tree f.1.1.1.0 f'.1.1.1.0 a.1.1.1.1.0.first a.1.1.1.1.0.second in
    let e_parent_hash = array-once 32 v.parent_hash w.parent_hash a.1.1.1.1.1.0.tree f.1.1.1.1.1.0 f'.1.1.1.1.1.0 a.1.1.1.1.1.0.first a.1.1.1.1.1.0.second in
    let e_proposals_hash = array-once 32 v.proposals_hash w.proposals_hash a.1.1.1.1.1.1.0.tree f.1.1.1.1.1.1.1.0 f'.1.1.1.1.1.1.1.0 a.1.1.1.1.1.1.0.first a.1.1.1.1.1.1.0.second in
    let e_timestamp = u64-once v.timestamp w.timestamp a.1.1.1.1.1.1.1.0.tree f.1.1.0 f'.1.1.0 a.1.1.1.1.1.1.1.0.first a.1.1.1.1.1.1.1.0.second in
    let e_transactions_root = array-once 32 v.transactions_root w.transactions_root a.1.1.1.1.1.1.1.1.0.tree f.1.1.1.1.1.1.0 f'.1.1.1.1.1.1.0 a.1.1.1.1.1.1.1.1.0.first a.1.1.1.1.1.1.1.1.0.second in
    let e_uncles_hash = array-once 32 v.uncles_hash w.uncles_hash a.1.1.1.1.1.1.1.1.1.0.tree f.1.1.1.1.1.1.1.1.0 f'.1.1.1.1.1.1.1.1.0 a.1.1.1.1.1.1.1.1.1.0.first a.1.1.1.1.1.1.1.1.1.0.second in
    let e_version = u32-once v.version w.version a.1.1.1.1.1.1.1.1.1.1.0.tree f.0 f'.0 a.1.1.1.1.1.1.1.1.1.1.0.first a.1.1.1.1.1.1.1.1.1.1.0.second in
    λ i. record { version = e_version i; compact_target = e_compact_target i; timestamp = e_timestamp i; number = e_number i; epoch = e_epoch i; parent_hash = e_parent_hash i; transactions_root = e_transactions_root i; proposals_hash = e_proposals_hash i; uncles_hash = e_uncles_hash i; dao = e_dao i; nonce = e_nonce i }

other-once : (v w : schema.Header) → AllFit (header_fields v) → AllFit (header_fields w) → Agree (other_header_rows v) (other_header_rows w) → v ≡ w
other-once v w f f' a =
    let e_compact_target = u32-once v.compact_target w.compact_target a.0.tree f.1.0 f'.1.0 a.0.first a.0.second in
    let e_dao = array-once 32 v.dao w.dao a.1.0.tree f.1.1.1.1.1.1.1.1.1.0 f'.1.1.1.1.1.1.1.1.1.0 a.1.0.first a.1.0.second in
    let e_epoch = u64-once v.epoch w.epoch a.1.1.0.tree f.1.1.1.1.0 f'.1.1.1.1.0 a.1.1.0.first a.1.1.0.second in
    let e_uncles_hash = array-once 32 v.uncles_hash w.uncles_hash a.1.1.1.0.tree f.1.1.1.1.1.1.1.1.0 f'.1.1.1.1.1.1.1.1.0 a.1.1.1.0.first a.1.1.1.0.second in
    let e_nonce = u128-once v.nonce w.nonce a.1.1.1.1.0.tree f.1.1.1.1.1.1.1.1.1.1.0 f'.1.1.1.1.1.1.1.1.1.1.0 a.1.1.1.1.0.first a.1.1.1.1.0.second in
    let e_number = u64-once v.number w.number a.1.1.1.1.1.0.tree f.1.1.1.0 f'.1.1.1.0 a.1.1.1.1.1.0.first a.1.1.1.1.1.0.second in
    let e_parent_hash = array-once 32 v.parent_hash w.parent_hash a.1.1.1.1.1.1.0.tree f.1.1.1.1.1.0 f'.1.1.1.1.1.0 a.1.1.1.1.1.1.0.first a.1.1.1.1.1.1.0.second in
    let e_proposals_hash = array-once 32 v.proposals_hash w.proposals_hash a.1.1.1.1.1.1.1.0.tree f.1.1.1.1.1.1.1.0 f'.1.1.1.1.1.1.1.0 a.1.1.1.1.1.1.1.0.first a.1.1.1.1.1.1.1.0.second in
    let e_timestamp = u64-once v.timestamp w.timestamp a.1.1.1.1.1.1.1.1.0.tree f.1.1.0 f'.1.1.0 a.1.1.1.1.1.1.1.1.0.first a.1.1.1.1.1.1.1.1.0.second in
    let e_transactions_root = array-once 32 v.transactions_root w.transactions_root a.1.1.1.1.1.1.1.1.1.0.tree f.1.1.1.1.1.1.0 f'.1.1.1.1.1.1.0 a.1.1.1.1.1.1.1.1.1.0.first a.1.1.1.1.1.1.1.1.1.0.second in
    let e_version = u32-once v.version w.version a.1.1.1.1.1.1.1.1.1.1.0.tree f.0 f'.0 a.1.1.1.1.1.1.1.1.1.1.0.first a.1.1.1.1.1.1.1.1.1.1.0.second in
    λ i. record { version = e_version i; compact_target = e_compact_target i; timestamp = e_timestamp i; number = e_number i; epoch = e_epoch i; parent_hash = e_parent_hash i; transactions_root = e_transactions_root i; proposals_hash = e_proposals_hash i; uncles_hash = e_uncles_hash i; dao = e_dao i; nonce = e_nonce i }

-- the two tables have other keys in the fourth row
nonce_or_extra : (v w : schema.Header) → Agree (usual_header_rows v) (other_header_rows w) → ⊥
nonce_or_extra v w a =
    let keys : codes "nonce" ≡ codes "extra_hash" = a.1.1.1.0.key in
    let letters : 110 ≡ 101 = ap (λ (l : List ℕ). slice_index l 0) keys in
    omega (arith, letters)

pub header-once : IsReadOnce form.header schema.header
unfolding form.header schema.header
header-once v w t fits fits' read read' =
    let o = opened (λ ms. header_read v (without free_key ms)) (λ ms. header_read w (without free_key ms)) t read read' in
    let ms = without free_key o.ms in
    let f = AllFit-from (header_fields v) fits in
    let f' = AllFit-from (header_fields w) fits' in
    elim (or_cases (members_read (usual_header_rows v) ms) (members_read (other_header_rows v) ms) o.first) [
      | inl first ↦ elim (or_cases (members_read (usual_header_rows w) ms) (members_read (other_header_rows w) ms) o.second) [
        | inl second ↦ usual-once v w f f' (agree (usual_header_rows v) (usual_header_rows w) ms first second)
        | inr second ↦
            absurd (nonce_or_extra v w (agree (usual_header_rows v) (other_header_rows w) ms first second))
      ]
      | inr first ↦ elim (or_cases (members_read (usual_header_rows w) ms) (members_read (other_header_rows w) ms) o.second) [
        | inl second ↦
            absurd (nonce_or_extra w v (agree (usual_header_rows w) (other_header_rows v) ms second first))
        | inr second ↦ other-once v w f f' (agree (other_header_rows v) (other_header_rows w) ms first second)
      ]
    ]

pub uncle-once : IsReadOnce form.uncle schema.uncle_block
unfolding form.uncle schema.uncle_block
uncle-once v w t fits fits' read read' =
    let o = opened (members_read (form.uncle_rows v)) (members_read (form.uncle_rows w)) t read read' in
    let a = agree (form.uncle_rows v) (form.uncle_rows w) o.ms o.first o.second in
    let f = AllFit-from (shape.encode_field schema.header v.header ∷ shape.encode_field (shape.fixvec 10 schema.proposal_short_id) v.proposals ∷ []) (and_parts _ _ fits).1 in
    let f' = AllFit-from (shape.encode_field schema.header w.header ∷ shape.encode_field (shape.fixvec 10 schema.proposal_short_id) w.proposals ∷ []) (and_parts _ _ fits').1 in
    let e_header = header-once v.header w.header a.0.tree f.0 f'.0 a.0.first a.0.second in
    let e_proposals = list-once byte_string schema.proposal_short_id (array-once 10) v.proposals w.proposals a.1.0.tree (and_parts _ _ f.1.0).1 (and_parts _ _ f'.1.0).1 a.1.0.first a.1.0.second in
    λ i. record { header = e_header i; proposals = e_proposals i }

pub block-once : IsReadOnce form.block schema.block
unfolding form.block schema.block
block-once v w t fits fits' read read' =
    let o = opened (members_read (form.block_rows v)) (members_read (form.block_rows w)) t read read' in
    let a = agree (form.block_rows v) (form.block_rows w) o.ms o.first o.second in
    let f = AllFit-from (shape.encode_field schema.header v.header ∷ shape.encode_field (shape.dynvec schema.uncle_block) v.uncles ∷ shape.encode_field (shape.dynvec schema.transaction) v.transactions ∷ shape.encode_field (shape.fixvec 10 schema.proposal_short_id) v.proposals ∷ []) (and_parts _ _ fits).1 in
    let f' = AllFit-from (shape.encode_field schema.header w.header ∷ shape.encode_field (shape.dynvec schema.uncle_block) w.uncles ∷ shape.encode_field (shape.dynvec schema.transaction) w.transactions ∷ shape.encode_field (shape.fixvec 10 schema.proposal_short_id) w.proposals ∷ []) (and_parts _ _ fits').1 in
    let e_header = header-once v.header w.header a.0.tree f.0 f'.0 a.0.first a.0.second in
    let e_proposals = list-once byte_string schema.proposal_short_id (array-once 10) v.proposals w.proposals a.1.0.tree (and_parts _ _ f.1.1.1.0).1 (and_parts _ _ f'.1.1.1.0).1 a.1.0.first a.1.0.second in
    let e_transactions = list-once form.transaction schema.transaction transaction-once v.transactions w.transactions a.1.1.0.tree (and_parts _ _ f.1.1.0).1 (and_parts _ _ f'.1.1.0).1 a.1.1.0.first a.1.1.0.second in
    let e_uncles = list-once form.uncle schema.uncle_block uncle-once v.uncles w.uncles a.1.1.1.0.tree (and_parts _ _ f.1.0).1 (and_parts _ _ f'.1.0).1 a.1.1.1.0.first a.1.1.1.0.second in
    λ i. record { header = e_header i; uncles = e_uncles i; transactions = e_transactions i; proposals = e_proposals i }
