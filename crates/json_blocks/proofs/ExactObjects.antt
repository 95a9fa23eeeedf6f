-- Reading gives the encoding of the one value that a tree is read as: the objects of a block, row by row.
use Rattle.std.proofs.Common.{◌≡◌, ℕ, ◌^◌, Bool, true, false, ◌&&◌, List, [], ◌∷◌, length, Option, Some, None, refl, sym, ap, ◌∙◌, subst, arith, inl, inr}
use Rattle.std.specs.Prelude.{IsTrue, if◌then◌else◌, nat_lt, ◌||◌, codes}
use Rattle.std.specs.Int.{w32, w64, w128}
use Rattle.std.specs.List.{concat}
use Rattle.std.specs.Str.{bytes_eq}
use Rattle.std.proofs.lemmas.Bool.{and_parts, and_from, or_left}
use Rattle.chain_defs.specs.Molecule as molecule
use Rattle.chain_defs.specs.Shape as shape
use Rattle.chain_defs.specs.Schema as schema
use Rattle.chain_defs.proofs.ShapeLaws.{AllFit, AllFit-from, all_fit-from}
use Rattle.chain_defs.proofs.MoleculeLaws.{length-dynvec}
use Rattle.serde_json.specs.Data.{Data, null, boolean, number, string, array, object, Members, no_members, member}
use Rattle.json_defs.specs.Form.{Form, Row, row, members_read, without, is_object, is_null, hex_number, byte_string, named_byte, list, option}
use Rattle.json_defs.specs.Blocks as form
use Rattle.json_defs.specs.Blocks.{free_key, usual_header_rows, other_header_rows, header_read}
use Rattle.json_defs.specs.Laws.{IsReadOnce}
use Rattle.json_blocks.specs.Reading.{◌>>=◌, left, members_at, take_at, end_at, table_from, array_at, content_at, number_at, named_at, fixvec_at, dynvec_at, hash_at, or_else, script_at, cellbase_witness_at, type_script_at, out_point_at, cell_input_at, cell_dep_at, cell_output_at, transaction_at, header_with, header_at, uncle_at, block_at}
use Rattle.json_blocks.proofs.ReadOnce.{is_false, or_cases, bytes-once, array-once, u32-once, u64-once, u128-once, hash_type-once, dep_type-once, no_script, script-once, cellbase_witness-once, out_point-once, cell_input-once, cell_dep-once, cell_output-once, transaction-once, header-once, uncle-once, block-once}
use Rattle.json_blocks.proofs.KeyLemmas.{hash-bound}
use Rattle.json_blocks.proofs.Exact.{Found, Exact, array-exact, content-exact, number-exact, named-exact, fixvec-exact, dynvec-exact}

opposite : {P : Type 0} {b : Bool} → b ≡ true → b ≡ false → P
opposite {P} {b} is is_not = is_false (sym is_not ∙ is)

-- What is read so far holds of the value, and so does the rest: the bytes are those of such a value, or there is none.
pub record Whole {V : Type 0} (it : shape.Shape V) (P : V → Type 0) (Q : V → Bool) (bytes : List ℕ) : Type 0 where
  value : V
  fits : IsTrue (it.encoding value).fits
  before : P value
  after : Q value ≡ true
  bytes_are : bytes ≡ shape.encoded it value

abbrev pub Rest : {V : Type 0} → shape.Shape V → (V → Type 0) → (V → Bool) → Option (List ℕ) → Type 0
Rest {V} it P Q None = (v : V) → IsTrue (it.encoding v).fits → P v → Q v ≡ true → ⊥
Rest it P Q (Some bytes) = Whole it P Q bytes

-- a row, and those after it
pub row-rest : {V X : Type 0} (it : shape.Shape V) (P : V → Type 0) (key : List ℕ) (of : Form X) (sx : shape.Shape X) (field : V → X) (rows : V → List Row)
    → ((v : V) → IsTrue (it.encoding v).fits → IsTrue (sx.encoding (field v)).fits)
    → (read : Data → Option (List ℕ)) → ((t : Data) → Exact of sx t (read t)) → (ms : Members) (K : Data × Members → List ℕ → Option (List ℕ))
    → ((x : X) (d : Data) (left : Members) → IsTrue (sx.encoding x).fits
    → Rest it (λ v. P v × (field v ≡ x)) (λ v. members_read (rows v) left) (K (d, left) (shape.encoded sx x)))
    → Rest it P (λ v. members_read (row key of (field v) ∷ rows v) ms) (take_at key ms >>= (λ a. read a.0 >>= (λ b. K a b)))
row-rest it P key of sx field rows fit read exact no_members K next = λ v f p q. is_false q
row-rest {V} {X} it P key of sx field rows fit read exact (member k d left) K next = keyed (bytes_eq k key) refl
  where
    goal : Bool → V → Bool
    goal b v = b && (of.reads (field v) d && members_read (rows v) left)

    found : (b : List ℕ) (x : Found of sx d b) (o : Option (List ℕ)) → Rest it (λ v. P v × (field v ≡ x.value)) (λ v. members_read (rows v) left) o → Rest it P (goal true) o
    found b x None none = λ v f p q. (let parts = and_parts (of.reads (field v) d) (members_read (rows v) left) q in none v f (p, x.alone (field v) (fit v f) parts.0) parts.1)
    found b x (Some bytes) whole = record {
      value = whole.value;
      fits = whole.fits;
      before = whole.before.0;
      after = and_from _ _ (ap (λ y. of.reads y d) whole.before.1 ∙ x.read) whole.after;
      bytes_are = whole.bytes_are;
    }

    valued : (o : Option (List ℕ)) → Exact of sx d o → Rest it P (goal true) (o >>= (λ b. K (d, left) b))
    valued None none = λ v f p q. none (field v) (fit v f) (and_parts (of.reads (field v) d) (members_read (rows v) left) q).0
    valued (Some b) x = found b x (K (d, left) b) (subst (λ l. Rest it (λ v. P v × (field v ≡ x.value)) (λ v. members_read (rows v) left) (K (d, left) l)) (sym x.bytes_are) (next x.value d left x.fits))

    keyed : (b : Bool) → bytes_eq k key ≡ b → Rest it P (goal b) ((if b then Some (d, left) else None) >>= (λ a. read a.0 >>= (λ c. K a c)))
    keyed true e = valued (read d) (exact d)
    keyed false e = λ v f p q. is_false q

-- no row is left
pub end-rest : {V : Type 0} (it : shape.Shape V) (P : V → Type 0) (ms : Members) (o : Option (List ℕ)) → Rest it P (λ v. true) o
    → Rest it P (λ v. members_read [] ms) (end_at ms >>= (λ last. o))
end-rest it P no_members o rest = rest
end-rest it P (member k d ms) o rest = λ v f p q. is_false q

-- the fields make a table
table-rest : {V : Type 0} (it : shape.Shape V) (P : V → Type 0) (fields : V → List shape.Encoding) → ((v : V) → it.encoding v ≡ shape.table (fields v))
    → (v : V) → P v → AllFit (fields v) → (bs : List (List ℕ)) → ((w : V) → P w → bs ≡ shape.parts (fields w)) → Rest it P (λ w. true) (table_from bs)
unfolding table_from
table-rest {V} it P fields is v p fit bs are = by (nat_lt (molecule.full_size bs) (2 ^ 32)) refl
  where
    short : (w : V) → P w → nat_lt (length (molecule.dynvec (shape.parts (fields w)))) (2 ^ 32) ≡ nat_lt (molecule.full_size bs) (2 ^ 32)
    short w q = ap (λ n. nat_lt n (2 ^ 32)) (length-dynvec (shape.parts (fields w)) ∙ ap molecule.full_size (sym (are w q)))

    by : (b : Bool) → nat_lt (molecule.full_size bs) (2 ^ 32) ≡ b → Rest it P (λ w. true) (if b then Some (molecule.dynvec bs) else None)
    by true e = record {
      value = v;
      fits = ap (λ (x : shape.Encoding). x.fits) (is v) ∙ and_from _ _ (short v p ∙ e) (all_fit-from (fields v) fit);
      before = p;
      after = refl;
      bytes_are = ap molecule.dynvec (are v p) ∙ ap (λ (x : shape.Encoding). x.bytes) (sym (is v));
    }
    by false e = λ w f q r. opposite (sym (short w q) ∙ (and_parts _ _ (sym (ap (λ (x : shape.Encoding). x.fits) (is w)) ∙ f)).0) e

-- the fields make a struct
pub struct-rest : {V : Type 0} (it : shape.Shape V) (P : V → Type 0) (fields : V → List shape.Encoding) → ((v : V) → it.encoding v ≡ shape.struct (fields v))
    → (v : V) → P v → AllFit (fields v) → (bytes : List ℕ) → bytes ≡ concat (shape.parts (fields v)) → Rest it P (λ w. true) (Some bytes)
struct-rest it P fields is v p fit bytes are = record {
  value = v;
  fits = ap (λ (x : shape.Encoding). x.fits) (is v) ∙ all_fit-from (fields v) fit;
  before = p;
  after = refl;
  bytes_are = are ∙ ap (λ (x : shape.Encoding). x.bytes) (sym (is v));
}

-- the members of an object
pub object-rest : {V : Type 0} (beside_hash : Bool) (it : shape.Shape V) (Q : V → Members → Bool) (K : Members → Option (List ℕ)) → ((ms : Members) → Rest it (λ v. Unit {0}) (λ v. Q v ms) (K ms))
    → (t : Data) → Rest it (λ v. Unit {0}) (λ v. is_object (λ ms. Q v (left beside_hash ms)) t) (members_at beside_hash t >>= (λ ms. K ms))
object-rest beside_hash it Q K each null = λ v f p q. is_false q
object-rest beside_hash it Q K each (boolean b) = λ v f p q. is_false q
object-rest beside_hash it Q K each (number n) = λ v f p q. is_false q
object-rest beside_hash it Q K each (string s) = λ v f p q. is_false q
object-rest beside_hash it Q K each (array ds) = λ v f p q. is_false q
object-rest beside_hash it Q K each (object ms) = each (left beside_hash ms)

pub exact-from : {V : Type 0} (of : Form V) (it : shape.Shape V) → IsReadOnce of it → (t : Data) (o : Option (List ℕ)) → Rest it (λ v. Unit {0}) (λ v. of.reads v t) o → Exact of it t o
exact-from of it once t None none = λ w f r. none w f tt r
exact-from of it once t (Some bytes) whole = record {
  value = whole.value;
  fits = whole.fits;
  read = whole.after;
  bytes_are = whole.bytes_are;
  alone = λ w f r. once w whole.value t f whole.fits r whole.after;
}

-- two tables, one in the other
two-tables : {V R : Type 0} (it : shape.Shape V) (ir : shape.Shape R) (P : V → Type 0) (raw : V → R) (inner : R → List shape.Encoding) (others : V → List shape.Encoding)
    → ((r : R) → ir.encoding r ≡ shape.table (inner r)) → ((v : V) → it.encoding v ≡ shape.table (ir.encoding (raw v) ∷ others v))
    → (v : V) → P v → AllFit (inner (raw v)) → AllFit (others v)
    → (bs rest : List (List ℕ)) → ((w : V) → P w → bs ≡ shape.parts (inner (raw w))) → ((w : V) → P w → rest ≡ shape.parts (others w))
    → Rest it P (λ w. true) (table_from bs >>= (λ b. table_from (b ∷ rest)))
unfolding table_from
two-tables {V} it ir P raw inner others is_inner is v p fit_inner fit bs rest are rest_are = by (nat_lt (molecule.full_size bs) (2 ^ 32)) refl
  where
    short : (w : V) → P w → nat_lt (length (molecule.dynvec (shape.parts (inner (raw w))))) (2 ^ 32) ≡ nat_lt (molecule.full_size bs) (2 ^ 32)
    short w q = ap (λ n. nat_lt n (2 ^ 32)) (length-dynvec (shape.parts (inner (raw w))) ∙ ap molecule.full_size (sym (are w q)))

    bytes : (w : V) → P w → molecule.dynvec bs ≡ shape.encoded ir (raw w)
    bytes w q = ap molecule.dynvec (are w q) ∙ ap (λ (x : shape.Encoding). x.bytes) (sym (is_inner (raw w)))

    by : (b : Bool) → nat_lt (molecule.full_size bs) (2 ^ 32) ≡ b → Rest it P (λ w. true) ((if b then Some (molecule.dynvec bs) else None) >>= (λ b. table_from (b ∷ rest)))
    by true e =
        table-rest it P (λ w. ir.encoding (raw w) ∷ others w) is v p
        (ap (λ (x : shape.Encoding). x.fits) (is_inner (raw v)) ∙ and_from _ _ (short v p ∙ e) (all_fit-from (inner (raw v)) fit_inner), fit)
        (molecule.dynvec bs ∷ rest) (λ w q i. bytes w q i ∷ rest_are w q i)
    by false e =
        λ w f q r. (
        let whole = AllFit-from (ir.encoding (raw w) ∷ others w) (and_parts _ _ (sym (ap (λ (x : shape.Encoding). x.fits) (is w)) ∙ f)).1 in
        opposite (sym (short w q) ∙ (and_parts _ _ (sym (ap (λ (x : shape.Encoding). x.fits) (is_inner (raw w))) ∙ whole.0)).0) e)

-- a row that is a hash of 32 bytes, where it is to stand here
hash-row : {V : Type 0} (it : shape.Shape V) (P : V → Type 0) (key : List ℕ) (field : V → List ℕ) (rows : V → List Row)
    → ((v : V) → IsTrue (it.encoding v).fits → IsTrue ((shape.byte_array 32).encoding (field v)).fits)
    → (ms : Members) (K : List ℕ × Members → Option (List ℕ))
    → ((x : List ℕ) (d : Data) (left : Members) → IsTrue ((shape.byte_array 32).encoding x).fits
    → Rest it (λ v. P v × (field v ≡ x)) (λ v. members_read (rows v) left) (K (x, left)))
    → Rest it P (λ v. members_read (row key byte_string (field v) ∷ rows v) ms) (hash_at true key ms >>= (λ u. K u))
hash-row it P key field rows fit ms K next =
    subst (λ o. Rest it P (λ v. members_read (row key byte_string (field v) ∷ rows v) ms) o) (hash-bound key ms K)
    (row-rest it P key byte_string (shape.byte_array 32) field rows fit (array_at 32) (array-exact 32) ms (λ a b. K (b, a.1)) next)

-- ---- the objects

pub u32-exact : (t : Data) → Exact hex_number shape.u32 t (number_at w32 t)
u32-exact t = number-exact w32 u32-once (omega arith) t

pub u64-exact : (t : Data) → Exact hex_number shape.u64 t (number_at w64 t)
u64-exact t = number-exact w64 u64-once (omega arith) t

u128-exact : (t : Data) → Exact hex_number shape.u128 t (number_at w128 t)
u128-exact t = number-exact w128 u128-once (omega arith) t

abbrev script-fields : schema.Script → List shape.Encoding
script-fields v = shape.encode_field (shape.byte_array 32) v.code_hash ∷ shape.encode_field shape.byte v.hash_type ∷ shape.encode_field shape.bytes v.args ∷ []

script-rest : (t : Data) → Rest schema.script (λ v. Unit {0}) (λ v. is_object (λ ms. members_read (form.script_rows v) ms) t) (script_at t)
unfolding script_at schema.script
script-rest t = object-rest false schema.script (λ v ms. members_read (form.script_rows v) ms) _ (λ ms.
    (row-rest schema.script (λ v. Unit {0}) (codes "args") byte_string shape.bytes (λ v. v.args) (λ v. row (codes "code_hash") byte_string v.code_hash ∷ row (codes "hash_type") (named_byte (codes "data") (codes "type")) v.hash_type ∷ []) (λ v f. (AllFit-from (script-fields v) (and_parts _ _ f).1).1.1.0) content_at content-exact ms _ (λ x_args d_0 ms_0 f_args.
    (row-rest schema.script (λ v. Unit {0} × (v.args ≡ x_args)) (codes "code_hash") byte_string (shape.byte_array 32) (λ v. v.code_hash) (λ v. row (codes "hash_type") (named_byte (codes "data") (codes "type")) v.hash_type ∷ []) (λ v f. (AllFit-from (script-fields v) (and_parts _ _ f).1).0) (array_at 32) (array-exact 32) ms_0 _ (λ x_code_hash d_1 ms_1 f_code_hash.
    (row-rest schema.script (λ v. (Unit {0} × (v.args ≡ x_args)) × (v.code_hash ≡ x_code_hash)) (codes "hash_type") (named_byte (codes "data") (codes "type")) shape.byte (λ v. v.hash_type) (λ v. []) (λ v f. (AllFit-from (script-fields v) (and_parts _ _ f).1).1.0) (named_at (codes "data") (codes "type")) (named-exact (codes "data") (codes "type") hash_type-once) ms_1 _ (λ x_hash_type d_2 ms_2 f_hash_type.
    end-rest schema.script (λ v. ((Unit {0} × (v.args ≡ x_args)) × (v.code_hash ≡ x_code_hash)) × (v.hash_type ≡ x_hash_type)) ms_2 _
    (table-rest schema.script (λ v. ((Unit {0} × (v.args ≡ x_args)) × (v.code_hash ≡ x_code_hash)) × (v.hash_type ≡ x_hash_type)) script-fields (λ v. refl) (record { code_hash = x_code_hash; hash_type = x_hash_type; args = x_args }) (((tt, refl), refl), refl) (f_code_hash, (f_hash_type, (f_args, tt))) _ (λ w q i. shape.encoded (shape.byte_array 32) (sym q.0.1 i) ∷ shape.encoded shape.byte (sym q.1 i) ∷ shape.encoded shape.bytes (sym q.0.0.1 i) ∷ []))))))))) t

pub script-exact : (t : Data) → Exact form.script schema.script t (script_at t)
unfolding form.script
script-exact t = exact-from form.script schema.script script-once t (script_at t) (script-rest t)

abbrev cellbase_witness-fields : schema.CellbaseWitness → List shape.Encoding
cellbase_witness-fields v = shape.encode_field schema.script v.lock ∷ shape.encode_field shape.bytes v.message ∷ []

cellbase_witness-rest : (t : Data) → Rest schema.cellbase_witness (λ v. Unit {0}) (λ v. is_object (λ ms. members_read (form.cellbase_witness_rows v) ms) t) (cellbase_witness_at t)
unfolding cellbase_witness_at schema.cellbase_witness
cellbase_witness-rest t = object-rest false schema.cellbase_witness (λ v ms. members_read (form.cellbase_witness_rows v) ms) _ (λ ms.
    (row-rest schema.cellbase_witness (λ v. Unit {0}) (codes "lock") form.script schema.script (λ v. v.lock) (λ v. row (codes "message") byte_string v.message ∷ []) (λ v f. (AllFit-from (cellbase_witness-fields v) (and_parts _ _ f).1).0) script_at script-exact ms _ (λ x_lock d_0 ms_0 f_lock.
    (row-rest schema.cellbase_witness (λ v. Unit {0} × (v.lock ≡ x_lock)) (codes "message") byte_string shape.bytes (λ v. v.message) (λ v. []) (λ v f. (AllFit-from (cellbase_witness-fields v) (and_parts _ _ f).1).1.0) content_at content-exact ms_0 _ (λ x_message d_1 ms_1 f_message.
    end-rest schema.cellbase_witness (λ v. (Unit {0} × (v.lock ≡ x_lock)) × (v.message ≡ x_message)) ms_1 _
    (table-rest schema.cellbase_witness (λ v. (Unit {0} × (v.lock ≡ x_lock)) × (v.message ≡ x_message)) cellbase_witness-fields (λ v. refl) (record { lock = x_lock; message = x_message }) ((tt, refl), refl) (f_lock, (f_message, tt)) _ (λ w q i. shape.encoded schema.script (sym q.0.1 i) ∷ shape.encoded shape.bytes (sym q.1 i) ∷ []))))))) t

pub cellbase_witness-exact : (t : Data) → Exact form.cellbase_witness schema.cellbase_witness t (cellbase_witness_at t)
unfolding form.cellbase_witness
cellbase_witness-exact t = exact-from form.cellbase_witness schema.cellbase_witness cellbase_witness-once t (cellbase_witness_at t) (cellbase_witness-rest t)

-- a tree that is no null is no absent script
some-script : (t : Data) → ((s : Option schema.Script) → (option form.script).reads s t ≡ true → (u : schema.Script) × (s ≡ Some u)) → (o : Option (List ℕ))
    → Exact form.script schema.script t o → Exact (option form.script) (shape.option schema.script) t o
some-script t some None none = λ w f r. (let u = some w r in none u.0 (subst (λ s. IsTrue ((shape.option schema.script).encoding s).fits) u.1 f) (subst (λ s. (option form.script).reads s t ≡ true) u.1 r))
some-script t some (Some b) found = record {
  value = Some found.value;
  fits = found.fits;
  read = found.read;
  bytes_are = found.bytes_are;
  alone = λ w f r. (let u = some w r in u.1 ∙ ap Some (found.alone u.0 (subst (λ s. IsTrue ((shape.option schema.script).encoding s).fits) u.1 f) (subst (λ s. (option form.script).reads s t ≡ true) u.1 r)));
}

some_of : (t : Data) → is_null t ≡ false → (s : Option schema.Script) → (option form.script).reads s t ≡ true → (u : schema.Script) × (s ≡ Some u)
some_of t not_null None r = opposite r not_null
some_of t not_null (Some u) r = (u, refl)

absent_alone : (w : Option schema.Script) → IsTrue ((shape.option schema.script).encoding w).fits → (option form.script).reads w null ≡ true → w ≡ None
absent_alone None f r = refl
absent_alone (Some s) f r = opposite r (no_script s)

type_script-exact : (t : Data) → Exact (option form.script) (shape.option schema.script) t (type_script_at t)
unfolding type_script_at
type_script-exact null = record {
  value = None;
  fits = refl;
  read = refl;
  bytes_are = refl;
  alone = absent_alone;
}
type_script-exact (boolean b) = some-script (boolean b) (some_of (boolean b) refl) (script_at (boolean b)) (script-exact (boolean b))
type_script-exact (number n) = some-script (number n) (some_of (number n) refl) (script_at (number n)) (script-exact (number n))
type_script-exact (string s) = some-script (string s) (some_of (string s) refl) (script_at (string s)) (script-exact (string s))
type_script-exact (array ds) = some-script (array ds) (some_of (array ds) refl) (script_at (array ds)) (script-exact (array ds))
type_script-exact (object ms) = some-script (object ms) (some_of (object ms) refl) (script_at (object ms)) (script-exact (object ms))

abbrev out_point-fields : schema.OutPoint → List shape.Encoding
out_point-fields v = shape.encode_field (shape.byte_array 32) v.tx_hash ∷ shape.encode_field shape.u32 v.index ∷ []

out_point-rest : (t : Data) → Rest schema.out_point (λ v. Unit {0}) (λ v. is_object (λ ms. members_read (form.out_point_rows v) ms) t) (out_point_at t)
unfolding out_point_at schema.out_point
out_point-rest t = object-rest false schema.out_point (λ v ms. members_read (form.out_point_rows v) ms) _ (λ ms.
    (row-rest schema.out_point (λ v. Unit {0}) (codes "index") hex_number shape.u32 (λ v. v.index) (λ v. row (codes "tx_hash") byte_string v.tx_hash ∷ []) (λ v f. (AllFit-from (out_point-fields v) f).1.0) (number_at w32) u32-exact ms _ (λ x_index d_0 ms_0 f_index.
    (row-rest schema.out_point (λ v. Unit {0} × (v.index ≡ x_index)) (codes "tx_hash") byte_string (shape.byte_array 32) (λ v. v.tx_hash) (λ v. []) (λ v f. (AllFit-from (out_point-fields v) f).0) (array_at 32) (array-exact 32) ms_0 _ (λ x_tx_hash d_1 ms_1 f_tx_hash.
    end-rest schema.out_point (λ v. (Unit {0} × (v.index ≡ x_index)) × (v.tx_hash ≡ x_tx_hash)) ms_1 _
    (struct-rest schema.out_point (λ v. (Unit {0} × (v.index ≡ x_index)) × (v.tx_hash ≡ x_tx_hash)) out_point-fields (λ v. refl) (record { tx_hash = x_tx_hash; index = x_index }) ((tt, refl), refl) (f_tx_hash, (f_index, tt)) _ refl)))))) t

pub out_point-exact : (t : Data) → Exact form.out_point schema.out_point t (out_point_at t)
unfolding form.out_point
out_point-exact t = exact-from form.out_point schema.out_point out_point-once t (out_point_at t) (out_point-rest t)

abbrev cell_input-fields : schema.CellInput → List shape.Encoding
cell_input-fields v = shape.encode_field shape.u64 v.since ∷ shape.encode_field schema.out_point v.previous_output ∷ []

cell_input-rest : (t : Data) → Rest schema.cell_input (λ v. Unit {0}) (λ v. is_object (λ ms. members_read (form.cell_input_rows v) ms) t) (cell_input_at t)
unfolding cell_input_at schema.cell_input
cell_input-rest t = object-rest false schema.cell_input (λ v ms. members_read (form.cell_input_rows v) ms) _ (λ ms.
    (row-rest schema.cell_input (λ v. Unit {0}) (codes "previous_output") form.out_point schema.out_point (λ v. v.previous_output) (λ v. row (codes "since") hex_number v.since ∷ []) (λ v f. (AllFit-from (cell_input-fields v) f).1.0) out_point_at out_point-exact ms _ (λ x_previous_output d_0 ms_0 f_previous_output.
    (row-rest schema.cell_input (λ v. Unit {0} × (v.previous_output ≡ x_previous_output)) (codes "since") hex_number shape.u64 (λ v. v.since) (λ v. []) (λ v f. (AllFit-from (cell_input-fields v) f).0) (number_at w64) u64-exact ms_0 _ (λ x_since d_1 ms_1 f_since.
    end-rest schema.cell_input (λ v. (Unit {0} × (v.previous_output ≡ x_previous_output)) × (v.since ≡ x_since)) ms_1 _
    (struct-rest schema.cell_input (λ v. (Unit {0} × (v.previous_output ≡ x_previous_output)) × (v.since ≡ x_since)) cell_input-fields (λ v. refl) (record { since = x_since; previous_output = x_previous_output }) ((tt, refl), refl) (f_since, (f_previous_output, tt)) _ refl)))))) t

pub cell_input-exact : (t : Data) → Exact form.cell_input schema.cell_input t (cell_input_at t)
unfolding form.cell_input
cell_input-exact t = exact-from form.cell_input schema.cell_input cell_input-once t (cell_input_at t) (cell_input-rest t)

abbrev cell_dep-fields : schema.CellDep → List shape.Encoding
cell_dep-fields v = shape.encode_field schema.out_point v.out_point ∷ shape.encode_field shape.byte v.dep_type ∷ []

cell_dep-rest : (t : Data) → Rest schema.cell_dep (λ v. Unit {0}) (λ v. is_object (λ ms. members_read (form.cell_dep_rows v) ms) t) (cell_dep_at t)
unfolding cell_dep_at schema.cell_dep
cell_dep-rest t = object-rest false schema.cell_dep (λ v ms. members_read (form.cell_dep_rows v) ms) _ (λ ms.
    (row-rest schema.cell_dep (λ v. Unit {0}) (codes "dep_type") (named_byte (codes "code") (codes "dep_group")) shape.byte (λ v. v.dep_type) (λ v. row (codes "out_point") form.out_point v.out_point ∷ []) (λ v f. (AllFit-from (cell_dep-fields v) f).1.0) (named_at (codes "code") (codes "dep_group")) (named-exact (codes "code") (codes "dep_group") dep_type-once) ms _ (λ x_dep_type d_0 ms_0 f_dep_type.
    (row-rest schema.cell_dep (λ v. Unit {0} × (v.dep_type ≡ x_dep_type)) (codes "out_point") form.out_point schema.out_point (λ v. v.out_point) (λ v. []) (λ v f. (AllFit-from (cell_dep-fields v) f).0) out_point_at out_point-exact ms_0 _ (λ x_out_point d_1 ms_1 f_out_point.
    end-rest schema.cell_dep (λ v. (Unit {0} × (v.dep_type ≡ x_dep_type)) × (v.out_point ≡ x_out_point)) ms_1 _
    (struct-rest schema.cell_dep (λ v. (Unit {0} × (v.dep_type ≡ x_dep_type)) × (v.out_point ≡ x_out_point)) cell_dep-fields (λ v. refl) (record { out_point = x_out_point; dep_type = x_dep_type }) ((tt, refl), refl) (f_out_point, (f_dep_type, tt)) _ refl)))))) t

pub cell_dep-exact : (t : Data) → Exact form.cell_dep schema.cell_dep t (cell_dep_at t)
unfolding form.cell_dep
cell_dep-exact t = exact-from form.cell_dep schema.cell_dep cell_dep-once t (cell_dep_at t) (cell_dep-rest t)

abbrev cell_output-fields : schema.CellOutput → List shape.Encoding
cell_output-fields v = shape.encode_field shape.u64 v.capacity ∷ shape.encode_field schema.script v.lock ∷ shape.encode_field (shape.option schema.script) v.type_script ∷ []

cell_output-rest : (t : Data) → Rest schema.cell_output (λ v. Unit {0}) (λ v. is_object (λ ms. members_read (form.cell_output_rows v) ms) t) (cell_output_at t)
unfolding cell_output_at schema.cell_output
cell_output-rest t = object-rest false schema.cell_output (λ v ms. members_read (form.cell_output_rows v) ms) _ (λ ms.
    (row-rest schema.cell_output (λ v. Unit {0}) (codes "capacity") hex_number shape.u64 (λ v. v.capacity) (λ v. row (codes "lock") form.script v.lock ∷ row (codes "type") (option form.script) v.type_script ∷ []) (λ v f. (AllFit-from (cell_output-fields v) (and_parts _ _ f).1).0) (number_at w64) u64-exact ms _ (λ x_capacity d_0 ms_0 f_capacity.
    (row-rest schema.cell_output (λ v. Unit {0} × (v.capacity ≡ x_capacity)) (codes "lock") form.script schema.script (λ v. v.lock) (λ v. row (codes "type") (option form.script) v.type_script ∷ []) (λ v f. (AllFit-from (cell_output-fields v) (and_parts _ _ f).1).1.0) script_at script-exact ms_0 _ (λ x_lock d_1 ms_1 f_lock.
    (row-rest schema.cell_output (λ v. (Unit {0} × (v.capacity ≡ x_capacity)) × (v.lock ≡ x_lock)) (codes "type") (option form.script) (shape.option schema.script) (λ v. v.type_script) (λ v. []) (λ v f. (AllFit-from (cell_output-fields v) (and_parts _ _ f).1).1.1.0) type_script_at type_script-exact ms_1 _ (λ x_type_script d_2 ms_2 f_type_script.
    end-rest schema.cell_output (λ v. ((Unit {0} × (v.capacity ≡ x_capacity)) × (v.lock ≡ x_lock)) × (v.type_script ≡ x_type_script)) ms_2 _
    (table-rest schema.cell_output (λ v. ((Unit {0} × (v.capacity ≡ x_capacity)) × (v.lock ≡ x_lock)) × (v.type_script ≡ x_type_script)) cell_output-fields (λ v. refl) (record { capacity = x_capacity; lock = x_lock; type_script = x_type_script }) (((tt, refl), refl), refl) (f_capacity, (f_lock, (f_type_script, tt))) _ (λ w q i. shape.encoded shape.u64 (sym q.0.0.1 i) ∷ shape.encoded schema.script (sym q.0.1 i) ∷ shape.encoded (shape.option schema.script) (sym q.1 i) ∷ []))))))))) t

pub cell_output-exact : (t : Data) → Exact form.cell_output schema.cell_output t (cell_output_at t)
unfolding form.cell_output
cell_output-exact t = exact-from form.cell_output schema.cell_output cell_output-once t (cell_output_at t) (cell_output-rest t)

abbrev raw-fields : schema.RawTransaction → List shape.Encoding
raw-fields r = shape.encode_field shape.u32 r.version ∷ shape.encode_field (shape.fixvec 37 schema.cell_dep) r.cell_deps ∷ shape.encode_field (shape.fixvec 32 (shape.byte_array 32)) r.header_deps ∷ shape.encode_field (shape.fixvec 44 schema.cell_input) r.inputs ∷ shape.encode_field (shape.dynvec schema.cell_output) r.outputs ∷ shape.encode_field (shape.dynvec shape.bytes) r.outputs_data ∷ []

abbrev transaction-others : schema.Transaction → List shape.Encoding
transaction-others v = shape.encode_field (shape.dynvec shape.bytes) v.witnesses ∷ []

raw-fit : (v : schema.Transaction) → IsTrue (schema.transaction.encoding v).fits → AllFit (raw-fields v.raw)
unfolding schema.transaction schema.raw_transaction
raw-fit v f = AllFit-from (raw-fields v.raw) (and_parts _ _ (and_parts _ _ (and_parts _ _ f).1).0).1

others-fit : (v : schema.Transaction) → IsTrue (schema.transaction.encoding v).fits → AllFit (transaction-others v)
unfolding schema.transaction
others-fit v f = AllFit-from (transaction-others v) (and_parts _ _ (and_parts _ _ f).1).1

transaction-rest : (t : Data) → Rest schema.transaction (λ v. Unit {0}) (λ v. is_object (λ ms. members_read (form.transaction_rows v) (without free_key ms)) t) (transaction_at t)
unfolding transaction_at schema.transaction schema.raw_transaction
transaction-rest t = object-rest true schema.transaction (λ v ms. members_read (form.transaction_rows v) ms) _ (λ ms.
    (row-rest schema.transaction (λ v. Unit {0}) (codes "cell_deps") (list form.cell_dep) (shape.fixvec 37 schema.cell_dep) (λ v. v.raw.cell_deps) (λ v. row (codes "header_deps") (list byte_string) v.raw.header_deps ∷ row (codes "inputs") (list form.cell_input) v.raw.inputs ∷ row (codes "outputs") (list form.cell_output) v.raw.outputs ∷ row (codes "outputs_data") (list byte_string) v.raw.outputs_data ∷ row (codes "version") hex_number v.raw.version ∷ row (codes "witnesses") (list byte_string) v.witnesses ∷ []) (λ v f. (raw-fit v f).1.0) (fixvec_at cell_dep_at) (fixvec-exact form.cell_dep schema.cell_dep 37 cell_dep_at cell_dep-once cell_dep-exact) ms _ (λ x_cell_deps d_0 ms_0 f_cell_deps.
    (row-rest schema.transaction (λ v. Unit {0} × (v.raw.cell_deps ≡ x_cell_deps)) (codes "header_deps") (list byte_string) (shape.fixvec 32 (shape.byte_array 32)) (λ v. v.raw.header_deps) (λ v. row (codes "inputs") (list form.cell_input) v.raw.inputs ∷ row (codes "outputs") (list form.cell_output) v.raw.outputs ∷ row (codes "outputs_data") (list byte_string) v.raw.outputs_data ∷ row (codes "version") hex_number v.raw.version ∷ row (codes "witnesses") (list byte_string) v.witnesses ∷ []) (λ v f. (raw-fit v f).1.1.0) (fixvec_at (array_at 32)) (fixvec-exact byte_string (shape.byte_array 32) 32 (array_at 32) (array-once 32) (array-exact 32)) ms_0 _ (λ x_header_deps d_1 ms_1 f_header_deps.
    (row-rest schema.transaction (λ v. (Unit {0} × (v.raw.cell_deps ≡ x_cell_deps)) × (v.raw.header_deps ≡ x_header_deps)) (codes "inputs") (list form.cell_input) (shape.fixvec 44 schema.cell_input) (λ v. v.raw.inputs) (λ v. row (codes "outputs") (list form.cell_output) v.raw.outputs ∷ row (codes "outputs_data") (list byte_string) v.raw.outputs_data ∷ row (codes "version") hex_number v.raw.version ∷ row (codes "witnesses") (list byte_string) v.witnesses ∷ []) (λ v f. (raw-fit v f).1.1.1.0) (fixvec_at cell_input_at) (fixvec-exact form.cell_input schema.cell_input 44 cell_input_at cell_input-once cell_input-exact) ms_1 _ (λ x_inputs d_2 ms_2 f_inputs.
    (row-rest schema.transaction (λ v. ((Unit {0} × (v.raw.cell_deps ≡ x_cell_deps)) × (v.raw.header_deps ≡ x_header_deps)) × (v.raw.inputs ≡ x_inputs)) (codes "outputs") (list form.cell_output) (shape.dynvec schema.cell_output) (λ v. v.raw.outputs) (λ v. row (codes "outputs_data") (list byte_string) v.raw.outputs_data ∷ row (codes "version") hex_number v.raw.version ∷ row (codes "witnesses") (list byte_string) v.witnesses ∷ []) (λ v f. (raw-fit v f).1.1.1.1.0) (dynvec_at cell_output_at) (dynvec-exact form.cell_output schema.cell_output cell_output_at cell_output-once cell_output-exact) ms_2 _ (λ x_outputs d_3 ms_3 f_outputs.
    (row-rest schema.transaction (λ v. (((Unit {0} × (v.raw.cell_deps ≡ x_cell_deps)) × (v.raw.header_deps ≡ x_header_deps)) × (v.raw.inputs ≡ x_inputs)) × (v.raw.outputs ≡ x_outputs)) (codes "outputs_data") (list byte_string) (shape.dynvec shape.bytes) (λ v. v.raw.outputs_data) (λ v. row (codes "version") hex_number v.raw.version ∷ row (codes "witnesses") (list byte_string) v.witnesses ∷ []) (λ v f. (raw-fit v f).1.1.1.1.1.0) (dynvec_at content_at) (dynvec-exact byte_string shape.bytes content_at bytes-once content-exact) ms_3 _ (λ x_outputs_data d_4 ms_4 f_outputs_data.
    (row-rest schema.transaction (λ v. ((((Unit {0} × (v.raw.cell_deps ≡ x_cell_deps)) × (v.raw.header_deps ≡ x_header_deps)) × (v.raw.inputs ≡ x_inputs)) × (v.raw.outputs ≡ x_outputs)) × (v.raw.outputs_data ≡ x_outputs_data)) (codes "version") hex_number shape.u32 (λ v. v.raw.version) (λ v. row (codes "witnesses") (list byte_string) v.witnesses ∷ []) (λ v f. (raw-fit v f).0) (number_at w32) u32-exact ms_4 _ (λ x_version d_5 ms_5 f_version.
    (row-rest schema.transaction (λ v. (((((Unit {0} × (v.raw.cell_deps ≡ x_cell_deps)) × (v.raw.header_deps ≡ x_header_deps)) × (v.raw.inputs ≡ x_inputs)) × (v.raw.outputs ≡ x_outputs)) × (v.raw.outputs_data ≡ x_outputs_data)) × (v.raw.version ≡ x_version)) (codes "witnesses") (list byte_string) (shape.dynvec shape.bytes) (λ v. v.witnesses) (λ v. []) (λ v f. (others-fit v f).0) (dynvec_at content_at) (dynvec-exact byte_string shape.bytes content_at bytes-once content-exact) ms_5 _ (λ x_witnesses d_6 ms_6 f_witnesses.
    end-rest schema.transaction (λ v. ((((((Unit {0} × (v.raw.cell_deps ≡ x_cell_deps)) × (v.raw.header_deps ≡ x_header_deps)) × (v.raw.inputs ≡ x_inputs)) × (v.raw.outputs ≡ x_outputs)) × (v.raw.outputs_data ≡ x_outputs_data)) × (v.raw.version ≡ x_version)) × (v.witnesses ≡ x_witnesses)) ms_6 _
    (two-tables schema.transaction schema.raw_transaction (λ v. ((((((Unit {0} × (v.raw.cell_deps ≡ x_cell_deps)) × (v.raw.header_deps ≡ x_header_deps)) × (v.raw.inputs ≡ x_inputs)) × (v.raw.outputs ≡ x_outputs)) × (v.raw.outputs_data ≡ x_outputs_data)) × (v.raw.version ≡ x_version)) × (v.witnesses ≡ x_witnesses)) (λ v. v.raw) raw-fields transaction-others (λ r. refl) (λ v. refl) (record { raw = record { version = x_version; cell_deps = x_cell_deps; header_deps = x_header_deps; inputs = x_inputs; outputs = x_outputs; outputs_data = x_outputs_data }; witnesses = x_witnesses }) (((((((tt, refl), refl), refl), refl), refl), refl), refl) (f_version, (f_cell_deps, (f_header_deps, (f_inputs, (f_outputs, (f_outputs_data, tt)))))) (f_witnesses, tt) _ _ (λ w q i. shape.encoded shape.u32 (sym q.0.1 i) ∷ shape.encoded (shape.fixvec 37 schema.cell_dep) (sym q.0.0.0.0.0.0.1 i) ∷ shape.encoded (shape.fixvec 32 (shape.byte_array 32)) (sym q.0.0.0.0.0.1 i) ∷ shape.encoded (shape.fixvec 44 schema.cell_input) (sym q.0.0.0.0.1 i) ∷ shape.encoded (shape.dynvec schema.cell_output) (sym q.0.0.0.1 i) ∷ shape.encoded (shape.dynvec shape.bytes) (sym q.0.0.1 i) ∷ []) (λ w q i. shape.encoded (shape.dynvec shape.bytes) (sym q.1 i) ∷ []))))))))))))))))) t

pub transaction-exact : (t : Data) → Exact form.transaction schema.transaction t (transaction_at t)
unfolding form.transaction
transaction-exact t = exact-from form.transaction schema.transaction transaction-once t (transaction_at t) (transaction-rest t)

abbrev usual-fields : schema.Header → List shape.Encoding
usual-fields v = shape.encode_field shape.u32 v.version ∷ shape.encode_field shape.u32 v.compact_target ∷ shape.encode_field shape.u64 v.timestamp ∷ shape.encode_field shape.u64 v.number ∷ shape.encode_field shape.u64 v.epoch ∷ shape.encode_field (shape.byte_array 32) v.parent_hash ∷ shape.encode_field (shape.byte_array 32) v.transactions_root ∷ shape.encode_field (shape.byte_array 32) v.proposals_hash ∷ shape.encode_field (shape.byte_array 32) v.uncles_hash ∷ shape.encode_field (shape.byte_array 32) v.dao ∷ shape.encode_field shape.u128 v.nonce ∷ []

usual-rest : (t : Data) → Rest schema.header (λ v. Unit {0}) (λ v. is_object (λ ms. members_read (usual_header_rows v) (without free_key ms)) t) (header_with false t)
unfolding header_with schema.header
usual-rest t = object-rest true schema.header (λ v ms. members_read (usual_header_rows v) ms) _ (λ ms.
    (row-rest schema.header (λ v. Unit {0}) (codes "compact_target") hex_number shape.u32 (λ v. v.compact_target) (λ v. row (codes "dao") byte_string v.dao ∷ row (codes "epoch") hex_number v.epoch ∷ row (codes "nonce") hex_number v.nonce ∷ row (codes "number") hex_number v.number ∷ row (codes "parent_hash") byte_string v.parent_hash ∷ row (codes "proposals_hash") byte_string v.proposals_hash ∷ row (codes "timestamp") hex_number v.timestamp ∷ row (codes "transactions_root") byte_string v.transactions_root ∷ row (codes "uncles_hash") byte_string v.uncles_hash ∷ row (codes "version") hex_number v.version ∷ []) (λ v f. (AllFit-from (usual-fields v) f).1.0) (number_at w32) u32-exact ms _ (λ x_compact_target d_0 ms_0 f_compact_target.
    (row-rest schema.header (λ v. Unit {0} × (v.compact_target ≡ x_compact_target)) (codes "dao") byte_string (shape.byte_array 32) (λ v. v.dao) (λ v. row (codes "epoch") hex_number v.epoch ∷ row (codes "nonce") hex_number v.nonce ∷ row (codes "number") hex_number v.number ∷ row (codes "parent_hash") byte_string v.parent_hash ∷ row (codes "proposals_hash") byte_string v.proposals_hash ∷ row (codes "timestamp") hex_number v.timestamp ∷ row (codes "transactions_root") byte_string v.transactions_root ∷ row (codes "uncles_hash") byte_string v.uncles_hash ∷ row (codes "version") hex_number v.version ∷ []) (λ v f. (AllFit-from (usual-fields v) f).1.1.1.1.1.1.1.1.1.0) (array_at 32) (array-exact 32) ms_0 _ (λ x_dao d_1 ms_1 f_dao.
    (row-rest schema.header (λ v. (Unit {0} × (v.compact_target ≡ x_compact_target)) × (v.dao ≡ x_dao)) (codes "epoch") hex_number shape.u64 (λ v. v.epoch) (λ v. row (codes "nonce") hex_number v.nonce ∷ row (codes "number") hex_number v.number ∷ row (codes "parent_hash") byte_string v.parent_hash ∷ row (codes "proposals_hash") byte_string v.proposals_hash ∷ row (codes "timestamp") hex_number v.timestamp ∷ row (codes "transactions_root") byte_string v.transactions_root ∷ row (codes "uncles_hash") byte_string v.uncles_hash ∷ row (codes "version") hex_number v.version ∷ []) (λ v f. (AllFit-from (usual-fields v) f).1.1.1.1.0) (number_at w64) u64-exact ms_1 _ (λ x_epoch d_2 ms_2 f_epoch.
    (row-rest schema.header (λ v. ((Unit {0} × (v.compact_target ≡ x_compact_target)) × (v.dao ≡ x_dao)) × (v.epoch ≡ x_epoch)) (codes "nonce") hex_number shape.u128 (λ v. v.nonce) (λ v. row (codes "number") hex_number v.number ∷ row (codes "parent_hash") byte_string v.parent_hash ∷ row (codes "proposals_hash") byte_string v.proposals_hash ∷ row (codes "timestamp") hex_number v.timestamp ∷ row (codes "transactions_root") byte_string v.transactions_root ∷ row (codes "uncles_hash") byte_string v.uncles_hash ∷ row (codes "version") hex_number v.version ∷ []) (λ v f. (AllFit-from (usual-fields v) f).1.1.1.1.1.1.1.1.1.1.0) (number_at w128) u128-exact ms_2 _ (λ x_nonce d_3 ms_3 f_nonce.
    (row-rest schema.header (λ v. (((Unit {0} × (v.compact_target ≡ x_compact_target)) × (v.dao ≡ x_dao)) × (v.epoch ≡ x_epoch)) × (v.nonce ≡ x_nonce)) (codes "number") hex_number shape.u64 (λ v. v.number) (λ v. row (codes "parent_hash") byte_string v.parent_hash ∷ row (codes "proposals_hash") byte_string v.proposals_hash ∷ row (codes "timestamp") hex_number v.timestamp ∷ row (codes "transactions_root") byte_string v.transactions_root ∷ row (codes "uncles_hash") byte_string v.uncles_hash ∷ row (codes "version") hex_number v.version ∷ []) (λ v f. (AllFit-from (usual-fields v) f).1.1.1.0) (number_at w64) u64-exact ms_3 _ (λ x_number d_4 ms_4 f_number.
    (row-rest schema.header (λ v. ((((Unit {0} × (v.compact_target ≡ x_compact_target)) × (v.dao ≡ x_dao)) × (v.epoch ≡ x_epoch)) × (v.nonce ≡ x_nonce)) × (v.number ≡ x_number)) (codes "parent_hash") byte_string (shape.byte_array 32) (λ v. v.parent_hash) (λ v. row (codes "proposals_hash") byte_string v.proposals_hash ∷ row (codes "timestamp") hex_number v.timestamp ∷ row (codes "transactions_root") byte_string v.transactions_root ∷ row (codes "uncles_hash") byte_string v.uncles_hash ∷ row (codes "version") hex_number v.version ∷ []) (λ v f. (AllFit-from (usual-fields v) f).1.1.1.1.1.0) (array_at 32) (array-exact 32) ms_4 _ (λ x_parent_hash d_5 ms_5 f_parent_hash.
    (row-rest schema.header (λ v. (((((Unit {0} × (v.compact_target ≡ x_compact_target)) × (v.dao ≡ x_dao)) × (v.epoch ≡ x_epoch)) × (v.nonce ≡ x_nonce)) × (v.number ≡ x_number)) × (v.parent_hash ≡ x_parent_hash)) (codes "proposals_hash") byte_string (shape.byte_array 32) (λ v. v.proposals_hash) (λ v. row (codes "timestamp") hex_number v.timestamp ∷ row (codes "transactions_root") byte_string v.transactions_root ∷ row (codes "uncles_hash") byte_string v.uncles_hash ∷ row (codes "version") hex_number v.version ∷ []) (λ v f. (AllFit-from (usual-fields v) f).1.1.1.1.1.1.1.0) (array_at 32) (array-exact 32) ms_5 _ (λ x_proposals_hash d_6 ms_6 f_proposals_hash.
    (row-rest schema.header (λ v. ((((((Unit {0} × (v.compact_target ≡ x_compact_target)) × (v.dao ≡ x_dao)) × (v.epoch ≡ x_epoch)) × (v.nonce ≡ x_nonce)) × (v.number ≡ x_number)) × (v.parent_hash ≡ x_parent_hash)) × (v.proposals_hash ≡ x_proposals_hash)) (codes "timestamp") hex_number shape.u64 (λ v. v.timestamp) (λ v. row (codes "transactions_root") byte_string v.transactions_root ∷ row (codes "uncles_hash") byte_string v.uncles_hash ∷ row (codes "version") hex_number v.version ∷ []) (λ v f. (AllFit-from (usual-fields v) f).1.1.0) (number_at w64) u64-exact ms_6 _ (λ x_timestamp d_7 ms_7 f_timestamp.
    (row-rest schema.header (λ v. (((((((Unit {0} × (v.compact_target ≡ x_compact_target)) × (v.dao ≡ x_dao)) × (v.epoch ≡ x_epoch)) × (v.nonce ≡ x_nonce)) × (v.number ≡ x_number)) × (v.parent_hash ≡ x_parent_hash)) × (v.proposals_hash ≡ x_proposals_hash)) × (v.timestamp ≡ x_timestamp)) (codes "transactions_root") byte_string (shape.byte_array 32) (λ v. v.transactions_root) (λ v. row (codes "uncles_hash") byte_string v.uncles_hash ∷ row (codes "version") hex_number v.version ∷ []) (λ v f. (AllFit-from (usual-fields v) f).1.1.1.1.1.1.0) (array_at 32) (array-exact 32) ms_7 _ (λ x_transactions_root d_8 ms_8 f_transactions_root.
    (hash-row schema.header (λ v. ((((((((Unit {0} × (v.compact_target ≡ x_compact_target)) × (v.dao ≡ x_dao)) × (v.epoch ≡ x_epoch)) × (v.nonce ≡ x_nonce)) × (v.number ≡ x_number)) × (v.parent_hash ≡ x_parent_hash)) × (v.proposals_hash ≡ x_proposals_hash)) × (v.timestamp ≡ x_timestamp)) × (v.transactions_root ≡ x_transactions_root)) (codes "uncles_hash") (λ v. v.uncles_hash) (λ v. row (codes "version") hex_number v.version ∷ []) (λ v f. (AllFit-from (usual-fields v) f).1.1.1.1.1.1.1.1.0) ms_8 _ (λ x_uncles_hash d_9 ms_9 f_uncles_hash.
    (row-rest schema.header (λ v. (((((((((Unit {0} × (v.compact_target ≡ x_compact_target)) × (v.dao ≡ x_dao)) × (v.epoch ≡ x_epoch)) × (v.nonce ≡ x_nonce)) × (v.number ≡ x_number)) × (v.parent_hash ≡ x_parent_hash)) × (v.proposals_hash ≡ x_proposals_hash)) × (v.timestamp ≡ x_timestamp)) × (v.transactions_root ≡ x_transactions_root)) × (v.uncles_hash ≡ x_uncles_hash)) (codes "version") hex_number shape.u32 (λ v. v.version) (λ v. []) (λ v f. (AllFit-from (usual-fields v) f).0) (number_at w32) u32-exact ms_9 _ (λ x_version d_10 ms_10 f_version.
    end-rest schema.header (λ v. ((((((((((Unit {0} × (v.compact_target ≡ x_compact_target)) × (v.dao ≡ x_dao)) × (v.epoch ≡ x_epoch)) × (v.nonce ≡ x_nonce)) × (v.number ≡ x_number)) × (v.parent_hash ≡ x_parent_hash)) × (v.proposals_hash ≡ x_proposals_hash)) × (v.timestamp ≡ x_timestamp)) × (v.transactions_root ≡ x_transactions_root)) × (v.uncles_hash ≡ x_uncles_hash)) × (v.version ≡ x_version)) ms_10 _
    (struct-rest schema.header (λ v. ((((((((((Unit {0} × (v.compact_target ≡ x_compact_target)) × (v.dao ≡ x_dao)) × (v.epoch ≡ x_epoch)) × (v.nonce ≡ x_nonce)) × (v.number ≡ x_number)) × (v.parent_hash ≡ x_parent_hash)) × (v.proposals_hash ≡ x_proposals_hash)) × (v.timestamp ≡ x_timestamp)) × (v.transactions_root ≡ x_transactions_root)) × (v.uncles_hash ≡ x_uncles_hash)) × (v.version ≡ x_version)) usual-fields (λ v. refl) (record { version = x_version; compact_target = x_compact_target; timestamp = x_timestamp; number = x_number; epoch = x_epoch; parent_hash = x_parent_hash; transactions_root = x_transactions_root; proposals_hash = x_proposals_hash; uncles_hash = x_uncles_hash; dao = x_dao; nonce = x_nonce }) (((((((((((tt, refl), refl), refl), refl), refl), refl), refl), refl), refl), refl), refl) (f_version, (f_compact_target, (f_timestamp, (f_number, (f_epoch, (f_parent_hash, (f_transactions_root, (f_proposals_hash, (f_uncles_hash, (f_dao, (f_nonce, tt))))))))))) _ refl)))))))))))))))))))))))) t

abbrev other-fields : schema.Header → List shape.Encoding
other-fields v = shape.encode_field shape.u32 v.version ∷ shape.encode_field shape.u32 v.compact_target ∷ shape.encode_field shape.u64 v.timestamp ∷ shape.encode_field shape.u64 v.number ∷ shape.encode_field shape.u64 v.epoch ∷ shape.encode_field (shape.byte_array 32) v.parent_hash ∷ shape.encode_field (shape.byte_array 32) v.transactions_root ∷ shape.encode_field (shape.byte_array 32) v.proposals_hash ∷ shape.encode_field (shape.byte_array 32) v.uncles_hash ∷ shape.encode_field (shape.byte_array 32) v.dao ∷ shape.encode_field shape.u128 v.nonce ∷ []

other-rest : (t : Data) → Rest schema.header (λ v. Unit {0}) (λ v. is_object (λ ms. members_read (other_header_rows v) (without free_key ms)) t) (header_with true t)
unfolding header_with schema.header
other-rest t = object-rest true schema.header (λ v ms. members_read (other_header_rows v) ms) _ (λ ms.
    (row-rest schema.header (λ v. Unit {0}) (codes "compact_target") hex_number shape.u32 (λ v. v.compact_target) (λ v. row (codes "dao") byte_string v.dao ∷ row (codes "epoch") hex_number v.epoch ∷ row (codes "extra_hash") byte_string v.uncles_hash ∷ row (codes "nonce") hex_number v.nonce ∷ row (codes "number") hex_number v.number ∷ row (codes "parent_hash") byte_string v.parent_hash ∷ row (codes "proposals_hash") byte_string v.proposals_hash ∷ row (codes "timestamp") hex_number v.timestamp ∷ row (codes "transactions_root") byte_string v.transactions_root ∷ row (codes "version") hex_number v.version ∷ []) (λ v f. (AllFit-from (other-fields v) f).1.0) (number_at w32) u32-exact ms _ (λ x_compact_target d_0 ms_0 f_compact_target.
    (row-rest schema.header (λ v. Unit {0} × (v.compact_target ≡ x_compact_target)) (codes "dao") byte_string (shape.byte_array 32) (λ v. v.dao) (λ v. row (codes "epoch") hex_number v.epoch ∷ row (codes "extra_hash") byte_string v.uncles_hash ∷ row (codes "nonce") hex_number v.nonce ∷ row (codes "number") hex_number v.number ∷ row (codes "parent_hash") byte_string v.parent_hash ∷ row (codes "proposals_hash") byte_string v.proposals_hash ∷ row (codes "timestamp") hex_number v.timestamp ∷ row (codes "transactions_root") byte_string v.transactions_root ∷ row (codes "version") hex_number v.version ∷ []) (λ v f. (AllFit-from (other-fields v) f).1.1.1.1.1.1.1.1.1.0) (array_at 32) (array-exact 32) ms_0 _ (λ x_dao d_1 ms_1 f_dao.
    (row-rest schema.header (λ v. (Unit {0} × (v.compact_target ≡ x_compact_target)) × (v.dao ≡ x_dao)) (codes "epoch") hex_number shape.u64 (λ v. v.epoch) (λ v. row (codes "extra_hash") byte_string v.uncles_hash ∷ row (codes "nonce") hex_number v.nonce ∷ row (codes "number") hex_number v.number ∷ row (codes "parent_hash") byte_string v.parent_hash ∷ row (codes "proposals_hash") byte_string v.proposals_hash ∷ row (codes "timestamp") hex_number v.timestamp ∷ row (codes "transactions_root") byte_string v.transactions_root ∷ row (codes "version") hex_number v.version ∷ []) (λ v f. (AllFit-from (other-fields v) f).1.1.1.1.0) (number_at w64) u64-exact ms_1 _ (λ x_epoch d_2 ms_2 f_epoch.
    (hash-row schema.header (λ v. ((Unit {0} × (v.compact_target ≡ x_compact_target)) × (v.dao ≡ x_dao)) × (v.epoch ≡ x_epoch)) (codes "extra_hash") (λ v. v.uncles_hash) (λ v. row (codes "nonce") hex_number v.nonce ∷ row (codes "number") hex_number v.number ∷ row (codes "parent_hash") byte_string v.parent_hash ∷ row (codes "proposals_hash") byte_string v.proposals_hash ∷ row (codes "timestamp") hex_number v.timestamp ∷ row (codes "transactions_root") byte_string v.transactions_root ∷ row (codes "version") hex_number v.version ∷ []) (λ v f. (AllFit-from (other-fields v) f).1.1.1.1.1.1.1.1.0) ms_2 _ (λ x_uncles_hash d_3 ms_3 f_uncles_hash.
    (row-rest schema.header (λ v. (((Unit {0} × (v.compact_target ≡ x_compact_target)) × (v.dao ≡ x_dao)) × (v.epoch ≡ x_epoch)) × (v.uncles_hash ≡ x_uncles_hash)) (codes "nonce") hex_number shape.u128 (λ v. v.nonce) (λ v. row (codes "number") hex_number v.number ∷ row (codes "parent_hash") byte_string v.parent_hash ∷ row (codes "proposals_hash") byte_string v.proposals_hash ∷ row (codes "timestamp") hex_number v.timestamp ∷ row (codes "transactions_root") byte_string v.transactions_root ∷ row (codes "version") hex_number v.version ∷ []) (λ v f. (AllFit-from (other-fields v) f).1.1.1.1.1.1.1.1.1.1.0) (number_at w128) u128-exact ms_3 _ (λ x_nonce d_4 ms_4 f_nonce.
    (row-rest schema.header (λ v. ((((Unit {0} × (v.compact_target ≡ x_compact_target)) × (v.dao ≡ x_dao)) × (v.epoch ≡ x_epoch)) × (v.uncles_hash ≡ x_uncles_hash)) × (v.nonce ≡ x_nonce)) (codes "number") hex_number shape.u64 (λ v. v.number) (λ v. row (codes "parent_hash") byte_string v.parent_hash ∷ row (codes "proposals_hash") byte_string v.proposals_hash ∷ row (codes "timestamp") hex_number v.timestamp ∷ row (codes "transactions_root") byte_string v.transactions_root ∷ row (codes "version") hex_number v.version ∷ []) (λ v f. (AllFit-from (other-fields v) f).1.1.1.0) (number_at w64) u64-exact ms_4 _ (λ x_number d_5 ms_5 f_number.
    (row-rest schema.header (λ v. (((((Unit {0} × (v.compact_target ≡ x_compact_target)) × (v.dao ≡ x_dao)) × (v.epoch ≡ x_epoch)) × (v.uncles_hash ≡ x_uncles_hash)) × (v.nonce ≡ x_nonce)) × (v.number ≡ x_number)) (codes "parent_hash") byte_string (shape.byte_array 32) (λ v. v.parent_hash) (λ v. row (codes "proposals_hash") byte_string v.proposals_hash ∷ row (codes "timestamp") hex_number v.timestamp ∷ row (codes "transactions_root") byte_string v.transactions_root ∷ row (codes "version") hex_number v.version ∷ []) (λ v f. (AllFit-from (other-fields v) f).1.1.1.1.1.0) (array_at 32) (array-exact 32) ms_5 _ (λ x_parent_hash d_6 ms_6 f_parent_hash.
    (row-rest schema.header (λ v. ((((((Unit {0} × (v.compact_target ≡ x_compact_target)) × (v.dao ≡ x_dao)) × (v.epoch ≡ x_epoch)) × (v.uncles_hash ≡ x_uncles_hash)) × (v.nonce ≡ x_nonce)) × (v.number ≡ x_number)) × (v.parent_hash ≡ x_parent_hash)) (codes "proposals_hash") byte_string (shape.byte_array 32) (λ v. v.proposals_hash) (λ v. row (codes "timestamp") hex_number v.timestamp ∷ row (codes "transactions_root") byte_string v.transactions_root ∷ row (codes "version") hex_number v.version ∷ []) (λ v f. (AllFit-from (other-fields v) f).1.1.1.1.1.1.1.0) (array_at 32) (array-exact 32) ms_6 _ (λ x_proposals_hash d_7 ms_7 f_proposals_hash.
    (row-rest schema.header (λ v. (((((((Unit {0} × (v.compact_target ≡ x_compact_target)) × (v.dao ≡ x_dao)) × (v.epoch ≡ x_epoch)) × (v.uncles_hash ≡ x_uncles_hash)) × (v.nonce ≡ x_nonce)) × (v.number ≡ x_number)) × (v.parent_hash ≡ x_parent_hash)) × (v.proposals_hash ≡ x_proposals_hash)) (codes "timestamp") hex_number shape.u64 (λ v. v.timestamp) (λ v. row (codes "transactions_root") byte_string v.transactions_root ∷ row (codes "version") hex_number v.version ∷ []) (λ v f. (AllFit-from (other-fields v) f).1.1.0) (number_at w64) u64-exact ms_7 _ (λ x_timestamp d_8 ms_8 f_timestamp.
    (row-rest schema.header (λ v. ((((((((Unit {0} × (v.compact_target ≡ x_compact_target)) × (v.dao ≡ x_dao)) × (v.epoch ≡ x_epoch)) × (v.uncles_hash ≡ x_uncles_hash)) × (v.nonce ≡ x_nonce)) × (v.number ≡ x_number)) × (v.parent_hash ≡ x_parent_hash)) × (v.proposals_hash ≡ x_proposals_hash)) × (v.timestamp ≡ x_timestamp)) (codes "transactions_root") byte_string (shape.byte_array 32) (λ v. v.transactions_root) (λ v. row (codes "version") hex_number v.version ∷ []) (λ v f. (AllFit-from (other-fields v) f).1.1.1.1.1.1.0) (array_at 32) (array-exact 32) ms_8 _ (λ x_transactions_root d_9 ms_9 f_transactions_root.
    (row-rest schema.header (λ v. (((((((((Unit {0} × (v.compact_target ≡ x_compact_target)) × (v.dao ≡ x_dao)) × (v.epoch ≡ x_epoch)) × (v.uncles_hash ≡ x_uncles_hash)) × (v.nonce ≡ x_nonce)) × (v.number ≡ x_number)) × (v.parent_hash ≡ x_parent_hash)) × (v.proposals_hash ≡ x_proposals_hash)) × (v.timestamp ≡ x_timestamp)) × (v.transactions_root ≡ x_transactions_root)) (codes "version") hex_number shape.u32 (λ v. v.version) (λ v. []) (λ v f. (AllFit-from (other-fields v) f).0) (number_at w32) u32-exact ms_9 _ (λ x_version d_10 ms_10 f_version.
    end-rest schema.header (λ v. ((((((((((Unit {0} × (v.compact_target ≡ x_compact_target)) × (v.dao ≡ x_dao)) × (v.epoch ≡ x_epoch)) × (v.uncles_hash ≡ x_uncles_hash)) × (v.nonce ≡ x_nonce)) × (v.number ≡ x_number)) × (v.parent_hash ≡ x_parent_hash)) × (v.proposals_hash ≡ x_proposals_hash)) × (v.timestamp ≡ x_timestamp)) × (v.transactions_root ≡ x_transactions_root)) × (v.version ≡ x_version)) ms_10 _
    (struct-rest schema.header (λ v. ((((((((((Unit {0} × (v.compact_target ≡ x_compact_target)) × (v.dao ≡ x_dao)) × (v.epoch ≡ x_epoch)) × (v.uncles_hash ≡ x_uncles_hash)) × (v.nonce ≡ x_nonce)) × (v.number ≡ x_number)) × (v.parent_hash ≡ x_parent_hash)) × (v.proposals_hash ≡ x_proposals_hash)) × (v.timestamp ≡ x_timestamp)) × (v.transactions_root ≡ x_transactions_root)) × (v.version ≡ x_version)) other-fields (λ v. refl) (record { version = x_version; compact_target = x_compact_target; timestamp = x_timestamp; number = x_number; epoch = x_epoch; parent_hash = x_parent_hash; transactions_root = x_transactions_root; proposals_hash = x_proposals_hash; uncles_hash = x_uncles_hash; dao = x_dao; nonce = x_nonce }) (((((((((((tt, refl), refl), refl), refl), refl), refl), refl), refl), refl), refl), refl) (f_version, (f_compact_target, (f_timestamp, (f_number, (f_epoch, (f_parent_hash, (f_transactions_root, (f_proposals_hash, (f_uncles_hash, (f_dao, (f_nonce, tt))))))))))) _ refl)))))))))))))))))))))))) t

-- a header is read by the one table or by the other
header-split : (h : schema.Header) (t : Data) → form.header.reads h t
    ≡ (is_object (λ ms. members_read (usual_header_rows h) (without free_key ms)) t || is_object (λ ms. members_read (other_header_rows h) (without free_key ms)) t)
unfolding form.header
header-split h null = refl
header-split h (boolean b) = refl
header-split h (number n) = refl
header-split h (string s) = refl
header-split h (array ds) = refl
header-split h (object ms) = refl

or_second : (x y : Bool) → y ≡ true → (x || y) ≡ true
or_second true y h = refl
or_second false y h = h

pub header-exact : (t : Data) → Exact form.header schema.header t (header_at t)
unfolding header_at
header-exact t = by (header_with false t) (header_with true t) (usual-rest t) (other-rest t)
  where
    found : (P : schema.Header → Bool) → ((h : schema.Header) → P h ≡ true → form.header.reads h t ≡ true) → (b : List ℕ)
        → Whole schema.header (λ v. Unit {0}) P b → Found form.header schema.header t b
    found P so b whole = record {
      value = whole.value;
      fits = whole.fits;
      read = so whole.value whole.after;
      bytes_are = whole.bytes_are;
      alone = λ w f r. header-once w whole.value t f whole.fits r (so whole.value whole.after);
    }

    by : (o o' : Option (List ℕ))
        → Rest schema.header (λ v. Unit {0}) (λ v. is_object (λ ms. members_read (usual_header_rows v) (without free_key ms)) t) o
        → Rest schema.header (λ v. Unit {0}) (λ v. is_object (λ ms. members_read (other_header_rows v) (without free_key ms)) t) o'
        → Exact form.header schema.header t (or_else o o')
    by (Some b) o' whole rest = found _ (λ h r. header-split h t ∙ or_left _ _ r) b whole
    by None (Some b) none whole = found _ (λ h r. header-split h t ∙ or_second _ _ r) b whole
    by None None none none' = λ w f r. elim (or_cases _ _ (sym (header-split w t) ∙ r)) [ inl u ↦ none w f tt u | inr u ↦ none' w f tt u ]

abbrev uncle-fields : schema.UncleBlock → List shape.Encoding
uncle-fields v = shape.encode_field schema.header v.header ∷ shape.encode_field (shape.fixvec 10 (shape.byte_array 10)) v.proposals ∷ []

uncle-rest : (t : Data) → Rest schema.uncle_block (λ v. Unit {0}) (λ v. is_object (λ ms. members_read (form.uncle_rows v) ms) t) (uncle_at t)
unfolding uncle_at schema.uncle_block
uncle-rest t = object-rest false schema.uncle_block (λ v ms. members_read (form.uncle_rows v) ms) _ (λ ms.
    (row-rest schema.uncle_block (λ v. Unit {0}) (codes "header") form.header schema.header (λ v. v.header) (λ v. row (codes "proposals") (list byte_string) v.proposals ∷ []) (λ v f. (AllFit-from (uncle-fields v) (and_parts _ _ f).1).0) header_at header-exact ms _ (λ x_header d_0 ms_0 f_header.
    (row-rest schema.uncle_block (λ v. Unit {0} × (v.header ≡ x_header)) (codes "proposals") (list byte_string) (shape.fixvec 10 (shape.byte_array 10)) (λ v. v.proposals) (λ v. []) (λ v f. (AllFit-from (uncle-fields v) (and_parts _ _ f).1).1.0) (fixvec_at (array_at 10)) (fixvec-exact byte_string (shape.byte_array 10) 10 (array_at 10) (array-once 10) (array-exact 10)) ms_0 _ (λ x_proposals d_1 ms_1 f_proposals.
    end-rest schema.uncle_block (λ v. (Unit {0} × (v.header ≡ x_header)) × (v.proposals ≡ x_proposals)) ms_1 _
    (table-rest schema.uncle_block (λ v. (Unit {0} × (v.header ≡ x_header)) × (v.proposals ≡ x_proposals)) uncle-fields (λ v. refl) (record { header = x_header; proposals = x_proposals }) ((tt, refl), refl) (f_header, (f_proposals, tt)) _ (λ w q i. shape.encoded schema.header (sym q.0.1 i) ∷ shape.encoded (shape.fixvec 10 (shape.byte_array 10)) (sym q.1 i) ∷ []))))))) t

pub uncle-exact : (t : Data) → Exact form.uncle schema.uncle_block t (uncle_at t)
unfolding form.uncle
uncle-exact t = exact-from form.uncle schema.uncle_block uncle-once t (uncle_at t) (uncle-rest t)

abbrev block-fields : schema.Block → List shape.Encoding
block-fields v = shape.encode_field schema.header v.header ∷ shape.encode_field (shape.dynvec schema.uncle_block) v.uncles ∷ shape.encode_field (shape.dynvec schema.transaction) v.transactions ∷ shape.encode_field (shape.fixvec 10 (shape.byte_array 10)) v.proposals ∷ []

block-rest : (t : Data) → Rest schema.block (λ v. Unit {0}) (λ v. is_object (λ ms. members_read (form.block_rows v) ms) t) (block_at t)
unfolding block_at schema.block
block-rest t = object-rest false schema.block (λ v ms. members_read (form.block_rows v) ms) _ (λ ms.
    (row-rest schema.block (λ v. Unit {0}) (codes "header") form.header schema.header (λ v. v.header) (λ v. row (codes "proposals") (list byte_string) v.proposals ∷ row (codes "transactions") (list form.transaction) v.transactions ∷ row (codes "uncles") (list form.uncle) v.uncles ∷ []) (λ v f. (AllFit-from (block-fields v) (and_parts _ _ f).1).0) header_at header-exact ms _ (λ x_header d_0 ms_0 f_header.
    (row-rest schema.block (λ v. Unit {0} × (v.header ≡ x_header)) (codes "proposals") (list byte_string) (shape.fixvec 10 (shape.byte_array 10)) (λ v. v.proposals) (λ v. row (codes "transactions") (list form.transaction) v.transactions ∷ row (codes "uncles") (list form.uncle) v.uncles ∷ []) (λ v f. (AllFit-from (block-fields v) (and_parts _ _ f).1).1.1.1.0) (fixvec_at (array_at 10)) (fixvec-exact byte_string (shape.byte_array 10) 10 (array_at 10) (array-once 10) (array-exact 10)) ms_0 _ (λ x_proposals d_1 ms_1 f_proposals.
    (row-rest schema.block (λ v. (Unit {0} × (v.header ≡ x_header)) × (v.proposals ≡ x_proposals)) (codes "transactions") (list form.transaction) (shape.dynvec schema.transaction) (λ v. v.transactions) (λ v. row (codes "uncles") (list form.uncle) v.uncles ∷ []) (λ v f. (AllFit-from (block-fields v) (and_parts _ _ f).1).1.1.0) (dynvec_at transaction_at) (dynvec-exact form.transaction schema.transaction transaction_at transaction-once transaction-exact) ms_1 _ (λ x_transactions d_2 ms_2 f_transactions.
    (row-rest schema.block (λ v. ((Unit {0} × (v.header ≡ x_header)) × (v.proposals ≡ x_proposals)) × (v.transactions ≡ x_transactions)) (codes "uncles") (list form.uncle) (shape.dynvec schema.uncle_block) (λ v. v.uncles) (λ v. []) (λ v f. (AllFit-from (block-fields v) (and_parts _ _ f).1).1.0) (dynvec_at uncle_at) (dynvec-exact form.uncle schema.uncle_block uncle_at uncle-once uncle-exact) ms_2 _ (λ x_uncles d_3 ms_3 f_uncles.
    end-rest schema.block (λ v. (((Unit {0} × (v.header ≡ x_header)) × (v.proposals ≡ x_proposals)) × (v.transactions ≡ x_transactions)) × (v.uncles ≡ x_uncles)) ms_3 _
    (table-rest schema.block (λ v. (((Unit {0} × (v.header ≡ x_header)) × (v.proposals ≡ x_proposals)) × (v.transactions ≡ x_transactions)) × (v.uncles ≡ x_uncles)) block-fields (λ v. refl) (record { header = x_header; uncles = x_uncles; transactions = x_transactions; proposals = x_proposals }) ((((tt, refl), refl), refl), refl) (f_header, (f_uncles, (f_transactions, (f_proposals, tt)))) _ (λ w q i. shape.encoded schema.header (sym q.0.0.0.1 i) ∷ shape.encoded (shape.dynvec schema.uncle_block) (sym q.1 i) ∷ shape.encoded (shape.dynvec schema.transaction) (sym q.0.1 i) ∷ shape.encoded (shape.fixvec 10 (shape.byte_array 10)) (sym q.0.0.1 i) ∷ []))))))))))) t

pub block-exact : (t : Data) → Exact form.block schema.block t (block_at t)
unfolding form.block
block-exact t = exact-from form.block schema.block block-once t (block_at t) (block-rest t)
