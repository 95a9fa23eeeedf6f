-- That the parts of a cellbase and of a header are of their shapes.
use Rattle.std.proofs.Common.{◌≡◌, ℕ, ◌^◌, ◌<◌, List, [], ◌∷◌, length, map, None, Result, Ok, Err, refl, ap, ◌∙◌, subst}
use Rattle.std.specs.Prelude.{IsTrue, IfOk}
use Rattle.std.proofs.lemmas.Bool.{and_from, lt-ltb, eq-eqb}
use Rattle.chain_defs.specs.Molecule as molecule
use Rattle.chain_defs.specs.Shape.{Encoding, Shape, IsEncoding, encoded, bytes, byte_array, u32, u64, all_fit, table, fixvec, dynvec, option}
use Rattle.chain_defs.specs.Schema as schema
use Rattle.chain_defs.specs.Checked.{AreBytes}
use Rattle.chain_defs.proofs.ShapeLaws.{are_bytes-from}
use Rattle.rule_defs.specs.Cellbase.{null_index}
use Rattle.pool_defs.specs.Start.{cellbase_input, cellbase_with}
use Rattle.pool_rows.specs.declared.header.Commitments.{Commitments}
use Rattle.pool_rows.specs.Header.{header_with}

-- a table below 2^32 bytes, whose fields are of their shapes
pub table-fits : (fields : List Encoding) {b : List ℕ} → b ≡ (table fields).bytes → length b < 2 ^ 32 → IsTrue (all_fit fields) → IsTrue (table fields).fits
table-fits fields {b} is short all = and_from _ _ (lt-ltb _ _ (subst (λ (l : List ℕ). length l < 2 ^ 32) is short)) all

content-fits : (content : List ℕ) → AreBytes content → length content < 2 ^ 32 → IsTrue (bytes.encoding content).fits
content-fits content are short = and_from _ _ (lt-ltb _ _ short) (are_bytes-from content are)

array-fits : (n : ℕ) (items : List ℕ) → AreBytes items → length items ≡ n → IsTrue ((byte_array n).encoding items).fits
array-fits n items are long = and_from _ _ (eq-eqb (length items) n long) (are_bytes-from items are)

pub array-is : (n : ℕ) (items : List ℕ) → AreBytes items → length items ≡ n → IsEncoding (byte_array n) items items
array-is n items are long = record { fits = array-fits n items are long; encoding = refl }

u32-fits : (n : ℕ) → n < 2 ^ 32 → IsTrue (u32.encoding n).fits
u32-fits n few = lt-ltb n _ few

u64-fits : (n : ℕ) → n < 2 ^ 64 → IsTrue (u64.encoding n).fits
u64-fits n few = lt-ltb n _ few

-- a vector of one item
pub vector-of-one : {V : Type 0} (s : Shape V) (v : V) (bytes row : List ℕ) → IsEncoding s row v → bytes ≡ molecule.dynvec (row ∷ []) → length bytes < 2 ^ 32
    → IsEncoding (dynvec s) bytes (v ∷ [])
vector-of-one s v bytes row item is short =
    let encoding : bytes ≡ encoded (dynvec s) (v ∷ []) = is ∙ ap (λ (l : List ℕ). molecule.dynvec (l ∷ [])) item.encoding in
    record { fits = table-fits (s.encoding v ∷ []) encoding short (and_from _ _ item.fits refl); encoding = encoding }

-- bytes as an item
pub content-is : (row content inner : List ℕ) → row ≡ encoded bytes content → AreBytes content → length content < 2 ^ 32 → content ≡ inner → IsEncoding bytes row inner
content-is row content inner is are short same =
    let here : IsEncoding bytes row content = record { fits = content-fits content are short; encoding = is } in
    subst (λ (l : List ℕ). IsEncoding bytes row l) same here

-- ---- The cellbase

-- no item, and an item of no bytes
pub none-is : {V : Type 0} (s : Shape V) → IsEncoding (dynvec s) (4 ∷ 0 ∷ 0 ∷ 0 ∷ []) []
unfolding molecule.dynvec molecule.full_size molecule.header_size molecule.offsets
none-is s = record { fits = refl; encoding = refl }

pub nothing-is : IsEncoding bytes (0 ∷ 0 ∷ 0 ∷ 0 ∷ []) []
unfolding molecule.fixvec
nothing-is = record { fits = refl; encoding = refl }

pub output-is : (capacity : ℕ) (lock : schema.Script) (row lock_row : List ℕ) → capacity < 2 ^ 64 → IsEncoding schema.script lock_row lock
    → row ≡ encoded schema.cell_output (record { capacity = capacity; lock = lock; type_script = None }) → length row < 2 ^ 32
    → IsEncoding schema.cell_output row (record { capacity = capacity; lock = lock; type_script = None })
unfolding schema.cell_output
output-is capacity lock row lock_row few locked is short = record {
  fits = table-fits (u64.encoding capacity ∷ schema.script.encoding lock ∷ (option schema.script).encoding None ∷ []) is short
      (and_from _ _ (u64-fits capacity few) (and_from _ _ locked.fits refl));
  encoding = is;
}

input-fits : (height : ℕ) → height < 2 ^ 64 → IsTrue (schema.cell_input.encoding (cellbase_input height)).fits
unfolding schema.cell_input schema.out_point null_index
input-fits height few = and_from _ _ (u64-fits height few) refl

raw-fits : (height : ℕ) (list : List schema.CellOutput) (w : schema.CellbaseWitness) {raw outputs contents : List ℕ} → height < 2 ^ 64
    → IsEncoding (dynvec schema.cell_output) outputs list → IsEncoding (dynvec bytes) contents (map (λ output. []) list)
    → raw ≡ encoded schema.raw_transaction (cellbase_with height list w).raw → length raw < 2 ^ 32
    → IsTrue (schema.raw_transaction.encoding (cellbase_with height list w).raw).fits
unfolding schema.raw_transaction
raw-fits height list w few outputs contents is short =
    table-fits (u32.encoding 0 ∷ (fixvec 37 schema.cell_dep).encoding [] ∷ (fixvec 32 schema.byte32).encoding []
    ∷ (fixvec 44 schema.cell_input).encoding (cellbase_input height ∷ []) ∷ (dynvec schema.cell_output).encoding list
    ∷ (dynvec bytes).encoding (map (λ output. []) list) ∷ []) is short
    (and_from _ _ refl (and_from _ _ refl (and_from _ _ refl (and_from _ _ (and_from _ _ refl (and_from _ _ (input-fits height few) refl))
    (and_from _ _ outputs.fits (and_from _ _ contents.fits refl))))))

pub cellbase-is : (height : ℕ) (list : List schema.CellOutput) (w : schema.CellbaseWitness) {raw outputs contents witnesses : List ℕ} (t : List ℕ) → height < 2 ^ 64
    → IsEncoding (dynvec schema.cell_output) outputs list → IsEncoding (dynvec bytes) contents (map (λ output. []) list)
    → raw ≡ encoded schema.raw_transaction (cellbase_with height list w).raw → length raw < 2 ^ 32
    → IsEncoding (dynvec bytes) witnesses (cellbase_with height list w).witnesses
    → t ≡ encoded schema.transaction (cellbase_with height list w) → length t < 2 ^ 32
    → IsEncoding schema.transaction t (cellbase_with height list w)
unfolding schema.transaction
cellbase-is height list w t few outputs contents raw_is raw_short witnesses is short = record {
  fits = table-fits (schema.raw_transaction.encoding (cellbase_with height list w).raw ∷ (dynvec bytes).encoding (cellbase_with height list w).witnesses ∷ []) is short
      (and_from _ _ (raw-fits height list w few outputs contents raw_is raw_short) (and_from _ _ witnesses.fits refl));
  encoding = is;
}

-- ---- The header

pub header-fits : (compact_target timestamp number epoch : ℕ) (parent_hash : List ℕ) (commitments : Commitments) → compact_target < 2 ^ 32
    → timestamp < 2 ^ 64 → number < 2 ^ 64 → epoch < 2 ^ 64 → IsTrue (schema.byte32.encoding parent_hash).fits
    → IsTrue (schema.byte32.encoding commitments.transactions_root).fits → IsTrue (schema.byte32.encoding commitments.proposals_hash).fits
    → IsTrue (schema.byte32.encoding commitments.uncles_hash).fits → IsTrue (schema.byte32.encoding commitments.dao).fits
    → IsTrue (schema.header.encoding (header_with compact_target timestamp number epoch parent_hash commitments)).fits
unfolding schema.header
header-fits compact_target timestamp number epoch parent_hash commitments target time high span parent root proposals uncles dao =
    and_from _ _ refl (and_from _ _ (u32-fits compact_target target) (and_from _ _ (u64-fits timestamp time) (and_from _ _ (u64-fits number high)
    (and_from _ _ (u64-fits epoch span) (and_from _ _ parent (and_from _ _ root (and_from _ _ proposals (and_from _ _ uncles (and_from _ _ dao
    (and_from _ _ refl refl))))))))))

-- ---- Results

pub of-value : {T E : Type 0} {P Q : T → Type 0} (result : Result T E) → ((value : T) → P value → Q value) → IfOk result P → IfOk result Q
of-value (Ok value) more holds = more value holds
of-value (Err stop) more holds = tt

-- two facts of one value
pub both-of : {T E : Type 0} {P Q R : T → Type 0} (result : Result T E) → ((value : T) → P value → Q value → R value) → IfOk result P → IfOk result Q → IfOk result R
both-of (Ok value) both first second = both value first second
both-of (Err stop) both first second = tt

-- the same bytes
pub seen-as : {V : Type 0} (s : Shape V) (b other : List ℕ) (v : V) → other ≡ b → IsEncoding s b v → IsEncoding s other v
seen-as s b other v same is = record { fits = is.fits; encoding = same ∙ is.encoding }
